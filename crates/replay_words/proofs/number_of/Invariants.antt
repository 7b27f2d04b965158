use Rattle.replay_words.proofs.OneWord.{Reading}
use Rattle.replay_words.proofs.number_of.Given as goal

abbrev pub invariant-loop-b : goal.invariant-loop-b
invariant-loop-b l = Reading l.top l.word l.v l.b-index
