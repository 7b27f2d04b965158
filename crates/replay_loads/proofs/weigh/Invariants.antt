use Rattle.replay_loads.proofs.Loads.{Weighing}
use Rattle.replay_loads.proofs.weigh.Given as goal

abbrev pub invariant-loop-word : goal.invariant-loop-word
invariant-loop-word l = Weighing l.fn.line.0.now l.word-iterator.0.now l.top l.count
