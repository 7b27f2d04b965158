use Rattle.replay_print.proofs.Lines.{Telling}
use Rattle.replay_print.proofs.put_numbers.Given as goal

abbrev pub invariant-loop-n : goal.invariant-loop-n
invariant-loop-n g l = Telling (g.T.RunWord.numbers l.numbers) l.at l.initial.buffer l.buffer l.next l.n-index
