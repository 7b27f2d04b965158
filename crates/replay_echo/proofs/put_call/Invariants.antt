use Rattle.replay_echo.proofs.Filling.{Filling}
use Rattle.replay_echo.proofs.put_call.Given as goal

abbrev pub invariant-loop-b : goal.invariant-loop-b
invariant-loop-b l = Filling l.numbers l.row l.at l.initial.out l.out l.here l.b-index
