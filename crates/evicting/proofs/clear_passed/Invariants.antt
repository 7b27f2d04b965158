use Rattle.evicting.proofs.Clears.{Clearing}
use Rattle.evicting.proofs.clear_passed.Given as goal

abbrev pub invariant-loop-passed : goal.invariant-loop-passed
invariant-loop-passed l = Clearing l.m l.count l.initial.h.at l.left l.initial.items l._passed l.h.at l.rest l.items
