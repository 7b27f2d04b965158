use Prim.Native.Nat.{◌*◌}
use Rattle.places.proofs.Laws.{NoneYet}
use Rattle.places.proofs.place_of.Given as goal

abbrev pub invariant-loop-turn : goal.invariant-loop-turn
invariant-loop-turn l = NoneYet l.m l.items l.x (16 * l.turn)
