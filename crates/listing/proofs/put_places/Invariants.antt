use Prim.Native.Nat.{◌/◌}
use lib.ListN.{length}
use Rattle.listing.proofs.Laws.{Putting}
use Rattle.listing.proofs.put_places.Given as goal

abbrev pub invariant-loop-p : goal.invariant-loop-p
invariant-loop-p l = Putting l.items (length l.items / 4) l.initial.buffer l.buffer l.at l.p
