use Prim.Native.Nat.{◌+◌, ◌*◌}
use mathlib.Core.Path.{◌≡◌}
use Rattle.std.specs.Prelude.{Err}
use Rattle.model.specs.declared.Refusal.TheVariants.{NoRoom}
use Rattle.searching.proofs.Queue.{Queued}
use Rattle.searching.proofs.Slots.{Sound, Taken}
use Rattle.searching.proofs.Visiting.{Visiting}
use Rattle.searching.proofs.search_list.Given as goal

abbrev pub invariant-search : goal.invariant-search
invariant-search l = Visiting l.n l.m l.slots l.first l.second l.queue l.v × (l.found ≡ Err NoRoom)

abbrev pub invariant-loop-i : goal.invariant-loop-i
invariant-loop-i l = Sound l.m l.words l.i × (l.found ≡ Err NoRoom)

abbrev pub invariant-loop-s : goal.invariant-loop-s
invariant-loop-s l = Taken l.m l.words l.s × (l.found ≡ Err NoRoom)

abbrev pub invariant-loop-j : goal.invariant-loop-j
invariant-loop-j l = Queued l.n l.slots l.first l.second l.queue (2 + 4 * l.v + l.j)
