use Prim.Native.Nat.{ℕ, ◌^◌}
use mathlib.Core.Path.{◌≡◌}
use mathlib.Core.List.{List}
use lib.ListN.{length, drop}
use Rattle.model.specs.Memory.{Mem, mem}
use Rattle.model.specs.Shape.{Ways, shape}
use Rattle.model.specs.Stores.{stores}
use Rattle.model.specs.Moves.{as_moves}
use Rattle.model.specs.Calls.{move_blocks}
use Rattle.blocks.specs.Made.{Made}
use Rattle.moves.proofs.make_moves.Given as goal

abbrev pub invariant-loop-m : goal.invariant-loop-m
invariant-loop-m l =
    (W : Ways) (p : ℕ) (t : List ℕ) (m' : Mem) (l' : ℕ) → W.ways ≡ 2 ^ l.shift
    → Made (stores (move_blocks (shape W l.n (length l.initial.counters) p) l.slots (as_moves (drop l.m-index l.moves)))) l.l (mem l.slots l.counters t) m' l'
    → Made (stores (move_blocks (shape W l.n (length l.initial.counters) p) l.initial.slots (as_moves l.moves))) l.left (mem l.initial.slots l.initial.counters t) m' l'
