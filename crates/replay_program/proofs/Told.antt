-- The status of a text that was read. Assumes nothing.
use Prim.Native.Nat.{ℕ, ◌≤◌}
use native.Mathlib.Omega.{arith}
use mathlib.Core.Path.{◌≡◌, ap, ◌∙◌}
use Rattle.std.specs.Prelude.{Ok}
use mathlib.Core.Bool.{Bool, true, false}
use mathlib.Core.List.{List}
use lib.Dec.{eqb}
use Rattle.model.specs.Choice.{choose}
use Rattle.replay_rows.specs.Replayed.{missed, status}
use Rattle.replay_loop.specs.Going.{Ended}
use Rattle.replay_loop.specs.declared.Replayed.{Replayed}

-- it is 0 or 2 where all could be written
pub small : {r : ℕ} (m : ℕ) → r ≡ status true m → r ≤ 2
small m e = omega (arith, e, by_test (eqb m 0))
  where
    by_test : (t : Bool) → choose t 0 2 ≤ 2
    by_test true = omega arith
    by_test false = omega arith

-- and where the replay came to its end, it tells whether lines were missed
pub truly_told : {E : Type 0} {e : Bool} {calls : List ℕ} {done : Replayed} {r : ℕ} → Ended {E = E} e calls (Ok done)
    → r ≡ status true done.missed → r ≡ status true (missed calls)
truly_told h q = q ∙ ap (status true) h.counted
