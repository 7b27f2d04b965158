-- A number that no row has. Assumes nothing.
use Prim.Native.Nat.{ℕ, zero, suc, ◌≤◌, ◌<◌}
use native.Mathlib.Omega.{arith}
use mathlib.Core.Path.{◌≡◌, refl, sym}
use mathlib.Core.List.{List, [], ◌∷◌}
use lib.ListN.{length, get_or}
use Rattle.replay_answers.specs.Text.{not_understood, reason}
use Rattle.replay_rows.specs.World.{World}
use Rattle.replay_rows.specs.Meaning.{Row, meant, meaning, rows, says}

past : (ts : List Row) (r n : ℕ) (xs : List ℕ) (w : World) → length ts ≤ r → meant ts r n xs w ≡ says (not_understood n (get_or xs 0 0)) w
past [] r n xs w h = refl
past (t ∷ ts) zero n xs w h = absurd (omega arith)
past (t ∷ ts) (suc r) n xs w h = past ts r n xs w (omega arith)

-- then the first number of the line says why it is not understood
no_row : {r : ℕ} (n : ℕ) (xs : List ℕ) (w : World) → 20 < r → meaning r n xs w ≡ says (not_understood n (get_or xs 0 0)) w
unfolding meaning
no_row {r} n xs w h = past rows r n xs w (omega arith)

-- told by a reason of the same words
pub told_past : {r : ℕ} (y n : ℕ) (xs : List ℕ) (w : World) → 20 < r → reason y ≡ reason (get_or xs 0 0) → says (not_understood n y) w ≡ meaning r n xs w
told_past y n xs w h e = rw e (sym (no_row n xs w h))
