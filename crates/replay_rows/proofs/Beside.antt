-- What a call needs to be shown. Assumes nothing.
use Prim.Native.Nat.{ℕ, ◌+◌, ◌*◌, ◌≤◌}
use native.Mathlib.Omega.{arith}
use mathlib.Core.Path.{◌≡◌, ap}
use mathlib.Core.List.{List}
use lib.ListN.{length}
use Rattle.replay_rows.specs.World.{longest_call}
use Rattle.replay_rows.specs.Replayed.{language}

-- the call of a row is short
pub room_to_show : (at : ℕ) (out : List ℕ) {rows : List ℕ} → rows ≡ language → at + longest_call ≤ length out → at + 26 + 20 * length rows ≤ length out
room_to_show at out l h = omega (arith, ap length l)
