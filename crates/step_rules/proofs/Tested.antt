-- The tests of a move are the model's. Assumes nothing.
use Prim.Native.Nat.{ℕ, ◌/◌, ◌<◌}
use mathlib.Core.Path.{◌≡◌}
use mathlib.Core.Bool.{Bool, not, ◌&&◌}
use lib.Dec.{eqb}
use borrow.Author.Tests.{lt-ltb}
use Rattle.model.specs.Memory.{damaged, tag}
use Rattle.model.specs.Hash.{other_bucket}
use Rattle.model.specs.declared.MoveRecord.{MoveRecord}
use Rattle.step_rules.specs.Rules.{moves_by}

pub both_in : (ways long n m w d : ℕ) (v : MoveRecord) → v.from < long → v.to < long → {b : Bool} → b ≡ damaged m w
    → {o : ℕ} → o ≡ other_bucket n (w / 65536) (v.from / ways)
    → (not (eqb w 0) && (not b && (eqb (w / 65536) v.tag && (eqb d 0 && eqb (v.to / ways) o)))) ≡ moves_by ways long n m w d v
unfolding tag
both_in ways long n m w d v h k e f = rw (e, f, lt-ltb v.from long h, lt-ltb v.to long k)
