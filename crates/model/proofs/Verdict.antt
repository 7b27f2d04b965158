-- What is said of a permission, a law a way: retired, ahead, fresh, old. Assumes nothing.
use Prim.Native.Nat.{ℕ, ◌-◌, ◌%◌, ◌^◌, ◌<◌, ◌≤◌}
use native.Mathlib.Omega.{arith}
use native.Mathlib.Decide.{dec_le}
use mathlib.Core.Path.{◌≡◌, sym, ap}
use mathlib.Core.Logic.{◌≢◌, dite}
use mathlib.Core.Bool.{Bool, true, false}
use lib.IntN.{ℤ}
use lib.Dec.{eqb, ltb}
use borrow.Author.Tests.{eq-eqb, le-leb, le-ltb, lt-leb, lt-ltb, ne_eqb}
use Rattle.model.specs.Choice.{choose}
use Rattle.model.specs.Answers.{Answer, ahead, fresh, old, paper}
use Rattle.model.specs.Age.{is_fresh, least_left, left_of, retired_mark, verdict}
use Rattle.model.specs.Left.{AheadTellsNothing, HeldTells}

module _ (limit now v s : ℕ) where
  pub says_retired : s ≡ retired_mark → old least_left ≡ verdict limit now v s
  unfolding verdict is_fresh
  says_retired e = rw (eq-eqb s retired_mark e)

  module _ (ne : s ≢ retired_mark) where
    pub says_young : s ≤ now → now - s ≤ limit → fresh (v % 2 ^ 32) (left_of limit (now - s)) ≡ verdict limit now v s
    unfolding verdict is_fresh
    says_young le k = rw (ne_eqb s retired_mark ne, le-leb s now le, le-leb (now - s) limit k)

    pub says_ahead : now < s → ahead ≡ verdict limit now v s
    unfolding verdict is_fresh
    says_ahead l = rw (ne_eqb s retired_mark ne, lt-leb s now l, lt-ltb now s l)

    pub says_old : s ≤ now → limit < now - s → old (left_of limit (now - s)) ≡ verdict limit now v s
    unfolding verdict is_fresh
    says_old le k = rw (ne_eqb s retired_mark ne, le-leb s now le, lt-leb (now - s) limit k, le-ltb now s le)

  -- what is so of fresh, of old and of ahead is so of whatever is said
  pub of_verdict : (P : Answer → Type 0) → ((z : ℤ) → P (fresh (v % 2 ^ 32) z)) → ((z : ℤ) → P (old z)) → P ahead → P (verdict limit now v s)
  unfolding verdict
  of_verdict P f o a = go (is_fresh limit now s) (eqb s retired_mark) (ltb now s)
    where
      go : (b c d : Bool) → P (choose b (fresh (v % 2 ^ 32) (left_of limit (now - s))) (choose c (old least_left) (choose d ahead (old (left_of limit (now - s))))))
      go true c d = f (left_of limit (now - s))
      go false true d = o least_left
      go false false true = a
      go false false false = o (left_of limit (now - s))

-- who tells how long is left, and who tells nothing
pub held_tells : HeldTells
held_tells limit now v s ne le =
    dite (dec_le (now - s) limit) (λ k. tells (says_young limit now v s ne le k)) λ k. tells (says_old limit now v s ne le (omega arith))
  where
    tells : {a : Answer} → a ≡ verdict limit now v s → (paper (verdict limit now v s)).signed ≡ (paper a).signed
    tells e = ap (λ a. (paper a).signed) (sym e)

pub ahead_tells_nothing : AheadTellsNothing
ahead_tells_nothing limit now v s ne l = sym (says_ahead limit now v s ne l)
