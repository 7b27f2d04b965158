-- Any two outcomes that the call's contract allows are equal. Assumes nothing.
use Prim.Native.Nat.{ℕ}
use mathlib.Core.Path.{◌≡◌, refl, sym, ap, ◌∙◌}
use lib.Dec.{eqb}
use Rattle.std.specs.Prelude.{Result, Ok, Err}
use Rattle.model.specs.Choice.{choose}
use Rattle.model.specs.Memory.{Mem}
use Rattle.model.specs.Shape.{Ways}
use Rattle.judgement.specs.Verdict.{Verdict, sound, broken, judgement}
use Rattle.judgement.specs.Said.{condition_number, said}
use Rattle.judgement.specs.declared.Condition.{Condition}
use Rattle.judgement.specs.declared.Condition.TheVariants as condition
use Rattle.judgement.specs.declared.Broken.{Broken}

condition_of : ℕ → Condition
condition_of n =
    choose (eqb n 1) condition.Lengths (choose (eqb n 2) condition.Damage (choose (eqb n 3) condition.Odd
    (choose (eqb n 4) condition.Stray (choose (eqb n 5) condition.Unsought (choose (eqb n 6) condition.Doubled
    (choose (eqb n 7) condition.Wide condition.Unswept))))))

condition_back : (c : Condition) → condition_of (condition_number c) ≡ c
unfolding condition_of
condition_back condition.Lengths = refl
condition_back condition.Damage = refl
condition_back condition.Odd = refl
condition_back condition.Stray = refl
condition_back condition.Unsought = refl
condition_back condition.Doubled = refl
condition_back condition.Wide = refl
condition_back condition.Unswept = refl

unsaid : Verdict → Result Unit Broken
unsaid sound = Ok tt
unsaid (broken c i) = Err (record { condition = condition_of c; at = i })

said_back : (r : Result Unit Broken) → unsaid (said r) ≡ r
unfolding unsaid
said_back (Ok u) = refl
said_back (Err b) = ap (λ (c : Condition). Err (record { condition = c; at = b.at })) (condition_back b.condition)

pub decides_judge : (W : Ways) (m : Mem) (r s : Result Unit Broken) → said r ≡ judgement W m → said s ≡ judgement W m → r ≡ s
decides_judge W m r s e f = sym (said_back r) ∙ ap unsaid (e ∙ sym f) ∙ said_back s
