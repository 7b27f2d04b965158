-- The list's promise decides its result and every byte of the buffer. Assumes nothing.
use Prim.Native.Nat.{ℕ}
use Rattle.std.specs.Prelude.{Result, Ok, Err}
use mathlib.Core.Path.{◌≡◌, refl, sym, ap, ◌∙◌}
use mathlib.Core.List.{List}
use Rattle.model.specs.Memory.{Mem}
use Rattle.model.specs.Choice.{choose}
use Rattle.model.specs.Shape.{Ways}
use Rattle.model.specs.Answers.{Answer, is, paper, value}
use Rattle.model.specs.Said.{refusal_of, said_listing}
use Rattle.model.proofs.Said.{refusal_back}
use Rattle.listing.specs.List.{ListedAs}
use Rattle.model.specs.declared.Refusal.{Refusal}

-- the code's result, read back from what it says
abbrev result : Answer → Result ℕ Refusal
result a = choose (is 8 a) (Ok (value a 1)) (Err (refusal_of (paper a).number))

result_said : (r : Result ℕ Refusal) (after : List ℕ) → result (said_listing r after) ≡ r
result_said (Ok n) after = refl
result_said (Err r) after = ap Err (refusal_back r)

-- two outcomes that the promise allows for the same memory and buffer are equal
pub decides_list : {W : Ways} {m : Mem} {before after after' : List ℕ} {r r' : Result ℕ Refusal} → ListedAs W m before after r → ListedAs W m before after' r'
    → (r ≡ r') × (after ≡ after')
decides_list {W} {m} {before} {after} {after'} {r} {r'} f g =
    (sym (result_said r after) ∙ ap result (f.told ∙ sym g.told) ∙ result_said r' after', f.left ∙ sym g.left)
