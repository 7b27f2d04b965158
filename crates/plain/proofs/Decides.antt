-- The contract decides the plain engine: any two answers that it allows are equal. Assumes nothing.
use Prim.Native.Nat.{ℕ}
use mathlib.Core.Path.{◌≡◌, sym, ◌∙◌}
use mathlib.Core.List.{List}
use Rattle.model.specs.Said.{said_reading}
use Rattle.model.proofs.Said.{reading_one}
use Rattle.model.specs.declared.Reading.{Reading}
use Rattle.model.specs.declared.Refusal.{Refusal}
use Rattle.std.specs.Prelude.{Result}
use Rattle.plain.specs.Plain.{plain_read}

pub decides_plain : (l : List ℕ) (x limit now : ℕ) (r r' : Result Reading Refusal)
    → said_reading r ≡ plain_read l x limit now → said_reading r' ≡ plain_read l x limit now → r ≡ r'
decides_plain l x limit now r r' e e' = reading_one r r' (e ∙ sym e')
