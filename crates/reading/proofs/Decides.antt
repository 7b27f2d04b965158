-- Each contract decides its call: any two outcomes that it allows are equal. Assumes nothing.
use Prim.Native.Nat.{ℕ}
use mathlib.Core.Path.{◌≡◌, sym, ap, ◌∙◌}
use mathlib.Core.List.{List}
use Rattle.std.specs.Prelude.{Option, Result}
use Rattle.model.specs.Memory.{Mem, mem}
use Rattle.model.specs.Shape.{Ways}
use Rattle.model.specs.Calling.{find, read, serve}
use Rattle.model.specs.Said.{said_finding, said_reading}
use Rattle.model.specs.Lent.{lent_call}
use Rattle.model.specs.Promised.{WholeAs}
use Rattle.model.proofs.Said.{finding_one, reading_one}
use Rattle.model.specs.declared.Reading.{Reading}
use Rattle.model.specs.declared.Refusal.{Refusal}

module _ (W : Ways) (m : Mem) where
  pub decides_read : (x limit now : ℕ) (r r' : Result Reading Refusal)
      → said_reading r ≡ (lent_call W m (read x limit now)).answer → said_reading r' ≡ (lent_call W m (read x limit now)).answer → r ≡ r'
  decides_read x limit now r r' e e' = reading_one r r' (e ∙ sym e')

  pub decides_find : (x : ℕ) (r r' : Result (Option ℕ) Refusal)
      → said_finding r ≡ (lent_call W m (find x)).answer → said_finding r' ≡ (lent_call W m (find x)).answer → r ≡ r'
  decides_find x r r' e e' = finding_one r r' (e ∙ sym e')

  pub decides_serve : (x limit now : ℕ) (items items' : List ℕ) (r r' : Result Reading Refusal)
      → WholeAs W m (serve x limit now) (mem m.slots m.counters items) (said_reading r)
      → WholeAs W m (serve x limit now) (mem m.slots m.counters items') (said_reading r') → (r ≡ r') × (items ≡ items')
  decides_serve x limit now items items' r r' s s' =
      (reading_one r r' (s.told ∙ sym s'.told), ap (λ (m : Mem). m.items) (s.left ∙ sym s'.left))
