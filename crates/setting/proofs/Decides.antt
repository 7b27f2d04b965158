-- Each contract decides its call: any two outcomes that it allows are equal. Assumes nothing.
use Prim.Native.Nat.{ℕ}
use mathlib.Core.Path.{◌≡◌, sym, ◌∙◌}
use Rattle.std.specs.Prelude.{Result}
use Rattle.model.specs.Memory.{Mem}
use Rattle.model.specs.Shape.{Ways}
use Rattle.model.specs.Calling.{set_animal}
use Rattle.model.specs.Said.{said_setting}
use Rattle.model.specs.Promised.{CutAs, WholeAs}
use Rattle.model.proofs.Said.{setting_one}
use Rattle.model.specs.declared.Grant.{Grant}
use Rattle.model.specs.declared.Refusal.{Refusal}
use Rattle.model.specs.declared.Stored.{Stored}

module _ (W : Ways) (m m' m'' : Mem) (g : Grant) (r r' : Result Stored Refusal) where
  pub decides_set : WholeAs W m (set_animal g) m' (said_setting r) → WholeAs W m (set_animal g) m'' (said_setting r') → (r ≡ r') × (m' ≡ m'')
  decides_set d d' = (setting_one r r' (d.told ∙ sym d'.told), d.left ∙ sym d'.left)

  pub decides_set_cut : (k : ℕ) → CutAs W m (set_animal g) k m' (said_setting r) → CutAs W m (set_animal g) k m'' (said_setting r') → (r ≡ r') × (m' ≡ m'')
  decides_set_cut k d d' = (setting_one r r' (d.told ∙ sym d'.told), d.left ∙ sym d'.left)
