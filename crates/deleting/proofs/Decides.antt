-- Each contract decides its call: any two outcomes that it allows are equal. Assumes nothing.
use Prim.Native.Nat.{ℕ}
use mathlib.Core.Path.{◌≡◌, sym, ◌∙◌}
use Rattle.std.specs.Prelude.{Result}
use Rattle.model.specs.Memory.{Mem}
use Rattle.model.specs.Shape.{Ways}
use Rattle.model.specs.Calling.{delete}
use Rattle.model.specs.Said.{said_deleting}
use Rattle.model.specs.Promised.{CutAs, WholeAs}
use Rattle.model.proofs.Said.{deleting_one}
use Rattle.model.specs.declared.Refusal.{Refusal}

module _ (W : Ways) (m m' m'' : Mem) (x : ℕ) (r r' : Result Unit Refusal) where
  pub decides_delete : WholeAs W m (delete x) m' (said_deleting r) → WholeAs W m (delete x) m'' (said_deleting r') → (r ≡ r') × (m' ≡ m'')
  decides_delete d d' = (deleting_one r r' (d.told ∙ sym d'.told), d.left ∙ sym d'.left)

  pub decides_delete_cut : (k : ℕ) → CutAs W m (delete x) k m' (said_deleting r) → CutAs W m (delete x) k m'' (said_deleting r') → (r ≡ r') × (m' ≡ m'')
  decides_delete_cut k d d' = (deleting_one r r' (d.told ∙ sym d'.told), d.left ∙ sym d'.left)
