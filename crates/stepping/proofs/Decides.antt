-- Each contract decides its call: any two outcomes that it allows are equal. Assumes nothing.
use Prim.Native.Nat.{ℕ}
use mathlib.Core.Path.{◌≡◌, sym, ◌∙◌}
use Rattle.std.specs.Prelude.{Result}
use Rattle.model.specs.Memory.{Mem}
use Rattle.model.specs.Shape.{Ways}
use Rattle.model.specs.Calling.{step_enter, step_move}
use Rattle.model.specs.Said.{said_entry, said_move}
use Rattle.model.specs.Promised.{WholeAs}
use Rattle.model.proofs.Said.{entry_one, move_one}
use Rattle.model.specs.declared.Grant.{Grant}
use Rattle.model.specs.declared.MoveRecord.{MoveRecord}
use Rattle.model.specs.declared.Refusal.{Refusal}

module _ (W : Ways) (m m' m'' : Mem) (g : Grant) (r r' : Result Unit Refusal) where
  pub decides_step_move : (v : MoveRecord) → WholeAs W m (step_move g v) m' (said_move r) → WholeAs W m (step_move g v) m'' (said_move r') → (r ≡ r') × (m' ≡ m'')
  decides_step_move v d d' = (move_one r r' (d.told ∙ sym d'.told), d.left ∙ sym d'.left)

  pub decides_step_enter : (p i : ℕ) → WholeAs W m (step_enter g p i) m' (said_entry r) → WholeAs W m (step_enter g p i) m'' (said_entry r')
      → (r ≡ r') × (m' ≡ m'')
  decides_step_enter p i d d' = (entry_one r r' (d.told ∙ sym d'.told), d.left ∙ sym d'.left)
