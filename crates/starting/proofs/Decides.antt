-- The contract decides the call: any two outcomes that it allows are equal. Assumes nothing.
use Rattle.std.specs.Prelude.{Result}
use mathlib.Core.Path.{◌≡◌, sym, ◌∙◌}
use Rattle.model.specs.Memory.{Mem}
use Rattle.model.specs.Shape.{Ways}
use Rattle.model.specs.Said.{said_starting}
use Rattle.model.specs.Promised.{FreshAs}
use Rattle.model.proofs.Said.{starting_one}
use Rattle.model.specs.declared.Refusal.{Refusal}

pub decides_fresh : (W : Ways) {m m' m'' : Mem} (r r' : Result Unit Refusal) → FreshAs W m m' (said_starting r) → FreshAs W m m'' (said_starting r') → (r ≡ r') × (m' ≡ m'')
decides_fresh W r r' f f' = (starting_one r r' (f.told ∙ sym f'.told), f.left ∙ sym f'.left)
