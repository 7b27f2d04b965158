-- Each contract decides its call: any two replies and memories that it allows are equal. Assumes nothing.
use Prim.Native.Nat.{ℕ}
use mathlib.Core.Path.{◌≡◌, sym, ◌∙◌}
use mathlib.Core.List.{List}
use Rattle.model.specs.Memory.{Mem}
use Rattle.model.specs.Shape.{Ways}
use Rattle.boughladder.specs.Dressed.{FreshIn, ListIn}
use Rattle.clothes.specs.declared.BoughladderListing.{BoughladderListing}

pub decides_fresh : {W : Ways} {m m' m'' : Mem} {r r' : ℕ} → FreshIn W m m' r → FreshIn W m m'' r' → (r ≡ r') × (m' ≡ m'')
decides_fresh d d' = (d.told ∙ sym d'.told, d.left ∙ sym d'.left)

pub decides_list : {W : Ways} {m : Mem} {before after after' : List ℕ} {r r' : BoughladderListing}
    → ListIn W m before after r → ListIn W m before after' r' → (r ≡ r') × (after ≡ after')
decides_list d d' = (d.told ∙ sym d'.told, d.left ∙ sym d'.left)
