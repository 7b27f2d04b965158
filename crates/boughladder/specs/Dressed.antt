-- What the exported fresh and list promise: the reply is the answer in its clothes, and every lent word afterwards. Assumes nothing.
use Rattle.std.specs.Prelude.{ℕ, ◌≡◌, List}
use Rattle.model.specs.Memory.{Mem}
use Rattle.model.specs.Shape.{Ways}
use Rattle.model.specs.Calling.{make_fresh}
use Rattle.model.specs.Lent.{after_fresh, event_answer}
use Rattle.model.specs.Said.{listed_into}
use Rattle.listing.specs.List.{list_answer}
use Rattle.clothes.specs.Clothes.{listing_clothes, number}
use Rattle.clothes.specs.declared.BoughladderListing.{BoughladderListing}

module _ (W : Ways) where
  -- fresh took the memory m to m', and the reply r is its answer in clothes
  pub record FreshIn (m m' : Mem) (r : ℕ) : Type 0 where
    pub told : r ≡ number (event_answer W m make_fresh)
    pub left : m' ≡ after_fresh W m

  -- so did the list with its buffer
  pub record ListIn (m : Mem) (before after : List ℕ) (r : BoughladderListing) : Type 0 where
    pub told : r ≡ listing_clothes (list_answer W m before)
    pub left : after ≡ listed_into (list_answer W m before) before
