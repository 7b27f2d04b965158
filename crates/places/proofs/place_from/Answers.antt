-- `places::place_from` meets its contract. Assumes nothing.
use mathlib.Core.Path.{refl}
use borrow.Author.Rules.{rules}
use Rattle.places.proofs.Finds.{by_find}
use Rattle.places.proofs.place_from.Goals as goal

pub returns : goal.returns
returns c = by_find _ _ _ _ c.find.ensures.ran refl refl (λ x b q k. search rules)
