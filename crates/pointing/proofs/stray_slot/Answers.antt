-- `pointing::stray_slot` meets its contract. Assumes nothing.
use native.Mathlib.Omega.{arith}
use mathlib.Core.Path.{refl}
use borrow.Author.Rules.{rules}
use Rattle.places.proofs.Finds.{by_find}
use Rattle.pointing.proofs.stray_slot.Goals as goal

pub returns : goal.returns
returns c = by_find _ _ _ _ c.find.ensures.ran refl (omega arith) (λ x b q k. search rules)
