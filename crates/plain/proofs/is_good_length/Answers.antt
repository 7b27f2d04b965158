-- `plain::is_good_length` meets its contract. Assumes nothing.
use native.Mathlib.Omega.{arith}
use Rattle.std.proofs.lemmas.Bool.Decides.{nat_tests}
use Rattle.model.specs.Shape.{good_items}
use Rattle.plain.proofs.is_good_length.Goals as goal

pub returns : goal.returns
unfolding good_items
returns c = grind (arith, nat_tests)
