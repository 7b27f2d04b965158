-- `hashing::good_items_length` meets its contract. Assumes nothing.
use native.Mathlib.Omega.{arith}
use Rattle.std.proofs.lemmas.Bool.Decides.{nat_tests}
use Rattle.model.specs.Shape.{good_items}
use Rattle.hashing.proofs.good_items_length.Goals as goal

pub returns : goal.returns
unfolding good_items
returns c = grind (arith, nat_tests)
