-- `hashing::tag_of` meets its contract. Assumes nothing.
use native.Mathlib.Omega.{arith}
use Rattle.std.proofs.lemmas.Bool.Decides.{nat_tests}
use Rattle.model.specs.Hash.{tag_from}
use Rattle.hashing.proofs.tag_of.Goals as goal

pub returns : goal.returns
unfolding tag_from
returns c = (grind (arith, nat_tests), omega arith)
