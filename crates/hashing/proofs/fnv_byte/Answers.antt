-- `hashing::fnv_byte` meets its contract. Assumes nothing.
use Rattle.model.specs.Hash.{fnv_step}
use borrow.Author.Rules.{rules}
use Rattle.hashing.proofs.fnv_byte.Goals as goal

pub returns : goal.returns
unfolding fnv_step
returns c = search rules
