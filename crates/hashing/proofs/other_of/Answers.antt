-- `hashing::other_of` meets its contract. Assumes nothing.
use Rattle.model.specs.Hash.{other_bucket}
use Rattle.hashing.proofs.other_of.Goals as goal

pub returns : goal.returns
unfolding other_bucket
returns c = rw c.spread_of.ensures
