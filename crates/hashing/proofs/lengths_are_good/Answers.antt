-- `hashing::lengths_are_good` meets its contract. Assumes nothing.
use Rattle.model.specs.Shape.{good_lengths}
use Rattle.hashing.proofs.lengths_are_good.Goals as goal

pub returns : goal.returns
unfolding good_lengths
returns c = cc
