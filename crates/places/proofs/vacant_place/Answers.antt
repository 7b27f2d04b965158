-- `places::vacant_place` meets its contract. Assumes nothing.
use Rattle.model.specs.Calls.{vacant_place}
use Rattle.places.proofs.vacant_place.Goals as goal

pub returns : goal.returns
unfolding vacant_place
returns c = c.place_of.ensures
