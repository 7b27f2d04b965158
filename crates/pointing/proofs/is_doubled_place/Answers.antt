-- `pointing::is_doubled_place` meets its contract. Assumes nothing.
use Rattle.model.specs.Seen.{seen}
use Rattle.pointing.proofs.Pointing.{by_vacant_twin, by_twins, place_fits}
use Rattle.pointing.proofs.is_doubled_place.Goals as goal

pub returns-then-x-eq0 : goal.returns-then-x-eq0
returns-then-x-eq0 c = search by_vacant_twin

pub overflow_cast-p : goal.overflow_cast-p
overflow_cast-p c =
    record { fits = place_fits (seen c.args.table.now) _ c.requires.0.aims.right c.requires.1 }

pub returns : goal.returns
returns c = search by_twins
