-- `blocks::update_entry` meets its contract. Assumes nothing.
use Rattle.blocks.proofs.Laws.{by_update}
use Rattle.blocks.proofs.update_entry.Goals as goal

pub returns : goal.returns
returns c = search by_update
