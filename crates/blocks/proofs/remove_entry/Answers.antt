-- `blocks::remove_entry` meets its contract. Assumes nothing.
use Rattle.blocks.proofs.Laws.{by_remove}
use Rattle.blocks.proofs.remove_entry.Goals as goal

pub returns : goal.returns
returns c = search by_remove
