-- `blocks::move_entry` meets its contract. Assumes nothing.
use Rattle.blocks.proofs.Laws.{by_move}
use Rattle.blocks.proofs.move_entry.Goals as goal

pub returns : goal.returns
returns c = search by_move
