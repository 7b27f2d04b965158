-- `blocks::enter_entry` meets its contract. Assumes nothing.
use Rattle.blocks.proofs.Laws.{by_enter}
use Rattle.blocks.proofs.enter_entry.Goals as goal

pub returns : goal.returns
returns c = search by_enter
