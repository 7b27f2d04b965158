-- `evicting::clear_one` meets its contract: one law a way out. Assumes nothing.
use Rattle.evicting.proofs.Clears.{one_cleared}
use Rattle.evicting.proofs.clear_one.Goals as goal

pub returns-then-animal-recent : goal.returns-then-animal-recent
returns-then-animal-recent c = search one_cleared
