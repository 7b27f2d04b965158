-- `evicting::evict` meets its contract. Assumes nothing.
use Rattle.evicting.proofs.Turning.{evict_done}
use Rattle.evicting.proofs.evict.Goals as goal

pub returns : goal.returns
returns c = search evict_done
