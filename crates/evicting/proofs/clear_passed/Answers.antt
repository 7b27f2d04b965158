-- `evicting::clear_passed` meets its contract: the clears that are left lead to what was asked for. Assumes nothing.
use Rattle.evicting.proofs.Clears.{clear_next, clear_last}
use Rattle.evicting.proofs.clear_passed.Goals as goal

pub loop-passed-preserved : goal.loop-passed-preserved
loop-passed-preserved c = search clear_next

pub returns : goal.returns
returns c = search clear_last
