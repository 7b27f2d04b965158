-- `runs::is_damaged` meets its contract: the expression is the definition. Assumes nothing.
use mathlib.Core.Path.{refl}
use Rattle.model.specs.Memory.{damaged, tag, place}
use Rattle.runs.proofs.is_damaged.Goals as goal

pub returns : goal.returns
unfolding damaged tag place
returns c = refl
