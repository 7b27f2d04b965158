-- `pointing::points_to` meets its contract. Assumes nothing.
use mathlib.Core.Path.{refl}
use Rattle.model.specs.Memory.{place}
use Rattle.judgement.specs.Conditions.{names}
use Rattle.pointing.proofs.points_to.Goals as goal

pub returns : goal.returns
unfolding names place
returns c = refl
