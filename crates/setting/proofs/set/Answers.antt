-- `setting::set` meets its contract. Assumes nothing.
use native.Mathlib.Omega.{arith}
use Rattle.model.specs.Shape.{four}
use Rattle.setting.proofs.Setting.{set_whole}
use Rattle.setting.proofs.set.Goals as goal

pub returns : goal.returns
returns c = set_whole four _ c.args.g (omega arith) c.set_cut.ensures
