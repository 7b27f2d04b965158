-- `paths::path_back` meets its contract: the moves that are made out and those that are left complete the path. Assumes nothing.
use native.Mathlib.Omega.{arith}
use mathlib.Core.Path.{refl}
use mathlib.Core.Logic.{inl, inr}
use Rattle.paths.proofs.Back.{back_ends, back_goes}
use Rattle.paths.proofs.path_back.Goals as goal
use Rattle.paths.proofs.path_back.Goals.{else-loop-j-test, then-loop-j-test+then-at-lt2}

pub loop-j-preserved : goal.loop-j-preserved
loop-j-preserved c = (back_goes _ _ _ _ c.loop-j.invariant.0 (omega arith) (omega arith) c.slot_in-from.ensures, refl)

pub returns : goal.returns
returns c n =
    rw c.loop-j.invariant.1
    (back_ends _ _ _ _ c.loop-j.invariant.0
    (elim c.loop-j-test.branch [ else-loop-j-test w ↦ inl (omega arith) | then-loop-j-test+then-at-lt2 w ↦ inr (omega arith) ]) n)
