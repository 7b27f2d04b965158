use Rattle.std.proofs.Common.{rules, refl}
use Rattle.replay_loop.proofs.Handed.{handed_first, handed_more, handed_all}
use Rattle.replay_loop.proofs.portions.Goals as goal

pub loop-state-init : goal.loop-state-init
loop-state-init g c = (search handed_first, refl)

pub loop-state-preserved : goal.loop-state-preserved
loop-state-preserved g c =
    (handed_more c.loop-state.invariant.0 c.portion-full.ensures.went (search rules) c.in_ok-written.ensures, search rules)

pub returns : goal.returns
returns g c = handed_all c.loop-state.invariant.0 (search rules) refl refl
