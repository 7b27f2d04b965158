-- `planning::plan` meets its contract. Assumes nothing.
use mathlib.Core.Path.{ap, ◌∙◌}
use Rattle.std.specs.Prelude.{Ok}
use Rattle.std.proofs.lemmas.Result.{err_from_is_err_and}
use Rattle.model.specs.Shape.{four}
use Rattle.looking.proofs.Early.{early_passed}
use Rattle.planning.proofs.Planned.{plan_absent, plan_early, plan_held, plan_refused}
use Rattle.planning.proofs.plan.Goals as goal

pub returns-in_err-refused_early : goal.returns-in_err-refused_early
returns-in_err-refused_early c =
    let p = err_from_is_err_and c.from_residual.result c.from_residual.ensures.1 in
    rw (p.1, p.2) (plan_early four _ c.args.g c.is_bad_grant-bad.ensures c.refused_early.ensures c.in_err-refused_early.was)

pub returns-in_err-looked : goal.returns-in_err-looked
returns-in_err-looked c =
    let p = err_from_is_err_and c.from_residual-in_err-looked.result c.from_residual-in_err-looked.ensures.1 in
    let passed = early_passed four _ _ _ c.is_bad_grant-bad.ensures c.refused_early.ensures c.in_ok-refused_early.was in
    rw (p.1, p.2) (plan_refused four _ c.args.g passed c.look_up-looked.ensures c.in_err-looked.was)

pub returns-in-None : goal.returns-in-None
returns-in-None c =
    let passed = early_passed four _ _ _ c.is_bad_grant-bad.ensures c.refused_early.ensures c.in_ok-refused_early.was in
    plan_absent four _ c.args.g passed c.look_up-looked.ensures (c.in_ok-looked.was ∙ ap Ok c.in-None.is) c.plan_new.ensures

pub returns-in-Some : goal.returns-in-Some
returns-in-Some c =
    let passed = early_passed four _ _ _ c.is_bad_grant-bad.ensures c.refused_early.ensures c.in_ok-refused_early.was in
    plan_held four _ c.args.g passed c.look_up-looked.ensures (c.in_ok-looked.was ∙ ap Ok c.in-Some.is)
