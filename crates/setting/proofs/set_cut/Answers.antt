-- `setting::set_cut` meets its contract. Assumes nothing.
use mathlib.Core.Path.{ap, ◌∙◌}
use Rattle.std.specs.Prelude.{Ok}
use Rattle.std.proofs.lemmas.Result.{err_from_is_err_and}
use Rattle.model.specs.Shape.{four}
use Rattle.looking.proofs.Early.{early_passed}
use Rattle.looking.proofs.Looking.{look_inside}
use Rattle.setting.proofs.Setting.{set_at_held, set_early, set_new, set_refused}
use Rattle.setting.proofs.set_cut.Goals as goal

pub returns-in_err-refused_early : goal.returns-in_err-refused_early
returns-in_err-refused_early c =
    let p = err_from_is_err_and c.from_residual.result c.from_residual.ensures.1 in
    rw (p.1, p.2) (set_early four _ c.args.g c.is_bad_grant-bad.ensures c.refused_early.ensures c.in_err-refused_early.was)

pub returns-in_err-looked : goal.returns-in_err-looked
returns-in_err-looked c =
    let p = err_from_is_err_and c.from_residual-in_err-looked.result c.from_residual-in_err-looked.ensures.1 in
    let passed = early_passed four _ _ _ c.is_bad_grant-bad.ensures c.refused_early.ensures c.in_ok-refused_early.was in
    rw (p.1, p.2) (set_refused four _ c.args.g passed c.look_up-looked.ensures c.in_err-looked.was)

pub set_held-requires : goal.set_held-requires
set_held-requires c = look_inside four _ _ _ _ c.look_up-looked.ensures (c.in_ok-looked.was ∙ ap Ok c.in-Some.is)

pub returns-in-None : goal.returns-in-None
returns-in-None c =
    let passed = early_passed four _ _ _ c.is_bad_grant-bad.ensures c.refused_early.ensures c.in_ok-refused_early.was in
    set_new four _ c.args.g passed c.look_up-looked.ensures (c.in_ok-looked.was ∙ ap Ok c.in-None.is) c.enter_new.ensures

pub returns-in-Some : goal.returns-in-Some
returns-in-Some c =
    let passed = early_passed four _ _ _ c.is_bad_grant-bad.ensures c.refused_early.ensures c.in_ok-refused_early.was in
    set_at_held four _ c.args.g passed c.look_up-looked.ensures (c.in_ok-looked.was ∙ ap Ok c.in-Some.is) c.set_held.ensures
