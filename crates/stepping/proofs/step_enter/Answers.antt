-- `stepping::step_enter` meets its contract. Assumes nothing.
use mathlib.Core.Path.{refl, ap, ◌∙◌}
use Rattle.std.specs.Prelude.{Ok}
use Rattle.std.proofs.lemmas.Result.{err_from_is_err_and}
use Rattle.model.specs.Shape.{four}
use Rattle.looking.proofs.Early.{early_passed}
use Rattle.stepping.proofs.Entering.{enter_absent, enter_asked, enter_early, enter_held, enter_looked}
use Rattle.stepping.proofs.step_enter.Goals as goal

pub returns-in_err-refused_early : goal.returns-in_err-refused_early
returns-in_err-refused_early c =
    let p = err_from_is_err_and c.from_residual.result c.from_residual.ensures.1 in
    rw (p.1, p.2) (enter_early four _ c.args.g c.args.place c.args.slot c.is_bad_grant-bad.ensures c.refused_early.ensures c.in_err-refused_early.was)

pub make_entry-requires : goal.make_entry-requires
make_entry-requires c = enter_asked _ _ _ _ _ c.refused_early.ensures c.in_ok-refused_early.was c.look_up-looked.ensures

pub returns-in_err-looked : goal.returns-in_err-looked
returns-in_err-looked c =
    let p = err_from_is_err_and c.from_residual-in_err-looked.result c.from_residual-in_err-looked.ensures.1 in
    let passed = early_passed four _ _ _ c.is_bad_grant-bad.ensures c.refused_early.ensures c.in_ok-refused_early.was in
    rw (p.1, p.2) (enter_looked four _ c.args.g c.args.place c.args.slot passed c.look_up-looked.ensures c.in_err-looked.was)

pub returns-in-Some : goal.returns-in-Some
returns-in-Some c =
    let passed = early_passed four _ _ _ c.is_bad_grant-bad.ensures c.refused_early.ensures c.in_ok-refused_early.was in
    enter_held four _ c.args.g c.args.place c.args.slot passed c.look_up-looked.ensures (c.in_ok-looked.was ∙ ap Ok c.in-Some.is)

pub returns-in-None : goal.returns-in-None
returns-in-None c =
    let passed = early_passed four _ _ _ c.is_bad_grant-bad.ensures c.refused_early.ensures c.in_ok-refused_early.was in
    enter_absent four _ c.args.g c.args.place c.args.slot passed c.look_up-looked.ensures 2 refl (c.in_ok-looked.was ∙ ap Ok c.in-None.is) c.make_entry.ensures
