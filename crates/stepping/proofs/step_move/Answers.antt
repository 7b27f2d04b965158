-- `stepping::step_move` meets its contract. Assumes nothing.
use Rattle.std.proofs.lemmas.Result.{err_from_is_err_and}
use Rattle.model.specs.Shape.{four}
use Rattle.stepping.proofs.Moving.{move_asked, places_small, step_moved, step_refused}
use Rattle.stepping.proofs.step_move.Goals as goal

pub returns-in_err-refused_first : goal.returns-in_err-refused_first
returns-in_err-refused_first c =
    let p = err_from_is_err_and c.from_residual.result c.from_residual.ensures.1 in
    rw (p.1, p.2) (step_refused four _ c.args.g c.args.v c.is_bad_grant-bad.ensures c.refused_first.ensures c.in_err-refused_first.was)

pub overflow_cast-m : goal.overflow_cast-m
overflow_cast-m c = record { fits = places_small _ _ _ _ _ c.refused_first.ensures c.in_ok-refused_first.was }

pub make_move-requires : goal.make_move-requires
make_move-requires c = move_asked _ _ _ _ _ c.refused_first.ensures c.in_ok-refused_first.was

pub returns : goal.returns
returns c = step_moved _ _ _ c.args.g c.args.v c.is_bad_grant-bad.ensures c.refused_first.ensures c.in_ok-refused_first.was c.make_move.ensures
