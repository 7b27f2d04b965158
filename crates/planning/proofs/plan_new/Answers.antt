-- `planning::plan_new` meets its contract. Assumes nothing.
use Rattle.std.proofs.lemmas.Result.{err_from_is_err_and}
use Rattle.planning.proofs.Planned.{room_plans}
use Rattle.planning.proofs.plan_new.Goals as goal

pub returns-in_err-room : goal.returns-in_err-room
returns-in_err-room c =
    let p = err_from_is_err_and c.from_residual.result c.from_residual.ensures.1 in
    rw (p.1, p.2) (room_plans _ _ c.args.g c.room_for.ensures c.in_err-room.was)

pub returns : goal.returns
returns c = room_plans _ _ c.args.g c.room_for.ensures c.in_ok-room.was
