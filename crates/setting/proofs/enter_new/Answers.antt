-- `setting::enter_new` meets its contract. Assumes nothing.
use native.Mathlib.Omega.{arith}
use mathlib.Core.Path.{refl, sym, ap, ◌∙◌}
use Rattle.std.proofs.lemmas.Result.{err_from_is_err_and}
use Rattle.model.specs.Memory.{mem}
use Rattle.model.specs.Shape.{four}
use Rattle.vacancy.specs.Room.{entering}
use Rattle.blocks.proofs.Budget.{does_as, does_refuse}
use Rattle.setting.proofs.enter_new.Goals as goal

pub returns-in_err-room : goal.returns-in_err-room
returns-in_err-room c =
    let p = err_from_is_err_and c.from_residual.result c.from_residual.ensures.1 in
    let m = mem c.args.slots.now c.args.counters.now c.args.items.now in
    rw (p.1, p.2) (does_refuse (sym c.room_for.ensures.comes ∙ ap (entering four m c.args.g c.args.homes) c.in_err-room.was))

pub enter_at-requires : goal.enter_at-requires
enter_at-requires c = c.room_for.ensures.able 2 (omega arith) refl c.in_ok-room.room c.in_ok-room.was

pub returns : goal.returns
returns c =
    let m = mem c.args.slots.now c.args.counters.now c.args.items.now in
    does_as (sym (ap (entering four m c.args.g c.args.homes) c.in_ok-room.was) ∙ c.room_for.ensures.comes) (c.enter_at.ensures four refl)
