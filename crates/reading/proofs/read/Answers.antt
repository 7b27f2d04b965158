-- `reading::read` meets its contract. Assumes nothing.
use mathlib.Core.Path.{ap, ◌∙◌}
use Rattle.std.specs.Prelude.{Ok}
use Rattle.model.specs.Age.{bad_time}
use Rattle.model.specs.Seen.{seen}
use Rattle.model.specs.Shape.{four}
use Rattle.looking.proofs.Early.{early_passed}
use Rattle.looking.proofs.Looking.{look_inside}
use Rattle.reading.proofs.Reading.{read_absent, read_held}
use Rattle.reading.proofs.read.Goals as goal

pub judged_at-requires-clause-place_in_bounds : goal.judged_at-requires-clause-place_in_bounds
judged_at-requires-clause-place_in_bounds c =
    let t = c.args.table.now in
    look_inside four t.slots.now t.counters.now t.items.now c.args.animal c.look_up.ensures (c.in_ok-word.was ∙ ap Ok c.in-Some.is)

pub returns-in-Some : goal.returns-in-Some
returns-in-Some c =
    let a = c.args in
    let p = early_passed four (seen a.table.now) a.animal (bad_time a.limit a.minute) c.is_bad_time-bad.ensures c.refused_early.ensures c.in_ok-refused_early.was in
    read_held four (seen a.table.now) a.animal a.limit a.minute p c.look_up.ensures (c.in_ok-word.was ∙ ap Ok c.in-Some.is) c.judged_at.result c.judged_at.ensures

pub returns-in-None : goal.returns-in-None
returns-in-None c =
    let a = c.args in
    let p = early_passed four (seen a.table.now) a.animal (bad_time a.limit a.minute) c.is_bad_time-bad.ensures c.refused_early.ensures c.in_ok-refused_early.was in
    read_absent four (seen a.table.now) a.animal a.limit a.minute p c.look_up.ensures (c.in_ok-word.was ∙ ap Ok c.in-None.is)
