-- `reading::serve` meets its contract. Assumes nothing.
use mathlib.Core.Path.{ap, ◌∙◌}
use Rattle.std.specs.Prelude.{Ok}
use Rattle.model.specs.Age.{bad_time}
use Rattle.model.specs.Memory.{mem}
use Rattle.model.specs.Said.{refusal_number}
use Rattle.model.specs.Shape.{four}
use Rattle.looking.proofs.Early.{early_passed}
use Rattle.looking.proofs.Looking.{look_inside}
use Rattle.reading.proofs.Reading.{serve_absent, serve_held}
use Rattle.reading.proofs.serve.Goals as goal

pub judged_at-requires-clause-place_in_bounds :
    goal.judged_at-requires-clause-place_in_bounds
judged_at-requires-clause-place_in_bounds c =
    let a = c.args in
    look_inside four a.slots.now a.counters.now a.items.now a.animal c.look_up.ensures (c.in_ok-word.was ∙ ap Ok c.in-Some.is)

pub mark_recent-requires : goal.mark_recent-requires
mark_recent-requires c =
    let a = c.args in
    look_inside four a.slots.now a.counters.now a.items.now a.animal c.look_up.ensures (c.in_ok-word.was ∙ ap Ok c.in-Some.is)

pub returns-in-Some : goal.returns-in-Some
returns-in-Some c =
    let a = c.args in
    let m = mem a.slots.now a.counters.now a.items.now in
    let p = early_passed four m a.animal (bad_time a.limit a.minute) c.is_bad_time-bad.ensures c.refused_early.ensures c.in_ok-refused_early.was in
    serve_held four m a.animal a.limit a.minute p c.look_up.ensures (c.in_ok-word.was ∙ ap Ok c.in-Some.is) c.judged_at.result
    c.judged_at.ensures (c.is_fresh.ensures refusal_number) c.mark_recent.ensures

pub returns-in-None : goal.returns-in-None
returns-in-None c =
    let a = c.args in
    let m = mem a.slots.now a.counters.now a.items.now in
    let p = early_passed four m a.animal (bad_time a.limit a.minute) c.is_bad_time-bad.ensures c.refused_early.ensures c.in_ok-refused_early.was in
    serve_absent four m a.animal a.limit a.minute p c.look_up.ensures (c.in_ok-word.was ∙ ap Ok c.in-None.is)
