-- `deleting::removal_of` meets its contract. Assumes nothing.
use mathlib.Core.Bool.{false}
use mathlib.Core.Path.{refl, ap, ◌∙◌}
use Rattle.std.specs.Prelude.{Ok}
use Rattle.model.specs.Seen.{seen}
use Rattle.model.specs.Shape.{four}
use Rattle.looking.proofs.Early.{early_passed}
use Rattle.deleting.proofs.Deleting.{removal_absent, removal_nowhere, removal_takes}
use Rattle.deleting.proofs.removal_of.Goals as goal

pub returns-in_default : goal.returns-in_default
returns-in_default c =
    let m = seen c.args.table.now in
    let p = early_passed four m c.args.animal false refl c.refused_early.ensures c.in_ok-refused_early.was in
    removal_absent four m c.args.animal p c.look_up-hit.ensures (c.in_ok-word.was ∙ ap Ok c.in_default.is)

pub returns-in_default-slot_of : goal.returns-in_default-slot_of
returns-in_default-slot_of c =
    let m = seen c.args.table.now in
    let p = early_passed four m c.args.animal false refl c.refused_early.ensures c.in_ok-refused_early.was in
    removal_nowhere four m c.args.animal p c.look_up-hit.ensures (c.in_ok-word.was ∙ ap Ok c.in-Some.is) c.slot_of.ensures c.in_default-slot_of.is

pub returns : goal.returns
returns c =
    let m = seen c.args.table.now in
    let p = early_passed four m c.args.animal false refl c.refused_early.ensures c.in_ok-refused_early.was in
    removal_takes four m c.args.animal p c.look_up-hit.ensures (c.in_ok-word.was ∙ ap Ok c.in-Some.is) c.slot_of.ensures c.in-Some-slot_of.is
