-- `looking::slot_of` meets its contract. Assumes nothing.
use lib.ListN.{length}
use mathlib.Core.Path.{◌∙◌}
use Rattle.looking.proofs.SlotOf.{slot_there}
use Rattle.looking.proofs.slot_of.Goals as goal

pub returns : goal.returns
returns c =
    c.then_some.ensures
    ∙ slot_there c.args.slots.now c.args.w (length c.args.slots.now) c.args.near c.args.far c.requires
    c.slot_among-there.ensures c.slot_among-slot.ensures
