-- `looking::slot_among` meets its contract. Assumes nothing.
use Prim.Native.Nat.{◌*◌}
use Rattle.looking.proofs.SlotOf.{four_slots}
use Rattle.looking.proofs.slot_among.Goals as goal

pub returns : goal.returns
returns c =
    four_slots c.args.slots.now c.args.w (c.args.b * 4) c.args.other c.slot_if-last.ensures c.slot_if-third.ensures
    c.slot_if-second.ensures c.slot_if.ensures
