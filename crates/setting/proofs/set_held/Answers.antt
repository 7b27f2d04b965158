-- `setting::set_held` meets its contract. Assumes nothing.
use Rattle.setting.proofs.Enters.{held_late, held_updated}
use Rattle.setting.proofs.set_held.Goals as goal

pub returns-then-is_late : goal.returns-then-is_late
returns-then-is_late c = search held_late

pub returns : goal.returns
returns c = held_updated c.args.homes.counter c.args.w c.args.g c.args.items.now c.is_late.ensures c.if-is_late.false c.update_entry.ensures
