-- `setting::enter_at` meets its contract. Assumes nothing.
use Rattle.model.specs.Memory.{mem}
use Rattle.setting.proofs.Enters.{enter_made}
use Rattle.setting.proofs.enter_at.Goals as goal

pub returns : goal.returns
returns c =
    enter_made (mem c.args.slots.now c.args.counters.now c.args.items.now) c.args.g c.args.homes c.args.room c.args.shift
    c.make_moves-left.ensures c.enter_entry.ensures
