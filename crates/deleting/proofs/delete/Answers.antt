-- `deleting::delete` meets its contract. Assumes nothing.
use Rattle.model.specs.Memory.{mem}
use Rattle.model.specs.Shape.{four}
use Rattle.deleting.proofs.Deleting.{whole_of_cut}
use Rattle.deleting.proofs.delete.Goals as goal

pub returns : goal.returns
returns c =
    let a = c.args in
    whole_of_cut four (mem a.slots.now a.counters.now a.items.now) a.animal c.delete_cut.result c.delete_cut.ensures
