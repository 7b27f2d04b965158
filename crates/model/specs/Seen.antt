-- The memory that a table of lent runs shows. Assumes nothing.
use Rattle.model.specs.Memory.{Mem, mem}
use Rattle.model.specs.declared.Table.{Table}

abbrev pub seen : Table → Mem
seen table = mem table.slots.now table.counters.now table.items.now
