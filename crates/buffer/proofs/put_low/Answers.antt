-- `buffer::put_low` meets its contract. Assumes nothing.
use Rattle.buffer.proofs.Putting.{low_bytes}
use Rattle.buffer.proofs.put_low.Goals as goal

pub returns : goal.returns
returns g c = rw (← low_bytes g.row.N c.args.x c.requires.few, ← c.to_le_bytes.ensures) c.put_bytes.ensures
