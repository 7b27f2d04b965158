-- `hashing::counter_at` meets its contract. Assumes nothing.
use Rattle.hashing.proofs.counter_at.Goals as goal

pub returns : goal.returns
returns c = rw (c.min.ensures, c.other_of.ensures)
