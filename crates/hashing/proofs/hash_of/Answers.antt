-- `hashing::hash_of` meets its contract: after four bytes, after six or after eight. Assumes nothing.
use Rattle.hashing.proofs.EightBytes.{after_four, after_six, after_eight}
use Rattle.hashing.proofs.hash_of.Goals as goal

pub returns-then-upper-eq0 : goal.returns-then-upper-eq0
returns-then-upper-eq0 c = search after_four

pub returns-then-upper-lt65536 : goal.returns-then-upper-lt65536
returns-then-upper-lt65536 c = search after_six

pub returns : goal.returns
returns c = search after_eight
