-- `hashing::low_part` meets its contract: a mask of a power of two less 1 takes the remainder. Assumes nothing.
use native.Mathlib.Omega.{arith}
use lib.Bits.{and_mask}
use Rattle.model.proofs.Hash.{size_pos}
use Rattle.hashing.proofs.low_part.Goals as goal

pub overflow_sub-result : goal.overflow_sub-result
overflow_sub-result c = omega (arith, size_pos c.requires)

pub returns : goal.returns
returns c = rw c.requires.power (and_mask c.args.x c.requires.log)
