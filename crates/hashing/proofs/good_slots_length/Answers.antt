-- `hashing::good_slots_length` meets its contract: one bit set decides between 8 and 8,192. Assumes nothing.
use native.Mathlib.Omega.{arith}
use Rattle.std.proofs.lemmas.Bool.Decides.{nat_tests}
use Rattle.hashing.proofs.OneBit.{one_bit}
use Rattle.hashing.proofs.good_slots_length.Goals as goal

pub returns : goal.returns
returns c = one_bit c.args.s c.contains.result (λ e. (grind (arith, nat_tests), grind (arith, nat_tests))) (λ e l h. grind (arith, nat_tests))
