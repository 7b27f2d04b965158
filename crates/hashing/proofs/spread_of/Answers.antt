-- `hashing::spread_of` meets its contract: the product's remainder is the same modulo 2^32. Assumes nothing.
use Prim.Native.Nat.{ℕ, ◌*◌, ◌%◌}
use mathlib.Core.Path.{ap, ◌∙◌}
use Rattle.model.specs.Hash.{odd_up, spread}
use Rattle.hashing.proofs.Laws.{bit_odd, low_of_low}
use Rattle.hashing.proofs.spread_of.Goals as goal

pub returns : goal.returns
unfolding spread
returns c = bit_odd c.low_part.result ∙ ap odd_up (c.low_part.ensures ∙ ap (λ (x : ℕ). x % c.args.n) c.mul_mod_2_32.ensures ∙ low_of_low c.requires (c.args.tag * 1540483477))
