-- `hashing::counter_of` meets its contract: a number below the divisor is its own remainder. Assumes nothing.
use native.Mathlib.Nat.{mod-eq_of_lt}
use mathlib.Core.Path.{sym}
use borrow.Author.Rules.{rules}
use Rattle.hashing.proofs.counter_of.Goals as goal

pub returns-then-n-v : goal.returns-then-n-v
returns-then-n-v c = sym (mod-eq_of_lt (search rules))
