-- `home_words::with_tag` meets its contract. Assumes nothing.
use native.Mathlib.Omega.{arith}
use Rattle.std.proofs.lemmas.Bool.Decides.{nat_tests}
use Rattle.model.specs.Memory.{tag}
use Rattle.home_words.proofs.with_tag.Goals as goal

pub returns-then-w-tag : goal.returns-then-w-tag
unfolding tag
returns-then-w-tag c = (grind (arith, nat_tests), omega arith)

pub returns-else-w-tag : goal.returns-else-w-tag
unfolding tag
returns-else-w-tag c = (grind (arith, nat_tests), omega arith)
