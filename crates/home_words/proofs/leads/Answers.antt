-- `home_words::leads` meets its contract. Assumes nothing.
use native.Mathlib.Omega.{arith}
use Rattle.std.proofs.lemmas.Bool.Decides.{nat_tests}
use Rattle.model.specs.Memory.{tag, place}
use Rattle.home_words.specs.HomeWords.{leads}
use Rattle.home_words.proofs.leads.Goals as goal

pub returns-then-w-tag : goal.returns-then-w-tag
unfolding leads tag place
returns-then-w-tag c = grind (arith, nat_tests)

pub returns-else-w-tag : goal.returns-else-w-tag
unfolding leads tag place
returns-else-w-tag c = grind (arith, nat_tests)
