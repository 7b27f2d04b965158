-- `home_words::any_damaged` meets its contract. Assumes nothing.
use mathlib.Core.Path.{◌∙◌}
use mathlib.Core.Bool.{false, ◌||◌}
use Rattle.std.proofs.Common.{rules}
use Rattle.std.proofs.lemmas.Iterator.{YieldsList-from_slice}
use Rattle.std.proofs.lemmas.Iterator.Consumers.{fold_from_yields_List}
use Rattle.model.specs.Memory.{damaged}
use Rattle.home_words.proofs.Words.{any_folded}
use Rattle.home_words.proofs.any_damaged.Goals as goal

pub returns : goal.returns
returns c =
    fold_from_yields_List _ (λ b w. b || damaged c.args.m w) false c.fold.result c.fold.ensures.ran
    (YieldsList-from_slice c.args.words cc) (λ a x b q k. search rules)
    ∙ any_folded (damaged c.args.m) c.args.words
