-- `pointing::twin_among` meets its contract. Assumes nothing.
use mathlib.Core.Path.{◌∙◌}
use mathlib.Core.Bool.{false, ◌||◌}
use Rattle.std.proofs.Common.{rules}
use Rattle.std.proofs.lemmas.Iterator.{YieldsList-from_slice}
use Rattle.std.proofs.lemmas.Iterator.Consumers.{fold_from_yields_List}
use Rattle.model.specs.Memory.{place}
use Rattle.judgement.specs.Conditions.{twin}
use Rattle.home_words.proofs.Words.{any_folded}
use Rattle.pointing.proofs.twin_among.Goals as goal

pub returns : goal.returns
returns c =
    fold_from_yields_List _ (λ b w. b || twin c.args.items.now c.args.x c.args.p (place w)) false c.fold.result c.fold.ensures.ran
    (YieldsList-from_slice c.args.words cc) (λ a x b q k. search rules)
    ∙ any_folded (λ w. twin c.args.items.now c.args.x c.args.p (place w)) c.args.words
