-- `paths::free_among` meets its contract. Assumes nothing.
use mathlib.Core.Bool.{false, ◌||◌}
use Rattle.std.proofs.Common.{rules, tests, ◌≡◌, eqb, sym, ◌∙◌}
use Rattle.std.specs.Prelude.{position}
use Rattle.std.specs.List.{list_any}
use Rattle.std.proofs.lemmas.Iterator.{YieldsList-from_slice}
use Rattle.std.proofs.lemmas.Iterator.Consumers.{fold_from_yields_List}
use Rattle.std.proofs.lemmas.Iterator.Search.{position_from_yields_List}
use Rattle.model.specs.Memory.{damaged}
use Rattle.paths.proofs.Words.{fold_any}
use Rattle.paths.proofs.free_among.Goals as goal

pub returns-then-bad : goal.returns-then-bad
returns-then-bad c =
    let bad : c.fold-bad.result ≡ list_any (damaged c.args.m) c.args.words
    = fold_from_yields_List _ (λ b w. b || damaged c.args.m w) false c.fold-bad.result c.fold-bad.ensures.ran (YieldsList-from_slice c.args.words cc)
    (λ a x b q k. search rules) ∙ fold_any (damaged c.args.m) false c.args.words in
    rw (sym bad ∙ c.if-bad.true)

pub returns : goal.returns
returns c =
    let bad : c.fold-bad.result ≡ list_any (damaged c.args.m) c.args.words
    = fold_from_yields_List _ (λ b w. b || damaged c.args.m w) false c.fold-bad.result c.fold-bad.ensures.ran (YieldsList-from_slice c.args.words cc)
    (λ a x b q k. search rules) ∙ fold_any (damaged c.args.m) false c.args.words in
    let lowest : c.position.result ≡ position (λ y. eqb y 0) c.args.words
    = position_from_yields_List (λ y. eqb y 0) _ _ c.position.result c.position.ensures.ran (YieldsList-from_slice c.args.words cc) (λ x b q k. search (rules, tests)) in
    rw (sym bad ∙ c.if-bad.false, lowest)
