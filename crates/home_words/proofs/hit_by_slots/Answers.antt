-- `home_words::hit_by_slots` meets its contract. Assumes nothing.
use mathlib.Core.Path.{◌∙◌, sym}
use Rattle.std.proofs.Common.{rules, tests}
use Rattle.std.proofs.lemmas.Iterator.Adapters.{option_map_id}
use Rattle.std.proofs.lemmas.Iterator.{YieldsList-from_slice}
use Rattle.std.proofs.lemmas.Iterator.Consumers.{YieldsList-from_copied}
use Rattle.std.proofs.lemmas.Iterator.Search.{find_from_yields_List}
use Rattle.home_words.specs.HomeWords.{leads}
use Rattle.home_words.proofs.Words.{found_first}
use Rattle.home_words.proofs.hit_by_slots.Goals as goal

pub returns : goal.returns
returns c =
    let leading = leads c.args.items.now c.args.tag c.args.animal in
    sym (option_map_id c.find.result)
    ∙ find_from_yields_List leading _ _ c.find.result c.find.ensures.ran
    (YieldsList-from_copied (YieldsList-from_slice c.args.words cc)) (λ x b q k. search (rules, tests))
    ∙ found_first leading c.args.words
