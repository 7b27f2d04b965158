-- `home_words::sum_with_tag` meets its contract. Assumes nothing.
use Prim.Native.Nat.{◌/◌}
use mathlib.Core.Path.{◌≡◌, ◌∙◌}
use lib.Dec.{eqb}
use Rattle.std.proofs.Common.{rules, tests}
use Rattle.std.proofs.iter.runs.Made.{chains}
use Rattle.std.proofs.lemmas.Iterator.{YieldsList-from_slice}
use Rattle.std.proofs.lemmas.Iterator.Adapters.{at_most_from_yields_List, fits_from_length}
use native.Mathlib.Omega.{arith}
use Rattle.std.specs.List.{sum_by}
use Rattle.model.specs.Choice.{choose}
use Rattle.model.specs.Memory.{tag}
use Rattle.home_words.proofs.Words.{sum_folded}
use Rattle.home_words.proofs.sum_with_tag.Goals as goal

pub sum-requires-clause-fits : goal.sum-requires-clause-fits
sum-requires-clause-fits c =
    fits_from_length _ _ 8 _ (at_most_from_yields_List (YieldsList-from_slice c.args.words cc) (omega arith)) c.map.ensures.closure (omega arith)
    (λ x r q k. search (rules, tests))

pub returns : goal.returns
unfolding tag
returns c =
    let e : c.sum.result ≡ sum_by (λ w. choose (eqb (w / 65536) c.args.tag) w 0) c.args.words = search (rules, chains) in
    e ∙ sum_folded c.args.tag c.args.words
