-- `pointing::pointers` meets its contract. Assumes nothing.
use native.Mathlib.Omega.{arith}
use mathlib.Core.Path.{◌≡◌, ◌∙◌}
use Rattle.std.proofs.Common.{rules, tests}
use Rattle.std.proofs.iter.runs.Made.{chains}
use Rattle.std.proofs.lemmas.Iterator.{YieldsList-from_slice}
use Rattle.std.proofs.lemmas.Iterator.Adapters.{at_most_from_yields_List, fits_from_length}
use Rattle.std.specs.List.{sum_by}
use Rattle.model.specs.Choice.{choose}
use Rattle.judgement.specs.Conditions.{names}
use Rattle.pointing.proofs.Pointing.{counted}
use Rattle.pointing.proofs.pointers.Goals as goal

pub sum-requires-clause-fits : goal.sum-requires-clause-fits
sum-requires-clause-fits c =
    fits_from_length _ _ 8 _ (at_most_from_yields_List (YieldsList-from_slice c.args.words cc) (omega arith)) c.map.ensures.closure (omega arith)
    (λ x r q k. search (rules, tests))

pub returns : goal.returns
returns c =
    let e : c.sum.result ≡ sum_by (λ w. choose (names c.args.p w) 1 0) c.args.words = search (rules, chains) in
    e ∙ counted (names c.args.p) c.args.words
