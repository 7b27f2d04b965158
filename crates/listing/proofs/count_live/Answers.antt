-- `listing::count_live` meets its contract. Assumes nothing.
use Rattle.std.proofs.Common.{rules, tests, arith, ℕ, length, ◌/◌, ◌∙◌}
use Rattle.std.proofs.lemmas.Iterator.{YieldsList-from_map, YieldsList-from_range}
use Rattle.std.proofs.lemmas.Iterator.Adapters.{at_most_from_yields_List, fits_from_length}
use Rattle.std.proofs.lemmas.Iterator.Consumers.{sum_by_from_yields_List}
use Rattle.std.proofs.lemmas.List.FromFn.{length-range_with_len}
use Rattle.std.specs.List.{range_with_len}
use Rattle.model.specs.Choice.{choose}
use Rattle.model.specs.Memory.{live}
use Rattle.listing.proofs.Laws.{counted}
use Rattle.listing.proofs.count_live.Goals as goal

pub sum-requires-clause-fits : goal.sum-requires-clause-fits
sum-requires-clause-fits c =
    let m = length c.args.items.now / 4 in
    fits_from_length _ _ 4611686018427387904 _ (at_most_from_yields_List (YieldsList-from_range 0 m m c.map.ensures.source (omega arith)) (omega (arith, length-range_with_len 0 m)))
    c.map.ensures.closure (omega arith) (λ x r q k. search (rules, tests))

pub returns : goal.returns
returns c =
    let m = length c.args.items.now / 4 in
    let f : ℕ → ℕ = λ p. choose (live c.args.items.now p) 1 0 in
    sum_by_from_yields_List f (range_with_len 0 m) c.map.result c.sum.result c.sum.ensures.ran
    (YieldsList-from_map _ f (YieldsList-from_range 0 m m c.map.ensures.source (omega arith)) c.map.ensures.closure (λ x r q k. search (rules, tests)))
    ∙ counted c.args.items.now 0 m
