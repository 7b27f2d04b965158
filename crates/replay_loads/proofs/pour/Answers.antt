-- `replay_loads::pour` meets its contract: what is left to be stored comes to the words. Assumes nothing.
use Rattle.std.proofs.Common.{◌≡◌, ◌∙◌, ap, sym, arith, inl}
use lib.ListN.{set}
use Rattle.replay_words.specs.Words.{number}
use Rattle.replay_words.proofs.RunWords.{numbers_set}
use Rattle.replay_loads.proofs.Loads.{pour_first, pour_end, pour_stop, pour_more, pour_nothing, small}
use Rattle.replay_loads.proofs.pour.Goals as goal

pub returns-in_default : goal.returns-in_default
returns-in_default g c = pour_nothing c.args.line.now c.body_of.ensures _ c.in_default.ensures.steps.0

pub loop-i-init : goal.loop-i-init
loop-i-init g c =
    let begun = pour_first c.args.line.now c.body_of.ensures _ c.in-Some.ensures.steps g.T.RunWord.LARGEST (g.T.RunWord.numbers c.args.run.now) in
    rw (c.into_iter-i-iterator.ensures.into_iter_gives, c.enumerate-i-items.ensures.source, c.enumerate-i-items.ensures.count)
    ((tt, tt, inl (omega (arith, begun.few))), tt, begun)

pub of_number-requires : goal.of_number-requires
of_number-requires g c =
    small g.T.RunWord.LARGEST c.in-Some-2.word.now (sym (c.in-Some-number_of.ensures ∙ ap (λ t. number t c.in-Some-2.word.now) c.LARGEST.ensures))

pub loop-i-preserved : goal.loop-i-preserved
loop-i-preserved g c =
    let stored : g.T.RunWord.numbers c.store.new.run ≡ set (g.T.RunWord.numbers c.loop-i.run) c.loop-i.i-iterator.count c.in-Some-number_of.n =
    ap g.T.RunWord.numbers c.store.ensures
    ∙ numbers_set g.met.T.RunWord.of_none g.met.T.RunWord.of_more c.loop-i.run c.in-Some-2.i c.of_number.result
    ∙ ap (λ n. set (g.T.RunWord.numbers c.loop-i.run) c.in-Some-2.i n) c.of_number.ensures
    ∙ ap (λ i. set (g.T.RunWord.numbers c.loop-i.run) i c.in-Some-number_of.n) c.in-Some-2.ensures.steps.1 in
    let number_is = c.in-Some-number_of.ensures ∙ ap (λ t. number t c.in-Some-2.word.now) c.LARGEST.ensures in
    let poured = pour_more c.loop-i.invariant.2 _ c.in-Some-2.ensures.steps.0 number_is stored in
    rw c.in-Some-2.ensures.steps.2 ((tt, tt, inl (omega (arith, poured.few))), tt, poured)

pub returns-in_default-number_of : goal.returns-in_default-number_of
returns-in_default-number_of g c =
    let no_number = c.in_default-number_of.ensures ∙ ap (λ t. number t c.in-Some-2.word.now) c.LARGEST.ensures in
    pour_stop c.loop-i.invariant.2 _ c.in-Some-2.ensures.steps.0 no_number

pub returns : goal.returns
returns g c = pour_end c.loop-i.invariant.2 c.in-None.ensures.steps.0.0
