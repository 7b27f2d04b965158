-- `replay_lines::row_in` meets its contract: the first row that fits still lies ahead. Assumes nothing.
use Rattle.std.proofs.Common.{◌≡◌, ◌∙◌, arith, rules, ap, inl, length, replicate}
use Rattle.replay_words.proofs.Scan.{lines_few}
use Rattle.replay_lines.proofs.Rows.{try_first, try_found, try_more, try_end}
use Rattle.replay_lines.proofs.row_in.Goals as goal

pub loop-row-init : goal.loop-row-init
loop-row-init c =
    rw (c.into_iter-row-iterator.ensures.into_iter_gives, c.enumerate-row-items.ensures.source, c.enumerate-row-items.ensures.count)
    ((tt, tt, inl (omega (arith, lines_few c.args.rows.now))), tt, try_first c.args.rows.now c.args.line.now)

pub loop-row-preserved : goal.loop-row-preserved
loop-row-preserved c =
    let tried = try_more c.loop-row.invariant.2 _ c.in-Some.ensures.steps.0 c.if-fits.ensures in
    rw c.in-Some.ensures.steps.2 ((tt, tt, inl (omega (arith, tried.many, lines_few c.args.rows.now))), tt, tried)

pub returns-then-fits : goal.returns-then-fits
returns-then-fits c =
    let clear : c.fill.new.self ≡ replicate (length c.loop-row.numbers) 0 = search rules in
    rw c.in-Some.ensures.steps.1
    (try_found c.loop-row.invariant.2 _ c.in-Some.ensures.steps.0 _ c.if-fits.ensures (clear ∙ ap (λ k. replicate k 0) c.loop-row.auto.numbers))

pub returns : goal.returns
returns c =
    let clear : c.fill-2.new.self ≡ replicate (length c.loop-row.numbers) 0 = search rules in
    (try_end c.loop-row.invariant.2 c.why_none.result c.in-None.ensures.steps.0.0 c.why_none.ensures, clear ∙ ap (λ k. replicate k 0) c.loop-row.auto.numbers)
