use Rattle.std.proofs.Common.{rules, arith, inl}
use Rattle.std.proofs.lemmas.Result.{err_from_is_err_and}
use Rattle.judge_program.proofs.Dumps.{rest_few, read_first, read_more, read_unclear, read_end}
use Rattle.judge_program.proofs.read_dump.Goals as goal

pub loop-i-init : goal.loop-i-init
loop-i-init c =
    let gives = c.into_iter-i-iterator.ensures.into_iter_gives in
    let source = c.enumerate-i-items.ensures.source in
    ((tt {0}, tt {0}, inl (rw (gives, source) (omega (arith, c.enumerate-i-items.ensures.count, rest_few c.args.text.now c.mark_length.result)))), tt {0}, read_first _ _ _ {from = c.mark_length.result} c.mark_length.ensures.0 (rw (gives, source)) (search rules))

pub loop-i-preserved : goal.loop-i-preserved
loop-i-preserved c =
    let steps = c.in-Some.ensures.steps in
    let goes = c.in-Some.ensures.goes.on c.loop-i.invariant.1 in
    (goes.0, goes.1, read_more c.loop-i.invariant.2 steps.0 steps.1 c.add_line.ensures steps.2 c.in_ok-known.was)

-- what the exit of the ? hands on is what the line was told
pub returns-in_err-known : goal.returns-in_err-known
returns-in_err-known c =
    let steps = c.in-Some.ensures.steps in
    let told = err_from_is_err_and c.from_residual.result c.from_residual.ensures.1 in
    rw (told.1, told.2) (read_unclear c.loop-i.invariant.2 steps.0 steps.1 c.add_line.ensures c.in_err-known.was)

pub returns : goal.returns
returns c = search (read_end, c.in-None.ensures.steps)
