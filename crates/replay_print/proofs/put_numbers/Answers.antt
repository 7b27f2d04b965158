-- `replay_print::put_numbers` meets its contract. Assumes nothing.
use Rattle.std.proofs.Common.{◌<◌, ◌∙◌, ap, arith, length}
use Rattle.replay_words.proofs.RunWords.{numbers_length, number_at}
use Rattle.replay_print.proofs.Lines.{tell_more, tell_end}
use Rattle.replay_print.proofs.put_numbers.Goals as goal

pub loop-n-preserved : goal.loop-n-preserved
loop-n-preserved g c =
    let ns = g.T.RunWord.numbers c.args.numbers.now in
    let long = numbers_length g.met.T.RunWord.of_none g.met.T.RunWord.of_more c.args.numbers.now in
    let inside : c.loop-n.n-index < length ns = omega (arith, long) in
    let here = number_at g.met.T.RunWord.of_none g.met.T.RunWord.of_more c.args.numbers.now c.loop-n.n-index c.n-item.result c.loop-n-test.true in
    tell_more c.loop-n.invariant inside (c.number.ensures ∙ ap g.T.RunWord.number c.n-item.is ∙ here) c.put_numbered-next.ensures.0 c.put_numbered-next.ensures.1

pub returns : goal.returns
returns g c =
    let long = numbers_length g.met.T.RunWord.of_none g.met.T.RunWord.of_more c.args.numbers.now in
    (tell_end c.loop-n.invariant (omega (arith, long)) c.put_line.ensures, omega (arith, long, c.loop-n.invariant.near, c.put_line.ensures.next))
