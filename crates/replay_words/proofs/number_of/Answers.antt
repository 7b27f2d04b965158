-- `replay_words::number_of` meets its contract: what is still to be read from here comes to the number. Assumes nothing.
use Rattle.std.proofs.Common.{◌∙◌, arith}
use borrow.Author.Tests.{true-eqb, false-eqb}
use Rattle.replay_words.proofs.OneWord.{read_none, read_first, read_other, read_over, read_more, read_end}
use Rattle.replay_words.proofs.number_of.Goals as goal

pub returns-then-is_empty : goal.returns-then-is_empty
returns-then-is_empty c = read_none c.args.top c.args.word.now (true-eqb _ _ c.if-is_empty.ensures)

pub loop-b-init : goal.loop-b-init
loop-b-init c = read_first c.args.top c.args.word.now (false-eqb _ _ c.if-is_empty.ensures)

pub returns-then-not-is_ascii_digit : goal.returns-then-not-is_ascii_digit
returns-then-not-is_ascii_digit c = read_other c.loop-b.invariant c.loop-b-test.true c.if-not-is_ascii_digit.ensures.value

pub returns-in_err-checked_mul : goal.returns-in_err-checked_mul
returns-in_err-checked_mul c =
    c.from_residual.ensures
    ∙ read_over c.loop-b.invariant c.loop-b-test.true c.if-not-is_ascii_digit.ensures.value (omega (arith, c.in_err-checked_mul.ensures))

pub returns-in_err-v : goal.returns-in_err-v
returns-in_err-v c =
    c.from_residual-in_err-v.ensures
    ∙ read_over c.loop-b.invariant c.loop-b-test.true c.if-not-is_ascii_digit.ensures.value
    (omega (arith, c.in_ok-checked_mul.ensures, c.from-d.ensures, c.in_err-v.ensures))

pub returns-then-top-v : goal.returns-then-top-v
returns-then-top-v c =
    read_over c.loop-b.invariant c.loop-b-test.true c.if-not-is_ascii_digit.ensures.value
    (omega (arith, c.in_ok-checked_mul.ensures, c.from-d.ensures, c.in_ok-v.ensures))

pub loop-b-preserved : goal.loop-b-preserved
loop-b-preserved c =
    read_more c.loop-b.invariant c.loop-b-test.true c.if-not-is_ascii_digit.ensures.value
    (omega (arith, c.in_ok-checked_mul.ensures, c.from-d.ensures, c.in_ok-v.ensures)) c.if-top-v.false

pub returns : goal.returns
returns c = read_end c.loop-b.invariant c.loop-b-test.false
