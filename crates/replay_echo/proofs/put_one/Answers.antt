-- `replay_echo::put_one` meets its contract. Assumes nothing.
use Rattle.replay_echo.proofs.Filling.{one_number, one_byte}
use Rattle.replay_echo.proofs.put_one.Goals as goal

pub returns-then-is_ascii_uppercase : goal.returns-then-is_ascii_uppercase
returns-then-is_ascii_uppercase c =
    one_number c.args.numbers.now c.args.index c.args.b c.is_ascii_uppercase.ensures.value c.if-is_ascii_uppercase.true c.word_or-n.ensures
    c.put_decimal.ensures.0 c.put_decimal.ensures.1

pub returns : goal.returns
returns c = one_byte c.args.numbers.now c.args.index c.args.b c.is_ascii_uppercase.ensures.value c.if-is_ascii_uppercase.false
