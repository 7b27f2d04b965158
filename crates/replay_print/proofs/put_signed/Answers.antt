-- `replay_print::put_signed` meets its contract. Assumes nothing.
use Rattle.replay_print.proofs.Signed.{put_negative, put_whole}
use borrow.Author.Rules.{rules}
use Rattle.replay_print.proofs.put_signed.Goals as goal

pub returns-then-z-lt0 : goal.returns-then-z-lt0
returns-then-z-lt0 c =
    (put_negative c.args.z c.ranges.z c.if-z-lt0.true c.unsigned_abs-size.ensures.value c.put_bytes-behind.ensures c.put_decimal.ensures.0, search rules)

pub returns : goal.returns
returns c = (put_whole c.args.z c.ranges.z c.if-z-lt0.false c.unsigned_abs-size.ensures.value c.put_decimal-2.ensures.0, search rules)
