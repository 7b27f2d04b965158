-- `replay_echo::put_echo` meets its contract. Assumes nothing.
use Rattle.std.proofs.Common.{ap, arith, length, rules}
use borrow.Author.Tests.{true-eqb, false-eqb}
use Rattle.replay_echo.proofs.Filling.{echo_nothing, echo_call, row_short}
use Rattle.replay_echo.proofs.put_echo.Goals as goal

pub returns-then-is_empty : goal.returns-then-is_empty
returns-then-is_empty c =
    (echo_nothing c.args.number c.args.numbers.now c.row_at-call.ensures (true-eqb _ _ c.if-is_empty.ensures), search rules)

pub put_call-behind_call-requires : goal.put_call-behind_call-requires
put_call-behind_call-requires c = omega (arith, row_short c.args.rows.now c.args.row, ap length c.row_at-call.ensures, c.put_bytes-behind_colon.ensures.next, c.put_decimal-behind_number.ensures.1)

pub put_bytes-requires : goal.put_bytes-requires
put_bytes-requires c =
    omega (
      arith,
      row_short c.args.rows.now c.args.row,
      ap length c.row_at-call.ensures,
      c.put_bytes-behind_colon.ensures.next,
      c.put_decimal-behind_number.ensures.1,
      c.put_call-behind_call.ensures.1,
    )

pub returns : goal.returns
returns c = (
  echo_call c.args.number c.args.numbers.now c.row_at-call.ensures (false-eqb _ _ c.if-is_empty.ensures) c.put_decimal-behind_number.ensures.0
      c.put_bytes-behind_colon.ensures c.put_call-behind_call.ensures.0 c.put_bytes.ensures,
  omega (
    arith,
    row_short c.args.rows.now c.args.row,
    ap length c.row_at-call.ensures,
    c.put_bytes-behind_colon.ensures.next,
    c.put_decimal-behind_number.ensures.1,
    c.put_call-behind_call.ensures.1,
    c.put_bytes.ensures.next,
  ),
)
