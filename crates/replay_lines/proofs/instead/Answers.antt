-- `replay_lines::instead` meets its contract. Assumes nothing.
use Rattle.replay_lines.proofs.Reasons.{instead_large, instead_word, instead_name}
use Rattle.replay_lines.proofs.instead.Goals as goal
use Rattle.replay_lines.proofs.instead.Goals.{else-is_some-via-then-is_some+else-all_digits, else-is_some-via-else-is_some}

pub returns-then-all_digits : goal.returns-then-all_digits
returns-then-all_digits c = instead_large c.args.word.now c.all_digits.ensures c.args.bound c.if-is_some.ensures c.if-all_digits.true

pub returns : goal.returns
returns c =
    elim c.else-is_some.branch [
      | else-is_some-via-then-is_some+else-all_digits w ↦ instead_word c.args.word.now w.all_digits.ensures c.args.bound w.if-all_digits.false
      | else-is_some-via-else-is_some w ↦ instead_name c.args.word.now c.args.bound w.if-is_some.ensures
    ]
