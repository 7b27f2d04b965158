-- a row's number follows what its row follows. Assumes nothing.
use Rattle.replay_rows.proofs.Past.{told_past}
use borrow.Author.Rules.{rules}
use Rattle.replay_rows.proofs.UsizeFollowed.row.Goals as goal

pub returns-in-Err-clause-meant : goal.returns-in-Err-clause-meant
returns-in-Err-clause-meant c n w = told_past _ n c.args.numbers.now w (search rules) (search rules)
