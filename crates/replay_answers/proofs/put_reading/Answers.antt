-- `replay_answers::put_reading` meets its contract. Assumes nothing.
use Rattle.replay_answers.proofs.Laws.{told_fresh}
use borrow.Author.Rules.{rules}
use Rattle.replay_answers.proofs.put_reading.Goals as goal

pub returns-in-Ok-Fresh : goal.returns-in-Ok-Fresh
returns-in-Ok-Fresh g c =
    let fresh = c.in-Ok-Fresh in
    let told = rw fresh.is at fresh.field-0-is in
    (told_fresh _ (search rules) fresh.is told c.put_numbered-behind.ensures.0 c.put_signed_line.ensures.0, search rules)
