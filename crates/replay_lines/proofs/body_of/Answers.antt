-- `replay_lines::body_of` meets its contract. Assumes nothing.
use Rattle.replay_lines.proofs.Rows.{body_is, body_rest}
use Rattle.replay_lines.proofs.body_of.Goals as goal

pub returns : goal.returns
returns c =
    body_is c.args.line.now (body_rest c.args.line c.strip_suffix.result _ c.strip_suffix.ensures.cases c.unwrap_or-rest.ensures) c.comment_start.ensures
