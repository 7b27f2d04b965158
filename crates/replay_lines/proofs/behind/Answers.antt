-- `replay_lines::behind` meets its contract. Assumes nothing.
use Rattle.replay_lines.proofs.Reasons.{behind_number, behind_word}
use Rattle.replay_lines.proofs.behind.Goals as goal

pub returns-then-all_digits : goal.returns-then-all_digits
returns-then-all_digits c = search behind_number

pub returns : goal.returns
returns c = search behind_word
