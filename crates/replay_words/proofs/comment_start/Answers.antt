-- `replay_words::comment_start` meets its contract. Assumes nothing.
use Rattle.replay_words.specs.Words.{is_comment}
use Rattle.replay_words.proofs.Scan.{first_there}
use Rattle.replay_words.proofs.comment_start.Goals as goal

pub returns : goal.returns
returns c = first_there is_comment c.count_before.ensures.count
