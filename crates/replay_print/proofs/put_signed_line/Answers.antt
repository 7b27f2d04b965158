-- `replay_print::put_signed_line` meets its contract. Assumes nothing.
use Rattle.replay_print.proofs.Signed.{put_signed_words}
use borrow.Author.Rules.{rules}
use Rattle.replay_print.proofs.put_signed_line.Goals as goal

pub returns : goal.returns
returns c = (search put_signed_words, search rules)
