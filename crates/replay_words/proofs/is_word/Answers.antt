-- `replay_words::is_word` meets its contract. Assumes nothing.
use Rattle.std.proofs.Common.{◌∙◌}
use Rattle.replay_words.proofs.OneWord.{same_bytes}
use Rattle.replay_words.proofs.is_word.Goals as goal

pub returns : goal.returns
returns c = c.eq.ensures ∙ same_bytes c.args.word.now c.args.name.now
