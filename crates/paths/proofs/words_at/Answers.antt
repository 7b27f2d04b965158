-- `paths::words_at` meets its contract. Assumes nothing.
use Rattle.paths.proofs.Words.{four_words}
use Rattle.paths.proofs.words_at.Goals as goal

pub returns : goal.returns
returns c = search four_words
