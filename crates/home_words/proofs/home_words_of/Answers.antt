-- `home_words::home_words_of` meets its contract. Assumes nothing.
use Rattle.home_words.proofs.Words.{by_words}
use Rattle.home_words.proofs.home_words_of.Goals as goal

pub returns : goal.returns
returns c = search by_words
