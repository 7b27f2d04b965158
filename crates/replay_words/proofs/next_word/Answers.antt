-- `replay_words::next_word` meets its contract. Assumes nothing.
use Rattle.std.proofs.Common.{rules}
use Rattle.replay_words.specs.Words.{is_gap}
use Rattle.replay_words.proofs.Scan.{first_behind, first_in_word, by_word}
use Rattle.replay_words.proofs.next_word.Goals as goal

pub returns : goal.returns
returns c = by_word (first_in_word c.requires c.word_start.ensures.count) (first_behind is_gap (search rules) c.word_end.ensures.count)
