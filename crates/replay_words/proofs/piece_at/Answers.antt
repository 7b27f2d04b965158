-- `replay_words::piece_at` meets its contract. Assumes nothing.
use Rattle.std.proofs.Common.{rules}
use Rattle.replay_words.specs.Words.{is_end}
use Rattle.replay_words.proofs.Scan.{first_behind, piece_ended, piece_last}
use Rattle.replay_words.proofs.piece_at.Goals as goal

pub returns-then-end-text : goal.returns-then-end-text
returns-then-end-text c = piece_ended c.requires (first_behind is_end (search rules) c.count_before.ensures.count) (search rules)

pub returns : goal.returns
returns c = piece_last c.requires (first_behind is_end (search rules) c.count_before.ensures.count) (search rules)
