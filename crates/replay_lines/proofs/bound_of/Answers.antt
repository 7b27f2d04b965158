-- `replay_lines::bound_of` meets its contract. Assumes nothing.
use Rattle.replay_lines.proofs.Fitting.{bound_number, bound_permission, bound_buffer, bound_none}
use Rattle.replay_lines.proofs.bound_of.Goals as goal

pub returns-then-is_word : goal.returns-then-is_word
returns-then-is_word c = search bound_number

pub returns-then-is_word-2 : goal.returns-then-is_word-2
returns-then-is_word-2 c = search bound_permission

pub returns-then-is_word-3 : goal.returns-then-is_word-3
returns-then-is_word-3 c = search bound_buffer

pub returns : goal.returns
returns c = search bound_none
