-- `replay_answers::put_listed` meets its contract. Assumes nothing.
use native.Mathlib.Nat.{le_of_eq}
use native.Mathlib.Omega.{arith}
use Rattle.buffer.proofs.Putting.{put_both}
use Rattle.replay_answers.proofs.Laws.{front}
use borrow.Author.Rules.{rules}
use Rattle.replay_answers.proofs.put_listed.Goals as goal

pub slice_bounds-put_records-end : goal.slice_bounds-put_records-end
slice_bounds-put_records-end c = front _ _ (omega arith)

pub put_records-requires : goal.put_records-requires
put_records-requires c = record { n_in_bounds = search (le_of_eq, front); n_in_bounds_2 = search rules }

pub returns : goal.returns
returns c = (search put_both, search rules)
