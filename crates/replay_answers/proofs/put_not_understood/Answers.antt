-- `replay_answers::put_not_understood` meets its contract. Assumes nothing.
use native.Mathlib.Omega.{arith}
use mathlib.Core.List.{[], ◌∷◌}
use lib.ListN.{length-append}
use Rattle.replay_answers.proofs.Laws.{put_line_number}
use Rattle.replay_answers.proofs.put_not_understood.Goals as goal

pub returns : goal.returns
returns g c = (search put_line_number, omega (arith, c.put_line.ensures.next, length-append c.words_of.result.now (10 ∷ [])))
