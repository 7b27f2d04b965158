-- Wish 2: the plain engine, a reader that knows no hashing. It walks the places in order and answers from the item words alone.
-- Assumes nothing.
use Rattle.std.specs.Prelude.{ℕ, ◌/◌, List, length, eqb}
use Rattle.model.specs.Choice.{choose}
use Rattle.model.specs.Shape.{good_items}
use Rattle.model.specs.Answers.{Answer, refused}
use Rattle.model.specs.Age.{bad_time, judge}
use Rattle.model.specs.Row.{walk_to}

-- refusal 1 for the length of the items, 2 for number 0, 3 for a bad time; else the first place with that number, judged as a read's hit
unfoldable pub plain_read : List ℕ → ℕ → ℕ → ℕ → Answer
plain_read l x limit now =
    choose (good_items (length l))
    (choose (eqb x 0) (refused 2) (choose (bad_time limit now) (refused 3) (judge l limit now (walk_to l x (length l / 4) 0))))
    (refused 1)
