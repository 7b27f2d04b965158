-- What is known when the turn of 5 and of 6 comes. Assumes nothing.
use Rattle.std.specs.Prelude.{◌/◌, ◌≡◌, true, length, None}
use Rattle.model.specs.Choice.{first, range}
use Rattle.model.specs.Memory.{Mem}
use Rattle.model.specs.Shape.{four, right_lengths, shape_of}
use Rattle.judgement.specs.Conditions.{is_stray, is_unsought}

-- conditions 1 and 4 hold
pub record Aimed (m : Mem) : Type 0 where
  pub right : right_lengths four m ≡ true
  pub aimed : first (is_stray (shape_of four m) m) (range 0 (length m.slots)) ≡ None

-- and 5
pub record Sought (m : Mem) : Type 0 where
  pub aims : Aimed m
  pub sought : first (is_unsought (shape_of four m) m) (range 0 (length m.items / 4)) ≡ None
