-- What the search gives back: room, with the moves back from a position of its queue. Assumes nothing.
use Rattle.std.specs.Prelude.{ℕ, ◌+◌, ◌*◌, ◌<◌, ◌≤◌, List, length, get_or}
use Rattle.model.specs.Shape.{Ways}
use Rattle.model.specs.Moves.{Move, four_records, records_of}
use Rattle.model.specs.Visits.{climb, lands}
use Rattle.model.specs.declared.MoveRecord.{MoveRecord}
use Rattle.paths.specs.declared.Found.{Found}
use Rattle.paths.specs.Buckets.{layout_of}

-- the four records of a path: its moves in the slots T, and then empty ones
abbrev pub path_records : List ℕ → List Move → List MoveRecord
path_records T ms = four_records (records_of T ms)

-- room at position v of the visit list, where slot i is free and ms are the moves back from it
abbrev pub room_at : List ℕ → ℕ → ℕ → List Move → Found
room_at T v i ms = record { visits = v + 1; count = length ms; moves = path_records T ms; slot = lands i ms }

-- room in slot s of the bucket at position v of the list Q: the same for any number n of buckets
abbrev pub room_from : Ways → ℕ → List ℕ → List ℕ → ℕ → ℕ → Found
room_from W n T Q v s = room_at T v (get_or Q v 0 * W.ways + s) (climb (layout_of W n) Q 2 W.reach v s)

-- the moves back from slot s of position v can be made out: the buckets of the queue up to there lie in the slots T
pub record BackFrom (T Q : List ℕ) (v s : ℕ) : Type 0 where
  pub early : v < 682
  pub slot : s < 4
  pub within : (p : ℕ) → p ≤ v → get_or Q p 0 * 4 + 4 ≤ length T
