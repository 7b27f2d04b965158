-- Where an absent animal would go: what was found out, as the outcome of a set, and as a plan; and what the set's do relies on. Assumes nothing.
use Rattle.std.specs.Prelude.{ℕ, ◌+◌, ◌*◌, ◌<◌, ◌≤◌, ◌/◌, ◌^◌, ◌≡◌, true, [], ◌∷◌, ◌++◌, length, take, Result, Ok, Err}
use Rattle.model.specs.Memory.{Mem}
use Rattle.model.specs.Shape.{Ways, right_lengths, shape_of}
use Rattle.model.specs.Stores.{enter}
use Rattle.model.specs.Moves.{as_moves}
use Rattle.model.specs.Answers.{stored}
use Rattle.model.specs.Calls.{Outcome, enter_at, move_blocks, plan_new, refuse, vacant_place}
use Rattle.model.specs.Said.{plan_of, refusal_number}
use Rattle.looking.specs.Look.{HomesIn}
use Rattle.moves.specs.Moves.{MovesIn}
use Rattle.model.specs.declared.Grant.{Grant}
use Rattle.model.specs.declared.Plan.{Plan}
use Rattle.model.specs.declared.Refusal.{Refusal}
use Rattle.hashing.specs.declared.Homes.{Homes}
use Rattle.vacancy.specs.declared.Room.{Room}

-- a new entry of what is granted, with the animal's tag and counter, into the place and behind the moves that were found
abbrev pub entering : Ways → Mem → Grant → Homes → Result Room Refusal → Outcome
entering W m g h (Err e) = refuse (refusal_number e)
entering W m g h (Ok r) =
    record {
      answer = stored r.found.visits r.found.count;
      blocks = move_blocks (shape_of W m) m.slots (as_moves (take r.found.count r.found.moves))
          ++ (enter h.counter r.place r.found.slot (h.tag * 65536 + r.place) g.animal g.permission g.issued ∷ []);
    }

-- set of an absent animal
abbrev pub entering_new : Ways → Mem → Grant → Outcome
entering_new W m g = enter_at (shape_of W m) m g (vacant_place (length m.items / 4) m.items)

-- and as a plan
abbrev pub plan_by : Result Room Refusal → Result Plan Refusal
plan_by (Err e) = Err e
plan_by (Ok r) = Ok (record { moves = r.found.moves; count = r.found.count; place = r.place; slot = r.found.slot })

-- plan of an absent animal
abbrev pub planning_new : Ways → Mem → ℕ → Outcome
planning_new W m x = plan_new (shape_of W m) m x (vacant_place (length m.items / 4) m.items)

-- the lengths are a table's, and the four numbers are those of animal x
pub record Homed (W : Ways) (m : Mem) (x : ℕ) (h : Homes) : Type 0 where
  pub right : right_lengths W m ≡ true
  pub homes_are : HomesIn W m x h

-- what the do relies on: the new word fits 32 bits, and the moves can be made
pub record Enterable (m : Mem) (h : Homes) (r : Room) (shift : ℕ) : Type 0 where
  pub tag_small : h.tag < 256
  pub place_small : r.place < 65536
  pub four : r.found.count ≤ 4
  pub moves_in : MovesIn (length m.slots / 2 ^ shift) (length m.counters) shift (take r.found.count r.found.moves)

-- what the look gives
pub record RoomIs (W : Ways) (m : Mem) (g : Grant) (h : Homes) (r : Result Room Refusal) : Type 0 where
  pub comes : entering W m g h r ≡ entering_new W m g
  pub plans : plan_by r ≡ plan_of (planning_new W m g.animal).answer
  pub able : (shift : ℕ) → shift < 32 → W.ways ≡ 2 ^ shift → (room : Room) → r ≡ Ok room → Enterable m h room shift
