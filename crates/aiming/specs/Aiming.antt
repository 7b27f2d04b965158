-- What evict's look has found out, as an outcome; and what its steps take. Assumes nothing.
use Rattle.std.specs.Prelude.{ℕ, ◌+◌, ◌*◌, ◌<◌, ◌≤◌, ◌-◌, ◌%◌, ◌/◌, min, ◌≡◌, true, List, [], ◌∷◌, ◌++◌, length, Some, Result, Ok, Err}
use Rattle.model.specs.Memory.{Mem}
use Rattle.model.specs.Shape.{Ways, right_lengths, shape_of}
use Rattle.model.specs.Stores.{remove}
use Rattle.model.specs.Answers.{evicted}
use Rattle.model.specs.Calling.{evict}
use Rattle.model.specs.Clock.{passed_recent}
use Rattle.model.specs.Calls.{Outcome, clear_blocks, evict_at, refuse}
use Rattle.model.specs.Lent.{lent_call}
use Rattle.model.specs.Said.{refusal_number}
use Rattle.model.specs.declared.Refusal.{Refusal}
use Rattle.aiming.specs.declared.Target.{Target}

-- what the look gives: a refusal, or whom evict is to take
abbrev pub Aim : Type 0
Aim = Result Target Refusal

-- how many places the lent memory has
abbrev pub places_in : Mem → ℕ
places_in m = length m.items / 4

-- the places whose recent words are cleared on the way to a target
abbrev pub passed_by : Mem → ℕ → Target → List ℕ
passed_by m hand t = passed_recent (places_in m) m.items (min (t.looked - 1) (places_in m)) hand

-- the clears, and then the target goes
abbrev pub aiming : Mem → ℕ → Aim → Outcome
aiming m hand (Err r) = refuse (refusal_number r)
aiming m hand (Ok t) =
    record {
      answer = evicted t.animal t.looked ((t.place + 1) % places_in m);
      blocks = clear_blocks (passed_by m hand t) ++ (remove t.counter t.slot t.place ∷ []);
    }

-- what the do relies on: places lie in the run
pub record Ready (m : Mem) (hand : ℕ) (t : Target) : Type 0 where
  pub four_each : length m.items ≡ 4 * places_in m
  pub hand_below : hand < places_in m
  pub place_below : t.place < places_in m
  pub looked_some : 1 ≤ t.looked

abbrev pub Readies : Mem → ℕ → Aim → Type 0
Readies m hand (Err r) = Unit {0}
Readies m hand (Ok t) = Ready m hand t

-- an aim at the victim in place p, found after n places
abbrev pub Aims : ℕ → ℕ → Aim → Type 0
Aims p n (Err r) = Unit {0}
Aims p n (Ok t) = (t.place ≡ p) × (t.looked ≡ n)

module _ (W : Ways) where
  -- the lengths are good, and p is a place
  pub record Aimed (m : Mem) (p : ℕ) : Type 0 where
    pub lengths : right_lengths W m ≡ true
    pub few : places_in m ≤ 4096
    pub below : p < places_in m

  pub record AimsAt (m : Mem) (p n : ℕ) (r : Aim) : Type 0 where
    pub comes : (hand : ℕ) → aiming m hand r ≡ evict_at (shape_of W m) m hand (Some (record { place = p; looked = n }))
    pub aims : Aims p n r

  -- the lengths are good, and the hand is at a place
  pub record Handed (m : Mem) (hand : ℕ) : Type 0 where
    pub lengths : right_lengths W m ≡ true
    pub few : places_in m ≤ 4096
    pub four_each : length m.items ≡ 4 * places_in m
    pub below : hand < places_in m

  -- an aim for the whole call
  pub record Turns (m : Mem) (hand : ℕ) (r : Aim) : Type 0 where
    pub comes : aiming m hand r ≡ lent_call W m (evict hand)
    pub readies : Readies m hand r
