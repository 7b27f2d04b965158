-- Wish 6: entries that hold the mark of a standing permission, as a cabinet brings them from before. On any memory they read as old,
-- serve makes no store for them, and a list replaces them; from fresh on there are none. Assumes nothing.
use Rattle.std.specs.Prelude.{ℕ, ◌^◌, ◌<◌, ◌≤◌, ◌≡◌, ◌≢◌, ◌⊎◌, true, false, Some}
use mathlib.Core.List.{List, [], Memᴰ as In}
use Rattle.model.specs.Memory.{Mem, animal, stamp}
use Rattle.model.specs.Shape.{Ways, right_lengths, shape_of}
use Rattle.model.specs.Calling.{Event, did, read, serve, set_animal, step_enter}
use Rattle.model.specs.Answers.{old, stored}
use Rattle.model.specs.Age.{least_left, no_minute, retired_mark}
use Rattle.model.specs.Calls.{busy, held, home_damage}
use Rattle.model.specs.Row.{renew, row_says}
use Rattle.model.specs.WellFormed.{Live, WellFormed}
use Rattle.model.specs.AnyTable.{Table, leaves}
use Rattle.model.specs.Demands.{GoodInputs, Story, reads, table}
use Rattle.model.specs.declared.Grant.{Grant}

-- what a set or a final store among some calls brings
abbrev pub Brings : Grant → List Event → Type 0
Brings g es = In (did (set_animal g)) es ⊎ ((p i : ℕ) × In (did (step_enter g p i)) es)

-- a minute that a caller can pass
abbrev pub MinuteFits : Grant → Type 0
MinuteFits g = g.minute < 2 ^ 64

module _ (W : Ways) where
  -- place p holds animal x with the mark, and 1, 2, 8 and 4 are not due
  pub record RetiredAt (m : Mem) (x p : ℕ) : Type 0 where
    pub lengths : right_lengths W m ≡ true
    pub real : x ≢ 0
    pub calm : busy (shape_of W m) m x ≡ false
    pub sound : home_damage (shape_of W m) m x ≡ false
    pub held_at : held (shape_of W m) m x ≡ Some p
    pub marked : stamp m.items p ≡ retired_mark

  -- on a well-formed memory every live place with the mark is one
  abbrev pub RetiredHeld : Type 0
  RetiredHeld = (m : Mem) (p : ℕ) → right_lengths W m ≡ true → WellFormed (shape_of W m) m → Live m.items p → stamp m.items p ≡ retired_mark
      → RetiredAt m (animal m.items p) p

  -- what is so of a table T on every such memory; the limit and the minute are any that 3 does not refuse
  module _ (T : Table) where
    -- read and serve say old, overdue by as much as is told
    abbrev pub RetiredReads : Type 0
    RetiredReads = (m : Mem) (x p : ℕ) → RetiredAt m x p → (limit now : ℕ) → limit ≤ 10080 → now ≢ no_minute
        → (T.answer m (did (read x limit now)) ≡ old least_left) × (T.answer m (did (serve x limit now)) ≡ old least_left)

    -- serve writes no word, so it does not make it recent
    abbrev pub RetiredUnserved : Type 0
    RetiredUnserved = (m : Mem) (x p : ℕ) → RetiredAt m x p → (limit now : ℕ) → T.writes m (did (serve x limit now)) ≡ []

    -- a set with good minutes, whatever they are, is stored, without a search; its words replace those of the place, and no slot changes
    abbrev pub RetiredReplaced : Type 0
    RetiredReplaced = (m : Mem) (g : Grant) (p : ℕ) → RetiredAt m g.animal p → g.minute ≢ no_minute → g.issued ≤ g.minute
        → (T.answer m (did (set_animal g)) ≡ stored 0 0)
        × ((leaves T m (did (set_animal g))).items ≡ renew m.items p g.permission g.issued)
        × ((leaves T m (did (set_animal g))).slots ≡ m.slots)

    -- from then on, on a well-formed memory, a read judges it by its minute of issue
    abbrev pub RetiredThenDated : Type 0
    RetiredThenDated = (m : Mem) (g : Grant) (p : ℕ) → WellFormed (shape_of W m) m → RetiredAt m g.animal p → GoodInputs g
        → (limit now : ℕ) → limit ≤ 10080 → now ≢ no_minute
        → reads W T (leaves T m (did (set_animal g))) g.animal limit now ≡ row_says limit now g.permission g.issued

    -- from fresh on no place has the mark, as long as the minutes fit their word
    abbrev pub NoneRetired : Type 0
    NoneRetired = (s : Story W) → ((g : Grant) → Brings g s.calls → MinuteFits g)
        → (p : ℕ) → stamp (table W T s).items p ≢ retired_mark
