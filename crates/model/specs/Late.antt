-- Wish 1, beyond its words, on any memory: when refusal 11 is given, and that no list lowers a stamp but the mark. Assumes nothing.
use Rattle.std.specs.Prelude.{ℕ, ◌<◌, ◌≤◌, ◌≡◌, ◌≢◌, ◌↔◌, true, false, Some}
use Rattle.model.specs.Memory.{Mem, stamp}
use Rattle.model.specs.Shape.{Ways, right_lengths, shape_of}
use Rattle.model.specs.Calling.{set_animal}
use Rattle.model.specs.Answers.{refused, stored}
use Rattle.model.specs.Age.{no_minute, retired_mark}
use Rattle.model.specs.Calls.{busy, held, home_damage}
use Rattle.model.specs.Lent.{lent_after, lent_call}
use Rattle.model.specs.declared.Grant.{Grant}

module _ (W : Ways) (m : Mem) (g : Grant) where
  -- the turn of 11 comes, and of 12 in a plan or a step: 1, 2, 3, 8 and 4 are not due
  pub record ItsTurn : Type 0 where
    pub lengths : right_lengths W m ≡ true
    pub real : g.animal ≢ 0
    pub timely : g.minute ≢ no_minute
    pub issued : g.issued ≤ g.minute
    pub calm : busy (shape_of W m) m g.animal ≡ false
    pub sound : home_damage (shape_of W m) m g.animal ≡ false

  -- the animal is held in place p, and its entry is not retired
  pub record Dated (p : ℕ) : Type 0 where
    pub held_at : held (shape_of W m) m g.animal ≡ Some p
    pub entry : stamp m.items p ≢ retired_mark

  -- 11 is given exactly if its turn comes and the animal is held with a later stamp, not a retired one
  abbrev pub LateRefused : Type 0
  LateRefused = ((lent_call W m (set_animal g)).answer ≡ refused 11) ↔ (ItsTurn × ((p : ℕ) × Dated p × (g.issued < stamp m.items p)))

  -- a set that is stored over a held animal, not a retired entry, never lowers the stamp
  abbrev pub StampsRise : Type 0
  StampsRise = (p v n : ℕ) → Dated p → (lent_call W m (set_animal g)).answer ≡ stored v n
      → stamp m.items p ≤ stamp (lent_after W m (set_animal g)).items p
