-- What is owed of the plain engine: the wish's rule on any items, that it agrees with read, and, beyond the wish, why else the two
-- differ and what fresh means; and wish 4's, how long is left, and wish 6's, what is retired. Assumes nothing.
use Rattle.std.specs.Prelude.{ℕ, ◌/◌, ◌%◌, ◌^◌, ◌<◌, ◌≤◌, ◌≡◌, ◌≢◌, ◌⊎◌, true, false, List, [], ◌∷◌, length, ℤ}
use Rattle.model.specs.Choice.{one_of}
use Rattle.model.specs.Memory.{Mem, animal, permission, stamp}
use Rattle.model.specs.Shape.{Ways, eight, four, good_items, right_lengths, shape_of}
use Rattle.model.specs.Answers.{Answer, absent, fresh, old, refused}
use Rattle.model.specs.Age.{least_left, no_minute, retired_mark}
use Rattle.model.specs.Calling.{read}
use Rattle.model.specs.Lent.{lent_call}
use Rattle.model.specs.Row.{row_says}
use Rattle.model.specs.WellFormed.{WellFormed}
use Rattle.model.specs.AnyTable.{Table}
use Rattle.model.specs.Demands.{Holds, Story, reads, table}
use Rattle.model.specs.Ours.{gate, ours}
use Rattle.model.specs.Left.{TellsTime}
use Rattle.model.specs.Examples.{AllHold}
use Rattle.plain.specs.Plain.{plain_read}
use Rattle.plain.specs.Examples.{plain_examples, side_by_side}

-- in the items l, place p is the first with number x
pub record FirstWith (l : List ℕ) (x p : ℕ) : Type 0 where
  pub inside : p < length l / 4
  pub number : animal l p ≡ x
  pub lowest : (q : ℕ) → q < p → animal l q ≢ x

module _ (l : List ℕ) (x limit now : ℕ) where
  abbrev said : Answer
  said = plain_read l x limit now

  -- 1, 2 and 3 are not due
  pub record Answered : Type 0 where
    pub sized : good_items (length l) ≡ true
    pub real : x ≢ 0
    pub within : limit ≤ 10080
    pub timely : now ≢ no_minute

  -- On any items its answer is fixed by its own walk
  pub record PlainSays : Type 0 where
    -- refusals 1, for the length of the items only, 2 and 3, in their turn, and no other
    pub one : good_items (length l) ≡ false → said ≡ refused 1
    pub two : good_items (length l) ≡ true → x ≡ 0 → said ≡ refused 2
    pub three_limit : good_items (length l) ≡ true → x ≢ 0 → 10080 < limit → said ≡ refused 3
    pub three_now : good_items (length l) ≡ true → x ≢ 0 → now ≡ no_minute → said ≡ refused 3
    pub no_other : (n : ℕ) → said ≡ refused n → one_of n (1 ∷ 2 ∷ 3 ∷ []) ≡ true
    -- else the first place with that number is judged as a row of places judges, its permission modulo 2^32; with no such place it is absent
    pub first : Answered → (p : ℕ) → FirstWith l x p → said ≡ row_says limit now (permission l p % 2 ^ 32) (stamp l p)
    pub nowhere : Answered → ((p : ℕ) → p < length l / 4 → animal l p ≢ x) → said ≡ absent

  -- fresh is said only if some place holds that number, in time, with that permission modulo 2^32 and that time left
  abbrev pub PlainFresh : Type 0
  PlainFresh = (v : ℕ) (z : ℤ) → said ≡ fresh v z → (p : ℕ) × Holds l x limit now v z p

  -- wish 6: where the first place with that number has the mark it is old, overdue by as much as is told
  abbrev pub PlainRetired : Type 0
  PlainRetired = Answered → (p : ℕ) → FirstWith l x p → stamp l p ≡ retired_mark → said ≡ old least_left

module _ (W : Ways) where
  -- on every well-formed memory it says what read says, for every number, limit and minute
  abbrev pub AgreesOn : Mem → Type 0
  AgreesOn m = right_lengths W m ≡ true → WellFormed (shape_of W m) m → (x limit now : ℕ)
      → plain_read m.items x limit now ≡ (lent_call W m (read x limit now)).answer

  -- of a table: on every memory that its finished calls make from fresh it says what the table's read says
  abbrev pub PlainAgrees : Table → Type 0
  PlainAgrees T = (s : Story W) (x limit now : ℕ) → plain_read (table W T s).items x limit now ≡ reads W T (table W T s) x limit now

  module _ (m : Mem) (x limit now : ℕ) where
    abbrev pub read_says : Answer
    read_says = (lent_call W m (read x limit now)).answer

    -- why the two may differ
    pub data Apart : Type 0 where
      -- the items have a good length, and read refuses: busy, damaged, or for the length of the slots or the counters
      refuses : {n : ℕ} → good_items (length m.items) ≡ true → read_says ≡ refused n → one_of n (1 ∷ 8 ∷ 4 ∷ []) ≡ true → Apart
      -- a place has the animal's number, and read has no hit
      unreached : {p : ℕ} → x ≢ 0 → p < length m.items / 4 → animal m.items p ≡ x → read_says ≡ absent → Apart
      -- two places have it
      twins : {p q : ℕ} → x ≢ 0 → p < q → q < length m.items / 4 → animal m.items p ≡ x → animal m.items q ≡ x → Apart

    -- on any memory they say the same, or there is such a reason
    abbrev pub AgreesOrApart : Type 0
    AgreesOrApart = (plain_read m.items x limit now ≡ read_says) ⊎ Apart

-- every statement that is owed; proofs/Theorems has them all
pub record Owed : Type 0 where
  pub says : (l : List ℕ) (x limit now : ℕ) → PlainSays l x limit now
  pub agrees_on : (W : Ways) (m : Mem) → AgreesOn W m
  pub agrees : (W : Ways) → PlainAgrees W (ours W)
  pub gate_agrees : PlainAgrees four gate
  pub eight_agrees : PlainAgrees eight (ours eight)
  -- beyond the wish
  pub agrees_or_apart : (W : Ways) (m : Mem) (x limit now : ℕ) → AgreesOrApart W m x limit now
  pub fresh_anywhere : (l : List ℕ) (x limit now : ℕ) → PlainFresh l x limit now
  -- wish 4: it says fresh exactly if what is left is not negative
  pub fresh_iff_left : (l : List ℕ) (x limit now : ℕ) → TellsTime limit (plain_read l x limit now)
  -- wish 6, on any items
  pub retired_reads : (l : List ℕ) (x limit now : ℕ) → PlainRetired l x limit now
  -- the rows at the wish's edges
  pub all_hold : AllHold plain_examples × AllHold side_by_side
