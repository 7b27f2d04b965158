-- Wish 7: a set in steps, with other calls between. When a move and the final store are made, what a plan is beside a set, and what comes
-- of a plan that is carried out: over any table, but for `PlanIsSets`, which is of ours, and on any memory where no story is named.
-- Assumes nothing.
use Rattle.std.specs.Prelude.{ℕ, ◌+◌, ◌*◌, ◌%◌, ◌^◌, ◌<◌, ◌≤◌, ◌≡◌, ◌≢◌, ◌↔◌, false, List, [], ◌∷◌, ◌++◌, length, get_or, set, Some, None}
use Rattle.model.specs.Memory.{Mem, word, tag, damaged, animal}
use Rattle.model.specs.Shape.{Shape, Ways, Home, bucket, counter_at, counter_of, other, shape_of}
use Rattle.model.specs.Moves.{Move, Run, as_move, as_moves, moved, moved_by, records_of}
use Rattle.model.specs.Calling.{Call, Event, Typed, about, did, plan_set, set_animal, step_enter, step_move}
use Rattle.model.specs.Answers.{Answer, entry_made, move_made, planned, refused, stored}
use Rattle.model.specs.Calls.{enter_block, held, move_blocks}
use Rattle.model.specs.Lent.{lent_call}
use Rattle.model.specs.Late.{ItsTurn}
use Rattle.model.specs.Row.{fill, walk_to}
use Rattle.model.specs.AnyTable.{Table, leaves, left}
use Rattle.model.specs.Demands.{GoodInputs, NoRoom, Opens, Story, places, reads, row, shape_in, table}
use Rattle.model.specs.declared.Grant.{Grant}
use Rattle.model.specs.declared.MoveRecord.{MoveRecord}

module _ (Y : Shape) where
  -- a move may be made in the slots T: both slots lie in the run, the source word is neither free nor damaged, its tag is still the
  -- planned one, the destination word is 0, and the destination lies in the entry's other bucket
  pub record MayMove (T : List ℕ) (v : MoveRecord) : Type 0 where
    pub from_in : v.from < length T
    pub to_in : v.to < length T
    pub occupied : get_or T v.from 0 ≢ 0
    pub sound : damaged Y.places (get_or T v.from 0) ≡ false
    pub same_tag : tag (get_or T v.from 0) ≡ v.tag
    pub free : get_or T v.to 0 ≡ 0
    pub goes : bucket Y v.to ≡ other Y (tag (get_or T v.from 0)) (bucket Y v.from)

  -- the final store of animal x may be made: it is absent, place and slot lie in their runs, the place is vacant, the slot free and in
  -- one of its buckets
  pub record MayEnter (m : Mem) (x p i : ℕ) : Type 0 where
    pub away : held Y m x ≡ None
    pub place_in : p < Y.places
    pub slot_in : i < length m.slots
    pub vacant : animal m.items p ≡ 0
    pub free : word m i ≡ 0
    pub home : Home Y x (bucket Y i)

-- counter c is added to twice
abbrev added : ℕ → List ℕ → List ℕ
added c cs = set cs c ((get_or cs c 0 + 1) % 2 ^ 32)

abbrev pub twice : ℕ → List ℕ → List ℕ
twice c cs = added c (added c cs)

-- what is so of a step of table T on the memory m. Its turn comes where 1, 2, 3, 8 and 4 are not due; before it, it answers as a set of
-- the animal does
module _ (W : Ways) (T : Table) (m : Mem) (g : Grant) where
  -- a move is made exactly if it may be; else, in its turn, it is 12. A move that is made takes the word along and adds twice to the
  -- counter of the entry, and no item word changes
  module _ (v : MoveRecord) where
    pub record MoveMadeIff : Type 0 where
      pub before_turn : ¬ ItsTurn W m g → T.answer m (did (step_move g v)) ≡ T.answer m (did (set_animal g))
      pub iff : (T.answer m (did (step_move g v)) ≡ move_made) ↔ (ItsTurn W m g × MayMove (shape_of W m) m.slots v)
      pub else_twelve : ItsTurn W m g → ¬ MayMove (shape_of W m) m.slots v → T.answer m (did (step_move g v)) ≡ refused 12
      pub slots_are : T.answer m (did (step_move g v)) ≡ move_made → (leaves T m (did (step_move g v))).slots ≡ moved m.slots (as_move v)
      pub counters_are : T.answer m (did (step_move g v)) ≡ move_made → (leaves T m (did (step_move g v))).counters
          ≡ twice (counter_at (shape_of W m) (tag (word m v.from)) (bucket (shape_of W m) v.from)) m.counters
      pub items_are : (leaves T m (did (step_move g v))).items ≡ m.items

  -- and so is the final store: then the slot leads to the place, the animal's counter is added to twice, and the place is filled
  module _ (p i : ℕ) where
    pub record EnterMadeIff : Type 0 where
      pub before_turn : ¬ ItsTurn W m g → T.answer m (did (step_enter g p i)) ≡ T.answer m (did (set_animal g))
      pub iff : (T.answer m (did (step_enter g p i)) ≡ entry_made) ↔ (ItsTurn W m g × MayEnter (shape_of W m) m g.animal p i)
      pub else_twelve : ItsTurn W m g → ¬ MayEnter (shape_of W m) m g.animal p i → T.answer m (did (step_enter g p i)) ≡ refused 12
      pub slots_are : T.answer m (did (step_enter g p i)) ≡ entry_made
          → (leaves T m (did (step_enter g p i))).slots ≡ set m.slots i ((shape_of W m).tag_of g.animal * 65536 + p)
      pub counters_are : T.answer m (did (step_enter g p i)) ≡ entry_made
          → (leaves T m (did (step_enter g p i))).counters ≡ twice (counter_of (shape_of W m) g.animal) m.counters
      pub items_are : T.answer m (did (step_enter g p i)) ≡ entry_made
          → (leaves T m (did (step_enter g p i))).items ≡ fill m.items p g.animal g.permission g.issued 1

-- the rule of the steps, of any table: one that answers 12 to every step breaks it, one that answers it too early, one that says of a
-- move that it was made and moves nothing, and one whose moves do not count
pub record StepRule (W : Ways) (T : Table) : Type 0 where
  pub moves : (m : Mem) (g : Grant) (v : MoveRecord) → MoveMadeIff W T m g v
  pub enters : (m : Mem) (g : Grant) (p i : ℕ) → EnterMadeIff W T m g p i

-- plan beside set, on the memory m
module _ (W : Ways) (m : Mem) (g : Grant) where
  abbrev pub plan_answer : Answer
  plan_answer = (lent_call W m (plan_set g)).answer

  abbrev pub set_answer : Answer
  set_answer = (lent_call W m (set_animal g)).answer

  -- the moves, the place and the slot are those of the set, which has as many moves; each record has the tag that stands in its source
  pub record SetsOwn (vs : List MoveRecord) (p i : ℕ) : Type 0 where
    pub away : held (shape_of W m) m g.animal ≡ None
    pub visits : ℕ
    pub told : set_answer ≡ stored visits (length vs)
    pub blocks_are : (lent_call W m (set_animal g)).blocks
        ≡ move_blocks (shape_of W m) m.slots (as_moves vs) ++ (enter_block (shape_of W m) g p i ∷ [])
    pub tags_are : vs ≡ records_of m.slots (as_moves vs)

  -- 1, 2, 3, 8 and 4 come first, as in set; then any held animal is 12. Of one that is not held both refuse alike, and where one plans the
  -- other stores
  pub record PlanIsSets : Type 0 where
    pub before_turn : ¬ ItsTurn W m g → plan_answer ≡ set_answer
    pub twelve : (plan_answer ≡ refused 12) ↔ (ItsTurn W m g × ((p : ℕ) × (held (shape_of W m) m g.animal ≡ Some p)))
    pub refuses : held (shape_of W m) m g.animal ≡ None → (n : ℕ) → (plan_answer ≡ refused n) ↔ (set_answer ≡ refused n)
    pub stores : held (shape_of W m) m g.animal ≡ None → (v n : ℕ) → set_answer ≡ stored v n
        → (vs : List MoveRecord) × (p i : ℕ) × (plan_answer ≡ planned vs p i)
    pub plans : (vs : List MoveRecord) (p i : ℕ) → plan_answer ≡ planned vs p i → SetsOwn vs p i

-- the steps of a plan: its moves in order, then the final store
abbrev pub steps : Grant → List MoveRecord → ℕ → ℕ → List Event
steps g [] p i = did (step_enter g p i) ∷ []
steps g (v ∷ vs) p i = did (step_move g v) ∷ steps g vs p i

module _ (T : Table) where
  -- planning writes no word
  abbrev pub PlanQuiet : Type 0
  PlanQuiet = (m : Mem) (g : Grant) → T.writes m (did (plan_set g)) ≡ []

  -- the steps of a plan are each made
  abbrev pub AllMade : Mem → Grant → List MoveRecord → ℕ → ℕ → Type 0
  AllMade m g [] p i = T.answer m (did (step_enter g p i)) ≡ entry_made
  AllMade m g (v ∷ vs) p i =
      (T.answer m (did (step_move g v)) ≡ move_made) × AllMade (leaves T m (did (step_move g v))) g vs p i

  -- a plan that is carried out step by step, without calls between, leaves what the set leaves, word for word
  abbrev pub StepsAreSet : Type 0
  StepsAreSet = (m : Mem) (g : Grant) (vs : List MoveRecord) (p i : ℕ) → T.answer m (did (plan_set g)) ≡ planned vs p i
      → AllMade m g vs p i × (left T m (steps g vs p i) ≡ leaves T m (did (set_animal g)))

-- demand 3's words for a plan: what is said of its answer a, in the slots T and for an animal x
module _ (Y : Shape) (T : List ℕ) (x : ℕ) where
  pub record PlanRoomy (a : Answer) : Type 0 where
    pub six : (a ≡ refused 6) ↔ NoRoom Y T x
    pub else_plans : ¬ NoRoom Y T x → (vs : List MoveRecord) × (p i : ℕ) × (a ≡ planned vs p i)
    -- the moves are legal one after the other, no more than so many, and then the slot is free and in a home bucket
    pub run : (vs : List MoveRecord) (p i : ℕ) → a ≡ planned vs p i → Run Y.layout T (as_moves vs)
    pub few : (vs : List MoveRecord) (p i : ℕ) → a ≡ planned vs p i → length vs ≤ Y.reach
    pub inside : (vs : List MoveRecord) (p i : ℕ) → a ≡ planned vs p i → i < length T
    pub free : (vs : List MoveRecord) (p i : ℕ) → a ≡ planned vs p i → get_or (moved_by T (as_moves vs)) i 0 ≡ 0
    pub home : (vs : List MoveRecord) (p i : ℕ) → a ≡ planned vs p i → Home Y x (bucket Y i)
    -- and no shorter sequence would do
    pub fewest : (vs : List MoveRecord) (p i : ℕ) → a ≡ planned vs p i → (ms : List Move) → Opens Y T x ms → length vs ≤ length ms

module _ (W : Ways) (T : Table) where
  -- at the moment of planning, on a table made by finished calls, for an absent animal, a vacant place and good inputs
  abbrev pub PlanRoom : Type 0
  PlanRoom = (s : Story W) (g : Grant) → GoodInputs g
      → walk_to (row W T s) g.animal (places W s) 0 ≡ None → (p : ℕ) → walk_to (row W T s) 0 (places W s) 0 ≡ Some p
      → PlanRoomy (shape_in W s) (table W T s).slots g.animal (T.answer (table W T s) (did (plan_set g)))

  -- a finished call keeps the answer of every animal that it is not about; a move is about nobody
  abbrev pub OthersKept : Type 0
  OthersKept = (s : Story W) (c : Call) → Typed c → (y limit now : ℕ) → y ≢ about c (T.answer (table W T s) (did c))
      → reads W T (leaves T (table W T s) (did c)) y limit now ≡ reads W T (table W T s) y limit now
