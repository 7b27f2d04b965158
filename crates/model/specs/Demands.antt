-- The three demands, over any table; and, beyond the order, that no entry is ever lost and that age runs from issue. Assumes nothing.
use Rattle.std.specs.Prelude.{ℕ, ◌+◌, ◌-◌, ◌*◌, ◌/◌, ◌^◌, ◌<◌, ◌≤◌, ◌%◌, ◌≡◌, ◌≢◌, ◌↔◌, ◌⊎◌, true, false, length, get_or, set, ℤ, pos, Some, None}
use mathlib.Core.List.{List, [], ◌∷◌, Memᴰ as In}
use Rattle.model.specs.Memory.{Mem, animal, permission, stamp}
use Rattle.model.specs.Shape.{Shape, pair, second_of, bucket, Home, homes, right_lengths, shape_of, Ways}
use Rattle.model.specs.Moves.{Move, moved_by, Free, Run}
use Rattle.model.specs.Visits.{sum_of_powers, visit_list}
use Rattle.model.specs.Calling.{Call, read, serve, set_animal, Event, make_fresh, did, Typed, AllTyped, about, gone, HasCut}
use Rattle.model.specs.Answers.{Answer, refused, fresh, stored, started, Listed}
use Rattle.model.specs.Age.{no_minute}
use Rattle.model.specs.Calls.{hits}
use Rattle.model.specs.Row.{walk_to, row_event, row_late, row_says, plain, beyond}
use Rattle.model.specs.declared.Grant.{Grant}
use Rattle.model.specs.AnyTable.{Table, leaves, cut_at, left, beside}

-- Demand 1. Every call ends, on any numbers and any memory contents, and asks nothing of its caller: that is what a table is. A refusal
-- is one number of the list, document 01's, 11 or 12, and changes no word, whole or cut
pub record Demand1 (T : Table) : Type 0 where
  pub listed : (m : Mem) (e : Event) (n : ℕ) → T.answer m e ≡ refused n → Listed n
  pub unchanged : (m : Mem) (e : Event) (n : ℕ) → T.answer m e ≡ refused n → leaves T m e ≡ m
  pub uncut : (m : Mem) (e : Event) (n : ℕ) → T.answer m e ≡ refused n → (k : ℕ) → cut_at T k m e ≡ m

-- a stamp s is within the age limit, and z, which is left, is the limit minus the age
abbrev pub InTime : ℕ → ℕ → ℤ → ℕ → Type 0
InTime limit now z s = (s ≤ now) × (now - s ≤ limit) × (z ≡ pos (limit - (now - s)))

-- in the row l, place p holds animal x with permission v, within the age limit, with z minutes left
pub record Allowed (l : List ℕ) (x limit now v : ℕ) (z : ℤ) (p : ℕ) : Type 0 where
  pub real : x ≢ 0
  pub animal_is : animal l p ≡ x
  pub permission_is : permission l p ≡ v
  pub in_time : InTime limit now z (stamp l p)

-- in any item words l, place p holds animal x with permission v modulo 2^32, within the age limit, with z minutes left
pub record Holds (l : List ℕ) (x limit now v : ℕ) (z : ℤ) (p : ℕ) : Type 0 where
  pub real : x ≢ 0
  pub inside : 4 * p < length l
  pub animal_is : animal l p ≡ x
  pub permission_is : permission l p % 2 ^ 32 ≡ v
  pub in_time : InTime limit now z (stamp l p)

-- Fresh anywhere, beyond the order: on any lent memory, a damaged cabinet's too, fresh is said only of such a place
abbrev pub FreshAnywhere : Table → Type 0
FreshAnywhere T = (m : Mem) (x limit now v : ℕ) (z : ℤ)
    → (T.answer m (did (read x limit now)) ≡ fresh v z) ⊎ (T.answer m (did (serve x limit now)) ≡ fresh v z)
    → (p : ℕ) × Holds m.items x limit now v z p

-- good inputs of a set: what a caller can pass and neither refusal 2 nor 3 refuses
pub record GoodInputs (g : Grant) : Type 0 where
  pub typed : g.permission < 2 ^ 32
  pub real : g.animal ≢ 0
  pub timely : g.minute ≢ no_minute
  pub issued : g.issued ≤ g.minute

-- what demand 3 says of the slots T of a shape and of an animal x
module _ (Y : Shape) (T : List ℕ) (x : ℕ) where
  -- legal moves, one after the other, that leave a free slot in one of the animal's two buckets
  abbrev pub Opens : List Move → Type 0
  Opens ms = Run Y.layout T ms
      × (Free Y.layout (moved_by T ms) (Y.first_of x) ⊎ Free Y.layout (moved_by T ms) (second_of Y x))

  -- no sequence of at most so many legal moves does
  abbrev pub NoRoom : Type 0
  NoRoom = (ms : List Move) → length ms ≤ Y.reach → ¬ Opens ms

  -- the slots T' are T after n legal moves and one more word, in a free slot of one of the two buckets
  pub record Entered (T' : List ℕ) (n : ℕ) : Type 0 where
    pub moves : List Move
    pub count : length moves ≡ n
    pub run : Run Y.layout T moves
    pub slot : ℕ
    pub word : ℕ
    pub inside : slot < length T
    pub vacant : get_or (moved_by T moves) slot 0 ≡ 0
    pub home : Home Y x (bucket Y slot)
    pub result : T' ≡ set (moved_by T moves) slot word

  -- document 01's count: the visit list of the animal, and bucket number j of it
  abbrev pub visits_of : List ℕ
  visits_of = visit_list Y.layout T (pair Y x) Y.reach

  abbrev pub visit : ℕ → ℕ
  visit j = get_or visits_of j 0

  -- the length of every visit list: 682 for four ways and four moves
  abbrev pub most_visits : ℕ
  most_visits = 2 * sum_of_powers Y.layout.ways Y.reach

  -- bucket number v of the visit list, counting from 1, is the first with a free slot
  pub record Position (v : ℕ) : Type 0 where
    pub one : 1 ≤ v
    pub inside : v ≤ length visits_of
    pub free : Free Y.layout T (visit (v - 1))
    pub before : (j : ℕ) → j + 1 < v → ¬ Free Y.layout T (visit j)

  -- what is said of the answer a and of the slots T' afterwards
  pub record Roomy (a : Answer) (T' : List ℕ) : Type 0 where
    -- it refuses for want of room exactly if no sequence of so many legal moves makes room; else it stores
    pub six : (a ≡ refused 6) ↔ NoRoom
    pub else_stores : ¬ NoRoom → (v n : ℕ) × (a ≡ stored v n)
    -- the count of moves is that of the moves made, and no shorter sequence would have done
    pub made : (v n : ℕ) → a ≡ stored v n → Entered T' n
    pub fewest : (v n : ℕ) → a ≡ stored v n → (ms : List Move) → Opens ms → n ≤ length ms
    -- the count of buckets looked at is the position in the visit list, and at most the whole list
    pub looked : (v n : ℕ) → a ≡ stored v n → Position v
    pub bounded : (v n : ℕ) → a ≡ stored v n → v ≤ most_visits
    -- for refusal 6 the whole list was looked at, and no bucket of it has a free slot
    pub whole_list : a ≡ refused 6 → (length visits_of ≡ most_visits) × ((j : ℕ) → j < most_visits → ¬ Free Y.layout T (visit j))

-- a reader who trusts no counter still finds x: a home slot has its tag and points to its number
abbrev pub Stands : Shape → Mem → ℕ → Type 0
Stands Y m x = (i : ℕ) × In i (homes Y x) × (hits Y m x i ≡ true)

-- w ways, at most d moves, and the good numbers of buckets ns: for the gate 4, 4, and the powers of two from 2 to 2,048
module _ (W : Ways) where
  -- lent memory is made fresh, and then calls are made, each to its end
  pub record Story : Type 0 where
    pub memory : Mem
    pub right : right_lengths W memory ≡ true
    pub calls : List Event
    pub typed : AllTyped calls

  abbrev pub places : Story → ℕ
  places s = length s.memory.items / 4

  abbrev pub shape_in : Story → Shape
  shape_in s = shape_of W s.memory

  -- the memory that a story leaves, and the row beside it
  abbrev pub table : Table → Story → Mem
  table T s = left T s.memory (make_fresh ∷ s.calls)

  abbrev pub row : Table → Story → List ℕ
  row T s = beside T (places s) s.memory s.memory.items (make_fresh ∷ s.calls)

  -- Demand 2, first half. After any run of finished calls from fresh, the next call answers as the row would, save refusal 6, a step's
  -- refusal 12, the search counts and the planned slots
  abbrev pub AsRow : Table → Type 0
  AsRow T = (s : Story) (e : Event) → AllTyped (e ∷ [])
      → plain (T.answer (table T s) e) ≡ (row_event (places s) (beyond (T.answer (table T s) e)) (row T s) e).answer

  -- and the item words are those of the row, word for word
  abbrev pub SameWords : Table → Type 0
  SameWords T = (s : Story) → (table T s).items ≡ row T s

  -- fresh is said only of a held permission within the age limit
  abbrev pub FreshOnly : Table → Type 0
  FreshOnly T = (s : Story) (x limit now v : ℕ) (z : ℤ)
      → (T.answer (table T s) (did (read x limit now)) ≡ fresh v z) ⊎ (T.answer (table T s) (did (serve x limit now)) ≡ fresh v z)
      → (p : ℕ) × (p < places s) × Allowed (row T s) x limit now v z p

  abbrev pub reads : Table → Mem → ℕ → ℕ → ℕ → Answer
  reads T m x limit now = T.answer m (did (read x limit now))

  -- in m' a read gives busy, or what it gives in m, or, for animal a only, what it gives in m''
  abbrev pub SeenBy : Table → Mem → Mem → Mem → ℕ → ℕ → ℕ → ℕ → Type 0
  SeenBy T m m'' m' a x limit now =
      (reads T m' x limit now ≡ refused 8)
      ⊎ ((reads T m' x limit now ≡ reads T m x limit now) ⊎ ((x ≡ a) × (reads T m' x limit now ≡ reads T m'' x limit now)))

  -- Demand 2, second half. Cut the next set, delete or evict anywhere: a read of any animal gives busy, or the answer before, or, for
  -- the animal that the call is about, the answer after
  abbrev pub CutReads : Table → Type 0
  CutReads T = (s : Story) (c : Call) → Typed c → HasCut c → (k x limit now : ℕ)
      → SeenBy T (table T s) (leaves T (table T s) (did c)) (cut_at T k (table T s) (did c)) (about c (T.answer (table T s) (did c)))
      x limit now

  -- a set of an animal that the row holds, if its list isn't late, reports 0 visits and 0 moves
  abbrev pub HeldCounts : Table → Type 0
  HeldCounts T = (s : Story) (g : Grant) → GoodInputs g → (p : ℕ) → walk_to (row T s) g.animal (places s) 0 ≡ Some p
      → row_late (places s) (stamp (row T s) p) g ≡ false → T.answer (table T s) (did (set_animal g)) ≡ stored 0 0

  pub record Demand2 (T : Table) : Type 0 where
    pub starts : (m : Mem) → right_lengths W m ≡ true → T.answer m make_fresh ≡ started
    pub as_row : AsRow T
    pub same_words : SameWords T
    pub fresh_only : FreshOnly T
    pub cut_reads : CutReads T
    pub no_search : HeldCounts T

  -- Demand 3. On a table made by finished calls, for an absent animal, a vacant place and good inputs
  abbrev pub Demand3 : Table → Type 0
  Demand3 T = (s : Story) (g : Grant) → GoodInputs g
      → walk_to (row T s) g.animal (places s) 0 ≡ None → (p : ℕ) → walk_to (row T s) 0 (places s) 0 ≡ Some p
      → Roomy (shape_in s) (table T s).slots g.animal (T.answer (table T s) (did (set_animal g)))
      (leaves T (table T s) (did (set_animal g))).slots

  -- Never lost, beyond the order: at every cut each animal that the row holds, but the one that the call takes away, stands in one of
  -- its home slots
  abbrev pub NeverLost : Table → Type 0
  NeverLost T = (s : Story) (c : Call) → Typed c → HasCut c → (x p : ℕ) → x ≢ 0 → walk_to (row T s) x (places s) 0 ≡ Some p
      → x ≢ gone c (T.answer (table T s) (did c)) → (k : ℕ) → Stands (shape_in s) (cut_at T k (table T s) (did c)) x

  -- Age runs from issue, wish 1's first words, of any table: after a set that was stored, whenever it came, a read says
  -- what its permission and its minute of issue say
  abbrev pub AgeFromIssue : Table → Type 0
  AgeFromIssue T = (s : Story) (g : Grant) → Typed (set_animal g)
      → (v n : ℕ) → T.answer (table T s) (did (set_animal g)) ≡ stored v n → (limit now : ℕ) → limit ≤ 10080 → now ≢ no_minute
      → reads T (leaves T (table T s) (did (set_animal g))) g.animal limit now ≡ row_says limit now g.permission g.issued
