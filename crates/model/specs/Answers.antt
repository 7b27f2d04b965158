-- What a call can answer, the paper's number and values of each answer, a signed one among them, and the refusal numbers. Assumes nothing.
use Rattle.std.specs.Prelude.{ℕ, ◌≡◌, Bool, true, false, List, [], ◌∷◌, get_or, drop, ℤ, eqb, Option, Some, None}
use Rattle.model.specs.Choice.{choose, one_of}
use Rattle.model.specs.declared.MoveRecord.{MoveRecord}

pub data Answer : Type 0 where
  refused : (number : ℕ) → Answer
  absent : Answer
  fresh : (permission : ℕ) (left : ℤ) → Answer
  old : (left : ℤ) → Answer
  ahead : Answer
  stored : (visits moves : ℕ) → Answer
  deleted : Answer
  evicted : (victim looked hand : ℕ) → Answer
  started : Answer
  listed : (count : ℕ) (bytes : List ℕ) → Answer
  at_place : (place : ℕ) → Answer
  planned : (moves : List MoveRecord) (place slot : ℕ) → Answer
  move_made : Answer
  entry_made : Answer

-- the paper's number of an answer, 0 for success, and its values: which success it is, and what it tells; the signed one, how long is
-- left, stands by itself
pub record Paper : Type 0 where
  pub number : ℕ
  pub values : List ℕ
  pub signed : Option ℤ

abbrev pub success : List ℕ → Paper
success vs = record { number = 0; values = vs; signed = None }

abbrev pub success_left : List ℕ → ℤ → Paper
success_left vs z = record { number = 0; values = vs; signed = Some z }

-- the numbers of a plan's moves: source slot, tag and destination slot of each, in the order of making
abbrev pub record_numbers : List MoveRecord → List ℕ
record_numbers [] = []
record_numbers (v ∷ vs) = v.from ∷ v.tag ∷ v.to ∷ record_numbers vs

-- and the moves of such numbers
abbrev pub moves_from : List ℕ → List MoveRecord
moves_from [] = []
moves_from (a ∷ []) = []
moves_from (a ∷ b ∷ []) = []
moves_from (a ∷ b ∷ c ∷ l) = record { from = a; tag = b; to = c } ∷ moves_from l

abbrev pub paper : Answer → Paper
paper (refused n) = record { number = n; values = []; signed = None }
paper absent = success (0 ∷ [])
paper (fresh v z) = success_left (1 ∷ v ∷ []) z
paper (old z) = success_left (2 ∷ []) z
paper ahead = success (3 ∷ [])
paper (stored v n) = success (4 ∷ v ∷ n ∷ [])
paper deleted = success (5 ∷ [])
paper (evicted x n h) = success (6 ∷ x ∷ n ∷ h ∷ [])
paper started = success (7 ∷ [])
paper (listed n bs) = success (8 ∷ n ∷ bs)
paper (at_place p) = success (9 ∷ p ∷ [])
paper (planned vs p i) = success (10 ∷ p ∷ i ∷ record_numbers vs)
paper move_made = success (11 ∷ [])
paper entry_made = success (12 ∷ [])

-- value i of a success, 0 where there is none: value 0 says which success it is
abbrev pub value : Answer → ℕ → ℕ
value a i = get_or (paper a).values i 0

-- the moves of a plan
abbrev pub moves_told : Answer → List MoveRecord
moves_told a = moves_from (drop 3 (paper a).values)

-- the answer is a success of that kind: its values begin with k
abbrev pub begins : ℕ → List ℕ → Bool
begins k [] = false
begins k (v ∷ vs) = eqb v k

abbrev pub is : ℕ → Answer → Bool
is k a = begins k (paper a).values

-- document 01's refusal numbers, and those of wishes 1 and 7
abbrev pub refusal_numbers : List ℕ
refusal_numbers = 1 ∷ 2 ∷ 3 ∷ 4 ∷ 5 ∷ 6 ∷ 7 ∷ 8 ∷ 9 ∷ 10 ∷ 11 ∷ 12 ∷ []

abbrev pub Listed : ℕ → Type 0
Listed n = one_of n refusal_numbers ≡ true

-- the hand that comes back from evict: the new one, or the one that was passed in
abbrev pub hand_back : ℕ → Answer → ℕ
hand_back h a = choose (is 6 a) (value a 3) h

-- the victim of an evict's answer: 0, which is no animal, if there is none
abbrev pub victim_in : Answer → ℕ
victim_in a = choose (is 6 a) (value a 1) 0

-- whether it is fresh
abbrev pub says_fresh : Answer → Bool
says_fresh a = is 1 a
