-- From the bytes of a line to its words, and from a word to a number, signed or not. Assumes nothing.
use Rattle.std.specs.Prelude.{ℕ, ◌+◌, ◌*◌, ◌-◌, Bool, true, false, not, ◌||◌, ◌&&◌, List, [], ◌∷◌, length, get_or, take, drop, ℤ, pos, neg_ℤ, eqb, leb, Option, Some, None}
use Prim.Native.Char.{code}
use Rattle.model.specs.Choice.{choose}

-- the bytes before the first that passes a test
unfoldable pub before : (ℕ → Bool) → List ℕ → List ℕ
before f [] = []
before f (b ∷ bs) = choose (f b) [] (b ∷ before f bs)

-- whether a byte is one of two, or is neither
abbrev pub sought : ℕ → ℕ → Bool → ℕ → Bool
sought a b wanted c = choose wanted (eqb c a || eqb c b) (not (eqb c a || eqb c b))

-- LF ends a line
abbrev pub is_end : ℕ → Bool
is_end b = eqb b (code "\n")

-- # starts a comment
abbrev pub is_comment : ℕ → Bool
is_comment b = eqb b (code "#")

-- a space or a tab stands between words
abbrev pub is_gap : ℕ → Bool
is_gap b = eqb b (code " ") || eqb b (code "\t")

abbrev pub is_no_gap : ℕ → Bool
is_no_gap b = not (is_gap b)

-- one more byte in front: one that parts starts a piece of its own, any other joins the first piece
abbrev pub joined : Bool → ℕ → List (List ℕ) → List (List ℕ)
joined true b ps = [] ∷ ps
joined false b [] = (b ∷ []) ∷ []
joined false b (p ∷ ps) = (b ∷ p) ∷ ps

-- the lines of a text, each without its LF; behind the last LF a line starts only if there is a byte
unfoldable pub lines : List ℕ → List (List ℕ)
lines [] = []
lines (b ∷ bs) = joined (is_end b) b (lines bs)

-- two words have the same bytes
unfoldable pub same : List ℕ → List ℕ → Bool
same [] [] = true
same [] (c ∷ cs) = false
same (b ∷ bs) [] = false
same (b ∷ bs) (c ∷ cs) = choose (eqb b c) (same bs cs) false

-- how much of a text is its byte order mark
unfoldable pub mark_length : List ℕ → ℕ
mark_length bs = choose (same (take 3 bs) (239 ∷ 187 ∷ 191 ∷ [])) 3 0

-- the mark is not part of what a text says
unfoldable pub without_mark : List ℕ → List ℕ
without_mark bs = drop (mark_length bs) bs

-- a CR at the end of a line belongs to the line end
unfoldable pub without_return : List ℕ → List ℕ
without_return bs = choose (eqb (get_or bs (length bs - 1) 0) (code "\r")) (take (length bs - 1) bs) bs

-- nor is a comment part of what a line says
unfoldable pub without_comment : List ℕ → List ℕ
without_comment bs = before is_comment bs

-- the pieces between the gaps, the empty ones too
unfoldable pub pieces : List ℕ → List (List ℕ)
pieces [] = [] ∷ []
pieces (b ∷ bs) = joined (is_gap b) b (pieces bs)

-- all but the empty ones
unfoldable pub filled : List (List ℕ) → List (List ℕ)
filled [] = []
filled ([] ∷ ps) = filled ps
filled ((b ∷ p) ∷ ps) = (b ∷ p) ∷ filled ps

-- the words of a line
unfoldable pub words : List ℕ → List (List ℕ)
words bs = filled (pieces bs)

abbrev pub is_digit : ℕ → Bool
is_digit b = leb (code "0") b && leb b (code "9")

unfoldable pub all_digits : List ℕ → Bool
all_digits [] = true
all_digits (b ∷ bs) = choose (is_digit b) (all_digits bs) false

-- the number that more digits make of v
unfoldable pub value : ℕ → List ℕ → ℕ
value v [] = v
value v (d ∷ ds) = value (v * 10 + (d - code "0")) ds

-- that number, if they are digits and it is at most top
unfoldable pub number_from : ℕ → ℕ → List ℕ → Option ℕ
number_from top v ds = choose (all_digits ds) (choose (leb (value v ds) top) (Some (value v ds)) None) None

-- the number at most top that a word is, if it is one
unfoldable pub number : ℕ → List ℕ → Option ℕ
number top [] = None
number top (d ∷ ds) = number_from top 0 (d ∷ ds)

-- a number as a signed one, and as a negative one
abbrev pub whole : Option ℕ → Option ℤ
whole None = None
whole (Some n) = Some (pos n)

abbrev pub negative : Option ℕ → Option ℤ
negative None = None
negative (Some n) = Some (neg_ℤ (pos n))

-- the signed number that a word is, if it is one of a size of at most top: a minus stands before a negative one
unfoldable pub signed : ℕ → List ℕ → Option ℤ
signed top [] = None
signed top (b ∷ bs) = choose (eqb b (code "-")) (negative (number top bs)) (whole (number top (b ∷ bs)))
