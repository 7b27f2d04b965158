-- What the code's steps along a line say of its words. Assumes nothing.
use Rattle.std.specs.Prelude.{ℕ, ◌+◌, ◌-◌, ◌≤◌, ◌<◌, ◌≡◌, ◌≢◌, Bool, List, [], ◌∷◌, length, take, drop, Option, Some, None}
use Rattle.replay_words.specs.Words.{before, lines, words}
use Rattle.replay_words.specs.declared.Piece.{Piece}
use Rattle.replay_words.specs.declared.Word.{Word}

-- the first position from at on whose byte passes a test, or the length
pub record First (f : ℕ → Bool) (bs : List ℕ) (at r : ℕ) : Type 0 where
  pub first : r ≡ at + length (before f (drop at bs))
  pub inside : r ≤ length bs

-- the bytes from s up to e
abbrev pub part : List ℕ → ℕ → ℕ → List ℕ
part bs s e = take (e - s) (drop s bs)

-- a line of a text from a position on, and the next one behind it
pub record PieceAt (bs : List ℕ) (from : ℕ) (r : Piece) : Type 0 where
  pub forward : from ≤ r.end
  pub behind : r.end ≤ r.next
  pub goes_on : from < r.next
  pub inside : r.next ≤ length bs
  pub first_line : lines (drop from bs) ≡ part bs from r.end ∷ lines (drop r.next bs)

-- the next word from a position on: none if it is empty, and else the first of the words there, with the others behind it
pub record NextWord (bs : List ℕ) (at : ℕ) (r : Word) : Type 0 where
  pub onward : at ≤ r.start
  pub forward : r.start ≤ r.end
  pub inside : r.end ≤ length bs
  pub none_left : r.start ≡ r.end → words (drop at bs) ≡ []
  pub next_word : r.start ≢ r.end → words (drop at bs) ≡ part bs r.start r.end ∷ words (drop r.end bs)

-- none, or a size that a signed number can have
abbrev pub Small : Option ℕ → Type 0
Small None = Unit {0}
Small (Some n) = n < 9223372036854775808
