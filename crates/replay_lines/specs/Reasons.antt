-- Why a line follows no row of a table. Assumes nothing.
use Rattle.std.specs.Prelude.{ℕ, suc, List, [], ◌∷◌, leb, Option, Some, None}
use Rattle.model.specs.Choice.{choose}
use Rattle.replay_words.specs.Words.{all_digits, words}
use Rattle.replay_lines.specs.declared.Reason.{Reason}
use Rattle.replay_lines.specs.declared.Reason.TheVariants as reasons
use Rattle.replay_lines.specs.Taking.{bound, takes}

-- the reasons, as numbers
abbrev pub unknown_word : ℕ
unknown_word = 0

abbrev pub too_few : ℕ
too_few = 1

abbrev pub too_many : ℕ
too_many = 2

abbrev pub too_large : ℕ
too_large = 3

abbrev pub reason_number : Reason → ℕ
reason_number reasons.UnknownWord = unknown_word
reason_number reasons.TooFew = too_few
reason_number reasons.TooMany = too_many
reason_number reasons.TooLarge = too_large

-- a word behind the row's end
unfoldable pub behind : List ℕ → ℕ
behind w = choose (all_digits w) too_many unknown_word

-- a word that the row does not take, given the largest number that it would have taken
unfoldable pub instead : Option ℕ → List ℕ → ℕ
instead None w = unknown_word
instead (Some top) w = choose (all_digits w) too_large unknown_word

-- how many words of a line agree with a row, and what ends it there
pub record Parting : Type 0 where
  pub far : ℕ
  pub why : ℕ

abbrev pub parts : ℕ → ℕ → Parting
parts k y = record { far = k; why = y }

-- the words from k on; a line that fits never asks
unfoldable pub parting : ℕ → (row line : List (List ℕ)) → Parting
parting k [] [] = parts k too_many
parting k [] (w ∷ ws) = parts k (behind w)
parting k (p ∷ ps) [] = parts k too_few
parting k (p ∷ ps) (w ∷ ws) = choose (takes p w) (parting (suc k) ps ws) (parts k (instead (bound p) w))

-- the further of two, of equals the first
abbrev pub further : Parting → Parting → Parting
further a b = choose (leb b.far a.far) a b

unfoldable pub furthest : Parting → List (List ℕ) → List (List ℕ) → Parting
furthest a [] line = a
furthest a (r ∷ rs) line = furthest (further a (parting 0 (words r) line)) rs line

-- a line that agrees with no row in its first word has an unknown one
unfoldable pub why_not : List (List ℕ) → List (List ℕ) → ℕ
why_not rows line = (furthest (parts 0 unknown_word) rows line).why
