-- What the code's steps along a line and a table say. Assumes nothing.
use Rattle.std.specs.Prelude.{ℕ, ◌<◌, ◌≡◌, Bool, List, [], ◌∷◌, length, replicate, Option, Some, None, Result, Ok, Err}
use Rattle.std.proofs.lemmas.List.Edits.{sets}
use Rattle.model.specs.Choice.{choose}
use Rattle.replay_words.specs.Words.{words}
use Rattle.replay_lines.specs.Reasons.{Parting, reason_number}
use Rattle.replay_lines.specs.Line.{Said, fitting, padded}
use Rattle.replay_lines.specs.declared.Reason.{Reason}
use Rattle.replay_lines.specs.declared.Parting.{Parting as Parted}
use Rattle.replay_lines.specs.declared.Taken.{Taken}
use Rattle.replay_lines.specs.declared.Taken.TheVariants as taken

-- what one word takes, as the code says it
abbrev pub told : Taken → Option (List ℕ)
told taken.No = None
told taken.Word = Some []
told (taken.Number n) = Some (n ∷ [])

-- an array with numbers stored from i on, if there are any to store
abbrev pub stored : List ℕ → ℕ → Option (List ℕ) → Option (List ℕ)
stored l i None = None
stored l i (Some ns) = Some (sets l i ns)

-- whether a line fits a row; then its numbers are stored
pub record Fits (row line before after : List ℕ) (r : Bool) : Type 0 where
  pub fits : choose r (Some after) None ≡ stored before 0 (fitting (words row) (words line))

-- how far, and why no further
pub record Parts (a : Parting) (r : Parted) : Type 0 where
  pub far : r.far ≡ a.far
  pub why : reason_number r.why ≡ a.why

-- the row of a table that is said, and its numbers with zeros behind them; or none, and why
abbrev pub Follows : List (List ℕ) → Said → List ℕ → List ℕ → Result ℕ Reason → Type 0
Follows rows s before after (Ok r) = (r < length rows) × (r ≡ s.row) × (after ≡ padded (length before) s.numbers)
Follows rows s before after (Err y) =
    (s ≡ record { row = length rows; numbers = reason_number y ∷ [] }) × (after ≡ replicate (length before) 0)
