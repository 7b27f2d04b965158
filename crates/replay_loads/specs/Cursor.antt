-- What the code's steps along a line of a dump say. Assumes nothing.
use Rattle.std.specs.Prelude.{ℕ, ◌+◌, ◌≡◌, List, length, Option, Some, None, Result, Ok, Err}
use Rattle.std.proofs.lemmas.List.Edits.{sets}
use Rattle.replay_lines.specs.Reasons.{reason_number}
use Rattle.replay_lines.specs.declared.Reason.{Reason}
use Rattle.replay_loads.specs.Load.{Weighed, Load, good, bad, other, faulty, loads, loading, run_number, top_of}
use Rattle.replay_loads.specs.declared.Measured.{Measured}
use Rattle.replay_loads.specs.declared.Measured.TheVariants as measures
use Rattle.replay_loads.specs.declared.Run.{Run}

-- a run that is named, or none, as the number that says so
abbrev pub named : Option Run → ℕ
named (Some r) = run_number r
named None = 3

-- a reason as its number
abbrev pub numbered : Result ℕ Reason → Result ℕ ℕ
numbered (Ok n) = Ok n
numbered (Err y) = Err (reason_number y)

-- words behind n others: how many they are, or why they are none
abbrev pub weight_behind : ℕ → Weighed → Result ℕ ℕ
weight_behind n (good ws) = Ok (n + length ws)
weight_behind n (bad y) = Err y

abbrev pub weight : Weighed → Result ℕ ℕ
weight w = weight_behind 0 w

-- what is said of a line is what it loads; its words are counted and not kept
abbrev pub Measures : Load → Measured → Type 0
Measures x measures.Other = x ≡ other
Measures x (measures.Faulty y) = x ≡ faulty (reason_number y)
Measures x (measures.Loads r n) = (ws : List ℕ) × (x ≡ loads (run_number r) ws) × (n ≡ length ws)

-- the words of a line that loads a run whose largest word is top
pub record PouredLine (top : ℕ) (line before after : List ℕ) : Type 0 where
  pub poured : (r : ℕ) (ws : List ℕ) → loading line ≡ loads r ws → top_of r ≡ top → after ≡ sets before 0 ws
