-- How the code holds a dump: in lent runs, and with the length of each, which may be longer than what is lent for it. Assumes nothing.
use Rattle.std.specs.Prelude.{ℕ, ◌≤◌, ◌≡◌, List, length, take, Result, Ok, Err}
use Rattle.model.specs.Memory.{Mem}
use Rattle.model.specs.Shape.{four}
use Rattle.buffer.specs.Put.{Put}
use Rattle.judgement.specs.Verdict.{judgement}
use Rattle.judgement.specs.Said.{said}
use Rattle.judgement.specs.declared.Broken.{Broken}
use Rattle.replay_lines.specs.Reasons.{reason_number}
use Rattle.judge_program.specs.Dump.{Dump, told, unclear, whole, with_line}
use Rattle.judge_program.specs.declared.Lengths.{Lengths}
use Rattle.judge_program.specs.declared.Unclear.{Unclear}

-- as many words are lent as the largest table has
abbrev pub Lent : List ℕ → List ℕ → List ℕ → Type 0
Lent slots counters items = (length slots ≡ 8192) × (length counters ≡ 1024) × (length items ≡ 16384)

-- what is said of a dump: the lengths of its three runs, or the line and the reason
abbrev pub Says : Dump → Result Lengths Unclear → Type 0
Says (whole m) (Ok known) = (known.slots ≡ length m.slots) × (known.counters ≡ length m.counters) × (known.items ≡ length m.items)
Says (whole m) (Err at) = ⊥
Says (unclear n y) (Ok known) = ⊥
Says (unclear n y) (Err at) = (at.line ≡ n) × (reason_number at.why ≡ y)

-- a run stands in front of what is lent for it, if that is long enough
abbrev pub Front : List ℕ → List ℕ → Type 0
Front run lent = length run ≤ length lent → take (length run) lent ≡ run

pub record Fronts (m : Mem) (slots counters items : List ℕ) : Type 0 where
  pub slots_front : Front m.slots slots
  pub counters_front : Front m.counters counters
  pub items_front : Front m.items items

abbrev pub FrontsOf : Dump → List ℕ → List ℕ → List ℕ → Type 0
FrontsOf (whole m) slots counters items = Fronts m slots counters items
FrontsOf (unclear n y) slots counters items = Unit {0}

pub record Stands (d : Dump) (slots counters items : List ℕ) (r : Result Lengths Unclear) : Type 0 where
  pub measured_so : Says d r
  pub fronts : FrontsOf d slots counters items

-- line n was taken: whatever dump stood before, it stands with that line
pub record Taken (n : ℕ) (line slots counters items : List ℕ) (before : Lengths) (slots' counters' items' : List ℕ) (after : Result Lengths Unclear) : Type 0 where
  pub taken : (d : Dump) → Stands d slots counters items (Ok before) → Stands (with_line n d line) slots' counters' items' after

-- the verdict is that on the runs of the dump that stands there
pub record Judged (slots counters items : List ℕ) (known : Lengths) (r : Result Unit Broken) : Type 0 where
  pub judged : (m : Mem) → Stands (whole m) slots counters items (Ok known) → said r ≡ judgement four m

-- what is told of the dump that stands there
pub record Told (slots counters items : List ℕ) (r : Result Lengths Unclear) (before after : List ℕ) (end : ℕ) : Type 0 where
  pub told_so : (d : Dump) → Stands d slots counters items r → Put (told d) 0 before after end
  pub near : end ≤ 384
