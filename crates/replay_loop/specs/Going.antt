-- Line after line, and portion after portion. Assumes nothing.
use Rattle.std.specs.Prelude.{ℕ, ◌+◌, ◌*◌, ◌≤◌, ◌≡◌, Bool, List, ◌++◌, length, take, drop, Result, IfOk}
use Rattle.replay_words.specs.Words.{lines}
use Rattle.replay_rows.specs.World.{longest_line}
use Rattle.replay_rows.specs.Replayed.{answers, missed, missed_in, replayed}
use Rattle.replay_steps.specs.Standing.{in_use, Held}
use Rattle.replay_steps.specs.declared.State.{State}
use Rattle.replay_loop.specs.declared.Replayed.{Replayed}

-- the answers that are still to come
abbrev pub coming : Bool → List ℕ → List ℕ → List ℕ → List ℕ → State → List ℕ
coming e calls slots counters items s = replayed e s.number (in_use slots counters items s) (lines (drop s.from calls))

-- and how many of the lines to come will not be understood
abbrev pub to_miss : List ℕ → State → ℕ
to_miss calls s = missed_in (lines (drop s.from calls))

-- some lines were answered: what is in the buffer and what is still to come is as before, and so is what is missed
pub record Went (e : Bool) (calls slots counters items out : List ℕ) (s : State) (slots' counters' items' out' : List ℕ) (s' : State) : Type 0 where
  pub held : Held slots' counters' items' s'
  pub inside : s'.from ≤ length calls
  pub counted : s'.number ≤ s'.from
  pub seldom : s'.missed ≤ s'.number
  pub onward : s.number ≤ s'.number
  pub forward : s'.number + s.from ≤ s'.from + s.number
  pub few : s'.at + longest_line * s.number ≤ s.at + longest_line * s'.number
  pub long : length out' ≡ length out
  pub fits : s'.at ≤ length out'
  pub answered : take s'.at out' ++ coming e calls slots' counters' items' s' ≡ take s.at out ++ coming e calls slots counters items s
  pub missed : s'.missed + to_miss calls s' ≡ s.missed + to_miss calls s

-- a portion is the next bytes of the answers, behind those that have gone out; a text of two mebibytes has no more than that
pub record Next (e : Bool) (calls : List ℕ) (written : ℕ) (portion : List ℕ) : Type 0 where
  pub bytes : portion ≡ take (length portion) (drop written (answers e calls))
  pub few : written + length portion ≤ 618475290624

-- the replay is at its end: if every portion could be written, as many bytes were handed over as the answers have, and the lines that were not understood are counted
pub record Ended {E : Type 0} (e : Bool) (calls : List ℕ) (r : Result Replayed E) : Type 0 where
  pub all : IfOk r (λ done. done.bytes ≡ length (answers e calls))
  pub counted : IfOk r (λ done. done.missed ≡ missed calls)
