-- One line of a text, and where the replay stands behind it. Assumes nothing.
use Rattle.std.specs.Prelude.{ℕ, ◌+◌, ◌≤◌, ◌≡◌, List}
use Rattle.buffer.specs.Put.{Put}
use Rattle.replay_loads.specs.Load.{loading, loads}
use Rattle.replay_rows.specs.World.{Reply, longest_line, world}
use Rattle.replay_rows.specs.Loaded.{with_run}
use Rattle.replay_steps.specs.Standing.{in_use, Held}
use Rattle.replay_steps.specs.declared.State.{State}

-- the line is answered: the reply's text stands behind what was in the buffer, its world is in use, and the line is counted, among the missed ones too
pub record Answers (y : Reply) (u : ℕ) (before after : State) (slots counters items out out' : List ℕ) : Type 0 where
  pub put : Put y.text before.at out out' after.at
  pub near : after.at ≤ before.at + longest_line
  pub world_is : in_use slots counters items after ≡ y.world
  pub held : Held slots counters items after
  pub next_number : after.number ≡ before.number + 1
  pub same_from : after.from ≡ before.from
  pub missed : after.missed ≡ before.missed + u

-- a line more, u of it missed, and the buffer filled up to a position; the runs in use and the hand are as they were
pub record Behind (before : State) (at u : ℕ) (after : State) : Type 0 where
  pub filled : after.at ≡ at
  pub same_slots : after.slots ≡ before.slots
  pub same_counters : after.counters ≡ before.counters
  pub same_items : after.items ≡ before.items
  pub same_hand : after.hand ≡ before.hand
  pub next_number : after.number ≡ before.number + 1
  pub same_from : after.from ≡ before.from
  pub missed : after.missed ≡ before.missed + u

-- the run that a line names has its words, and all else is as it was
pub record Replaced (line : List ℕ) (run : ℕ) (slots counters items : List ℕ) (before after : State) (slots' counters' items' : List ℕ) : Type 0 where
  pub world_is : (ws : List ℕ) → loading line ≡ loads run ws
      → in_use slots' counters' items' after ≡ world (with_run run ws (in_use slots counters items before).memory) before.hand
  pub held : Held slots' counters' items' after
  pub same_at : after.at ≡ before.at
  pub same_number : after.number ≡ before.number
  pub same_from : after.from ≡ before.from
  pub same_missed : after.missed ≡ before.missed
