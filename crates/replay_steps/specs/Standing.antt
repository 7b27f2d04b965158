-- Where the replay stands, in the program's own memory, and one line from there. Assumes nothing.
use Rattle.std.specs.Prelude.{ℕ, ◌+◌, ◌≤◌, ◌≡◌, List, length, take}
use Rattle.model.specs.Memory.{mem}
use Rattle.buffer.specs.Put.{Put}
use Rattle.model.specs.Answers.{refused}
use Rattle.replay_answers.specs.Text.{text}
use Rattle.replay_rows.specs.World.{World, Reply, world, longest}
use Rattle.replay_steps.specs.declared.State.{State}

-- the world: the fronts of the program's runs that are in use, and the hand
abbrev pub in_use : List ℕ → List ℕ → List ℕ → State → World
in_use slots counters items s = world (mem (take s.slots slots) (take s.counters counters) (take s.items items)) s.hand

-- the program's runs, and what is in use of them
pub record Held (slots counters items : List ℕ) (s : State) : Type 0 where
  pub all_slots : length slots ≡ 8192
  pub all_counters : length counters ≡ 1024
  pub all_items : length items ≡ 4096
  pub slots_in : s.slots ≤ 8192
  pub counters_in : s.counters ≤ 1024
  pub items_in : s.items ≤ 4096

-- a step: the reply's text stands behind what was in the buffer, and its world is in use; where the text is, and what was counted, are as they were
pub record Stepped (y : Reply) (before after : State) (slots counters items out out' : List ℕ) : Type 0 where
  pub put : Put y.text before.at out out' after.at
  pub near : after.at ≤ before.at + longest
  pub world_is : in_use slots counters items after ≡ y.world
  pub held : Held slots counters items after
  pub same_number : after.number ≡ before.number
  pub same_from : after.from ≡ before.from
  pub same_missed : after.missed ≡ before.missed

-- a refused fresh: its line, and else all as it was
pub record Refused (before : State) (out out' : List ℕ) (after : State) : Type 0 where
  pub put : Put (text (refused 1)) before.at out out' after.at
  pub near : after.at ≤ before.at + longest
  pub same_slots : after.slots ≡ before.slots
  pub same_counters : after.counters ≡ before.counters
  pub same_items : after.items ≡ before.items
  pub same_hand : after.hand ≡ before.hand
  pub same_number : after.number ≡ before.number
  pub same_from : after.from ≡ before.from
  pub same_missed : after.missed ≡ before.missed
