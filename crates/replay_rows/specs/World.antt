-- What a line of a replay leaves: its answer's text, the table in use, the hand. Assumes nothing.
use Rattle.std.specs.Prelude.{ℕ, ◌+◌, ◌≤◌, ◌≡◌, List, [], length}
use Rattle.model.specs.Memory.{Mem, mem}
use Rattle.buffer.specs.Put.{Put}
use Rattle.replay_rows.specs.declared.Turn.{Turn}

-- the memory in use, and the hand that the next evict passes in
pub record World : Type 0 where
  pub memory : Mem
  pub hand : ℕ

abbrev pub world : Mem → ℕ → World
world m h = record { memory = m; hand = h }

-- before the first fresh the runs are empty
abbrev pub nothing : World
nothing = world (mem [] [] []) 0

-- the text that a line is answered with, and the world afterwards
pub record Reply : Type 0 where
  pub text : List ℕ
  pub world : World

abbrev pub reply : List ℕ → Mem → ℕ → Reply
reply t m h = record { text = t; world = world m h }

-- no answer is longer: a dump has at most 384 bytes and 21 for each of 13,312 words, a list 384 and 3 for each of 81,920 bytes; rounded up
abbrev pub longest : ℕ
longest = 286720

-- nor is the call before it: at most 26 bytes and 20 for each byte of the language; rounded up
abbrev pub longest_call : ℕ
longest_call = 8192

-- so this is room enough for both
abbrev pub longest_line : ℕ
longest_line = 294912

-- the code has answered so: the text stands in the buffer from a position on, and the memory and the hand are left so
pub record Replied (y : Reply) (m : Mem) (at : ℕ) (before after : List ℕ) (r : Turn) : Type 0 where
  pub put : Put y.text at before after r.next
  pub near : r.next ≤ at + longest
  pub left : m ≡ y.world.memory
  pub hand : r.hand ≡ y.world.hand

-- the runs are no longer than the program's own, and the buffer has room for any answer
pub record Ample (m : Mem) (at : ℕ) (out : List ℕ) : Type 0 where
  pub slots : length m.slots ≤ 8192
  pub counters : length m.counters ≤ 1024
  pub items : length m.items ≤ 4096
  pub room : at + longest ≤ length out
