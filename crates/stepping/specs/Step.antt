-- What the dos of the steps take, and the final store of an absent animal by its four numbers. Assumes nothing.
use Rattle.std.specs.Prelude.{ℕ, ◌+◌, ◌*◌, ◌/◌, ◌^◌, ◌<◌, ◌≤◌, ◌&&◌, List, [], ◌∷◌, length, ltb}
use Rattle.model.specs.Choice.{choose}
use Rattle.model.specs.Memory.{Mem, animal, word}
use Rattle.model.specs.Hash.{Size}
use Rattle.model.specs.Stores.{enter}
use Rattle.model.specs.Answers.{entry_made}
use Rattle.model.specs.Calls.{Outcome, refuse}
use Rattle.step_rules.specs.Rules.{enters_by}
use Rattle.model.specs.declared.Grant.{Grant}
use Rattle.hashing.specs.declared.Homes.{Homes}

-- the slots T and the counters c are those of a table with 2^shift slots a bucket
pub record MoveAsked (T c : List ℕ) (shift : ℕ) : Type 0 where
  pub size : Size (length T / 2 ^ shift)
  pub short : length T ≤ 8192
  pub some : 0 < length c
  pub few : length c ≤ 1024
  pub narrow : shift < 32

-- the lengths fit, and the word of the new entry does
pub record EnterAsked (m : Mem) (h : Homes) (shift : ℕ) : Type 0 where
  pub short : length m.slots ≤ 8192
  pub places_few : length m.items / 4 ≤ 4096
  pub tag_small : h.tag < 256
  pub narrow : shift < 32

-- the final store of an absent animal with these four numbers into place p and slot i: made by the rule, else 12
abbrev pub entering_at : ℕ → Mem → Grant → Homes → ℕ → ℕ → Outcome
entering_at ways m g h p i =
    choose (ltb p (length m.items / 4) && enters_by ways (length m.slots) h.first h.second (animal m.items p) (word m i) i)
    (record { answer = entry_made; blocks = enter h.counter p i (h.tag * 65536 + p) g.animal g.permission g.issued ∷ [] }) (refuse 12)
