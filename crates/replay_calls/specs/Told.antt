-- An answer's line in the buffer of the replay program. Assumes nothing.
use Rattle.std.specs.Prelude.{ℕ, ◌+◌, ◌≤◌, ◌≡◌, List, Option, Some, None}
use Rattle.model.specs.Memory.{Mem}
use Rattle.model.specs.Shape.{four}
use Rattle.model.specs.Answers.{Answer}
use Rattle.model.specs.Calling.{Call}
use Rattle.model.specs.Lent.{lent_after, lent_call, lent_cut}
use Rattle.buffer.specs.Put.{Put}
use Rattle.replay_answers.specs.Text.{text}

-- the line of answer a stands in the buffer from a position on, r is the position behind it, at most 384 bytes on
pub record Told (a : Answer) (at : ℕ) (before after : List ℕ) (r : ℕ) : Type 0 where
  pub line : Put (text a) at before after r
  pub room : r ≤ at + 384

-- what the call c answers on the memory m
abbrev pub answer_of : Mem → Call → Answer
answer_of m c = (lent_call four m c).answer

-- the whole call took m to m', and its answer is told
pub record Whole (m : Mem) (c : Call) (m' : Mem) (at : ℕ) (before after : List ℕ) (r : ℕ) : Type 0 where
  pub told : Told (answer_of m c) at before after r
  pub left : m' ≡ lent_after four m c

-- its cut form made the first k stores, and the whole call's answer is told
pub record Cut (m : Mem) (c : Call) (k : ℕ) (m' : Mem) (at : ℕ) (before after : List ℕ) (r : ℕ) : Type 0 where
  pub told : Told (answer_of m c) at before after r
  pub left : m' ≡ lent_cut four k m c

-- the whole call was made, or its cut form
abbrev pub Made : Option ℕ → Mem → Call → (m' : Mem) (at : ℕ) (before after : List ℕ) (r : ℕ) → Type 0
Made None m c = Whole m c
Made (Some k) m c = Cut m c k
