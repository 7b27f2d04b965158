-- Wish 4: how long is left, as a signed number; and that fresh is said exactly if it is not negative. Assumes nothing.
use Rattle.std.specs.Prelude.{ℕ, ◌-◌, ◌<◌, ◌≤◌, ◌≡◌, ◌≢◌, ◌↔◌, true, ℤ, pos, ◌-ℤ◌, ◌≤ℤ◌, ◌<ℤ◌, Some}
use Rattle.model.specs.Memory.{Mem}
use Rattle.model.specs.Calling.{read, serve, did}
use Rattle.model.specs.Answers.{Answer, ahead, paper, says_fresh}
use Rattle.model.specs.Age.{least_left, left_of, retired_mark, verdict}
use Rattle.model.specs.AnyTable.{Table}

-- the limit minus the age
abbrev pub limit_minus_age : ℕ → ℕ → ℤ
limit_minus_age limit a = pos limit -ℤ pos a

-- it is the limit minus the age wherever that is at least -2^62, and else -2^62
abbrev pub LeftIs : Type 0
LeftIs = (limit a : ℕ) → least_left ≤ℤ limit_minus_age limit a → left_of limit a ≡ limit_minus_age limit a

abbrev pub LeftLeast : Type 0
LeftLeast = (limit a : ℕ) → limit_minus_age limit a <ℤ least_left → left_of limit a ≡ least_left

-- what is said of a permission that is not ahead tells how long is left; one that is ahead is the named answer, with no number. What a
-- retired one tells, Retired has
abbrev pub HeldTells : Type 0
HeldTells = (limit now v s : ℕ) → s ≢ retired_mark → s ≤ now → (paper (verdict limit now v s)).signed ≡ Some (left_of limit (now - s))

abbrev pub AheadTellsNothing : Type 0
AheadTellsNothing = (limit now v s : ℕ) → s ≢ retired_mark → now < s → verdict limit now v s ≡ ahead

-- an answer that tells z says fresh exactly if z is not negative; and z lies between -2^62 and the limit
pub record Timely (limit : ℕ) (a : Answer) (z : ℤ) : Type 0 where
  pub fresh_iff_left : (says_fresh a ≡ true) ↔ (pos 0 ≤ℤ z)
  pub least : least_left ≤ℤ z
  pub most : z ≤ℤ pos limit

-- so does whatever number an answer tells
abbrev pub TellsTime : ℕ → Answer → Type 0
TellsTime limit a = (z : ℤ) → (paper a).signed ≡ Some z → Timely limit a z

-- of any table, on any memory: read and serve say fresh exactly if what they tell is not negative
abbrev pub FreshIffLeft : Table → Type 0
FreshIffLeft T = (m : Mem) (x limit now : ℕ)
    → TellsTime limit (T.answer m (did (read x limit now))) × TellsTime limit (T.answer m (did (serve x limit now)))
