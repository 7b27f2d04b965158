-- The verdict on any three runs: yes, or the first condition broken and the lowest number that breaks it. Assumes nothing.
use Rattle.std.specs.Prelude.{ℕ, suc, ◌-◌, ◌<◌, ◌≤◌, ◌≡◌, true, false, List, [], ◌∷◌, get_or, Option, Some, None}
use Rattle.model.specs.Choice.{range, first}
use Rattle.model.specs.Memory.{Mem}
use Rattle.model.specs.Shape.{Ways}
use Rattle.judgement.specs.Conditions.{Condition, conditions}

-- yes; or the first condition that is broken, 1 to 8, and the lowest run, slot, counter or place that breaks it
pub data Verdict : Type 0 where
  sound : Verdict
  broken : (condition at : ℕ) → Verdict

-- the lowest number that breaks a condition
abbrev pub breaker : Condition → Option ℕ
breaker c = first c.breaks (range 0 c.extent)

abbrev pub or_broken : ℕ → Option ℕ → Verdict → Verdict
or_broken n None v = v
or_broken n (Some i) v = broken n i

-- the first broken one of some conditions, of which the first has the number n
abbrev pub judge_from : ℕ → List Condition → Verdict
judge_from n [] = sound
judge_from n (c ∷ cs) = or_broken n (breaker c) (judge_from (suc n) cs)

module _ (W : Ways) (m : Mem) where
  unfoldable pub judgement : Verdict
  judgement = judge_from 1 (conditions W m)

  -- condition number c, 1 to 8
  abbrev pub condition : ℕ → Condition
  condition c = get_or (conditions W m) (c - 1) (record { extent = 0; breaks = λ i. false })

  -- condition c is the first that is broken, and i the lowest number that breaks it
  pub record FirstBroken (c i : ℕ) : Type 0 where
    pub one : 1 ≤ c
    pub eight : c ≤ 8
    pub inside : i < (condition c).extent
    pub breaks : (condition c).breaks i ≡ true
    pub lowest : (j : ℕ) → j < i → (condition c).breaks j ≡ false
    pub before : (b : ℕ) → 1 ≤ b → b < c → (j : ℕ) → j < (condition b).extent → (condition b).breaks j ≡ false
