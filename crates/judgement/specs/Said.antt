-- What the code says, in the words of the definitions. Assumes nothing.
use Rattle.std.specs.Prelude.{ℕ, Result, Ok, Err}
use Rattle.judgement.specs.Verdict.{Verdict, sound, broken}
use Rattle.judgement.specs.declared.Condition.{Condition}
use Rattle.judgement.specs.declared.Condition.TheVariants as condition
use Rattle.judgement.specs.declared.Broken.{Broken}

-- the number of a condition
abbrev pub condition_number : Condition → ℕ
condition_number condition.Lengths = 1
condition_number condition.Damage = 2
condition_number condition.Odd = 3
condition_number condition.Stray = 4
condition_number condition.Unsought = 5
condition_number condition.Doubled = 6
condition_number condition.Wide = 7
condition_number condition.Unswept = 8

-- a verdict, by the condition's number of what broke it and the number that breaks it
abbrev pub said_with : {B : Type 0} → (B → ℕ) → (B → ℕ) → Result Unit B → Verdict
said_with c i (Ok _) = sound
said_with c i (Err b) = broken (c b) (i b)

-- the two numbers of the code's own no
abbrev pub condition_told : Broken → ℕ
condition_told b = condition_number b.condition

abbrev pub breaker_told : Broken → ℕ
breaker_told b = b.at

abbrev pub said : Result Unit Broken → Verdict
said r = said_with condition_told breaker_told r
