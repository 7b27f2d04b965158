-- What is told of a condition by the lowest number that breaks it. Assumes nothing.
use Rattle.std.specs.Prelude.{ℕ, Option, Some, None, Result, Ok, Err}
use Rattle.judgement.specs.declared.Broken.{Broken}
use Rattle.judgement.specs.declared.Condition.{Condition}

abbrev pub unless : Option ℕ → Condition → Result Unit Broken
unless None c = Ok tt
unless (Some i) c = Err (record { condition = c; at = i })
