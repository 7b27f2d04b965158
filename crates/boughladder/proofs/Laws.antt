-- What an exported call that stores nothing promises, from the call's own promise and the clothes of what it told. Assumes nothing.
use mathlib.Core.Path.{◌≡◌, ap, ◌∙◌}
use Prim.Native.Nat.{ℕ}
use Rattle.std.specs.Prelude.{Option, Result}
use Rattle.model.specs.Answers.{Answer}
use Rattle.model.specs.Said.{said_reading, said_finding}
use Rattle.model.specs.declared.Reading.{Reading}
use Rattle.model.specs.declared.Refusal.{Refusal}
use Rattle.clothes.specs.Clothes.{reading_clothes, finding_clothes}
use Rattle.clothes.specs.declared.BoughladderReading.{BoughladderReading}
use Rattle.clothes.specs.declared.BoughladderFinding.{BoughladderFinding}

-- read and the plain engine, find
pub told_read : {a : Answer} (t : Result Reading Refusal) {r : BoughladderReading} → r ≡ reading_clothes (said_reading t) → said_reading t ≡ a → r ≡ reading_clothes a
told_read t e h = e ∙ ap reading_clothes h

pub told_find : {a : Answer} (t : Result (Option ℕ) Refusal) {r : BoughladderFinding} → r ≡ finding_clothes (said_finding t) → said_finding t ≡ a → r ≡ finding_clothes a
told_find t e h = e ∙ ap finding_clothes h
