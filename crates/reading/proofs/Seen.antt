-- What a look says of a call that goes by the place where the animal is held: a law a way out. Assumes nothing.
use Prim.Native.Nat.{ℕ}
use mathlib.Core.Path.{◌≡◌, ap, ◌∙◌}
use mathlib.Core.Bool.{Bool}
use Rattle.std.specs.Prelude.{Option, Some, None, Ok, Err}
use Rattle.model.specs.Memory.{Mem, place}
use Rattle.model.specs.Said.{refusal_number}
use Rattle.model.specs.Shape.{Ways, shape_of}
use Rattle.model.specs.Calls.{Outcome, held, refuse}
use Rattle.model.specs.declared.Refusal.{Refusal}
use Rattle.looking.specs.Look.{LooksUp, Passed}
use Rattle.looking.proofs.Early.{asked_now}
use Rattle.looking.proofs.Looking.{look_holds, look_lacks, look_refused}
use Rattle.looking.specs.declared.Looked.{Looked}

module _ (W : Ways) (m : Mem) (x : ℕ) (bad : Bool) (rest : Option ℕ → Outcome) (p : Passed W m x bad) {r : Looked} (l : LooksUp W m x r) where
  abbrev whole : Outcome
  whole = asked_now W m x bad (rest (held (shape_of W m) m x))

  pub seen_refused : {k : Refusal} → r.hit ≡ Err k → whole ≡ refuse (refusal_number k)
  seen_refused q = look_refused W m x bad (rest (held (shape_of W m) m x)) p l q

  pub seen_absent : r.hit ≡ Ok None → whole ≡ rest None
  seen_absent q = let s = look_lacks W m x bad (rest (held (shape_of W m) m x)) p l q in s.0 ∙ ap rest s.1

  pub seen_held : {w : ℕ} → r.hit ≡ Ok (Some w) → whole ≡ rest (Some (place w))
  seen_held q = let s = look_holds W m x bad (rest (held (shape_of W m) m x)) p l q in s.0 ∙ ap rest s.1
