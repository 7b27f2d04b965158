-- Plan: what was looked up decides; a law a way out. Assumes nothing.
use Prim.Native.Nat.{ℕ}
use mathlib.Core.Path.{◌≡◌, refl, sym, ap, ◌∙◌}
use mathlib.Core.Bool.{Bool}
use Rattle.std.specs.Prelude.{Some, None, Result, Ok, Err}
use Rattle.model.specs.Memory.{Mem}
use Rattle.model.specs.Shape.{Ways, right_lengths, shape_of}
use Rattle.model.specs.Calling.{plan_set}
use Rattle.model.specs.Answers.{refused}
use Rattle.model.specs.Age.{bad_grant}
use Rattle.model.specs.Calls.{Outcome, held, plan_at}
use Rattle.model.specs.Lent.{lent_call}
use Rattle.model.specs.Said.{plan_of, refusal_number}
use Rattle.model.proofs.Said.{refusal_back}
use Rattle.looking.specs.Look.{LooksUp, Passed, early}
use Rattle.looking.proofs.Early.{early_outcome}
use Rattle.looking.proofs.Looking.{look_holds, look_lacks, look_refused}
use Rattle.vacancy.specs.Room.{Homed, RoomIs, plan_by, planning_new}
use Rattle.model.specs.declared.Grant.{Grant}
use Rattle.model.specs.declared.Plan.{Plan}
use Rattle.model.specs.declared.Refusal.{Refusal}
use Rattle.model.specs.declared.Refusal.TheVariants as refusal
use Rattle.hashing.specs.declared.Homes.{Homes}
use Rattle.looking.specs.declared.Looked.{Looked}
use Rattle.vacancy.specs.declared.Room.{Room}

-- a refusal as a plan
plan_refuses : (e : Refusal) → ◌≡◌ {A = Result Plan Refusal} (Err e) (plan_of (refused (refusal_number e)))
plan_refuses e = ap Err (sym (refusal_back e))

-- what the room says
pub room_plans : (W : Ways) (m : Mem) (g : Grant) {h : Homes} {r r' : Result Room Refusal} → RoomIs W m g h r → r ≡ r'
    → plan_by r' ≡ plan_of (planning_new W m g.animal).answer
room_plans W m g i q = sym (ap plan_by q) ∙ i.plans

module _ (W : Ways) (m : Mem) (g : Grant) where
  abbrev rest : Outcome
  rest = plan_at (shape_of W m) m g.animal (held (shape_of W m) m g.animal)

  -- a plan of the outcome o, where that is what the call comes to
  comes_to : {o : Outcome} → lent_call W m (plan_set g) ≡ o → {b : Result Plan Refusal} → b ≡ plan_of o.answer
      → b ≡ plan_of (lent_call W m (plan_set g)).answer
  comes_to q e = e ∙ ap (λ (o : Outcome). plan_of o.answer) (sym q)

  pub plan_early : {b : Bool} → b ≡ bad_grant g → {e : Result Unit Refusal} → e ≡ early (right_lengths W m) g.animal b → {r : Refusal} → e ≡ Err r
      → Err r ≡ plan_of (lent_call W m (plan_set g)).answer
  plan_early eb e {r} q = comes_to (early_outcome W m g.animal (bad_grant g) (rw eb at e) q rest) (plan_refuses r)

  module _ (passed : Passed W m g.animal (bad_grant g)) {r : Looked} (l : LooksUp W m g.animal r) where
    pub plan_homed : Homed W m g.animal r.homes
    plan_homed = record { right = passed.lengths; homes_are = l.homes_are }

    pub plan_refused : {e : Refusal} → r.hit ≡ Err e → Err e ≡ plan_of (lent_call W m (plan_set g)).answer
    plan_refused {e} q = comes_to (look_refused W m g.animal (bad_grant g) rest passed l q) (plan_refuses e)

    pub plan_absent : r.hit ≡ Ok None → {b : Result Plan Refusal} → b ≡ plan_of (planning_new W m g.animal).answer
        → b ≡ plan_of (lent_call W m (plan_set g)).answer
    plan_absent q =
        let s = look_lacks W m g.animal (bad_grant g) rest passed l q in comes_to (s.0 ∙ ap (plan_at (shape_of W m) m g.animal) s.1)

    pub plan_held : {w : ℕ} → r.hit ≡ Ok (Some w) → Err refusal.NoStep ≡ plan_of (lent_call W m (plan_set g)).answer
    plan_held q =
        let s = look_holds W m g.animal (bad_grant g) rest passed l q in
        comes_to (s.0 ∙ ap (plan_at (shape_of W m) m g.animal) s.1) refl
