-- What an exported call promises, from the call's own promise and the clothes of what it told; and that it decides. Assumes nothing.
use Prim.Native.Nat.{ℕ}
use mathlib.Core.Path.{◌≡◌, sym, ap, ◌∙◌}
use mathlib.Core.Bool.{Bool, true, false}
use lib.ListN.{length}
use Rattle.std.specs.Prelude.{Result, Ok, Err}
use Rattle.model.specs.Choice.{choose}
use Rattle.model.specs.Memory.{Mem}
use Rattle.model.specs.Shape.{Ways}
use Rattle.model.specs.Moves.{four_records}
use Rattle.model.specs.Answers.{Answer, is, moves_told, value}
use Rattle.model.specs.Calling.{Call}
use Rattle.model.specs.Said.{plan_of, refusal_number, refusal_of, said_plan}
use Rattle.model.specs.Promised.{CutAs, WholeAs}
use Rattle.clothes.specs.Clothes.{number, plan_clothes, plan_dressed}
use Rattle.clothes.specs.Dressed.{CutIn, WholeIn}
use Rattle.model.specs.declared.Plan.{Plan}
use Rattle.model.specs.declared.Refusal.{Refusal}
use Rattle.clothes.specs.declared.BoughladderPlan.{BoughladderPlan}

module _ (W : Ways) {m m' : Mem} {c : Call} {R : Type 0} {clothes : Answer → R} {a : Answer} {r : R} (e : r ≡ clothes a) where
  pub told_whole : WholeAs W m c m' a → WholeIn W clothes m c m' r
  told_whole s = record { told = e ∙ ap clothes s.told; left = s.left }

  pub told_cut : {k : ℕ} → CutAs W m c k m' a → CutIn W clothes m c k m' r
  told_cut s = record { told = e ∙ ap clothes s.told; left = s.left }

-- plan: plan_of by whether there is one
abbrev plan_told : Bool → Answer → Result Plan Refusal
plan_told b a =
    choose b (Ok (record { moves = four_records (moves_told a); count = length (moves_told a); place = value a 1; slot = value a 2 }))
    (Err (refusal_of (number a)))

-- what the code's plan says in its clothes is the answer in its own
pub told_plan : (a : Answer) {b : Result Plan Refusal} {r : BoughladderPlan} → r ≡ plan_dressed refusal_number b → b ≡ plan_of a → said_plan (plan_of a) ≡ a
    → r ≡ plan_clothes a
told_plan a e h says = e ∙ ap (plan_dressed refusal_number) h ∙ as_told (is 10 a) says
  where
    as_told : (b : Bool) → said_plan (plan_told b a) ≡ a → plan_dressed refusal_number (plan_told b a) ≡ plan_clothes a
    as_told true q = ap (λ n. record { refusal = n; count = length (moves_told a); place = value a 1; slot = value a 2; moves = four_records (moves_told a) }) (ap number q)
    as_told false q = ap plan_clothes q

-- such a promise decides: any two replies and memories that it allows are equal. Read, find and plan say their reply outright
pub decides_whole : {W : Ways} {R : Type 0} {clothes : Answer → R} {m m' m'' : Mem} {c : Call} {r r' : R}
    → WholeIn W clothes m c m' r → WholeIn W clothes m c m'' r' → (r ≡ r') × (m' ≡ m'')
decides_whole d d' = (d.told ∙ sym d'.told, d.left ∙ sym d'.left)

pub decides_cut : {W : Ways} {R : Type 0} {clothes : Answer → R} {m m' m'' : Mem} {c : Call} {k : ℕ} {r r' : R}
    → CutIn W clothes m c k m' r → CutIn W clothes m c k m'' r' → (r ≡ r') × (m' ≡ m'')
decides_cut d d' = (d.told ∙ sym d'.told, d.left ∙ sym d'.left)
