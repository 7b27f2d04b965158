-- The line of a plan is that of its answer, and a move with the tag as a record holds it is the move that the line says. Assumes nothing.
use Prim.Native.Nat.{ℕ, ◌+◌, ◌/◌, ◌≤◌, ◌<◌}
use native.Mathlib.Omega.{arith}
use mathlib.Core.Path.{◌≡◌, ap, subst, ◌∙◌}
use mathlib.Core.Logic.{◌≢◌}
use Rattle.std.specs.Prelude.{Result, IfOk}
use mathlib.Core.List.{List}
use lib.ListN.{get_or}
use lib.Dec.{eqb}
use borrow.Author.Tests.{ne_eqb}
use Rattle.model.specs.Memory.{Mem, tag}
use Rattle.model.specs.Shape.{four}
use Rattle.model.specs.Answers.{Answer}
use Rattle.model.specs.Calling.{plan_set, step_move}
use Rattle.model.specs.Calls.{Outcome, may_move}
use Rattle.model.specs.Lent.{lent_call}
use Rattle.model.specs.Promised.{Did, WholeAs}
use Rattle.model.specs.Said.{plan_of, said_plan}
use Rattle.model.specs.declared.Grant.{Grant}
use Rattle.model.specs.declared.Plan.{Plan}
use Rattle.model.specs.declared.Refusal.{Refusal}
use Rattle.model.proofs.PlanSaid.{plan_few, plan_said}
use Rattle.buffer.specs.Put.{Put}
use Rattle.replay_answers.specs.Text.{text}
use Rattle.replay_calls.specs.Told.{Told, Whole, answer_of}
use Rattle.replay_calls.proofs.Tell.{told_as, whole_as}

module _ (m : Mem) (g : Grant) {b : Result Plan Refusal} (e : b ≡ plan_of (lent_call four m (plan_set g)).answer) where
  pub four_at_most : IfOk b (λ (p : Plan). p.count ≤ 4)
  four_at_most = rw e (plan_few four m g)

  pub told_plan : {at r : ℕ} {before after : List ℕ} → Put (text (said_plan b)) at before after r × (r ≤ at + 384)
      → Told (answer_of m (plan_set g)) at before after r
  told_plan = told_as (ap said_plan e ∙ plan_said four m g)

-- the tag of a word, as a record holds it
module _ (word said : ℕ) where
  pub same_tag : word / 65536 ≡ said → eqb (tag word) (word / 65536) ≡ eqb (tag word) said
  unfolding tag
  same_tag e = rw (← e)

  pub no_tag : word < 4294967296 → word / 65536 ≢ said → eqb (tag word) 65536 ≡ eqb (tag word) said
  unfolding tag
  no_tag h ne = rw (ne_eqb (word / 65536) said ne, ne_eqb (word / 65536) 65536 (omega arith))

module _ (m : Mem) (g : Grant) (from held said to : ℕ) where
  same_move : eqb (tag (get_or m.slots from 0)) held ≡ eqb (tag (get_or m.slots from 0)) said
      → lent_call four m (step_move g (record { from = from; tag = held; to = to })) ≡ lent_call four m (step_move g (record { from = from; tag = said; to = to }))
  unfolding may_move
  same_move e = rw e

  pub told_move : {word : ℕ} → word ≡ get_or m.slots from 0 → eqb (tag word) held ≡ eqb (tag word) said → {m' : Mem} {a : Answer}
      → WholeAs four m (step_move g (record { from = from; tag = held; to = to })) m' a → {at r : ℕ} {before after : List ℕ}
      → Put (text a) at before after r × (r ≤ at + 384) → Whole m (step_move g (record { from = from; tag = said; to = to })) m' at before after r
  told_move w e {m'} {a} d = whole_as (subst (λ (o : Outcome). Did o m m' a) (same_move (rw w at e)) d)
