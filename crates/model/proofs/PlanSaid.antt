-- What the code's plan says is what plan answers, and its moves are few. Assumes nothing.
use Prim.Native.Nat.{ℕ, ◌≤◌}
use mathlib.Core.Path.{◌≡◌, refl, ap}
use mathlib.Core.Bool.{Bool, true, false}
use Rattle.std.specs.Prelude.{Option, Some, None, IfOk}
use mathlib.Core.List.{List, [], ◌∷◌, ◌++◌}
use lib.ListN.{length, take}
use lib.Dec.{eqb}
use Rattle.model.specs.Choice.{choose}
use Rattle.model.specs.Memory.{Mem}
use Rattle.model.specs.Shape.{Shape, Ways, pair, right_lengths, shape_of}
use Rattle.model.specs.Moves.{records_of}
use Rattle.model.specs.Visits.{free_slot, stop_bucket}
use Rattle.model.specs.Calling.{plan_set}
use Rattle.model.specs.Answers.{planned, refused}
use Rattle.model.specs.Age.{bad_grant}
use Rattle.model.specs.Calls.{Outcome, asked, busy, final_slot, held, home_damage, moves_found, plan_at, plan_new, refuse, search_damage, stopped, tell, vacant_place, visited}
use Rattle.model.specs.Lent.{lent_call}
use Rattle.model.specs.Said.{plan_of, refusal_number, refusal_of, said_plan}
use Rattle.model.specs.declared.Grant.{Grant}
use Rattle.model.specs.declared.MoveRecord.{MoveRecord}
use Rattle.model.specs.declared.Plan.{Plan}
use Rattle.model.proofs.Records.{length_records, numbers_back}
use Rattle.model.proofs.Search.{length_climb}

-- of an outcome that plan may come to, with at most d moves
record Says (d : ℕ) (o : Outcome) : Type 0 where
  pub says : said_plan (plan_of o.answer) ≡ o.answer
  pub few : IfOk (plan_of o.answer) (λ (b : Plan). b.count ≤ d)

take_front : (vs ws : List MoveRecord) → take (length vs) (vs ++ ws) ≡ vs
take_front [] ws = refl
take_front (v ∷ vs) ws = ap (λ l. v ∷ l) (take_front vs ws)

plans : (d : ℕ) (vs : List MoveRecord) (p i : ℕ) → length vs ≤ d → Says d (tell (planned vs p i))
plans d vs p i h = record { says = rw (numbers_back vs) (ap (λ l. planned l p i) (take_front vs _)); few = rw (numbers_back vs) h }

module _ {d : ℕ} where
  refuses : (n : ℕ) → refusal_number (refusal_of n) ≡ n → Says d (refuse n)
  refuses n e = record { says = ap refused e; few = tt }

  either : (b : Bool) {o u : Outcome} → Says d o → Says d u → Says d (choose b o u)
  either true h k = h
  either false h k = k

module _ (Y : Shape) (m : Mem) (x : ℕ) where
  few_found : length (records_of m.slots (moves_found Y m x)) ≤ Y.reach
  few_found =
      rw (length_records m.slots (moves_found Y m x))
      (length_climb Y.layout (visited Y m x) 2 Y.reach (stopped Y m x)
      (free_slot Y.layout m.slots (stop_bucket Y.layout m.slots (pair Y x) Y.reach)))

  plan_new_says : (o : Option ℕ) → Says Y.reach (plan_new Y m x o)
  plan_new_says None = refuses 5 refl
  plan_new_says (Some p) =
      either (search_damage Y m x) (refuses 4 refl)
      (either (eqb (stopped Y m x) (length (visited Y m x))) (refuses 6 refl)
      (plans Y.reach (records_of m.slots (moves_found Y m x)) p (final_slot Y m x) few_found))

  plan_says : (o : Option ℕ) → Says Y.reach (plan_at Y m x o)
  plan_says None = plan_new_says (vacant_place Y.places m.items)
  plan_says (Some p) = refuses 12 refl

  asked_says : (bad : Bool) → Says Y.reach (asked Y m x bad (plan_at Y m x (held Y m x)))
  asked_says bad =
      either (eqb x 0) (refuses 2 refl)
      (either bad (refuses 3 refl) (either (busy Y m x) (refuses 8 refl) (either (home_damage Y m x) (refuses 4 refl) (plan_says (held Y m x)))))

module _ (W : Ways) (m : Mem) (g : Grant) where
  lent_says : Says W.reach (lent_call W m (plan_set g))
  lent_says = either (right_lengths W m) (asked_says (shape_of W m) m g.animal (bad_grant g)) (refuses 1 refl)

  pub plan_said : said_plan (plan_of (lent_call W m (plan_set g)).answer) ≡ (lent_call W m (plan_set g)).answer
  plan_said = lent_says.says

  pub plan_few : IfOk (plan_of (lent_call W m (plan_set g)).answer) (λ (b : Plan). b.count ≤ W.reach)
  plan_few = lent_says.few
