-- The turns 1, 2, 3, 8 and 4 of a call with set's inputs: one of them is due, or what comes behind them decides. Assumes nothing.
use Prim.Native.Nat.{ℕ, ◌<◌, ◌≤◌}
use native.Mathlib.Omega.{arith}
use mathlib.Core.Path.{◌≡◌, refl, sym, ap, ◌∙◌}
use mathlib.Core.Logic.{◌≢◌, ◌⊎◌, inl, inr, ⊎_elim}
use mathlib.Core.Bool.{Bool, true, false, ◌||◌}
use lib.Dec.{eqb, ltb}
use borrow.Author.Tests.{eqb-false, le-ltb, ltb-false, ne_eqb}
use Rattle.model.specs.Choice.{choose}
use Rattle.model.specs.Memory.{Mem}
use Rattle.model.specs.Shape.{Shape, Ways, right_lengths, shape_of}
use Rattle.model.specs.Answers.{refused}
use Rattle.model.specs.Age.{bad_grant, no_minute}
use Rattle.model.specs.Calls.{Outcome, asked, busy, home_damage, refuse}
use Rattle.model.specs.Demands.{GoodInputs}
use Rattle.model.specs.Late.{ItsTurn}
use Rattle.model.specs.declared.Grant.{Grant}
use Rattle.model.proofs.ListLaws.{bool, true_false}

-- good minutes pass 3
pub good_minutes : (g : Grant) → g.minute ≢ no_minute → g.issued ≤ g.minute → bad_grant g ≡ false
good_minutes g t i = rw (ne_eqb g.minute no_minute t, le-ltb g.minute g.issued i)

pub good_grant : {g : Grant} → GoodInputs g → bad_grant g ≡ false
good_grant {g} good = good_minutes g good.timely good.issued

-- and only they do
pub minutes_good : (g : Grant) → bad_grant g ≡ false → (g.minute ≢ no_minute) × (g.issued ≤ g.minute)
minutes_good g e =
    let n = neither (eqb g.minute no_minute) (ltb g.minute g.issued) e in
    (eqb-false g.minute no_minute n.0, ltb-false g.minute g.issued n.1)
  where
    neither : (b c : Bool) → (b || c) ≡ false → (b ≡ false) × (c ≡ false)
    neither true c e = true_false {b = true} refl e
    neither false c e = (refl, e)

module _ (W : Ways) (m : Mem) (g : Grant) where
  abbrev Y : Shape
  Y = shape_of W m

  abbrev x : ℕ
  x = g.animal

  -- the call that comes to `rest` behind these turns
  abbrev pub in_its_turn : Outcome → Outcome
  in_its_turn rest = choose (right_lengths W m) (asked Y m x (bad_grant g) rest) (refuse 1)

  -- one of the early refusals is due, whatever comes behind them, or it is the turn of that
  abbrev Due : (Outcome → Outcome) → Type 0
  Due f = ((k : ℕ) × (k < 9) × ((rest : Outcome) → f rest ≡ refuse k)) ⊎ ItsTurn W m g

  early : (k : ℕ) → k < 9 → Due (λ rest. refuse k)
  early k h = inl (k, h, λ rest. refl)

  due : Due in_its_turn
  due =
      bool (λ b. Due (λ rest. choose b (asked Y m x (bad_grant g) rest) (refuse 1))) (right_lengths W m)
      (λ l. bool (λ b. Due (λ rest. choose b (refuse 2) (choose (bad_grant g) (refuse 3) (choose (busy Y m x) (refuse 8) (choose (home_damage Y m x) (refuse 4) rest)))))
      (eqb x 0) (λ z. early 2 (omega arith))
      λ r. bool (λ b. Due (λ rest. choose b (refuse 3) (choose (busy Y m x) (refuse 8) (choose (home_damage Y m x) (refuse 4) rest)))) (bad_grant g) (λ z. early 3 (omega arith))
      λ t. bool (λ b. Due (λ rest. choose b (refuse 8) (choose (home_damage Y m x) (refuse 4) rest))) (busy Y m x) (λ z. early 8 (omega arith))
      λ c. bool (λ b. Due (λ rest. choose b (refuse 4) rest)) (home_damage Y m x) (λ z. early 4 (omega arith))
      λ d. let q = minutes_good g t in
      inr record { lengths = l; real = eqb-false x 0 r; timely = q.0; issued = q.1; calm = c; sound = d })
      λ z. early 1 (omega arith)

  -- before its turn what comes behind does not matter
  pub before_turn : ¬ ItsTurn W m g → (rest rest' : Outcome) → in_its_turn rest ≡ in_its_turn rest'
  before_turn n rest rest' = ⊎_elim (λ (k, h, e). e rest ∙ sym (e rest')) (λ t. absurd (n t)) due

  module _ (rest : Outcome) where
    pub in_turn : ItsTurn W m g → in_its_turn rest ≡ rest
    in_turn t = rw (t.lengths, ne_eqb x 0 t.real, good_minutes g t.timely t.issued, t.calm, t.sound)

    -- an outcome of it: one of the early refusals, or what comes behind them
    pub sorted : ((k : ℕ) × (k < 9) × (in_its_turn rest ≡ refuse k)) ⊎ (ItsTurn W m g × (in_its_turn rest ≡ rest))
    sorted = ⊎_elim (λ (k, h, e). inl (k, h, e rest)) (λ t. inr (t, in_turn t)) due

    -- an answer that is no early refusal
    pub turned : ((k : ℕ) → k < 9 → (in_its_turn rest).answer ≢ refused k) → ItsTurn W m g × (in_its_turn rest ≡ rest)
    turned n = ⊎_elim (λ (k, h, e). absurd (n k h (ap (λ (o : Outcome). o.answer) e))) (λ t. t) sorted
