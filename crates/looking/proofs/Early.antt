-- Refusals 1, 2 and 3, that every call about an animal takes first. Assumes nothing.
use Prim.Native.Nat.{ℕ}
use mathlib.Core.Path.{◌≡◌, refl, sym, ap, ◌∙◌}
use mathlib.Core.Logic.{◌≢◌}
use mathlib.Core.Bool.{Bool, true, false, not}
use lib.Dec.{eqb}
use borrow.Author.Tests.{eq-eqb, ne_eqb, eqb-false, not-true, not-false}
use Rattle.std.specs.Prelude.{Result, Ok, Err}
use Rattle.model.specs.Choice.{choose}
use Rattle.model.specs.Memory.{Mem}
use Rattle.model.specs.Said.{refusal_number}
use Rattle.model.specs.Shape.{Ways, right_lengths, shape_of}
use Rattle.model.specs.Calls.{Outcome, asked, busy, home_damage, refuse}
use Rattle.model.specs.declared.Refusal.{Refusal}
use Rattle.model.specs.declared.Refusal.TheVariants as refusal
use Rattle.looking.specs.Look.{Passed, early}

-- what a test of refusals makes of a call
abbrev pub unless : Result Unit Refusal → Outcome → Outcome
unless (Ok u) o = o
unless (Err r) o = refuse (refusal_number r)

-- the three by their tests
abbrev test : Bool → Bool → Bool → Result Unit Refusal
test g b c = choose g (choose b (Err refusal.NoAnimal) (choose c (Err refusal.Minutes) (Ok tt))) (Err refusal.Lengths)

module _ (W : Ways) (m : Mem) (x : ℕ) (bad : Bool) where
  -- a call about animal x, where o is what comes behind its refusals
  abbrev pub asked_now : Outcome → Outcome
  asked_now o = choose (right_lengths W m) (asked (shape_of W m) m x bad o) (refuse 1)

  -- one of the three is due
  pub early_outcome : {e : Result Unit Refusal} {r : Refusal} → e ≡ early (right_lengths W m) x bad → e ≡ Err r
      → (o : Outcome) → asked_now o ≡ refuse (refusal_number r)
  early_outcome e q o = go (right_lengths W m) (eqb x 0) bad (sym e ∙ q)
    where
      rest : Outcome
      rest = choose (busy (shape_of W m) m x) (refuse 8) (choose (home_damage (shape_of W m) m x) (refuse 4) o)

      go : (g b c : Bool) {r : Refusal} → test g b c ≡ Err r → choose g (choose b (refuse 2) (choose c (refuse 3) rest)) (refuse 1) ≡ refuse (refusal_number r)
      go false b c f = ap (λ e. unless e rest) f
      go true true c f = ap (λ e. unless e rest) f
      go true false true f = ap (λ e. unless e rest) f
      go true false false f = absurd (cc)

  -- none of them is
  pub early_passed : {b : Bool} {e : Result Unit Refusal} → b ≡ bad → e ≡ early (right_lengths W m) x b → e ≡ Ok tt → Passed W m x bad
  early_passed {b} eb e q = go (right_lengths W m) (eqb x 0) bad refl refl refl (sym (e ∙ ap (early (right_lengths W m) x) eb) ∙ q)
    where
      go : (g b c : Bool) → right_lengths W m ≡ g → eqb x 0 ≡ b → bad ≡ c → test g b c ≡ Ok tt → Passed W m x bad
      go false b c eg eb ec f = absurd (cc)
      go true true c eg eb ec f = absurd (cc)
      go true false true eg eb ec f = absurd (cc)
      go true false false eg eb ec f = record { lengths = eg; real = eqb-false x 0 eb; timely = ec }

  -- each test by itself, where a call leaves at the first that is due
  module _ {g : Bool} (e : g ≡ right_lengths W m) where
    pub due_one : not g ≡ true → (o : Outcome) → asked_now o ≡ refuse 1
    due_one t o = rw (sym e ∙ not-true g t)

    module _ (t : not g ≡ false) where
      pub due_two : x ≡ 0 → (o : Outcome) → asked_now o ≡ refuse 2
      due_two z o = rw (sym e ∙ not-false g t, eq-eqb x 0 z)

      module _ (nz : x ≢ 0) {b : Bool} (eb : b ≡ bad) where
        pub due_three : b ≡ true → (o : Outcome) → asked_now o ≡ refuse 3
        due_three y o = rw (sym e ∙ not-false g t, ne_eqb x 0 nz, sym eb ∙ y)

        pub none_due : b ≡ false → Passed W m x bad
        none_due n = record { lengths = sym e ∙ not-false g t; real = nz; timely = sym eb ∙ n }

  -- and then only busy and damage come before the rest
  pub past_early : Passed W m x bad → (o : Outcome)
      → asked_now o ≡ choose (busy (shape_of W m) m x) (refuse 8) (choose (home_damage (shape_of W m) m x) (refuse 4) o)
  past_early p o =
      let rest = choose (busy (shape_of W m) m x) (refuse 8) (choose (home_damage (shape_of W m) m x) (refuse 4) o) in
      ap (λ g. choose g (asked (shape_of W m) m x bad o) (refuse 1)) p.lengths
      ∙ ap (λ z. choose z (refuse 2) (choose bad (refuse 3) rest)) (ne_eqb x 0 p.real) ∙ ap (λ z. choose z (refuse 3) rest) p.timely

-- the lengths are good where none of the three is due
pub passed_lengths : (W : Ways) (m : Mem) (x : ℕ) (b : Bool) {e : Result Unit Refusal} → e ≡ early (right_lengths W m) x b → e ≡ Ok tt
    → right_lengths W m ≡ true
passed_lengths W m x b e q = (early_passed W m x b refl e q).lengths
