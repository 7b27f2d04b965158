-- Refusals 1, 2, 3, 8 and 4: what they say of a call. Assumes nothing.
use Prim.Native.Nat.{ℕ}
use mathlib.Core.Path.{◌≡◌, refl, sym, ap, ◌∙◌}
use mathlib.Core.Bool.{Bool, true, false}
use lib.Dec.{eqb}
use Rattle.std.specs.Prelude.{Result, Ok, Err}
use Rattle.model.specs.Choice.{choose}
use Rattle.model.specs.Memory.{Mem}
use Rattle.model.specs.Said.{refusal_number}
use Rattle.model.specs.Shape.{Ways, right_lengths, shape_of}
use Rattle.model.specs.Calls.{Outcome, busy, home_damage, refuse}
use Rattle.model.specs.declared.Refusal.{Refusal}
use Rattle.model.specs.declared.Refusal.TheVariants as refusal
use Rattle.model.proofs.ListLaws.{bool}
use Rattle.looking.specs.Look.{due, sound}
use Rattle.looking.proofs.Early.{asked_now, unless}

module _ (W : Ways) (m : Mem) (x : ℕ) (bad : Bool) where
  -- a call by what is due
  due_outcome : (o : Outcome) → asked_now W m x bad o ≡ unless (due W m x bad) o
  due_outcome o = go (right_lengths W m) (eqb x 0) bad (busy (shape_of W m) m x) (home_damage (shape_of W m) m x)
    where
      tests : Bool → Bool → Bool → Bool → Bool → Result Unit Refusal
      tests g b c d f =
          choose g
          (choose b (Err refusal.NoAnimal)
          (choose c (Err refusal.Minutes) (choose d (Err refusal.Busy) (choose f (Err refusal.Damaged) (Ok tt))))) (Err refusal.Lengths)

      go : (g b c d f : Bool)
          → choose g (choose b (refuse 2) (choose c (refuse 3) (choose d (refuse 8) (choose f (refuse 4) o)))) (refuse 1)
          ≡ unless (tests g b c d f) o
      go false b c d f = refl
      go true true c d f = refl
      go true false true d f = refl
      go true false false true f = refl
      go true false false false true = refl
      go true false false false false = refl

  module _ {b : Bool} {e : Result Unit Refusal} (eb : b ≡ bad) (ed : e ≡ due W m x b) where
    now_due : due W m x bad ≡ e
    now_due = sym (ed ∙ ap (due W m x) eb)

    -- one of them is due
    pub is_due : {r : Refusal} → e ≡ Err r → (o : Outcome) → asked_now W m x bad o ≡ refuse (refusal_number r)
    is_due q o = due_outcome o ∙ ap (λ e. unless e o) (now_due ∙ q)

    -- none of them is
    module _ (q : e ≡ Ok tt) where
      pub none_is_due : (o : Outcome) → asked_now W m x bad o ≡ o
      none_is_due o = due_outcome o ∙ ap (λ e. unless e o) (now_due ∙ q)

      pub due_lengths : right_lengths W m ≡ true
      due_lengths =
          bool (λ g. right_lengths W m ≡ g → choose g rest (Err refusal.Lengths) ≡ Ok tt → right_lengths W m ≡ true) (right_lengths W m) (λ t h f. h)
          (λ t h f. absurd (cc)) refl (now_due ∙ q)
        where
          rest : Result Unit Refusal
          rest = choose (eqb x 0) (Err refusal.NoAnimal) (choose bad (Err refusal.Minutes) (sound W m x tt))
