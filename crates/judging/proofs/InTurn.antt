-- The verdict in the code's own words: a law a way out. Assumes nothing.
use Prim.Native.Nat.{ℕ, ◌/◌}
use mathlib.Core.Path.{◌≡◌, refl, sym, ap, ◌∙◌}
use mathlib.Core.Bool.{true}
use Rattle.std.specs.Prelude.{Option, Some, None, Result, Ok, Err}
use Rattle.std.specs.Result.{IsErrAnd}
use lib.ListN.{length}
use Rattle.model.specs.Choice.{first, range}
use Rattle.model.specs.Memory.{Mem}
use Rattle.model.specs.Shape.{Shape, four, right_lengths, shape_of}
use Rattle.judgement.specs.Conditions.{is_misshapen, is_hurt, is_uneven, is_stray, is_unsought, is_doubled, is_wide, is_unswept}
use Rattle.judgement.specs.Verdict.{Verdict, broken, judgement}
use Rattle.judgement.specs.Said.{condition_number, said}
use Rattle.judgement.specs.declared.Broken.{Broken}
use Rattle.judgement.specs.declared.Condition.{Condition}
use Rattle.judgement.specs.declared.Condition.TheVariants as condition
use Rattle.judgement.proofs.Sound.{shapes_right}
use Rattle.pointing.specs.Known.{Aimed, Sought}
use Rattle.judging.specs.Judging.{unless}

-- a walk found nothing, or the number that is told
whole : {b o : Option ℕ} (k : Condition) → b ≡ o → Ok tt ≡ unless b k → o ≡ None
whole {b} {o} k e q = sym e ∙ go b q
  where
    go : (b : Option ℕ) → Ok tt ≡ unless b k → b ≡ None
    go None q = refl
    go (Some i) q = absurd (cc)

at : {b o : Option ℕ} {k : Condition} {x : Broken} → b ≡ o → Err x ≡ unless b k → (o ≡ Some x.at) × (x.condition ≡ k)
at {b} {o} {k} {x} e q = go b q e
  where
    go : (b : Option ℕ) → Err x ≡ unless b k → b ≡ o → (o ≡ Some x.at) × (x.condition ≡ k)
    go None q e = absurd (cc)
    go (Some i) q e =
        let f : x ≡ record { condition = k; at = i } = cc in
        (sym e ∙ ap Some (sym (ap (λ (x : Broken). x.at) f)), ap (λ (x : Broken). x.condition) f)

told : (x : Broken) {k : Condition} → x.condition ≡ k → said (Err x) ≡ broken (condition_number k) x.at
told x e = ap (λ c. broken (condition_number c) x.at) e

-- a no goes on as it came
pub goes_on : (r : Result Unit Broken) (x : Broken) {v : Verdict} → IsErrAnd r (λ y. y ≡ x) → said (Err x) ≡ v → said r ≡ v
goes_on (Ok u) x h e = absurd h
goes_on (Err y) x h e = ap (λ y. said (Err y)) h ∙ e

module _ (m : Mem) where
  abbrev Y : Shape
  Y = shape_of four m

  module _ {b₁ : Option ℕ} (e₁ : b₁ ≡ first (is_misshapen four (length m.slots) (length m.counters) (length m.items)) (range 0 3)) where
    pub by_one : {x : Broken} → Err x ≡ unless b₁ condition.Lengths → said (Err x) ≡ judgement four m
    unfolding judgement
    by_one {x} q = let h = at e₁ q in rw (h.0) (told x h.1)

    pub right_now : Ok tt ≡ unless b₁ condition.Lengths → right_lengths four m ≡ true
    right_now q = shapes_right four m (whole condition.Lengths e₁ q)

    module _ (n₁ : Ok tt ≡ unless b₁ condition.Lengths) {b₂ : Option ℕ} (e₂ : b₂ ≡ first (is_hurt (length m.items / 4) m.slots) (range 0 (length m.slots))) where
      pub by_two : {x : Broken} → Err x ≡ unless b₂ condition.Damage → said (Err x) ≡ judgement four m
      unfolding judgement
      by_two {x} q = let h = at e₂ q in rw (whole condition.Lengths e₁ n₁, h.0) (told x h.1)

      module _ (n₂ : Ok tt ≡ unless b₂ condition.Damage) {b₃ : Option ℕ} (e₃ : b₃ ≡ first (is_uneven m.counters) (range 0 (length m.counters))) where
        pub by_three : {x : Broken} → Err x ≡ unless b₃ condition.Odd → said (Err x) ≡ judgement four m
        unfolding judgement
        by_three {x} q = let h = at e₃ q in rw (whole condition.Lengths e₁ n₁, whole condition.Damage e₂ n₂, h.0) (told x h.1)

        module _ (n₃ : Ok tt ≡ unless b₃ condition.Odd) {b₄ : Option ℕ} (e₄ : b₄ ≡ first (is_stray Y m) (range 0 (length m.slots))) where
          pub by_four : {x : Broken} → Err x ≡ unless b₄ condition.Stray → said (Err x) ≡ judgement four m
          unfolding judgement
          by_four {x} q = let h = at e₄ q in rw (whole condition.Lengths e₁ n₁, whole condition.Damage e₂ n₂, whole condition.Odd e₃ n₃, h.0) (told x h.1)

          module _ (n₄ : Ok tt ≡ unless b₄ condition.Stray) {b₅ : Option ℕ} (e₅ : b₅ ≡ first (is_unsought Y m) (range 0 (length m.items / 4))) where
            pub by_five : {x : Broken} → Err x ≡ unless b₅ condition.Unsought → said (Err x) ≡ judgement four m
            unfolding judgement
            by_five {x} q = let h = at e₅ q in rw (whole condition.Lengths e₁ n₁, whole condition.Damage e₂ n₂, whole condition.Odd e₃ n₃, whole condition.Stray e₄ n₄, h.0) (told x h.1)

            module _ (n₅ : Ok tt ≡ unless b₅ condition.Unsought) {b₆ : Option ℕ} (e₆ : b₆ ≡ first (is_doubled Y m) (range 0 (length m.items / 4))) where
              pub by_six : {x : Broken} → Err x ≡ unless b₆ condition.Doubled → said (Err x) ≡ judgement four m
              unfolding judgement
              by_six {x} q = let h = at e₆ q in rw (whole condition.Lengths e₁ n₁, whole condition.Damage e₂ n₂, whole condition.Odd e₃ n₃, whole condition.Stray e₄ n₄, whole condition.Unsought e₅ n₅, h.0) (told x h.1)

              module _ (n₆ : Ok tt ≡ unless b₆ condition.Doubled) {b₇ : Option ℕ} (e₇ : b₇ ≡ first (is_wide m.items) (range 0 (length m.items / 4))) where
                pub by_seven : {x : Broken} → Err x ≡ unless b₇ condition.Wide → said (Err x) ≡ judgement four m
                unfolding judgement
                by_seven {x} q = let h = at e₇ q in rw (whole condition.Lengths e₁ n₁, whole condition.Damage e₂ n₂, whole condition.Odd e₃ n₃, whole condition.Stray e₄ n₄, whole condition.Unsought e₅ n₅, whole condition.Doubled e₆ n₆, h.0) (told x h.1)

                module _ (n₇ : Ok tt ≡ unless b₇ condition.Wide) {b₈ : Option ℕ} (e₈ : b₈ ≡ first (is_unswept m.items) (range 0 (length m.items / 4))) where
                  pub by_eight : {x : Broken} → Err x ≡ unless b₈ condition.Unswept → said (Err x) ≡ judgement four m
                  unfolding judgement
                  by_eight {x} q = let h = at e₈ q in rw (whole condition.Lengths e₁ n₁, whole condition.Damage e₂ n₂, whole condition.Odd e₃ n₃, whole condition.Stray e₄ n₄, whole condition.Unsought e₅ n₅, whole condition.Doubled e₆ n₆, whole condition.Wide e₇ n₇, h.0) (told x h.1)

                  pub by_sound : Ok tt ≡ unless b₈ condition.Unswept → said (Ok tt) ≡ judgement four m
                  unfolding judgement
                  by_sound q = rw (whole condition.Lengths e₁ n₁, whole condition.Damage e₂ n₂, whole condition.Odd e₃ n₃, whole condition.Stray e₄ n₄, whole condition.Unsought e₅ n₅, whole condition.Doubled e₆ n₆, whole condition.Wide e₇ n₇, whole condition.Unswept e₈ q)

                  pub by_last : {r : Result Unit Broken} → r ≡ unless b₈ condition.Unswept → said r ≡ judgement four m
                  by_last {r} q = go r q
                    where
                      go : (r : Result Unit Broken) → r ≡ unless b₈ condition.Unswept → said r ≡ judgement four m
                      go (Ok tt) q = by_sound q
                      go (Err x) q = by_eight q

-- what is known when the turn of 5 and of 6 comes
module _ (m : Mem) {b₁ b₄ : Option ℕ} (e₁ : b₁ ≡ first (is_misshapen four (length m.slots) (length m.counters) (length m.items)) (range 0 3)) (n₁ : Ok tt ≡ unless b₁ condition.Lengths)
    (e₄ : b₄ ≡ first (is_stray (shape_of four m) m) (range 0 (length m.slots))) (n₄ : Ok tt ≡ unless b₄ condition.Stray) where
  pub aimed_now : Aimed m
  aimed_now = record { right = right_now m e₁ n₁; aimed = whole condition.Stray e₄ n₄ }

  pub sought_now : {b₅ : Option ℕ} → b₅ ≡ first (is_unsought (shape_of four m) m) (range 0 (length m.items / 4)) → Ok tt ≡ unless b₅ condition.Unsought → Sought m
  sought_now e₅ n₅ = record { aims = aimed_now; sought = whole condition.Unsought e₅ n₅ }
