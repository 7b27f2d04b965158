-- Wish 1: when a list is late, and what comes of it. Assumes nothing.
use Prim.Native.Nat.{ℕ, ◌+◌, ◌*◌, ◌<◌, ◌≤◌}
use native.Mathlib.Omega.{arith}
use native.Mathlib.Decide.{dec_lt}
use mathlib.Core.Path.{◌≡◌, refl, sym, ap, ◌∙◌}
use mathlib.Core.Logic.{◌≢◌, ◌⊎◌, inl, inr, ⊎_elim, dite}
use mathlib.Core.Bool.{Bool, true, false, not, ◌&&◌}
use Rattle.std.specs.Prelude.{Option, Some, None}
use mathlib.Core.List.{List}
use lib.ListN.{length, set, length-set, get_or-eq_default}
use lib.Seq.{get_or-set_same, get_or-set_other}
use lib.Dec.{eqb, ltb}
use borrow.Author.Tests.{eq-eqb, eqb-false, lt-ltb, ltb-true, ne_eqb}
use Rattle.model.specs.Choice.{choose}
use Rattle.model.specs.Memory.{Mem, stamp}
use Rattle.model.specs.Shape.{Shape, Ways, counter_of, shape_of}
use Rattle.model.specs.Calling.{set_animal}
use Rattle.model.specs.Answers.{refused, stored}
use Rattle.model.specs.Age.{late, retired_mark}
use Rattle.model.specs.Calls.{Outcome, enter_at, entered, held, refuse, search_damage, set_at, stopped, updated, vacant_place, visited}
use Rattle.model.specs.Late.{Dated, LateRefused, StampsRise}
use Rattle.model.specs.Lent.{lent_after, lent_call}
use Rattle.model.specs.Row.{renew}
use Rattle.model.specs.declared.Grant.{Grant}
use Rattle.model.proofs.ListLaws.{bool, true_false}
use Rattle.model.proofs.Turns.{in_turn, turned}

module _ (s : ℕ) (g : Grant) where
  -- a late list is what it is said to be
  late_only : late s g ≡ true → (g.issued < s) × (s ≢ retired_mark)
  late_only e = let t = two (ltb g.issued s) (eqb s retired_mark) e in (ltb-true g.issued s t.0, eqb-false s retired_mark t.1)
    where
      two : (a b : Bool) → (a && not b) ≡ true → (a ≡ true) × (b ≡ false)
      two true false e = (refl, refl)
      two true true e = true_false {b = true} refl (sym e)
      two false b e = true_false {b = true} refl (sym e)

  late_if : g.issued < s → s ≢ retired_mark → late s g ≡ true
  late_if l n = rw (lt-ltb g.issued s l, ne_eqb s retired_mark n)

  -- and no list is late for a retired entry
  pub never_late : s ≡ retired_mark → late s g ≡ false
  never_late e = bool (λ b. (b && not (eqb s retired_mark)) ≡ false) (ltb g.issued s) (λ _. rw (eq-eqb s retired_mark e)) λ _. refl

module _ (W : Ways) (m : Mem) (g : Grant) where
  abbrev Y : Shape
  Y = shape_of W m

  abbrev x : ℕ
  x = g.animal

  abbrev rest : Outcome
  rest = set_at Y m g (held Y m x)

  -- 11 is given to a held animal only
  new_other : (o : Option ℕ) → (enter_at Y m g o).answer ≢ refused 11
  new_other None e = let z : ◌≡◌ {A = ℕ} 5 11 = cc in absurd (omega arith)
  new_other (Some p) e = go (search_damage Y m x) (eqb (stopped Y m x) (length (visited Y m x))) e
    where
      go : (b c : Bool) → (choose b (refuse 4) (choose c (refuse 6) (entered Y m g p))).answer ≢ refused 11
      go true c e = let z : ◌≡◌ {A = ℕ} 4 11 = cc in absurd (omega arith)
      go false true e = let z : ◌≡◌ {A = ℕ} 6 11 = cc in absurd (omega arith)
      go false false e = let z : ◌≡◌ {A = ℕ} 0 1 = cc in absurd (omega arith)

  held_late : (o : Option ℕ) → held Y m x ≡ o → (set_at Y m g o).answer ≡ refused 11 → (p : ℕ) × Dated W m g p × (g.issued < stamp m.items p)
  held_late None h e = absurd (new_other (vacant_place Y.places m.items) e)
  held_late (Some p) h e =
      bool (λ b. late (stamp m.items p) g ≡ b → (choose b (refuse 11) (updated (counter_of Y x) p g)).answer ≡ refused 11
      → (p : ℕ) × Dated W m g p × (g.issued < stamp m.items p)) (late (stamp m.items p) g)
      (λ t q e. let k = late_only (stamp m.items p) g q in (p, record { held_at = h; entry = k.1 }, k.0))
      (λ t q e. let z : ◌≡◌ {A = ℕ} 0 1 = cc in absurd (omega arith)) refl e

  pub late_refused : LateRefused W m g
  late_refused = (
    λ e. let t = turned W m g rest (λ k h f. let z : 11 ≡ k = cc in absurd (omega arith)) in
        (t.0, held_late (held Y m x) refl (sym (ap (λ (o : Outcome). o.answer) t.1) ∙ e)),
    λ (t, (p, d, l)). ap (λ (o : Outcome). o.answer) (in_turn W m g rest t) ∙ rw (d.held_at, late_if (stamp m.items p) g l d.entry),
  )

  -- the stamp of a place after an update
  renewed : (l : List ℕ) (p b c : ℕ) → (stamp (renew l p b c) p ≡ c) ⊎ (stamp l p ≡ 0)
  renewed l p b c =
      dite (dec_lt (4 * p + 2) (length l))
      (λ h. inl (get_or-set_other (set (set l (4 * p + 1) b) (4 * p + 2) c) (4 * p + 3) (4 * p + 2) 1 0 (λ e. absurd (omega arith))
      ∙ get_or-set_same (set l (4 * p + 1) b) (4 * p + 2) c 0 (rw length-set h)))
      λ h. inr (get_or-eq_default l 0 (omega arith))

  pub stamps_rise : StampsRise W m g
  stamps_rise p v n d e =
      let s = stamp m.items p in
      let t = turned W m g rest (λ k h f. let z : ◌≡◌ {A = ℕ} 0 1 = cc in absurd (omega arith)) in
      bool (λ b. late s g ≡ b → lent_call W m (set_animal g) ≡ choose b (refuse 11) (updated (counter_of Y x) p g)
      → s ≤ stamp (lent_after W m (set_animal g)).items p) (late s g)
      (λ u q f. let r : stored v n ≡ refused 11 = sym e ∙ ap (λ (o : Outcome). o.answer) f in let z : ◌≡◌ {A = ℕ} 0 1 = cc in absurd (omega arith))
      (λ u q f. rw f (⊎_elim (λ r. rw r (in_order p d q)) (λ z. omega arith) (renewed m.items p g.permission g.issued))) refl
      (t.1 ∙ ap (set_at Y m g) d.held_at)
    where
      -- a list that is not late is issued at the held stamp or after it
      in_order : (p : ℕ) → Dated W m g p → late (stamp m.items p) g ≡ false → stamp m.items p ≤ g.issued
      in_order p d q =
          dite (dec_lt g.issued (stamp m.items p)) (λ l. true_false (late_if (stamp m.items p) g l d.entry) q)
          λ l. omega arith
