-- Age runs from issue: after a set that was stored, a read judges its permission by its minute of issue. Assumes nothing.
use Prim.Native.Nat.{ℕ, ◌*◌, ◌^◌, ◌≤◌, ◌-◌}
use native.Mathlib.Omega.{arith}
use mathlib.Core.Path.{◌≡◌, refl, sym, ap, ◌∙◌, subst, ap₂}
use mathlib.Core.Logic.{◌≢◌}
use mathlib.Core.Bool.{Bool, true, false}
use Rattle.std.specs.Prelude.{Option, Some}
use mathlib.Core.List.{List, []}
use lib.ListN.{length}
use lib.IntN.{ℤ}
use lib.Dec.{eqb, ltb}
use borrow.Author.Tests.{eq-eqb, eqb-false, eqb-true, le-ltb, ne_eqb}
use Rattle.model.specs.Choice.{choose, range}
use Rattle.model.specs.Memory.{Mem, animal, permission, stamp}
use Rattle.model.specs.Shape.{Shape, Ways, right_lengths, shape_of}
use Rattle.model.specs.Calling.{did, read, set_animal, Typed}
use Rattle.model.specs.Answers.{Answer, ahead, fresh, is, old, planned, refused, stored, value}
use Rattle.model.specs.Age.{least_left, no_minute}
use Rattle.model.specs.Row.{Row, beyond, fill, plain, renew, row_bad_grant, row_bad_time, row_call, row_late, row_left, row_new, row_read, row_says, row_set, stay, walk_to}
use Rattle.model.specs.WellFormed.{WellFormed}
use Rattle.model.specs.AnyTable.{leaves}
use Rattle.model.specs.Demands.{AgeFromIssue, reads, table}
use Rattle.model.specs.Ours.{ours}
use Rattle.model.specs.declared.Grant.{Grant}
use Rattle.model.proofs.ListLaws.{First, bool, found, in_range, missing, range_in, true_false, walk_is}
use Rattle.model.proofs.KeepBlocks.{fill_is, live_in, renew_is}
use Rattle.model.proofs.OnWellFormed.{as_row_on, well_on, words_on}
use Rattle.model.proofs.Demands.{well_story}

-- a refusal is not stored
refusal : {A : Type 0} (n : ℕ) → refused n ≡ stored 0 0 → A
refusal n e = let z : ◌≡◌ {A = ℕ} 0 1 = cc in absurd (omega arith)

-- place p of the row l holds what was granted
record Holding (g : Grant) (l : List ℕ) (p : ℕ) : Type 0 where
  animal_is : animal l p ≡ g.animal
  permission_is : permission l p ≡ g.permission
  stamp_is : stamp l p ≡ g.issued

module _ (M told : ℕ) (l : List ℕ) (g : Grant) (long : length l ≡ 4 * M) where
  abbrev Kept : Row → Type 0
  Kept r = r.answer ≡ stored 0 0 → (p : ℕ) × Holding g r.words p

  kept_new : {o : Option ℕ} → First (λ p. eqb (animal l p) 0) (range 0 M) o → Kept (row_new M told l g o)
  kept_new (missing h) e = refusal 5 e
  kept_new (found {i = p} r t) e =
      bool (λ b. Kept (choose b (stay l (refused 6)) (record { answer = stored 0 0; words = fill l p g.animal g.permission g.issued 1 })))
      (eqb told 6) (λ z e. refusal 6 e)
      (λ z e. let f = fill_is l M p long (omega (arith, in_range 0 M r)) g.animal g.permission g.issued 1 in
      (p, record { animal_is = f.w0; permission_is = f.w1; stamp_is = f.w2 })) e

  kept_set : {o : Option ℕ} → First (λ p. eqb (animal l p) g.animal) (range 0 M) o → Kept (row_set M told l g o)
  kept_set (missing h) e = kept_new (walk_is l 0 M 0) e
  kept_set (found {i = p} r t) e =
      bool (λ b. Kept (choose b (stay l (refused 11)) (record { answer = stored 0 0; words = renew l p g.permission g.issued })))
      (row_late M (stamp l p) g) (λ z e. refusal 11 e)
      (λ z e. let f = renew_is l M p long (omega (arith, in_range 0 M r)) g.permission g.issued in
      (p, record { animal_is = f.w0 ∙ eqb-true (animal l p) g.animal t; permission_is = f.w1; stamp_is = f.w2 })) e

  -- a set that is stored is of a real animal, and the row then holds what it brought
  kept : (row_call M told l (set_animal g)).answer ≡ stored 0 0
      → (g.animal ≢ 0) × ((p : ℕ) × Holding g (row_call M told l (set_animal g)).words p)
  kept e = go (eqb g.animal 0) (row_bad_grant M g) refl e
    where
      go : (b c : Bool) → eqb g.animal 0 ≡ b
          → (choose b (stay l (refused 2)) (choose c (stay l (refused 3)) (row_set M told l g (walk_to l g.animal M 0)))).answer ≡ stored 0 0
          → (g.animal ≢ 0)
          × ((p : ℕ) × Holding g (choose b (stay l (refused 2)) (choose c (stay l (refused 3)) (row_set M told l g (walk_to l g.animal M 0)))).words p)
      go true c z e = refusal 2 e
      go false true z e = refusal 3 e
      go false false z e = (eqb-false g.animal 0 z, kept_set (walk_is l g.animal M 0) e)

-- in a well-formed table the walk comes to the place that holds the animal
pub walk_there : (Y : Shape) (m : Mem) → WellFormed Y m → (x : ℕ) → x ≢ 0 → (p : ℕ) → animal m.items p ≡ x
    → {o : Option ℕ} → First (λ q. eqb (animal m.items q) x) (range 0 Y.places) o → o ≡ Some p
walk_there Y m w x nz p e (found {i = i} r t) =
    let f = eqb-true (animal m.items i) x t in ap Some (w.distinct i p (rw f nz) (f ∙ sym e))
walk_there Y m w x nz p e (missing h) =
    true_false (eq-eqb (animal m.items p) x e) (h p (range_in 0 Y.places (omega arith) (omega (arith, live_in Y w p (rw e nz)))))

-- a read of the row with good inputs, where its walk came to place p
row_told : (M : ℕ) (l : List ℕ) (x limit now p : ℕ) → x ≢ 0 → limit ≤ 10080 → now ≢ no_minute → walk_to l x M 0 ≡ Some p
    → (row_call M 0 l (read x limit now)).answer ≡ row_says limit now (permission l p) (stamp l p)
row_told M l x limit now p nz lim min there =
    let good : row_bad_time M limit now ≡ false = rw (le-ltb 10080 limit lim, ne_eqb now no_minute min) in
    ap (λ b. (row_asked_by b (row_bad_time M limit now)).answer) (ne_eqb x 0 nz) ∙ ap (λ b. (row_asked_by false b).answer) good
    ∙ ap (row_read M l limit now) there
  where
    row_asked_by : Bool → Bool → Row
    row_asked_by b c = choose b (stay l (refused 2)) (choose c (stay l (refused 3)) (stay l (row_read M l limit now (walk_to l x M 0))))

-- what a read says has neither counts nor planned slots to leave out
unplain : (limit now v s : ℕ) (a : Answer) → plain a ≡ row_says limit now v s → a ≡ row_says limit now v s
unfolding row_says
unplain limit now v s a = go (eqb s (2 ^ 64 - 1)) (ltb now s) (ltb limit (now - s))
  where
    same : (r : Answer) → is 4 r ≡ false → is 10 r ≡ false → plain a ≡ r → a ≡ r
    same r n k e =
        bool (λ b. choose b (stored 0 0) (choose (is 10 a) (planned [] (value a 1) 0) a) ≡ r → a ≡ r) (is 4 a)
        (λ z f. true_false (ap (is 4) (sym f)) n)
        (λ z f. bool (λ b. choose b (planned [] (value a 1) 0) a ≡ r → a ≡ r) (is 10 a) (λ z f. true_false (ap (is 10) (sym f)) k) (λ z f. f) f) e

    z : ℤ
    z = row_left limit now s

    go : (b c d : Bool) → plain a ≡ choose b (old least_left) (choose c ahead (choose d (old z) (fresh v z)))
        → a ≡ choose b (old least_left) (choose c ahead (choose d (old z) (fresh v z)))
    go true c d = same (old least_left) refl refl
    go false true d = same ahead refl refl
    go false false true = same (old z) refl refl
    go false false false = same (fresh v z) refl refl

module _ (W : Ways) (m₀ : Mem) (right : right_lengths W m₀ ≡ true) (m : Mem) (w : WellFormed (shape_of W m₀) m) (g : Grant) (t : Typed (set_animal g)) where
  abbrev Y : Shape
  Y = shape_of W m₀

  abbrev m' : Mem
  m' = leaves (ours W) m (did (set_animal g))

  well : WellFormed Y m'
  well = well_on W m₀ right m w (set_animal g) t

  -- on every well-formed table
  pub from_issue_on : (v n : ℕ) → (ours W).answer m (did (set_animal g)) ≡ stored v n
      → (limit now : ℕ) → limit ≤ 10080 → now ≢ no_minute → reads W (ours W) m' g.animal limit now ≡ row_says limit now g.permission g.issued
  from_issue_on v n e limit now lim min =
      let M = Y.places in
      let x = g.animal in
      let told = beyond ((ours W).answer m (did (set_animal g))) in
      let k = kept M told m.items g w.items_long (sym (as_row_on W m₀ right m w (set_animal g) t) ∙ ap plain e) in
      let p = k.1.0 in
      let h : Holding g m'.items p = subst (λ l. Holding g l p) (sym (words_on W m₀ right m w (set_animal g) t)) k.1.1 in
      let there = walk_there Y m' well x k.0 p h.animal_is (walk_is m'.items x M 0) in
      let said = row_told M m'.items x limit now p k.0 lim min there ∙ ap₂ (row_says limit now) h.permission_is h.stamp_is in
      unplain limit now g.permission g.issued (reads W (ours W) m' x limit now) (as_row_on W m₀ right m' well (read x limit now) tt ∙ said)

module _ (W : Ways) where
  pub age_from_issue : AgeFromIssue W (ours W)
  age_from_issue s g t v n e limit now lim min =
      from_issue_on W s.memory s.right (table W (ours W) s) (well_story W s) g t v n e limit now lim min
