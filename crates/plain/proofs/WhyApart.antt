-- On any memory: the plain engine says what read says, or why the two may differ. Assumes nothing.
use Prim.Native.Nat.{ℕ, ◌*◌, ◌/◌, ◌<◌}
use native.Mathlib.Omega.{arith}
use native.Mathlib.Decide.{ℕ_discrete, dec_lt}
use mathlib.Core.Path.{◌≡◌, refl, sym, ap, ◌∙◌}
use mathlib.Core.Logic.{◌≢◌, inl, inr, dite}
use mathlib.Core.Bool.{Bool, true, false}
use Rattle.std.specs.Prelude.{Option, Some}
use lib.ListN.{length}
use lib.Dec.{eqb}
use borrow.Author.Tests.{eq-eqb, eqb-false, eqb-true}
use Rattle.model.specs.Choice.{choose, range}
use Rattle.model.specs.Memory.{Mem, animal, place, tag, word}
use Rattle.model.specs.Shape.{Shape, Ways, good_items, homes, right_lengths, shape_of}
use Rattle.model.specs.Answers.{Answer}
use Rattle.model.specs.Age.{bad_time, judge}
use Rattle.model.specs.Calls.{busy, held, hit, hits, home_damage, place_at, refuse, tell}
use Rattle.model.specs.Row.{walk_to}
use Rattle.model.proofs.ListLaws.{First, both_is, first_is, found, in_range, inside_held, missing, range_in, true_false, walk_is}
use Rattle.model.proofs.Lent.{fit}
use Rattle.plain.specs.Plain.{plain_read}
use Rattle.plain.specs.Owed.{AgreesOrApart, read_says, refuses, twins, unreached}
use Rattle.plain.proofs.Says.{by as plain_by, by_tests}
use Rattle.plain.proofs.SameAsRead.{items_good}

module _ (W : Ways) (m : Mem) (x limit now : ℕ) where
  abbrev Y : Shape
  Y = shape_of W m

  abbrev M : ℕ
  M = length m.items / 4

  -- what read says, by its tests and its hit
  abbrev by : Bool → Bool → Bool → Bool → Bool → Answer
  by r z b d f =
      (choose r (choose z (refuse 2) (choose b (refuse 3) (choose d (refuse 8) (choose f (refuse 4) (tell (judge m.items limit now (held Y m x)))))))
      (refuse 1)).answer

  -- a place that has a number lies in the items
  inside : right_lengths W m ≡ true → x ≢ 0 → {p : ℕ} → animal m.items p ≡ x → p < M
  inside r nz {p} e = omega (arith, inside_held m.items (4 * p) (rw e nz), (fit W m r).items_fit)

  -- neither refuses: by the hit of the one and the walk of the other
  at : right_lengths W m ≡ true → x ≢ 0 → {o o' : Option ℕ} → First (hits Y m x) (homes Y x) o
      → First (λ p. eqb (animal m.items p) x) (range 0 M) o'
      → read_says W m x limit now ≡ judge m.items limit now (place_at m o) → plain_read m.items x limit now ≡ judge m.items limit now o'
      → AgreesOrApart W m x limit now
  unfolding hits
  at r nz (found {i = i} q t) (found {i = p} q' t') e e' =
      let h = place (word m i) in
      let a : animal m.items h ≡ x = (both_is (tag (word m i)) (Y.tag_of x) (animal m.items h) x t).1 in
      let b : animal m.items p ≡ x = eqb-true (animal m.items p) x t' in
      dite (ℕ_discrete p h) (λ k. inl (e' ∙ ap (λ (p : ℕ). judge m.items limit now (Some p)) k ∙ sym e))
      λ ne. dite (dec_lt p h) (λ k. inr (twins nz k (inside r nz a) b a)) λ k. inr (twins {p = h} {q = p} nz (omega arith) (inside r nz b) a b)
  at r nz (found {i = i} q t) (missing h) e e' =
      let p = place (word m i) in
      let a : animal m.items p ≡ x = (both_is (tag (word m i)) (Y.tag_of x) (animal m.items p) x t).1 in
      true_false (eq-eqb (animal m.items p) x a) (h p (range_in 0 M (omega arith) (omega (arith, inside r nz a))))
  at r nz (missing h) (found {i = p} q' t') e e' =
      inr (unreached {p = p} nz (omega (arith, in_range 0 M q')) (eqb-true (animal m.items p) x t') e)
  at r nz (missing h) (missing h') e e' = inl (e' ∙ sym e)

  pub plain_or_apart : AgreesOrApart W m x limit now
  unfolding hit
  plain_or_apart =
      go (right_lengths W m) (good_items (length m.items)) (eqb x 0) (bad_time limit now) (busy Y m x) (home_damage Y m x)
      (λ r. r) (λ g. g) (items_good W m) (eqb-false x 0) refl (by_tests m.items x limit now refl refl refl)
    where
      go : (r g z b d f : Bool) → (r ≡ true → right_lengths W m ≡ true) → (g ≡ true → good_items (length m.items) ≡ true) → (r ≡ true → g ≡ true)
          → (z ≡ false → x ≢ 0) → read_says W m x limit now ≡ by r z b d f
          → plain_read m.items x limit now ≡ plain_by m.items x limit now g z b (walk_to m.items x M 0) → AgreesOrApart W m x limit now
      go false false z b d f right long fit nz e e' = inl (e' ∙ sym e)
      go false true z b d f right long fit nz e e' = inr (refuses (long refl) e refl)
      go true false z b d f right long fit nz e e' = true_false (fit refl) refl
      go true true true b d f right long fit nz e e' = inl (e' ∙ sym e)
      go true true false true d f right long fit nz e e' = inl (e' ∙ sym e)
      go true true false false true f right long fit nz e e' = inr (refuses (long refl) e refl)
      go true true false false false true right long fit nz e e' = inr (refuses (long refl) e refl)
      go true true false false false false right long fit nz e e' =
          at (right refl) (nz refl) (first_is (hits Y m x) (homes Y x)) (walk_is m.items x M 0) e e'
