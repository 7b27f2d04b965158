-- On any items: the refusals in their turn, then the first place with that number. Assumes nothing.
use Prim.Native.Nat.{ℕ, zero, suc, ◌+◌, ◌/◌, ◌<◌, ◌≤◌}
use native.Mathlib.Omega.{arith}
use native.Mathlib.Decide.{ℕ_discrete}
use mathlib.Core.Path.{◌≡◌, refl, sym, ap, subst, ◌∙◌}
use mathlib.Core.Logic.{◌≢◌, dite}
use mathlib.Core.Bool.{Bool, true, false}
use Rattle.std.specs.Prelude.{Option, Some, None}
use mathlib.Core.List.{List, [], ◌∷◌}
use lib.ListN.{length}
use lib.Dec.{eqb, ltb}
use borrow.Author.Tests.{eq-eqb, eqb-false, eqb-true, ne_eqb, le-ltb, lt-ltb}
use Rattle.model.specs.Choice.{choose, first, one_of, range}
use Rattle.model.specs.Memory.{animal, permission, stamp}
use Rattle.model.specs.Shape.{good_items}
use Rattle.model.specs.Answers.{Answer, absent, fresh, paper, refused}
use Rattle.model.specs.Age.{bad_time, judge, no_minute}
use Rattle.model.specs.Row.{walk_to}
use Rattle.model.specs.Demands.{Holds}
use Rattle.model.specs.Left.{TellsTime}
use Rattle.model.proofs.ListLaws.{First, found, in_range, missing, true_false, walk_is}
use Rattle.model.proofs.Clock.{or_true}
use Rattle.model.proofs.Demand1.{is_refusal, judged, small_number}
use Rattle.model.proofs.Verdict.{says_retired}
use Rattle.model.proofs.RowWords.{says_mod}
use Rattle.model.proofs.Runs.{not_fresh}
use Rattle.model.proofs.FreshAnywhere.{held_in_time}
use Rattle.model.proofs.FreshIffLeft.{judge_timely, refusal_untold}
use Rattle.plain.specs.Plain.{plain_read}
use Rattle.plain.specs.Owed.{Answered, PlainFresh, PlainRetired, PlainSays}

-- a walk over n places from s on comes to the first place with the number
to_first : (l : List ℕ) (x p n s : ℕ) → s ≤ p → p < s + n → animal l p ≡ x → ((q : ℕ) → q < p → animal l q ≢ x) → walk_to l x n s ≡ Some p
unfolding walk_to
to_first l x p zero s a b e h = absurd (omega arith)
to_first l x p (suc n) s a b e h =
    dite (ℕ_discrete s p) (λ q. rw (q, eq-eqb (animal l p) x e))
    λ ne. rw (ne_eqb (animal l s) x (h s (omega arith))) (to_first l x p n (suc s) (omega arith) (omega arith) e h)

-- or to its end
to_nowhere : (l : List ℕ) (x n : ℕ) → ((p : ℕ) → p < n → animal l p ≢ x) → walk_to l x n 0 ≡ None
to_nowhere l x n h = go (walk_is l x n 0)
  where
    go : {o : Option ℕ} → First (λ p. eqb (animal l p) x) (range 0 n) o → o ≡ None
    go (found {i = p} q t) = absurd (h p (omega (arith, in_range 0 n q)) (eqb-true (animal l p) x t))
    go (missing _) = refl

module _ (l : List ℕ) (x limit now : ℕ) where
  -- what is said, by the three tests and the walk
  abbrev pub by : Bool → Bool → Bool → Option ℕ → Answer
  by g z b o = choose g (choose z (refused 2) (choose b (refused 3) (judge l limit now o))) (refused 1)

  abbrev said : Answer
  said = plain_read l x limit now

  abbrev pub place : Option ℕ
  place = walk_to l x (length l / 4) 0

  pub by_tests : {g z b : Bool} → good_items (length l) ≡ g → eqb x 0 ≡ z → bad_time limit now ≡ b → said ≡ by g z b place
  unfolding plain_read
  by_tests eg ez eb = rw (eg, ez, eb)

  three : good_items (length l) ≡ true → x ≢ 0 → bad_time limit now ≡ true → said ≡ refused 3
  three g nz b = by_tests g (ne_eqb x 0 nz) b

  -- none of them is due
  walked : {o : Option ℕ} → Answered l x limit now → place ≡ o → said ≡ judge l limit now o
  walked a e =
      let good : bad_time limit now ≡ false = rw (le-ltb 10080 limit a.within, ne_eqb now no_minute a.timely) in
      by_tests a.sized (ne_eqb x 0 a.real) good ∙ ap (judge l limit now) e

  only_three : (n : ℕ) (g z b : Bool) → by g z b place ≡ refused n → one_of n (1 ∷ 2 ∷ 3 ∷ []) ≡ true
  only_three n false z b e = let q : 1 ≡ n = cc in rw (← q)
  only_three n true true b e = let q : 2 ≡ n = cc in rw (← q)
  only_three n true false true e = let q : 3 ≡ n = cc in rw (← q)
  only_three n true false false e = true_false (ap is_refusal e) (judged l limit now place)

  pub plain_says : PlainSays l x limit now
  plain_says =
      record {
        one = λ g. by_tests g refl refl;
        two = λ g z. by_tests g (eq-eqb x 0 z) refl;
        three_limit = λ g nz h. three g nz (rw (lt-ltb 10080 limit h));
        three_now = λ g nz e. three g nz (no_time e);
        no_other = λ n e. only_three n (good_items (length l)) (eqb x 0) (bad_time limit now) (sym (by_tests refl refl refl) ∙ e);
        first = λ a p f.
            walked a (to_first l x p (length l / 4) 0 (omega arith) (omega (arith, f.inside)) f.number f.lowest) ∙ says_mod limit now (permission l p) (stamp l p);
        nowhere = λ a h. walked a (to_nowhere l x (length l / 4) h);
      }
    where
      no_time : now ≡ no_minute → bad_time limit now ≡ true
      no_time e = rw (eq-eqb now no_minute e) (or_true (ltb 10080 limit))

  pub plain_retired : PlainRetired l x limit now
  plain_retired a p f e = plain_says.first a p f ∙ sym (says_mod limit now (permission l p) (stamp l p)) ∙ sym (says_retired limit now (permission l p) (stamp l p) e)

  -- so its number is small
  pub plain_small : (paper (plain_read l x limit now)).number < 65536
  unfolding first
  plain_small = small_number (plain_read l x limit now) (1 ∷ 2 ∷ 3 ∷ []) plain_says.no_other refl

  pub plain_fresh : PlainFresh l x limit now
  plain_fresh v z e = go (good_items (length l)) (eqb x 0) (bad_time limit now) (eqb-false x 0) (sym (by_tests refl refl refl) ∙ e)
    where
      at : x ≢ 0 → {o : Option ℕ} → First (λ p. eqb (animal l p) x) (range 0 (length l / 4)) o → judge l limit now o ≡ fresh v z → (p : ℕ) × Holds l x limit now v z p
      at nz (missing h) e = not_fresh l x limit now v z absent refl e
      at nz (found {i = p} q t) e = (p, held_in_time l x limit now v z p nz (eqb-true (animal l p) x t) e)

      go : (g n b : Bool) → (n ≡ false → x ≢ 0) → by g n b place ≡ fresh v z → (p : ℕ) × Holds l x limit now v z p
      go false n b nz e = not_fresh l x limit now v z (refused 1) refl e
      go true true b nz e = not_fresh l x limit now v z (refused 2) refl e
      go true false true nz e = not_fresh l x limit now v z (refused 3) refl e
      go true false false nz e = at (nz refl) (walk_is l x (length l / 4) 0) e

  pub plain_left : TellsTime limit (plain_read l x limit now)
  plain_left = subst (TellsTime limit) (sym (by_tests refl refl refl)) (go (good_items (length l)) (eqb x 0) (bad_time limit now))
    where
      go : (g n b : Bool) → TellsTime limit (by g n b place)
      go false n b = refusal_untold limit 1
      go true true b = refusal_untold limit 2
      go true false true = refusal_untold limit 3
      go true false false = judge_timely limit l now place
