-- What holds of every well-formed table: finished calls keep it, reads at every cut, and fresh only in time. Assumes nothing.
use Prim.Native.Nat.{ℕ, ◌+◌, ◌*◌, ◌<◌, ◌≤◌, ◌-◌}
use native.Mathlib.Omega.{arith}
use native.Mathlib.Decide.{ℕ_discrete, dec_lt}
use mathlib.Core.Path.{◌≡◌, refl, sym, ap, ◌∙◌}
use mathlib.Core.Logic.{◌≢◌, dite}
use mathlib.Core.Bool.{Bool, true, false}
use Rattle.std.specs.Prelude.{Option, Some, None}
use mathlib.Core.List.{List}
use lib.ListN.{length-replicate}
use lib.IntN.{ℤ}
use lib.Dec.{eqb}
use borrow.Author.Tests.{lt-ltb, le-ltb, eq-eqb, ne_eqb, eqb-true, eqb-false}
use Rattle.model.specs.Choice.{choose, range}
use Rattle.model.specs.Memory.{Mem, animal, permission, stamp}
use Rattle.model.specs.Shape.{Shape, fresh_memory}
use Rattle.model.specs.Answers.{Answer, absent, ahead, fresh, old, refused, says_fresh}
use Rattle.model.specs.Age.{bad_time, judge, least_left, retired_mark}
use Rattle.model.specs.Calls.{Outcome, after_call, asked, busy, call, cut_call, held, home_damage, refuse, serve_at, tell}
use Rattle.model.specs.Row.{row_bad_time, row_call, row_left, row_read, row_says, stay, walk_to}
use Rattle.model.specs.WellFormed.{WellFormed}
use Rattle.model.specs.Demands.{Allowed, InTime}
use Rattle.model.proofs.Left.{within}
use Rattle.model.proofs.RowWords.{left_signed}
use Rattle.model.proofs.ShapeLaws.{Lawful}
use Rattle.model.proofs.ListLaws.{First, found, in_range, missing, true_false, walk_is, zeros}
use Rattle.model.proofs.KeepBlocks.{free_sound}
use Rattle.model.proofs.Cut.{Seen, cut_tale, keep_tale}
use Rattle.model.proofs.Steps.{step}
use Rattle.model.specs.Calling.{Call, serve, read, Typed, about}

-- a fresh table is well-formed
pub fresh_well : (Y : Shape) → WellFormed Y (fresh_memory Y)
fresh_well Y =
    record {
      slots_long = length-replicate (Y.buckets * Y.layout.ways) 0;
      counters_long = length-replicate Y.counters 0;
      items_long = length-replicate (4 * Y.places) 0;
      undamaged = λ i. rw zeros (free_sound Y);
      even = λ c. rw zeros;
      points = λ i nz. absurd (nz (zeros (Y.buckets * Y.layout.ways) i));
      pointed = λ p lv. absurd (lv (zeros (4 * Y.places) (4 * p)));
      distinct = λ p q lv e. absurd (lv (zeros (4 * Y.places) (4 * p)));
      narrow = λ p. rw zeros (omega arith);
      bare = λ p z. (zeros (4 * Y.places) (4 * p + 1), zeros (4 * Y.places) (4 * p + 2), zeros (4 * Y.places) (4 * p + 3));
    }

module _ (Y : Shape) (L : Lawful Y) (m : Mem) (g : WellFormed Y m) (c : Call) (h : Typed c) where
  -- a finished call keeps it
  pub well_after : WellFormed Y (after_call Y m c)
  well_after = keep_tale Y L (about c (call Y m c).answer) g (step Y L m g c h).tale

  -- cut anywhere
  pub cut_seen : (k : ℕ) → Seen Y (about c (call Y m c).answer) m (after_call Y m c) (cut_call Y k m c)
  cut_seen k = cut_tale Y L (about c (call Y m c).answer) g (step Y L m g c h).tale k

-- serve answers as read does, on every memory
asked_answer : (Y : Shape) (m : Mem) (x : ℕ) (bad : Bool) (o o' : Outcome) → o.answer ≡ o'.answer
    → (asked Y m x bad o).answer ≡ (asked Y m x bad o').answer
asked_answer Y m x bad o o' e =
    pass (eqb x 0) (refuse 2) (choose bad (refuse 3) (choose (busy Y m x) (refuse 8) (choose (home_damage Y m x) (refuse 4) o))) _
    (pass bad (refuse 3) (choose (busy Y m x) (refuse 8) (choose (home_damage Y m x) (refuse 4) o)) _
    (pass (busy Y m x) (refuse 8) (choose (home_damage Y m x) (refuse 4) o) _ (pass (home_damage Y m x) (refuse 4) o o' e)))
  where
    pass : (b : Bool) (r o o' : Outcome) → o.answer ≡ o'.answer → (choose b r o).answer ≡ (choose b r o').answer
    pass true r o o' e = refl
    pass false r o o' e = e

pub serve_reads : (Y : Shape) (m : Mem) (x limit now : ℕ) → (call Y m (serve x limit now)).answer ≡ (call Y m (read x limit now)).answer
serve_reads Y m x limit now =
    asked_answer Y m x (bad_time limit now) (serve_at Y m limit now (held Y m x)) (tell (judge m.items limit now (held Y m x))) (same (held Y m x))
  where
    same : (o : Option ℕ) → (serve_at Y m limit now o).answer ≡ judge m.items limit now o
    same None = refl
    same (Some p) = refl

-- fresh is said only of a permission in time
module _ (l : List ℕ) (x limit now v : ℕ) (z : ℤ) where
  pub not_fresh : {A : Type 0} (r : Answer) → says_fresh r ≡ false → r ≡ fresh v z → A
  not_fresh r f e = true_false (ap says_fresh e) f

  -- what the row says, where it says fresh
  pub in_time : (u s : ℕ) → row_says limit now u s ≡ fresh v z → (u ≡ v) × InTime limit now z s
  unfolding row_says
  in_time u s e =
      dite (ℕ_discrete s retired_mark) (λ q. not_fresh (old least_left) refl (rw (eq-eqb s retired_mark q) at e))
      λ nq. dite (dec_lt now s)
      (λ q. not_fresh ahead refl (rw (ne_eqb s retired_mark nq, lt-ltb now s q) at e))
      λ q. let le : s ≤ now = omega arith in
      dite (dec_lt limit (now - s))
      (λ k. not_fresh (old (row_left limit now s)) refl (rw (ne_eqb s retired_mark nq, le-ltb now s le, lt-ltb limit (now - s) k) at e))
      λ k. let le' : now - s ≤ limit = omega arith in
      let f : fresh u (row_left limit now s) ≡ fresh v z = rw (ne_eqb s retired_mark nq, le-ltb now s le, le-ltb limit (now - s) le') at e in
      let g : row_left limit now s ≡ z = cc in (cc, (le, le', sym g ∙ sym (left_signed limit now s le) ∙ within limit (now - s) le'))

  found_fresh : (M : ℕ) → x ≢ 0 → {o : Option ℕ} → First (λ p. eqb (animal l p) x) (range 0 M) o
      → row_read M l limit now o ≡ fresh v z → (p : ℕ) × (p < M) × Allowed l x limit now v z p
  found_fresh M nz (missing h) e = not_fresh absent refl e
  found_fresh M nz (found {i = p} q t) e =
      let j = in_time (permission l p) (stamp l p) e in (
        p,
        omega (arith, in_range 0 M q),
        record { real = nz; animal_is = eqb-true (animal l p) x t; permission_is = j.0; in_time = j.1 },
      )

  pub row_fresh : (M : ℕ) → (row_call M 0 l (read x limit now)).answer ≡ fresh v z → (p : ℕ) × (p < M) × Allowed l x limit now v z p
  row_fresh M e =
      asks (eqb x 0) (row_bad_time M limit now) (eqb-false x 0) e
    where
      asks : (b c : Bool) → (b ≡ false → x ≢ 0)
          → (choose b (stay l (refused 2)) (choose c (stay l (refused 3)) (stay l (row_read M l limit now (walk_to l x M 0))))).answer ≡ fresh v z
          → (p : ℕ) × (p < M) × Allowed l x limit now v z p
      asks true c nz e = not_fresh (refused 2) refl e
      asks false true nz e = not_fresh (refused 3) refl e
      asks false false nz e = found_fresh M (nz refl) (walk_is l x M 0) e
