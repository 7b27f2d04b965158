-- CLOCK: a victim is always found within 2M places looked at, and the hand that clears as it passes takes the same victim and leaves
-- the same words as the search before any store. Assumes nothing.
use Prim.Native.Nat.{ℕ, ◌+◌, ◌*◌, ◌<◌, suc, ◌≤◌, ◌-◌, ◌%◌, zero, min}
use native.Mathlib.Nat.{mod-eq_of_lt, add-zero, sub-zero, mod_self}
use native.Mathlib.Omega.{arith}
use native.Mathlib.Decide.{ℕ_discrete, dec_lt}
use mathlib.Core.Path.{◌≡◌, refl, sym, ap, ◌∙◌}
use mathlib.Core.Logic.{◌≢◌, ◌⊎◌, inl, inr, dite}
use mathlib.Core.Bool.{Bool, true, false, not, ◌&&◌, ◌||◌}
use Rattle.std.specs.Prelude.{Option, Some, None}
use mathlib.Core.List.{List, [], ◌∷◌}
use lib.ListN.{length, set, length-set}
use lib.Seq.{get_or-set_same, get_or-set_other}
use lib.Dec.{leb}
use borrow.Author.Tests.{lt-ltb, le-ltb, eq-eqb, ne_eqb, le-leb, lt-leb}
use Rattle.model.specs.Choice.{choose}
use Rattle.model.specs.Memory.{animal, is_recent, live, recent}
use Rattle.model.specs.Clock.{Victim, clears, next_hand, passed_recent, prepend, seek_victim, takes, victim}
use Rattle.model.specs.Row.{Turn, row_clock}
use Rattle.model.specs.WellFormed.{Live}
use Rattle.model.proofs.ListLaws.{bool, true_false}

next_on : (M h : ℕ) → h + 1 < M → next_hand M h ≡ h + 1
unfolding next_hand
next_on M h e = rw (lt-ltb (h + 1) M e)

next_wrap : (M h : ℕ) → M ≤ h + 1 → next_hand M h ≡ 0
unfolding next_hand
next_wrap M h e = rw (le-ltb (h + 1) M e)

next_lt : (M h : ℕ) → h < M → next_hand M h < M
next_lt M h e = dite (dec_lt (h + 1) M) (λ q. rw (next_on M h q) q) λ q. rw (next_wrap M h (omega arith)) (omega arith)

-- one past a place, mod M
pub next_mod : (M h : ℕ) → h < M → next_hand M h ≡ (h + 1) % M
next_mod M h e =
    dite (dec_lt (h + 1) M) (λ q. next_on M h q ∙ sym (mod-eq_of_lt q))
    λ q. let f : h + 1 ≡ M = omega arith in next_wrap M h (omega arith) ∙ sym (ap (λ n. n % M) f ∙ mod_self M)

-- the victim is live, and so is every place whose recent word is cleared
abbrev pub AllLive : List ℕ → List ℕ → Type 0
AllLive l [] = Unit {0}
AllLive l (p ∷ ps) = Live l p × AllLive l ps

pub live_is : (l : List ℕ) (p : ℕ) → live l p ≡ true → Live l p
live_is l p e z = true_false e (rw (eq-eqb (animal l p) 0 z))

pub live_true : (l : List ℕ) (p : ℕ) → Live l p → live l p ≡ true
live_true l p lv = rw (ne_eqb (animal l p) 0 lv)

both_true : (a b : Bool) → (a && b) ≡ true → a ≡ true
both_true true b e = refl
both_true false b e = e

pub passed_live : (M : ℕ) (l : List ℕ) (k h : ℕ) → AllLive l (passed_recent M l k h)
unfolding passed_recent
passed_live M l zero h = tt
passed_live M l (suc k) h =
    bool (λ b. AllLive l (prepend b h (passed_recent M l k (next_hand M h)))) (live l h && is_recent l h)
    (λ e. (live_is l h (both_true (live l h) (is_recent l h) e), passed_live M l k (next_hand M h)))
    λ e. passed_live M l k (next_hand M h)

-- what is known of what the search found: its victim is a live place below M, and it looked at more than n places
pub data Sought (M : ℕ) (l : List ℕ) (n : ℕ) : Option Victim → Type 0 where
  nobody : Sought M l n None
  somebody : {v : Victim} → v.place < M → Live l v.place → n < v.looked → Sought M l n (Some v)

earlier : {M n : ℕ} {l : List ℕ} {o : Option Victim} → Sought M l (n + 1) o → Sought M l n o
earlier nobody = nobody
earlier (somebody {v = v} i l k) = somebody {v = v} i l (omega arith)

pub sought : (M : ℕ) (l : List ℕ) (f h n : ℕ) → h < M → Sought M l n (seek_victim M l f h n)
unfolding seek_victim
sought M l zero h n hm = nobody
sought M l (suc f) h n hm =
    bool (λ b. Sought M l n (choose b (Some (record { place = h; looked = n + 1 })) (seek_victim M l f (next_hand M h) (n + 1))))
    (takes (live l h) (is_recent l h) (leb M n))
    (λ e. somebody {v = record { place = h; looked = n + 1 }} hm
    (live_is l h (both_true (live l h) (not (is_recent l h) || leb M n) e)) (omega arith))
    λ e. earlier (sought M l f (next_hand M h) (n + 1) (next_lt M h hm))

-- refusal 10 can't come: in the second turn every live place is taken
module _ (M : ℕ) (l : List ℕ) where
  abbrev Lost : ℕ → ℕ → ℕ → Type 0
  Lost f h n = seek_victim M l f h n ≡ None

  passes : (a r s : Bool) (v : Victim) (o : Option Victim) → choose (takes a r s) (Some v) o ≡ None → (o ≡ None) × (s ≡ true → a ≡ false)
  passes false r s v o e = (e, λ q. refl)
  passes true r true v o e = never r e
    where
      never : (r : Bool) → choose (takes true r true) (Some v) o ≡ None → (o ≡ None) × (true ≡ true → true ≡ false)
      never true e = let z : ◌≡◌ {A = ℕ} 0 1 = cc in absurd (omega arith)
      never false e = let z : ◌≡◌ {A = ℕ} 0 1 = cc in absurd (omega arith)
  passes true true false v o e = (e, λ q. sym q)
  passes true false false v o e = let z : ◌≡◌ {A = ℕ} 0 1 = cc in absurd (omega arith)

  lost_on : (f h n : ℕ) → Lost (suc f) h n → Lost f (next_hand M h) (n + 1) × (leb M n ≡ true → live l h ≡ false)
  unfolding seek_victim
  lost_on f h n e =
      passes (live l h) (is_recent l h) (leb M n) (record { place = h; looked = n + 1 }) (seek_victim M l f (next_hand M h) (n + 1)) e

  -- in the second turn: the places from the hand up, and those that it comes to after wrapping
  lost_up : (f h n q : ℕ) → M ≤ n → q < M → Lost f h n → h ≤ q → q < h + f → live l q ≡ false
  lost_up zero h n q mn qm e a b = absurd (omega arith)
  lost_up (suc f) h n q mn qm e a b =
      dite (ℕ_discrete h q) (λ x. rw x at ((lost_on f h n e).1 (le-leb M n mn)))
      λ x. lost_up f (h + 1) (n + 1) q (omega arith) qm (rw (next_on M h (omega arith)) at (lost_on f h n e).0) (omega arith) (omega arith)

  lost_round : (f h n q : ℕ) → M ≤ n → h < M → Lost f h n → q < h → q + M < h + f → live l q ≡ false
  lost_round zero h n q mn hm e a b = absurd (omega arith)
  lost_round (suc f) h n q mn hm e a b =
      dite (dec_lt (h + 1) M)
      (λ x. lost_round f (h + 1) (n + 1) q (omega arith) x (rw (next_on M h x) at (lost_on f h n e).0) (omega arith) (omega arith))
      λ x. lost_up f 0 (n + 1) q (omega arith) (omega arith) (rw (next_wrap M h (omega arith)) at (lost_on f h n e).0) (omega arith) (omega arith)

  -- after k places
  skip : (k f h n : ℕ) → k ≤ f → h < M → Lost f h n → (g : ℕ) × (g < M) × Lost (f - k) g (n + k)
  skip zero f h n a hm e = (h, hm, simp (sub-zero, add-zero) e)
  skip (suc k) zero h n a hm e = absurd (omega arith)
  skip (suc k) (suc f) h n a hm e =
      let r = skip k f (next_hand M h) (n + 1) (omega arith) (next_lt M h hm) (lost_on f h n e).0 in
      let p : suc f - suc k ≡ f - k = omega arith in
      let q : n + suc k ≡ n + 1 + k = omega arith in
      (r.0, r.1, rw (p, q) r.2)

  -- with a live place a victim is found within 2M places looked at, on any item words
  pub always_victim : (hand q : ℕ) → hand < M → q < M → Live l q → victim M l hand ≢ None
  always_victim hand q hm qm lv e =
      let r = skip M (2 * M) hand 0 (omega arith) hm e in
      let n : 0 + M ≡ M = omega arith in
      true_false (live_true l q lv)
      (dite (dec_lt q r.0) (λ x. lost_round (2 * M - M) r.0 (0 + M) q (omega arith) r.1 r.2 x (omega arith))
      λ x. lost_up (2 * M - M) r.0 (0 + M) q (omega arith) qm r.2 (omega arith) (omega arith))

-- the hand of the row, word by word. k places of the first turn are still ahead of the hand h: they are as in t₀; of the others the
-- live ones are cleared
record Half (M : ℕ) (t₀ : List ℕ) (k h : ℕ) (t : List ℕ) : Type 0 where
  long : length t ≡ 4 * M
  lives : (p : ℕ) → animal t p ≡ animal t₀ p
  ahead : (p : ℕ) → h ≤ p → p < h + k → p < M → recent t p ≡ recent t₀ p
  around : (p : ℕ) → p + M < h + k → recent t p ≡ recent t₀ p
  passed_low : (p : ℕ) → p < h → h + k ≤ p + M → Live t₀ p → recent t p ≡ 0
  passed_high : (p : ℕ) → h + k ≤ p → p < M → Live t₀ p → recent t p ≡ 0

module _ (M : ℕ) (t₀ : List ℕ) where
  -- the hand passes place h, which leaves the words t'
  module _ (k h : ℕ) (t t' : List ℕ) (hm : h < M) (km : k < M) (w : Half M t₀ (suc k) h t) (l : length t' ≡ 4 * M)
      (s : (p : ℕ) → animal t' p ≡ animal t p) (o : (p : ℕ) → p ≢ h → recent t' p ≡ recent t p) (x : Live t₀ h → recent t' h ≡ 0) where
    low : (p : ℕ) → p < h + 1 → h + 1 + k ≤ p + M → Live t₀ p → recent t' p ≡ 0
    low p a b e =
        dite (ℕ_discrete p h) (λ q. rw q (x (rw q at e))) λ q. o p q ∙ w.passed_low p (omega arith) (omega arith) e

    high : (p : ℕ) → M ≤ h + 1 → k ≤ p → p < M → Live t₀ p → recent t' p ≡ 0
    high p m a b e =
        dite (ℕ_discrete p h) (λ q. rw q (x (rw q at e))) λ q. o p q ∙ w.passed_low p (omega arith) (omega arith) e

    half_step : Half M t₀ k (next_hand M h) t'
    half_step =
        dite (dec_lt (h + 1) M)
        (λ q. rw (next_on M h q)
        (record {
          long = l;
          lives = λ p. s p ∙ w.lives p;
          ahead = λ p a b c. o p (omega arith) ∙ w.ahead p (omega arith) (omega arith) c;
          around = λ p a. o p (omega arith) ∙ w.around p (omega arith);
          passed_low = low;
          passed_high = λ p a b e. o p (omega arith) ∙ w.passed_high p (omega arith) b e;
        }))
        λ q. rw (next_wrap M h (omega arith))
        (record {
          long = l;
          lives = λ p. s p ∙ w.lives p;
          ahead = λ p a b c. o p (omega arith) ∙ w.around p (omega arith);
          around = λ p a. absurd (omega arith);
          passed_low = λ p a. absurd (omega arith);
          passed_high = λ p a b e. high p (omega arith) (omega arith) b e;
        })

  -- in the second turn nothing changes any more
  calm_step : (h : ℕ) (t : List ℕ) → h < M → Half M t₀ 0 h t → Half M t₀ 0 (next_hand M h) t
  calm_step h t hm w =
      record {
        long = w.long;
        lives = w.lives;
        ahead = λ p a b c. absurd (omega arith);
        around = λ p a. absurd (omega (arith, next_lt M h hm));
        passed_low = λ p a b e. every p (omega (arith, next_lt M h hm)) e;
        passed_high = λ p a b e. every p b e;
      }
    where
      every : (p : ℕ) → p < M → Live t₀ p → recent t p ≡ 0
      every p pm e =
          dite (dec_lt p h) (λ q. w.passed_low p q (omega arith) e) λ q. w.passed_high p (omega arith) pm e

  module _ (h n : ℕ) (t : List ℕ) (hm : h < M) (w : Half M t₀ (M - n) h t) where
    -- a vacant place is skipped
    vacant : animal t h ≡ 0 → Half M t₀ (M - (n + 1)) (next_hand M h) t
    vacant z =
        dite (dec_lt n M)
        (λ q. let e : M - n ≡ suc (M - (n + 1)) = omega arith in
        half_step (M - (n + 1)) h t t hm (omega arith) (rw e at w) w.long (λ p. refl) (λ p x. refl) (λ b. absurd (b (sym (w.lives h) ∙ z))))
        λ q. let e : M - n ≡ 0 = omega arith in
        let e' : M - (n + 1) ≡ 0 = omega arith in
        rw e' (calm_step h t hm (rw e at w))

    -- a recent place is cleared and passed; that is in the first turn
    first_turn : Live t h → recent t h ≢ 0 → n < M
    first_turn lv r =
        dite (dec_lt n M) (λ q. q)
        λ q. absurd (r (w.passed_high h (omega arith) hm (λ z. lv (w.lives h ∙ z))))

    clear : Live t h → recent t h ≢ 0 → Half M t₀ (M - (n + 1)) (next_hand M h) (set t (4 * h + 3) 0)
    clear lv r =
        let q = first_turn lv r in
        let e : M - n ≡ suc (M - (n + 1)) = omega arith in
        let i : 4 * h + 3 < length t = omega (arith, w.long) in
        half_step (M - (n + 1)) h t (set t (4 * h + 3) 0) hm (omega arith) (rw e at w) (length-set t (4 * h + 3) 0 ∙ w.long)
        (λ p. get_or-set_other t (4 * h + 3) (4 * p) 0 0 (λ e. absurd (omega arith)))
        (λ p x. get_or-set_other t (4 * h + 3) (4 * p + 3) 0 0 (λ e. x (omega arith)))
        (λ b. get_or-set_same t (4 * h + 3) 0 0 i)

    -- the recent word that the hand sees
    same_recent : n < M → recent t h ≡ recent t₀ h
    same_recent q = w.ahead h (omega arith) (omega arith) hm

-- the recent words of some places cleared, one after the other
abbrev pub rub : List ℕ → List ℕ → List ℕ
rub l [] = l
rub l (p ∷ ps) = rub (set l (4 * p + 3) 0) ps

pub or_true : (b : Bool) → (b || true) ≡ true
or_true true = refl
or_true false = refl

module _ (M : ℕ) (t₀ : List ℕ) where
  -- the row's turn from the words t on, where n places were looked at before: it clears what is passed in the first turn
  abbrev turned : ℕ → ℕ → List ℕ → Option Victim → Option Turn
  turned h n t None = None
  turned h n t (Some v) =
      Some
      (record { words = rub t (passed_recent M t₀ (min (v.looked - (n + 1)) (M - n)) h); victim = v.place; looked = v.looked })

  one_more : (h n l : ℕ) → n < M → n + 1 < l
      → passed_recent M t₀ (min (l - (n + 1)) (M - n)) h
      ≡ prepend (live t₀ h && is_recent t₀ h) h (passed_recent M t₀ (min (l - (n + 1 + 1)) (M - (n + 1))) (next_hand M h))
  unfolding passed_recent
  one_more h n l a b = let e : min (l - (n + 1)) (M - n) ≡ suc (min (l - (n + 1 + 1)) (M - (n + 1))) = omega arith in rw e

  no_more : (k h : ℕ) → k ≡ 0 → passed_recent M t₀ k h ≡ []
  unfolding passed_recent
  no_more k h e = rw e

  module _ (h n : ℕ) (t : List ℕ) where
    -- a vacant place changes nothing
    over_vacant : animal t₀ h ≡ 0 → {o : Option Victim} → Sought M t₀ (n + 1) o → turned h n t o ≡ turned (next_hand M h) (n + 1) t o
    over_vacant z nobody = refl
    over_vacant z (somebody {v = v} i lv k) = ap (λ ps. Some (record { words = rub t ps; victim = v.place; looked = v.looked })) same
      where
        same : passed_recent M t₀ (min (v.looked - (n + 1)) (M - n)) h
            ≡ passed_recent M t₀ (min (v.looked - (n + 1 + 1)) (M - (n + 1))) (next_hand M h)
        same =
            dite (dec_lt n M) (λ q. one_more h n v.looked q k ∙ rw (eq-eqb (animal t₀ h) 0 z))
            λ q. no_more (min (v.looked - (n + 1)) (M - n)) h (omega arith)
            ∙ sym (no_more (min (v.looked - (n + 1 + 1)) (M - (n + 1))) (next_hand M h) (omega arith))

    -- a recent one is cleared
    over_recent : n < M → Live t₀ h → recent t₀ h ≢ 0 → {o : Option Victim} → Sought M t₀ (n + 1) o
        → turned h n t o ≡ turned (next_hand M h) (n + 1) (set t (4 * h + 3) 0) o
    over_recent q a r nobody = refl
    over_recent q a r (somebody {v = v} i lv k) =
        ap (λ ps. Some (record { words = rub t ps; victim = v.place; looked = v.looked })) same
      where
        same : passed_recent M t₀ (min (v.looked - (n + 1)) (M - n)) h
            ≡ h ∷ passed_recent M t₀ (min (v.looked - (n + 1 + 1)) (M - (n + 1))) (next_hand M h)
        same = one_more h n v.looked q k ∙ rw (ne_eqb (animal t₀ h) 0 a, ne_eqb (recent t₀ h) 0 r)

  taken : (h n : ℕ) → Live t₀ h → (recent t₀ h ≡ 0) ⊎ (M ≤ n) → takes (live t₀ h) (is_recent t₀ h) (leb M n) ≡ true
  taken h n lv (inl z) = rw (ne_eqb (animal t₀ h) 0 lv, eq-eqb (recent t₀ h) 0 z)
  taken h n lv (inr q) = rw (ne_eqb (animal t₀ h) 0 lv, le-leb M n q) (or_true (not (is_recent t₀ h)))

  row_turn : (f h n : ℕ) (t : List ℕ) → h < M → Half M t₀ (M - n) h t → row_clock M t f h n ≡ turned h n t (seek_victim M t₀ f h n)
  unfolding row_clock seek_victim passed_recent
  row_turn zero h n t hm w = refl
  row_turn (suc f) h n t hm w =
      dite (ℕ_discrete (animal t h) 0)
      (λ z. let z₀ : animal t₀ h ≡ 0 = sym (w.lives h) ∙ z in
      rw (eq-eqb (animal t h) 0 z, eq-eqb (animal t₀ h) 0 z₀, ← next_mod M h hm)
      (row_turn f (next_hand M h) (n + 1) t (next_lt M h hm) (vacant M t₀ h n t hm w z)
      ∙ sym (over_vacant h n t z₀ (sought M t₀ f (next_hand M h) (n + 1) (next_lt M h hm)))))
      λ lv. let lv₀ : Live t₀ h = λ z. lv (w.lives h ∙ z) in
      dite (ℕ_discrete (recent t h) 0)
      (λ z. let e : min (n + 1 - (n + 1)) (M - n) ≡ 0 = omega arith in
      rw (ne_eqb (animal t h) 0 lv, eq-eqb (recent t h) 0 z, taken h n lv₀ (which h n t hm w z), e))
      λ r. let q = first_turn M t₀ h n t hm w lv r in
      let r₀ : recent t₀ h ≢ 0 = λ z. r (same_recent M t₀ h n t hm w q ∙ z) in
      rw (ne_eqb (animal t h) 0 lv, ne_eqb (recent t h) 0 r, ne_eqb (animal t₀ h) 0 lv₀, ne_eqb (recent t₀ h) 0 r₀, lt-leb M n q, ← next_mod M h hm)
      (row_turn f (next_hand M h) (n + 1) (set t (4 * h + 3) 0) (next_lt M h hm) (clear M t₀ h n t hm w lv r)
      ∙ sym (over_recent h n t q lv₀ r₀ (sought M t₀ f (next_hand M h) (n + 1) (next_lt M h hm))))
    where
      which : (h n : ℕ) (t : List ℕ) (hm : h < M) → Half M t₀ (M - n) h t → recent t h ≡ 0 → (recent t₀ h ≡ 0) ⊎ (M ≤ n)
      which h n t hm w z = dite (dec_lt n M) (λ q. inl (sym (same_recent M t₀ h n t hm w q) ∙ z)) λ q. inr (omega arith)

  -- what the row's turn comes to
  abbrev pub row_turned : ℕ → Option Victim → Option Turn
  row_turned h None = None
  row_turned h (Some v) = Some (record { words = rub t₀ (clears M t₀ h v); victim = v.place; looked = v.looked })

  pub row_clock_is : (h : ℕ) → h < M → length t₀ ≡ 4 * M → row_clock M t₀ (2 * M) h 0 ≡ row_turned h (victim M t₀ h)
  row_clock_is h hm l = row_turn (2 * M) h 0 t₀ hm (rw sub-zero start) ∙ tidy (victim M t₀ h)
    where
      start : Half M t₀ M h t₀
      start =
          record {
            long = l;
            lives = λ p. refl;
            ahead = λ p a b c. refl;
            around = λ p a. refl;
            passed_low = λ p a b. absurd (omega arith);
            passed_high = λ p a b. absurd (omega arith);
          }

      tidy : (o : Option Victim) → turned h 0 t₀ o ≡ row_turned h o
      tidy None = refl
      tidy (Some v) =
          let e : min (v.looked - (0 + 1)) (M - 0) ≡ min (v.looked - 1) M = omega arith in
          ap (λ k. Some (record { words = rub t₀ (passed_recent M t₀ k h); victim = v.place; looked = v.looked })) e
