-- The first broken one of any list of conditions, and the lowest number that breaks it. Assumes nothing.
use Prim.Native.Nat.{ℕ, zero, suc, ◌+◌, ◌-◌, ◌<◌, ◌≤◌}
use native.Mathlib.Omega.{arith}
use native.Mathlib.Decide.{ℕ_discrete}
use mathlib.Core.Path.{◌≡◌, refl, ap, ◌∙◌}
use mathlib.Core.Logic.{dite}
use mathlib.Core.Bool.{Bool, true, false}
use Rattle.std.specs.Prelude.{Option, Some, None}
use mathlib.Core.List.{List, [], ◌∷◌}
use lib.ListN.{length, get_or}
use Rattle.model.specs.Choice.{range, first}
use Rattle.judgement.specs.Conditions.{Condition}
use Rattle.judgement.specs.Verdict.{Verdict, sound, broken, breaker, or_broken, judge_from}
use Rattle.judgement.proofs.Counting.{Lowest}

-- nothing breaks any condition of a list
abbrev pub Unbroken : List Condition → Type 0
Unbroken [] = Unit {0}
Unbroken (c ∷ cs) = (breaker c ≡ None) × Unbroken cs

abbrev is_sound : Verdict → ℕ
is_sound sound = 0
is_sound (broken c i) = 1

pub sound_unbroken : (n : ℕ) (cs : List Condition) → judge_from n cs ≡ sound → Unbroken cs
sound_unbroken n [] e = tt
sound_unbroken n (c ∷ cs) e = go (λ e. sound_unbroken (suc n) cs e) (breaker c) refl e
  where
    go : (judge_from (suc n) cs ≡ sound → Unbroken cs) → (o : Option ℕ) → breaker c ≡ o → or_broken n o (judge_from (suc n) cs) ≡ sound
        → Unbroken (c ∷ cs)
    go rest None q e = (q, rest e)
    go rest (Some i) q e = let z : ◌≡◌ {A = ℕ} 1 0 = ap is_sound e in absurd (omega arith)

pub unbroken_sound : (n : ℕ) (cs : List Condition) → Unbroken cs → judge_from n cs ≡ sound
unbroken_sound n [] h = refl
unbroken_sound n (c ∷ cs) h = ap (λ o. or_broken n o (judge_from (suc n) cs)) h.0 ∙ unbroken_sound (suc n) cs h.1

-- the condition that is nothing
abbrev pub idle : Condition
idle = record { extent = 0; breaks = λ i. false }

pub record BrokenAt (n : ℕ) (cs : List Condition) (c i : ℕ) : Type 0 where
  pub low : n ≤ c
  pub high : c < n + length cs
  pub here : breaker (get_or cs (c - n) idle) ≡ Some i
  pub before : (b : ℕ) → n ≤ b → b < c → breaker (get_or cs (b - n) idle) ≡ None

pub broken_at : (n : ℕ) (cs : List Condition) (c i : ℕ) → judge_from n cs ≡ broken c i → BrokenAt n cs c i
broken_at n [] c i e = let z : ◌≡◌ {A = ℕ} 0 1 = ap is_sound e in absurd (omega arith)
broken_at n (k ∷ cs) c i e =
    go (λ e. broken_at (suc n) cs c i e) (breaker k) refl e
  where
    go : (judge_from (suc n) cs ≡ broken c i → BrokenAt (suc n) cs c i) → (o : Option ℕ) → breaker k ≡ o
        → or_broken n o (judge_from (suc n) cs) ≡ broken c i → BrokenAt n (k ∷ cs) c i
    go rest (Some j) q e =
        let u : n ≡ c = cc in
        let v : j ≡ i = cc in
        let z : c - n ≡ 0 = omega arith in
        record { low = omega arith; high = omega arith; here = rw (z, ← v) q; before = λ b h h'. absurd (omega arith) }
    go rest None q e =
        let r = rest e in
        let z : c - n ≡ suc (c - suc n) = omega (arith, r.low) in
        record {
          low = omega (arith, r.low);
          high = omega (arith, r.high);
          here = rw z r.here;
          before = λ b h h'. dite (ℕ_discrete b n) (λ t. let y : b - n ≡ 0 = omega arith in rw y q)
              λ t. let y : b - n ≡ suc (b - suc n) = omega arith in rw y (r.before b (omega arith) h');
        }

-- and the other way round
pub at_broken : (n : ℕ) (cs : List Condition) (c i : ℕ) → BrokenAt n cs c i → judge_from n cs ≡ broken c i
at_broken n [] c i b = absurd (omega (arith, b.low, b.high))
at_broken n (k ∷ cs) c i b =
    dite (ℕ_discrete n c)
    (λ e. let z : c - n ≡ 0 = omega arith in
    let h : breaker k ≡ Some i = rw z at b.here in ap (λ o. or_broken n o (judge_from (suc n) cs)) h ∙ ap (λ n. broken n i) e)
    λ ne. let z : n - n ≡ 0 = omega arith in
    let h : breaker k ≡ None = rw z at (b.before n (omega arith) (omega (arith, b.low))) in
    let y : c - n ≡ suc (c - suc n) = omega (arith, b.low) in
    ap (λ o. or_broken n o (judge_from (suc n) cs)) h
    ∙ at_broken (suc n) cs c i (record {
      low = omega (arith, b.low);
      high = omega (arith, b.high);
      here = rw y at b.here;
      before = λ a l l'. let x : a - n ≡ suc (a - suc n) = omega arith in rw x at (b.before a (omega arith) l');
    })

-- the lowest that passes is what is found
pub found_lowest : (f : ℕ → Bool) (a n i : ℕ) → Lowest f a n i → first f (range a n) ≡ Some i
unfolding first range
found_lowest f a zero i l = absurd (omega (arith, l.from, l.inside))
found_lowest f a (suc n) i l =
    dite (ℕ_discrete a i) (λ e. let t : f a ≡ true = rw e l.passes in rw (t, e))
    λ ne. let t : f a ≡ false = l.below a (omega arith) (omega (arith, l.from)) in
    rw t (found_lowest f (suc a) n i (record {
      from = omega (arith, l.from);
      inside = omega (arith, l.inside);
      passes = l.passes;
      below = λ j h h'. l.below j (omega arith) h';
    }))
