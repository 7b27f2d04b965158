-- The visit list of a search from two buckets: its length, what stands at a position, and damage up to where it stops. Assumes nothing.
use Prim.Native.Nat.{ℕ, zero, suc, ◌+◌, ◌*◌, ◌<◌, ◌≤◌}
use native.Mathlib.Omega.{arith}
use mathlib.Core.Path.{◌≡◌, refl}
use mathlib.Core.Bool.{Bool, true, false}
use mathlib.Core.List.Memᴰ.{head}
use mathlib.Core.List.Memᴰ.{not-nil}
use mathlib.Core.List.Memᴰ.{tail}
use mathlib.Core.List.{List, [], ◌∷◌, Memᴰ as In}
use lib.ListN.{length, get_or, take, length-take}
use lib.Seq.{get_or-take}
use Rattle.model.specs.Memory.{tag}
use Rattle.model.specs.Hash.{Size, other_bucket}
use Rattle.model.specs.Shape.{Layout, Ways, four}
use Rattle.model.specs.Visits.{first_free, hop, meets_damage, sum_of_powers, visit_list, visits}
use Rattle.model.proofs.Hash.{other_lt}
use Rattle.model.proofs.Paths.{walk}
use Rattle.model.proofs.Levels.{level_walk, visits_level}
use Rattle.model.proofs.Positions.{at_mem, child, mem_at, visits_count}
use Rattle.paths.specs.Buckets.{bucket_damage, layout_of}
use Rattle.paths.proofs.Words.{any_none, any_one}

module _ (W : Ways) (n : ℕ) (T : List ℕ) (b c : ℕ) where
  abbrev S : Layout
  S = layout_of W n

  abbrev pub visits_of : List ℕ
  visits_of = visit_list S T (b ∷ c ∷ []) W.reach

  -- 2 + 8 + 32 + 128 + 512 for four ways
  pub visits_long : length visits_of ≡ 2 * sum_of_powers W.ways W.reach
  visits_long = visits_count S T W.reach (b ∷ c ∷ [])

  -- the two homes come first
  homes_first : (d : ℕ) → (get_or (visits S T d (b ∷ c ∷ [])) 0 0 ≡ b) × (get_or (visits S T d (b ∷ c ∷ [])) 1 0 ≡ c)
  unfolding visits
  homes_first zero = (refl, refl)
  homes_first (suc d) = (refl, refl)

  pub first_visit : get_or visits_of 0 0 ≡ b
  first_visit = (homes_first W.reach).0

  pub second_visit : get_or visits_of 1 0 ≡ c
  second_visit = (homes_first W.reach).1

  -- each visit is to a bucket of the table
  module _ (size : Size n) (hb : b < n) (hc : c < n) where
    walk_in : (x : ℕ) (p : List ℕ) → x < n → walk S T x p < n
    walk_in x [] h = h
    walk_in x (s ∷ p) h = walk_in (hop S T x s) p (other_lt size (tag (get_or T (x * W.ways + s) 0)) x h)

    pub home_in : (x : ℕ) → In x (b ∷ c ∷ []) → x < n
    home_in x (head e) = rw e hb
    home_in x (tail (head e)) = rw e hc
    home_in x (tail (tail q)) = absurd (not-nil q)

    pub visit_in : (p : ℕ) → p < length visits_of → get_or visits_of p 0 < n
    visit_in p h =
        let l = visits_level S T W.reach (b ∷ c ∷ []) (mem_at visits_of p h) in
        let w = level_walk S T l.0 (b ∷ c ∷ []) l.2 in
        rw (← w.5) (walk_in w.0 w.2 (home_in w.0 w.1))

  module _ (m : ℕ) where
    -- the bucket at position i has a word that is damaged among m places
    abbrev pub damage_of : ℕ → Bool
    damage_of i = bucket_damage S T (get_or visits_of i 0) m

    abbrev stop_at : ℕ
    stop_at = first_free S T visits_of

    pub damage_met : (i : ℕ) → i ≤ stop_at → i < length visits_of → damage_of i ≡ true → meets_damage S T (b ∷ c ∷ []) m W.reach ≡ true
    damage_met i h k e =
        any_one (λ x. bucket_damage S T x m) (take (stop_at + 1) visits_of)
        (mem_at (take (stop_at + 1) visits_of) i (rw length-take (omega arith))) (rw (get_or-take (stop_at + 1) visits_of i 0 (omega arith)) e)

    pub no_damage : ((i : ℕ) → i ≤ stop_at → i < length visits_of → damage_of i ≡ false) → meets_damage S T (b ∷ c ∷ []) m W.reach ≡ false
    no_damage e =
        any_none (λ x. bucket_damage S T x m) (take (stop_at + 1) visits_of) λ x q.
        let p = at_mem (take (stop_at + 1) visits_of) q in
        let h : (p.0 < stop_at + 1) × (p.0 < length visits_of)
        = (omega (arith, length-take (stop_at + 1) visits_of), omega (arith, length-take (stop_at + 1) visits_of)) in
        rw (← p.2, get_or-take (stop_at + 1) visits_of p.0 0 h.0) (e p.0 (omega arith) h.1)

-- four ways: slot s of position i put position 2 + 4i + s there
pub put_by : (n : ℕ) (T : List ℕ) (b c i s : ℕ) → i < 170 → s < 4
    → get_or (visits_of four n T b c) (2 + 4 * i + s) 0
    ≡ other_bucket n (tag (get_or T (get_or (visits_of four n T b c) i 0 * 4 + s) 0)) (get_or (visits_of four n T b c) i 0)
put_by n T b c i s h k =
    let e : 2 + 4 * i + s ≡ 2 + (i * 4 + s) = omega arith in
    rw e (child (layout_of four n) T 4 (b ∷ c ∷ []) s k i (omega (arith, visits_long four n T b c)))
