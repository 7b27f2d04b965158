-- The visit list holds what paths lead to. Assumes nothing.
use Prim.Native.Nat.{ℕ, ◌+◌, ◌<◌, suc, ◌≤◌, zero}
use native.Mathlib.Omega.{arith}
use native.Mathlib.Decide.{ℕ_discrete}
use mathlib.Core.Path.{◌≡◌, refl, sym, ap, ◌∙◌}
use mathlib.Core.Logic.{⊎_elim, dite}
use mathlib.Core.List.Memᴰ
use mathlib.Core.List.Memᴰ.{head}
use mathlib.Core.List.Memᴰ.{tail}
use mathlib.Core.List.{List, [], ◌∷◌, Memᴰ as Mem}
use mathlib.Core.List.Memᴰ.{append_cases}
use mathlib.Core.List.Memᴰ.{not-nil}
use lib.ListN.{length}
use Rattle.model.specs.Shape.{Layout}
use Rattle.model.specs.Moves.{Free, word_in}
use Rattle.model.specs.Visits.{hop, hops, next_level, visits}
use Rattle.model.proofs.Reach.{Reach, onward, reached}
use Rattle.model.proofs.Paths.{Slots, level, walk}

module _ (S : Layout) (T : List ℕ) where
  mem_hops : {b i : ℕ} (s m : ℕ) → s ≤ i → i < s + m → Mem (hop S T b i) (hops S T b s m)
  unfolding hops
  mem_hops s zero h k = absurd (omega arith)
  mem_hops {b} {i} s (suc m) h k =
      dite (ℕ_discrete i s) (λ e. head (ap (hop S T b) e)) λ ne. tail (mem_hops (suc s) m (omega arith) (omega arith))

  hops_mem : {b c : ℕ} (s m : ℕ) → Mem c (hops S T b s m) → (i : ℕ) × (i < s + m) × (c ≡ hop S T b i)
  unfolding hops
  hops_mem s zero q = absurd (not-nil q)
  hops_mem s (suc m) (head e) = (s, omega arith, e)
  hops_mem s (suc m) (tail q) = let r = hops_mem (suc s) m q in (r.0, omega arith, r.2)

  mem_next : {b i : ℕ} (bs : List ℕ) → Mem b bs → i < S.ways → Mem (hop S T b i) (next_level S T bs)
  unfolding next_level
  mem_next [] q h = absurd (not-nil q)
  mem_next (x ∷ bs) (head e) h = rw e (Memᴰ.append_left (next_level S T bs) (mem_hops 0 S.ways (omega arith) (omega arith)))
  mem_next (x ∷ bs) (tail q) h = Memᴰ.append_right (hops S T x 0 S.ways) (mem_next bs q h)

  next_mem : {c : ℕ} (bs : List ℕ) → Mem c (next_level S T bs) → (b : ℕ) × Mem b bs × (i : ℕ) × (i < S.ways) × (c ≡ hop S T b i)
  unfolding next_level
  next_mem [] q = absurd (not-nil q)
  next_mem (b ∷ bs) q =
      ⊎_elim (λ x. let r = hops_mem 0 S.ways x in (b, head refl, r.0, omega arith, r.2))
      (λ y. let r = next_mem bs y in (r.0, tail r.1, r.2, r.3, r.4)) (append_cases (hops S T b 0 S.ways) q)

  -- L2: a bucket is at level k exactly if a path of k slots leads to it from level 0
  pub level_walk : {v : ℕ} (k : ℕ) (bs : List ℕ) → Mem v (level S T k bs)
      → (b : ℕ) × Mem b bs × (p : List ℕ) × (length p ≡ k) × Slots S p × (walk S T b p ≡ v)
  unfolding level
  level_walk {v} zero bs q = (v, q, [], refl, tt, refl)
  level_walk (suc k) bs q =
      let r = level_walk k (next_level S T bs) q in
      let n = next_mem bs r.1 in
      (n.0, n.1, n.2 ∷ r.2, ap suc r.3, (n.3, r.4), ap (λ x. walk S T x r.2) (sym n.4) ∙ r.5)

  -- the visit list is the levels up to d
  pub level_visits : {v : ℕ} (k d : ℕ) (bs : List ℕ) → k ≤ d → Mem v (level S T k bs) → Mem v (visits S T d bs)
  unfolding level visits
  level_visits zero zero bs h q = q
  level_visits zero (suc d) bs h q = Memᴰ.append_left (visits S T d (next_level S T bs)) q
  level_visits (suc k) zero bs h q = absurd (omega arith)
  level_visits (suc k) (suc d) bs h q = Memᴰ.append_right bs (level_visits k d (next_level S T bs) (omega arith) q)

  pub visits_level : {v : ℕ} (d : ℕ) (bs : List ℕ) → Mem v (visits S T d bs) → (k : ℕ) × (k ≤ d) × Mem v (level S T k bs)
  unfolding level visits
  visits_level {v} zero bs q = (0, omega arith, q)
  visits_level {v} (suc d) bs q =
      ⊎_elim (λ x. (0, omega arith, x))
      (λ (y : Mem v (visits S T d (next_level S T bs))). let r = visits_level d (next_level S T bs) y in (suc r.0, omega arith, r.2))
      (append_cases bs q)

  -- a bucket within reach is at a level, and at the end of a path; and the other way round
  pub reach_level : {j b : ℕ} (bs : List ℕ) → Mem b bs → Reach S T j b → (k : ℕ) × (v : ℕ) × (k ≤ j) × Mem v (level S T k bs) × Free S T v
  unfolding level
  reach_level {j} {b} bs q (reached f) = (0, b, omega arith, q, f)
  reach_level bs q (onward s h ne r) =
      let x = reach_level (next_level S T bs) (mem_next bs q h) r in (suc x.0, x.1, omega arith, x.3, x.4)

  pub reach_walk : {j b : ℕ} → Reach S T j b → (p : List ℕ) × (length p ≤ j) × Slots S p × Free S T (walk S T b p)
  reach_walk (reached f) = ([], omega arith, tt, f)
  reach_walk (onward s h ne r) = let x = reach_walk r in (s ∷ x.0, omega arith, (h, x.2), x.3)

  pub walk_reach : {b : ℕ} (p : List ℕ) → Slots S p → Free S T (walk S T b p) → Reach S T (length p) b
  walk_reach {b} [] h f = reached f
  walk_reach {b} (s ∷ p) h f =
      dite (ℕ_discrete (word_in S T b s) 0) (λ e. reached (s, h.0, e)) λ ne. onward s h.0 ne (walk_reach {b = hop S T b s} p h.1 f)
