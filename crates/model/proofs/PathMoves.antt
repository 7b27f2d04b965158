-- The moves back along a shortest path are legal one after the other, and free a slot of the first bucket. Assumes nothing.
use Prim.Native.Nat.{ℕ, ◌+◌, ◌*◌, ◌<◌, suc, ◌≤◌}
use native.Mathlib.Omega.{arith}
use mathlib.Core.Path.{◌≡◌, refl, sym, ◌∙◌}
use mathlib.Core.List.{List, [], ◌∷◌, ◌++◌}
use lib.ListN.{length, length-set, length-append}
use lib.Arith.{digits_div, digits_lt}
use Rattle.model.specs.Memory.{tag}
use Rattle.model.specs.Shape.{Layout}
use Rattle.model.specs.Moves.{Free, Legal, Move, Run, moved, moved_by, word_in}
use Rattle.model.specs.Visits.{hop}
use Rattle.model.proofs.Reach.{Reach, cleared, in_bucket, kept, onward, reached}
use Rattle.model.proofs.Paths.{Away, Distinct, Slots, Untouched, into, path_moves, stops, walk}
use Rattle.model.proofs.Levels.{walk_reach}

after_append : (T : List ℕ) (xs ys : List Move) → moved_by T (xs ++ ys) ≡ moved_by (moved_by T xs) ys
after_append T [] ys = refl
after_append T (x ∷ xs) ys = after_append (moved T x) xs ys

run_append : (S : Layout) (T : List ℕ) (xs ys : List Move) → Run S T xs → Run S (moved_by T xs) ys → Run S T (xs ++ ys)
run_append S T [] ys r q = q
run_append S T (x ∷ xs) ys r q = (r.0, run_append S (moved T x) xs ys r.1 q)

untouched_append : (T U : List ℕ) (xs ys : List Move) → Untouched T U xs → Untouched T (moved_by U xs) ys → Untouched T U (xs ++ ys)
untouched_append T U [] ys h k = k
untouched_append T U (x ∷ xs) ys h k = (h.0, untouched_append T (moved U x) xs ys h.1 k)

pub into_slot : (S : Layout) (p : List ℕ) {r : ℕ} → r < S.ways → Slots S p → into p r < S.ways
into_slot S [] hr h = hr
into_slot S (s ∷ p) hr h = h.0

module _ (S : Layout) (T : List ℕ) where
  pub length_path_moves : (b : ℕ) (p : List ℕ) (r : ℕ) → length (path_moves S T b p r) ≡ length p
  length_path_moves b [] r = refl
  length_path_moves b (s ∷ p) r = simp length-append (omega (arith, length_path_moves (hop S T b s) p r))

  -- no bucket with a free slot is fewer edges away than the path has
  abbrev pub Short : ℕ → List ℕ → Type 0
  Short b p = (j : ℕ) → j < length p → ¬ Reach S T j b

  short_tail : (b s : ℕ) (p : List ℕ) → Slots S (s ∷ p) → Short b (s ∷ p) → Short (hop S T b s) p
  short_tail b s p h short j k r = short (suc j) (omega arith) (onward s h.0 (λ z. short 0 (omega arith) (reached (s, h.0, z))) r)

  -- what is farther from a free slot than the path's start is none of the path's buckets
  off : (x b : ℕ) (p : List ℕ) → Slots S p → Free S T (walk S T b p) → ((j : ℕ) → j ≤ length p → ¬ Reach S T j x) → Away x (b ∷ stops S T b p)
  off x b [] h f far = (λ e. far 0 (omega arith) (rw e (reached f)), tt)
  off x b (s ∷ p) h f far =
      (λ e. far (length (s ∷ p)) (omega arith) (rw e (walk_reach S T (s ∷ p) h f)), off x (hop S T b s) p h.1 f (λ j k. far j (omega arith)))

  pub distinct : (b : ℕ) (p : List ℕ) → Slots S p → Free S T (walk S T b p) → Short b p → Distinct (b ∷ stops S T b p)
  distinct b [] h f short = (tt, tt)
  distinct b (s ∷ p) h f short =
      (off b (hop S T b s) p h.1 f (λ j k. short j (omega arith)), distinct (hop S T b s) p h.1 f (short_tail b s p h short))

  module _ (n : ℕ) (size : length T ≡ n * S.ways) (closed : (t b : ℕ) → b < n → S.other t b < n) (r : ℕ) (hr : r < S.ways) where
    pub record Done (b : ℕ) (p : List ℕ) (U : List ℕ) : Type 0 where
      pub run : Run S T (path_moves S T b p r)
      pub untouched : Untouched T T (path_moves S T b p r)
      pub len : length U ≡ length T
      pub freed : word_in S U b (into p r) ≡ 0
      pub rest : (c s : ℕ) → s < S.ways → Away c (b ∷ stops S T b p) → word_in S U c s ≡ word_in S T c s

    -- one more move, at the near end
    module _ (b s : ℕ) (p : List ℕ) (hb : b < n) (h : Slots S (s ∷ p)) (f : word_in S T (walk S T b (s ∷ p)) r ≡ 0) (short : Short b (s ∷ p)) where
      abbrev U : List ℕ
      U = moved_by T (path_moves S T (hop S T b s) p r)

      abbrev m : Move
      m = record { from = b * S.ways + s; to = hop S T b s * S.ways + into p r }

      same : Done (hop S T b s) p U → word_in S U b s ≡ word_in S T b s
      same d = d.rest b s h.0 (off b (hop S T b s) p h.1 (r, hr, f) (λ j k. short j (omega arith)))

      legal : Done (hop S T b s) p U → Legal S U m
      legal d =
          record {
            held = λ z. short 0 (omega arith) (reached (s, h.0, sym (same d) ∙ z));
            inside = rw (d.len, size) (digits_lt (closed (tag (word_in S T b s)) b hb) (into_slot S p hr h.1));
            vacant = d.freed;
            goes = simp (digits_div, into_slot S p hr h.1, h.0, same d);
          }

      extend : Done (hop S T b s) p U → Done b (s ∷ p) (moved_by T (path_moves S T b (s ∷ p) r))
      extend d =
          record {
            run = run_append S T (path_moves S T (hop S T b s) p r) (m ∷ []) d.run (legal d, tt);
            untouched = untouched_append T T (path_moves S T (hop S T b s) p r) (m ∷ []) d.untouched (same d, tt);
            len = rw after_append (simp length-set d.len);
            freed = rw after_append (cleared S U m b s h.0 (legal d).held refl);
            rest = λ x k hk a. rw after_append
                (kept S U m x k hk (rw (digits_div, into_slot S p hr h.1) a.1.0) (λ e. a.0 (in_bucket hk e ∙ digits_div b h.0)) ∙ d.rest x k hk a.1);
          }

    pub path_done : (b : ℕ) (p : List ℕ) → b < n → Slots S p → word_in S T (walk S T b p) r ≡ 0 → Short b p → Done b p (moved_by T (path_moves S T b p r))
    path_done b [] hb h f short = record { run = tt; untouched = tt; len = refl; freed = f; rest = λ c s k a. refl }
    path_done b (s ∷ p) hb h f short =
        extend b s p hb h f short (path_done (hop S T b s) p (closed (tag (word_in S T b s)) b hb) h.1 f (short_tail b s p h short))
