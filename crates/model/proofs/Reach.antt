-- What a legal move can do for a bucket: at most one edge is saved. Assumes nothing.
use Prim.Native.Nat.{ℕ, ◌+◌, ◌*◌, ◌<◌, suc, ◌%◌, ◌/◌}
use native.Mathlib.Nat.{div-add-mod', mod-lt}
use native.Mathlib.Omega.{arith}
use native.Mathlib.Decide.{ℕ_discrete}
use mathlib.Core.Path.{◌≡◌, sym, ap, ◌∙◌, ap₂}
use mathlib.Core.Logic.{◌≢◌, dite}
use mathlib.Core.List.{List, [], ◌∷◌}
use lib.ListN.{length, get_or, set, length-set}
use lib.Seq.{get_or-set_same, get_or-set_other}
use lib.Arith.{digits_div}
use Rattle.model.specs.Memory.{tag}
use Rattle.model.specs.Shape.{Layout}
use Rattle.model.specs.Moves.{Free, Legal, Move, Run, moved, moved_by, word_in}
use Rattle.model.specs.Visits.{hop}
use Rattle.model.proofs.ListLaws.{inside_held}

-- the bucket of a slot
pub in_bucket : {w b s i : ℕ} → s < w → b * w + s ≡ i → b ≡ i / w
in_bucket {w} {b} h e = sym (digits_div b h) ∙ ap (λ i. i / w) e

-- a bucket with a free slot is at most k edges away from b; each edge goes by an entry
pub data Reach (S : Layout) (T : List ℕ) : ℕ → ℕ → Type 0 where
  reached : {k b : ℕ} → Free S T b → Reach S T k b
  onward : {k b : ℕ} (s : ℕ) → s < S.ways → word_in S T b s ≢ 0 → Reach S T k (hop S T b s) → Reach S T (suc k) b

module _ (S : Layout) where
  -- the destination's bucket has a free slot before the move
  to_free : {T : List ℕ} {m : Move} → Legal S T m → 0 < S.ways → Free S T (m.to / S.ways)
  to_free {T} {m} l h = (m.to % S.ways, mod-lt m.to h, rw div-add-mod' l.vacant)

  module _ (T : List ℕ) (m : Move) (b s : ℕ) (h : s < S.ways) where
    pub kept : b ≢ m.to / S.ways → b * S.ways + s ≢ m.from → word_in S (moved T m) b s ≡ word_in S T b s
    kept away ne =
        let ne' : b * S.ways + s ≢ m.to = λ e. away (in_bucket h e) in
        simp get_or-set_other

    pub cleared : get_or T m.from 0 ≢ 0 → b * S.ways + s ≡ m.from → word_in S (moved T m) b s ≡ 0
    cleared held e =
        let inside : m.from < length (set T m.to (get_or T m.from 0)) = rw length-set (inside_held T m.from held) in
        rw (e, get_or-set_same)

    edge : Legal S T m → b * S.ways + s ≡ m.from → hop S T b s ≡ m.to / S.ways
    edge l e = ap₂ (λ x c. S.other (tag (get_or T x 0)) c) e (in_bucket h e) ∙ sym l.goes

  back : {T : List ℕ} {m : Move} {k b : ℕ} → Legal S T m → Reach S (moved T m) k b → Reach S T (suc k) b
  back {T} {m} {k} {b} l (reached (s, h, f)) =
      dite (ℕ_discrete b (m.to / S.ways)) (λ e. reached {b = b} (rw e (to_free l (omega arith)))) λ away.
      dite (ℕ_discrete (b * S.ways + s) m.from)
      (λ e. onward {b = b} s h (rw e l.held) (reached {b = hop S T b s} (rw (edge T m b s h l e) (to_free l (omega arith)))))
      λ ne. reached (s, h, sym (kept T m b s h away ne) ∙ f)
  back {T} {m} {k} {b} l (onward s h ne r) =
      dite (ℕ_discrete b (m.to / S.ways)) (λ e. reached {b = b} (rw e (to_free l (omega arith)))) λ away.
      dite (ℕ_discrete (b * S.ways + s) m.from) (λ e. absurd (ne (cleared T m b s h l.held e))) λ ne'.
      let same = kept T m b s h away ne' in
      onward {b = b} s h (λ z. ne (same ∙ z)) (rw (same, hop) at (back l r))

  -- L1
  pub run_reach : {T : List ℕ} (ms : List Move) {b : ℕ} → Run S T ms → Free S (moved_by T ms) b → Reach S T (length ms) b
  run_reach [] r f = reached f
  run_reach (m ∷ ms) r f = back r.0 (run_reach ms r.1 f)
