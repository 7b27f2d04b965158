-- The clears: a law for each way through a turn of the loop, where a clear isn't seen by the places that follow. Assumes nothing.
use Prim.Native.Nat.{ℕ, ◌+◌, ◌*◌, ◌<◌, suc, ◌≤◌, ◌-◌, zero}
use native.Mathlib.Omega.{arith}
use native.Mathlib.Decide.{dec_lt}
use mathlib.Core.Path.{◌≡◌, refl, ap, ◌∙◌}
use mathlib.Core.Logic.{◌≢◌, ◌⊎◌, inl, inr, ⊎_elim, dite}
use mathlib.Core.Bool.{Bool, true, false, ◌&&◌}
use mathlib.Core.List.{List, [], ◌++◌}
use lib.ListN.{length, set}
use lib.Seq.{get_or-set_other}
use Rattle.blocks.specs.Made.{Made, Put}
use Rattle.model.specs.Memory.{Mem, animal, is_recent, live, mem, recent}
use Rattle.model.specs.Clock.{next_hand, passed_recent, prepend}
use Rattle.places.proofs.Laws.{hand_below, hand_on, hand_back as hand_wraps}
use Rattle.blocks.proofs.Laws.{lift_item, made_append, made_nil}
use Rattle.evicting.specs.Evict.{clear_stores}

-- a clear of place h isn't seen at another place
same_at : (g h : ℕ) (t : List ℕ) → g ≢ h
    → (animal (set t (4 * h + 3) 0) g ≡ animal t g) × (recent (set t (4 * h + 3) 0) g ≡ recent t g)
same_at g h t e =
    (get_or-set_other t (4 * h + 3) (4 * g) 0 0 (λ q. absurd (omega arith)), get_or-set_other t (4 * h + 3) (4 * g + 3) 0 0 (λ q. e (omega arith)))

-- nor by the places from g on, before the hand meets h again
module _ (M h : ℕ) (t : List ℕ) where
  abbrev Unseen : ℕ → ℕ → Type 0
  Unseen k g = passed_recent M (set t (4 * h + 3) 0) k g ≡ passed_recent M t k g

  low : (k g : ℕ) → h < M → g + k ≤ h → Unseen k g
  unfolding passed_recent
  low zero g hm e = refl
  low (suc k) g hm e =
      let s = same_at g h t (omega arith) in rw (s.0, s.1, ← hand_on M g (omega arith), low k (g + 1) hm (omega arith))

  high : (k g : ℕ) → h < g → g < M → g + k ≤ M + h → Unseen k g
  unfolding passed_recent
  high zero g hg gm e = refl
  high (suc k) g hg gm e =
      let s = same_at g h t (omega arith) in
      rw (s.0, s.1)
      (ap (prepend (live t g && is_recent t g) g)
      (dite (dec_lt (g + 1) M) (λ p. rw (← hand_on M g p) (high k (g + 1) (omega arith) p (omega arith)))
      λ p. rw (← hand_wraps M g (omega arith)) (low k 0 (omega arith) (omega arith))))

  unseen : (k : ℕ) → h < M → k < M → Unseen k (next_hand M h)
  unseen k hm km =
      dite (dec_lt (h + 1) M) (λ p. rw (← hand_on M h p) (high k (h + 1) (omega arith) p (omega arith)))
      λ p. rw (← hand_wraps M h (omega arith)) (low k 0 hm (omega arith))

-- the clear of one place, and then the rest
clears_cons : (b : Bool) (p : ℕ) (ps : List ℕ) → clear_stores (prepend b p ps) ≡ clear_stores (prepend b p []) ++ clear_stores ps
clears_cons true p ps = refl
clears_cons false p ps = refl

-- what the clear of one place leaves of the items
one_leaves : (b : Bool) (p l : ℕ) {s c t t' : List ℕ} {r : ℕ} → Made (clear_stores (prepend b p [])) l (mem s c t) (mem s c t') r
    → (t' ≡ t) ⊎ (t' ≡ set t (4 * p + 3) 0)
one_leaves false p zero d = inl (ap (λ (m : Mem). m.items) d.after)
one_leaves false p (suc l) d = inl (ap (λ (m : Mem). m.items) d.after)
one_leaves true p zero d = inl (ap (λ (m : Mem). m.items) d.after)
one_leaves true p (suc zero) d = inr (ap (λ (m : Mem). m.items) d.after)
one_leaves true p (suc (suc l)) d = inr (ap (λ (m : Mem). m.items) d.after)

-- the test of one place, as the code makes it
abbrev to_clear : List ℕ → ℕ → Bool
to_clear t p = live t p && is_recent t p

module _ (t : List ℕ) (p : ℕ) where
  pub one_cleared : to_clear t p ≡ true → {l l' : ℕ} {t' : List ℕ} → Put (4 * p + 3) 0 l t t' l' → (s c : List ℕ)
      → Made (clear_stores (prepend (to_clear t p) p [])) l (mem s c t) (mem s c t') l'
  one_cleared e d s c = rw e (lift_item d)

-- the hand stands at h and i of count places are passed: the clears that are left lead to what was asked for
pub record Clearing (M count hand left : ℕ) (t₀ : List ℕ) (i h l : ℕ) (t : List ℕ) : Type 0 where
  pub upto : i ≤ count
  pub within : h < M
  pub long : length t ≡ length t₀
  pub goes : (s c : List ℕ) (m' : Mem) (l' : ℕ) → Made (clear_stores (passed_recent M t (count - i) h)) l (mem s c t) m' l'
      → Made (clear_stores (passed_recent M t₀ count hand)) left (mem s c t₀) m' l'

module _ {M count hand left i h l : ℕ} {t₀ t : List ℕ} (w : Clearing M count hand left t₀ i h l t) where
  pub clear_next : i < count → count ≤ M → {t' : List ℕ} {g l₁ : ℕ} → length t' ≡ length t
      → ((s c : List ℕ) → Made (clear_stores (prepend (to_clear t h) h [])) l (mem s c t) (mem s c t') l₁) → g ≡ next_hand M h
      → Clearing M count hand left t₀ (i + 1) g l₁ t'
  unfolding passed_recent
  clear_next ic cm {t'} {g} {l₁} same one e =
      record {
        upto = omega arith;
        within = rw e (hand_below M h w.within);
        long = same ∙ w.long;
        goes = λ s c m' l' d. w.goes s c m' l' (rw (more s c) (made_append (one s c) (rw (kept s c) at (rw e at d))));
      }
    where
      more : (s c : List ℕ) → clear_stores (passed_recent M t (count - i) h)
          ≡ clear_stores (prepend (to_clear t h) h []) ++ clear_stores (passed_recent M t (count - (i + 1)) (next_hand M h))
      more s c =
          let f : count - i ≡ suc (count - (i + 1)) = omega arith in
          rw f (clears_cons (to_clear t h) h (passed_recent M t (count - (i + 1)) (next_hand M h)))

      kept : (s c : List ℕ) → passed_recent M t' (count - (i + 1)) (next_hand M h) ≡ passed_recent M t (count - (i + 1)) (next_hand M h)
      kept s c =
          ⊎_elim (λ q. rw q) (λ q. rw q (unseen M h t (count - (i + 1)) w.within (omega arith))) (one_leaves (to_clear t h) h l (one s c))

  pub clear_last : count ≤ i → (s c : List ℕ) → Made (clear_stores (passed_recent M t₀ count hand)) left (mem s c t₀) (mem s c t) l
  unfolding passed_recent
  clear_last e s c = w.goes s c (mem s c t) l (let f : count - i ≡ 0 = omega arith in rw f made_nil)
