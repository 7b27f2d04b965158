-- The computed search is right: it stops within the list exactly if some legal moves make room, and then its moves are the fewest.
-- Assumes nothing.
use Prim.Native.Nat.{ℕ, ◌+◌, ◌*◌, ◌<◌, suc, ◌≤◌, ◌-◌, ◌%◌, ◌/◌, zero}
use native.Mathlib.Omega.{arith}
use native.Mathlib.Decide.{ℕ_discrete, dec_lt}
use mathlib.Core.Path.{◌≡◌, refl, subst}
use mathlib.Core.Logic.{◌≢◌, ◌↔◌, ◌⊎◌, inl, inr, ⊎_elim, dite}
use mathlib.Core.List.Memᴰ.{head}
use mathlib.Core.List.Memᴰ.{not-nil}
use mathlib.Core.List.Memᴰ.{tail}
use mathlib.Core.List.{List, [], ◌∷◌, Memᴰ as Mem}
use lib.ListN.{length, get_or}
use borrow.Author.Tests.{lt-ltb, le-ltb, eq-eqb, ne_eqb}
use Rattle.model.specs.Shape.{Layout}
use Rattle.model.specs.Moves.{Free, Move, Run, moved_by, word_in}
use Rattle.model.specs.Visits.{climb, first_free, free_slot, lowest, search_moves, stop, stop_slot, visit_list}
use Rattle.model.proofs.Paths.{Shortest, Shut}
use Rattle.model.proofs.Room.{shut_iff}
use Rattle.model.proofs.Positions.{at_mem, mem_at, shortest}

module _ (S : Layout) (T : List ℕ) where
  -- x is the lowest free slot of b from s on, or e if none is below e
  pub record Lowest (b s e x : ℕ) : Type 0 where
    pub top : x ≤ e
    pub free : x < e → word_in S T b x ≡ 0
    pub under : (i : ℕ) → s ≤ i → i < x → word_in S T b i ≢ 0

  lowest_is : (b s m : ℕ) → Lowest b s (s + m) (lowest S T b s m)
  unfolding lowest
  lowest_is b s zero = record { top = omega arith; free = λ h. absurd (omega arith); under = λ i h k. absurd (omega arith) }
  lowest_is b s (suc m) =
      dite (ℕ_discrete (word_in S T b s) 0)
      (λ z. rw (eq-eqb (word_in S T b s) 0 z) (record { top = omega arith; free = λ h. z; under = λ i h k. absurd (omega arith) }))
      λ nz. rw (ne_eqb (word_in S T b s) 0 nz) (more nz (lowest_is b (suc s) m))
    where
      more : {x : ℕ} → word_in S T b s ≢ 0 → Lowest b (suc s) (suc s + m) x → Lowest b s (s + suc m) x
      more nz r =
          record {
            top = omega (arith, r.top);
            free = λ h. r.free (omega arith);
            under = λ i h k. dite (ℕ_discrete i s) (λ e. rw e nz) λ ne. r.under i (omega arith) k;
          }

  pub slot_is : (b : ℕ) → Lowest b 0 S.ways (free_slot S T b)
  unfolding free_slot
  slot_is b = subst (λ e. Lowest b 0 e (free_slot S T b)) (omega arith) (lowest_is b 0 S.ways)

  pub full : (b : ℕ) → S.ways ≤ free_slot S T b → ¬ Free S T b
  full b h f = (slot_is b).under f.0 (omega arith) (omega arith) f.2

  -- q is the first place of bs with a free slot, or its length
  pub record Stop (bs : List ℕ) (q : ℕ) : Type 0 where
    pub top : q ≤ length bs
    pub free : q < length bs → free_slot S T (get_or bs q 0) < S.ways
    pub before : (i : ℕ) → i < q → ¬ Free S T (get_or bs i 0)

  pub stop_is : (bs : List ℕ) → Stop bs (first_free S T bs)
  unfolding first_free
  stop_is [] = record { top = omega arith; free = λ h. absurd (omega arith); before = λ i h. absurd (omega arith) }
  stop_is (b ∷ bs) =
      dite (dec_lt (free_slot S T b) S.ways)
      (λ z. rw (lt-ltb (free_slot S T b) S.ways z) (record { top = omega arith; free = λ h. z; before = λ i h. absurd (omega arith) }))
      λ nz. rw (le-ltb (free_slot S T b) S.ways (omega arith)) (more (full b (omega arith)) (stop_is bs))
    where
      more : {q : ℕ} → ¬ Free S T b → Stop bs q → Stop (b ∷ bs) (suc q)
      more {q} nf r = record { top = omega (arith, r.top); free = λ h. r.free (omega arith); before = before }
        where
          before : (i : ℕ) → i < suc q → ¬ Free S T (get_or (b ∷ bs) i 0)
          before zero h = nf
          before (suc i) h = r.before i (omega arith)

pub stop_le : (S : Layout) (T bs : List ℕ) → first_free S T bs ≤ length bs
stop_le S T bs = (stop_is S T bs).top

-- what a loop that stops at the first free slot, or at the first bucket with one, has found
module _ (S : Layout) (T : List ℕ) where
  pub lowest_same : (b x : ℕ) → x ≤ S.ways → (x < S.ways → word_in S T b x ≡ 0) → ((i : ℕ) → i < x → word_in S T b i ≢ 0) → x ≡ free_slot S T b
  lowest_same b x top free under =
      let r = slot_is S T b in
      dite (dec_lt x (free_slot S T b)) (λ h. absurd (r.under x (omega arith) h (free (omega (arith, r.top))))) λ nl.
      dite (dec_lt (free_slot S T b) x) (λ h. absurd (under (free_slot S T b) h (r.free (omega arith)))) λ ng. omega arith

  pub first_same : (bs : List ℕ) (q : ℕ) → q ≤ length bs → (q < length bs → Free S T (get_or bs q 0)) → ((i : ℕ) → i < q → ¬ Free S T (get_or bs i 0))
      → q ≡ first_free S T bs
  first_same bs q top free before =
      let r = stop_is S T bs in
      let p = first_free S T bs in
      dite (dec_lt q p) (λ h. absurd (r.before q h (free (omega (arith, r.top))))) λ nl.
      dite (dec_lt p q)
      (λ h. let f = r.free (omega arith) in absurd (before p h (free_slot S T (get_or bs p 0), f, (slot_is S T (get_or bs p 0)).free f))) λ ng. omega arith

pub length_climb : (S : Layout) (Q : List ℕ) (h f q r : ℕ) → length (climb S Q h f q r) ≤ f
unfolding climb
length_climb S Q h zero q r = omega arith
length_climb S Q h (suc f) q r =
    dite (dec_lt q h) (λ l. rw (lt-ltb q h l) (omega arith))
    λ l. rw (le-ltb q h (omega arith)) (omega (arith, length_climb S Q h f ((q - h) / S.ways) ((q - h) % S.ways)))

-- the search is right
module _ (S : Layout) (T : List ℕ) (n : ℕ) (size : length T ≡ n * S.ways) (closed : (t b : ℕ) → b < n → S.other t b < n)
    (bs : List ℕ) (home_in : (b : ℕ) → Mem b bs → b < n) (d : ℕ) where
  -- it comes to the end of the visit list exactly if no d legal moves make room
  pub search_none : (stop S T bs d ≡ length (visit_list S T bs d)) ↔ Shut S T bs d
  search_none = (
    λ e. (shut_iff S T n size closed bs home_in d).0
        λ v m f. let x = at_mem vs m in one.before x.0 (omega arith) (rw x.2 f),
    λ none. dite (dec_lt q (length vs))
        (λ h. absurd ((shut_iff S T n size closed bs home_in d).1 none b (mem_at vs q h) (free_slot S T b, one.free h, (slot_is S T b).free (one.free h))))
        λ h. omega (arith, one.top),
  )
    where
      vs : List ℕ
      vs = visit_list S T bs d

      q : ℕ
      q = stop S T bs d

      b : ℕ
      b = get_or vs q 0

      one : Stop S T vs q
      one = stop_is S T vs

  -- and if it stops before, its moves are legal, make room and are the fewest
  pub search_some : stop S T bs d < length (visit_list S T bs d) → Shortest S T bs (stop_slot S T bs d) (search_moves S T bs d)
  search_some h =
      let one = stop_is S T (visit_list S T bs d) in
      let b = get_or (visit_list S T bs d) (stop S T bs d) 0 in
      shortest S T bs d (stop S T bs d) (free_slot S T b) one.before n size closed home_in (one.free h) ((slot_is S T b).free (one.free h)) h

  pub few : length (search_moves S T bs d) ≤ d
  few = length_climb S (visit_list S T bs d) (length bs) d (stop S T bs d) (free_slot S T (get_or (visit_list S T bs d) (stop S T bs d) 0))

-- demand 3 for an animal with the homes b and c
module _ (S : Layout) (T : List ℕ) (n : ℕ) (size : length T ≡ n * S.ways) (closed : (t b : ℕ) → b < n → S.other t b < n)
    (t b : ℕ) (hb : b < n) (d : ℕ) where
  abbrev pub homes_of : List ℕ
  homes_of = b ∷ S.other t b ∷ []

  pub in_pair : (c : ℕ) → Mem c homes_of → (c ≡ b) ⊎ (c ≡ S.other t b)
  in_pair c (head e) = inl e
  in_pair c (tail (head e)) = inr e
  in_pair c (tail (tail q)) = absurd (not-nil q)

  pub pair_in : (c : ℕ) → Mem c homes_of → c < n
  pair_in c q = ⊎_elim (λ e. rw e hb) (λ e. rw e (closed t b hb)) (in_pair c q)

  pub room_iff : (stop S T homes_of d ≡ length (visit_list S T homes_of d))
      ↔ ((ms : List Move) → length ms ≤ d → Run S T ms → ¬ (Free S (moved_by T ms) b ⊎ Free S (moved_by T ms) (S.other t b)))
  room_iff = (
    λ e ms l r f. ⊎_elim (iff.0 e ms l r b (head refl)) (iff.0 e ms l r (S.other t b) (tail (head refl))) f,
    λ g. iff.1 λ ms l r c q f. g ms l r (⊎_elim (λ e. inl (rw e at f)) (λ e. inr (rw e at f)) (in_pair c q)),
  )
    where
      iff : (stop S T homes_of d ≡ length (visit_list S T homes_of d)) ↔ Shut S T homes_of d
      iff = search_none S T n size closed homes_of pair_in d
