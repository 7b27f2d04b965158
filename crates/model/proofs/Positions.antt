-- Places in the visit list: how long it is, what stands at a place, and the moves back from a place. Assumes nothing.
use Prim.Native.Nat.{ℕ, zero, suc, ◌+◌, ◌-◌, ◌*◌, ◌/◌, ◌%◌, ◌<◌, ◌≤◌}
use native.Mathlib.Nat.{div-add-mod', mod-lt, div-le_self, div-lt_iff_lt-mul, mul-le-mul_right}
use native.Mathlib.Omega.{arith}
use native.Mathlib.Decide.{dec_lt}
use mathlib.Core.Path.{◌≡◌, refl, sym, ap, ◌∙◌, subst}
use mathlib.Core.Logic.{dite}
use mathlib.Core.List.Memᴰ.{head}
use mathlib.Core.List.Memᴰ.{not-nil}
use mathlib.Core.List.Memᴰ.{tail}
use mathlib.Core.List.{List, [], ◌∷◌, ◌++◌, Memᴰ as Mem}
use lib.ListN.{length, get_or, length-append, get_or-append}
use lib.Seq.{get_or-append-add}
use lib.Arith.{digits_div, digits_lt}
use borrow.Author.Tests.{lt-ltb, le-ltb}
use Rattle.model.specs.Shape.{Layout}
use Rattle.model.specs.Moves.{Free, Move, word_in}
use Rattle.model.specs.Visits.{climb, hop, hops, lands, next_level, sum_of_powers, visits}
use Rattle.model.proofs.Paths.{Fewest, Shortest, Slots, into, level, path_moves, walk}
use Rattle.model.proofs.Levels.{level_visits}
use Rattle.model.proofs.Room.{found_fewest}

pub mem_at : (l : List ℕ) (i : ℕ) → i < length l → Mem (get_or l i 0) l
mem_at [] i h = absurd (omega arith)
mem_at (x ∷ l) zero h = head refl
mem_at (x ∷ l) (suc i) h = tail (mem_at l i (omega arith))

pub at_mem : {v : ℕ} (l : List ℕ) → Mem v l → (i : ℕ) × (i < length l) × (get_or l i 0 ≡ v)
at_mem [] q = absurd (not-nil q)
at_mem (x ∷ l) (head e) = (0, omega arith, sym e)
at_mem (x ∷ l) (tail q) = let r = at_mem l q in (suc r.0, omega arith, r.2)

-- a number is below m, or m and something
split : (P : ℕ → Type 0) (m i : ℕ) → (i < m → P i) → ((j : ℕ) → P (m + j)) → P i
split P m i f g = dite (dec_lt i m) f λ h. subst P (omega arith) (g (i - m))

lands_snoc : (i : ℕ) (ms : List Move) (m : Move) → lands i (ms ++ (m ∷ [])) ≡ m.from
lands_snoc i [] m = refl
lands_snoc i (x ∷ ms) m = lands_snoc x.from ms m

module _ (S : Layout) (T : List ℕ) where
  length_hops : (b s m : ℕ) → length (hops S T b s m) ≡ m
  unfolding hops
  length_hops b s zero = refl
  length_hops b s (suc m) = ap suc (length_hops b (suc s) m)

  getD_hops : (b s m i : ℕ) → i < m → get_or (hops S T b s m) i 0 ≡ hop S T b (s + i)
  unfolding hops
  getD_hops b s zero i h = absurd (omega arith)
  getD_hops b s (suc m) zero h = ap (hop S T b) (omega arith)
  getD_hops b s (suc m) (suc i) h = getD_hops b (suc s) m i (omega arith) ∙ ap (hop S T b) (omega arith)

  length_next : (bs : List ℕ) → length (next_level S T bs) ≡ length bs * S.ways
  unfolding next_level
  length_next [] = omega arith
  length_next (b ∷ bs) = simp (length-append, length_hops) (omega (arith, length_next bs))

  getD_next : (bs : List ℕ) (i s : ℕ) → i < length bs → s < S.ways → get_or (next_level S T bs) (i * S.ways + s) 0 ≡ hop S T (get_or bs i 0) s
  unfolding next_level
  getD_next [] i s h k = absurd (omega arith)
  getD_next (b ∷ bs) zero s h k =
      let e : 0 * S.ways + s ≡ s = omega arith in
      let l : s < length (hops S T b 0 S.ways) = rw length_hops k in
      rw (e, get_or-append) (getD_hops b 0 S.ways s k ∙ ap (hop S T b) (omega arith))
  getD_next (b ∷ bs) (suc i) s h k =
      let e : suc i * S.ways + s ≡ length (hops S T b 0 S.ways) + (i * S.ways + s) = omega (arith, length_hops b 0 S.ways) in
      rw (e, get_or-append-add) (getD_next bs i s (omega arith) k)

  -- a level more is a level 0 and ways times what was there
  pub length_visits : (d : ℕ) (bs : List ℕ) → length (visits S T (suc d) bs) ≡ length bs + length (visits S T d bs) * S.ways
  unfolding visits
  length_visits zero bs = simp (length-append, length_next)
  length_visits (suc d) bs =
      simp length-append (omega (arith, simp length-append at (length_visits d (next_level S T bs)), length_next bs))

  prefix : (k d : ℕ) (bs : List ℕ) (i : ℕ) → k ≤ d → i < length (visits S T k bs) → get_or (visits S T d bs) i 0 ≡ get_or (visits S T k bs) i 0
  unfolding visits
  prefix zero zero bs i h l = refl
  prefix zero (suc d) bs i h l = rw get_or-append
  prefix (suc k) zero bs i h l = absurd (omega arith)
  prefix (suc k) (suc d) bs i h l =
      dite (dec_lt i (length bs)) (λ m. simp get_or-append) λ m.
      let e : i ≡ length bs + (i - length bs) = omega arith in
      rw e (simp get_or-append-add (prefix k d (next_level S T bs) (i - length bs) (omega arith) (omega (arith, length-append bs (visits S T k (next_level S T bs))))))

  -- so the list's length is a number: twice 1 + 4 + 16 + 64 + 256, or twice 1 + 8 + 64 + 512
  pub visits_count : (d : ℕ) (bs : List ℕ) → length (visits S T d bs) ≡ length bs * sum_of_powers S.ways d
  unfolding visits
  visits_count zero bs = omega arith
  visits_count (suc d) bs = length_visits d bs ∙ rw (visits_count d bs) (omega arith)

  longer : (k d : ℕ) (bs : List ℕ) → k ≤ d → length (visits S T k bs) ≤ length (visits S T d bs)
  unfolding visits
  longer zero zero bs h = omega arith
  longer zero (suc d) bs h = omega (arith, length-append bs (visits S T d (next_level S T bs)))
  longer (suc k) zero bs h = absurd (omega arith)
  longer (suc k) (suc d) bs h = simp length-append (omega (arith, longer k d (next_level S T bs) (omega arith)))

  -- who put a place into the list
  abbrev Child : ℕ → List ℕ → ℕ → ℕ → Type 0
  Child d bs s i =
      length bs + (i * S.ways + s) < length (visits S T d bs)
      → get_or (visits S T d bs) (length bs + (i * S.ways + s)) 0 ≡ hop S T (get_or (visits S T d bs) i 0) s

  pub child : (d : ℕ) (bs : List ℕ) (s : ℕ) → s < S.ways → (i : ℕ) → Child d bs s i
  unfolding visits
  child zero bs s h i = λ l. absurd (omega arith)
  child (suc d) bs s h i =
      split (Child (suc d) bs s) (length bs) i
      (λ m l.
      rw (get_or-append-add, prefix 0 d (next_level S T bs) (i * S.ways + s) (omega arith) (rw length_next (digits_lt m h)), get_or-append)
      (getD_next bs i s m h))
      (λ j l.
      let e : (length bs + j) * S.ways + s ≡ length (next_level S T bs) + (j * S.ways + s) = omega (arith, length_next bs) in
      simp (get_or-append-add, e) (child d (next_level S T bs) s h j (omega (arith, length-append bs (visits S T d (next_level S T bs))))))

  -- a queue that is filled by the rule agrees with the visit list as far as it is filled: what a loop's invariant has to say
  pub filled : (pos : 0 < S.ways) (d : ℕ) (bs Q : List ℕ) (m : ℕ) → 0 < length bs → m ≤ length (visits S T d bs)
      → ((j : ℕ) → j < length bs → j < m → get_or Q j 0 ≡ get_or bs j 0)
      → ((i s : ℕ) → s < S.ways → length bs + (i * S.ways + s) < m → get_or Q (length bs + (i * S.ways + s)) 0 ≡ hop S T (get_or Q i 0) s)
      → (fuel j : ℕ) → j < fuel → j < m → get_or Q j 0 ≡ get_or (visits S T d bs) j 0
  unfolding visits
  filled pos d bs Q m some top start rule zero j h k = absurd (omega arith)
  filled pos d bs Q m some top start rule (suc fuel) j h k =
      dite (dec_lt j (length bs)) (λ l. start j l k ∙ sym (prefix 0 d bs j (omega arith) l)) λ l.
      let i = (j - length bs) / S.ways in
      let s = (j - length bs) % S.ways in
      let hs : s < S.ways = mod-lt (j - length bs) pos in
      let e : length bs + (i * S.ways + s) ≡ j = rw div-add-mod' (omega arith) in
      let low : i ≤ j - length bs = div-le_self (j - length bs) S.ways in
      let same = filled pos d bs Q m some top start rule fuel i (omega arith) (omega arith) in
      rw e at (rule i s hs (rw e k) ∙ ap (λ x. hop S T x s) same ∙ sym (child d bs s hs i (rw e (omega arith))))

  -- a path with a slot more at its far end
  into_snoc : (p : List ℕ) (s r : ℕ) → into (p ++ (s ∷ [])) r ≡ into p s
  into_snoc [] s r = refl
  into_snoc (x ∷ p) s r = refl

  slots_snoc : (p : List ℕ) (s : ℕ) → Slots S p → s < S.ways → Slots S (p ++ (s ∷ []))
  slots_snoc [] s h k = (k, tt)
  slots_snoc (x ∷ p) s h k = (h.0, slots_snoc p s h.1 k)

  walk_snoc : (b : ℕ) (p : List ℕ) (s : ℕ) → walk S T b (p ++ (s ∷ [])) ≡ hop S T (walk S T b p) s
  walk_snoc b [] s = refl
  walk_snoc b (x ∷ p) s = walk_snoc (hop S T b x) p s

  path_snoc : (b : ℕ) (p : List ℕ) (s r : ℕ) → path_moves S T b (p ++ (s ∷ [])) r
      ≡ record { from = walk S T b p * S.ways + s; to = hop S T (walk S T b p) s * S.ways + r } ∷ path_moves S T b p s
  path_snoc b [] s r = refl
  path_snoc b (x ∷ p) s r = rw (path_snoc (hop S T b x) p s r, into_snoc p s r)

  path_lands : (b : ℕ) (p : List ℕ) (r i : ℕ) → i ≡ walk S T b p * S.ways + r → lands i (path_moves S T b p r) ≡ b * S.ways + into p r
  path_lands b [] r i e = e
  path_lands b (s ∷ p) r i e = lands_snoc i (path_moves S T (hop S T b s) p r) _

  -- the path to place q, at a level up to f
  module _ (d : ℕ) (bs : List ℕ) where
    record Trail (f q r : ℕ) : Type 0 where
      b : ℕ
      p : List ℕ
      home : Mem b bs
      slots : Slots S p
      deep : length p ≤ f
      ends : walk S T b p ≡ get_or (visits S T d bs) q 0
      same : climb S (visits S T d bs) (length bs) f q r ≡ path_moves S T b p r
      past : (k : ℕ) → k < length p → length (visits S T k bs) ≤ q

    at_home : (f q r : ℕ) → q < length bs → climb S (visits S T d bs) (length bs) f q r ≡ [] → Trail f q r
    unfolding visits
    at_home f q r l e =
        record {
          b = get_or bs q 0;
          p = [];
          home = mem_at bs q l;
          slots = tt;
          deep = omega arith;
          ends = sym (prefix 0 d bs q (omega arith) l);
          same = e;
          past = λ k h. absurd (omega arith);
        }

    -- one level more: place q is put there by place i and slot s
    module _ (pos : 0 < S.ways) (f q r : ℕ) (l : q < length (visits S T d bs)) (m : length bs ≤ q) where
      abbrev i : ℕ
      i = (q - length bs) / S.ways

      abbrev s : ℕ
      s = (q - length bs) % S.ways

      parent : length bs + (i * S.ways + s) ≡ q
      parent = rw div-add-mod' (omega arith)

      deeper : Trail f i s → Trail (suc f) q r
      unfolding climb visits
      deeper t =
          record {
            b = t.b;
            p = t.p ++ (s ∷ []);
            home = t.home;
            slots = slots_snoc t.p s t.slots (mod-lt (q - length bs) pos);
            deep = simp length-append (omega (arith, t.deep));
            ends = walk_snoc t.b t.p s ∙ ap (λ x. hop S T x s) t.ends ∙ at_q;
            same = rw (le-ltb q (length bs) m, path_snoc, t.same, t.ends, at_q);
            past = past;
          }
        where
          at_q : hop S T (get_or (visits S T d bs) i 0) s ≡ get_or (visits S T d bs) q 0
          at_q = sym (rw parent at (child d bs s (mod-lt (q - length bs) pos) i (rw parent l)))

          past : (k : ℕ) → k < length (t.p ++ (s ∷ [])) → length (visits S T k bs) ≤ q
          past zero h = m
          past (suc k) h =
              let h' : k < length t.p = omega (arith, length-append t.p (s ∷ [])) in
              omega (arith, length_visits k bs, mul-le-mul_right S.ways (t.past k h'), parent)

    trail : 0 < S.ways → (f q r : ℕ) → f ≤ d → q < length (visits S T f bs) → Trail f q r
    unfolding climb visits
    trail pos zero q r h l = at_home 0 q r l refl
    trail pos (suc f) q r h l =
        dite (dec_lt q (length bs)) (λ m. at_home (suc f) q r m (rw (lt-ltb q (length bs) m))) λ m.
        deeper pos f q r (omega (arith, longer (suc f) d bs h)) (omega arith)
        (trail pos f ((q - length bs) / S.ways) ((q - length bs) % S.ways) (omega arith)
        ((div-lt_iff_lt-mul pos).1 (omega (arith, length_visits f bs))))

-- what the search finds: the first place q of the visit list whose bucket has a free slot, and a free slot r of that bucket
module _ (S : Layout) (T : List ℕ) (bs : List ℕ) (d q r : ℕ) (before : (i : ℕ) → i < q → ¬ Free S T (get_or (visits S T d bs) i 0)) where
  early : (k v : ℕ) → k ≤ d → length (visits S T k bs) ≤ q → Mem v (level S T k bs) → ¬ Free S T v
  early k v h l m f =
      let x = at_mem (visits S T k bs) (level_visits S T k k bs (omega arith) m) in
      before x.0 (omega arith) (rw (prefix S T k d bs x.0 h x.1, x.2) f)

  module _ (n : ℕ) (size : length T ≡ n * S.ways) (closed : (t b : ℕ) → b < n → S.other t b < n) (home_in : (b : ℕ) → Mem b bs → b < n)
      (h : r < S.ways) (free : word_in S T (get_or (visits S T d bs) q 0) r ≡ 0) where
    fewest_at : (t : Trail S T d bs d q r) → Fewest S T bs t.b t.p r
    fewest_at t =
        found_fewest S T n size closed bs home_in
        (record {
          home = t.home;
          slots = t.slots;
          slot = h;
          free = rw t.ends free;
          first = λ k v l m. early k v (omega (arith, t.deep)) (t.past k l) m;
        })

    shortest_at : (t : Trail S T d bs d q r) → Fewest S T bs t.b t.p r
        → Shortest S T bs (get_or (visits S T d bs) q 0 * S.ways + r) (climb S (visits S T d bs) (length bs) d q r)
    shortest_at t f =
        rw t.same
        (record {
          run = f.run;
          untouched = f.untouched;
          inside = rw (at_slot, size) (digits_lt (home_in t.b t.home) f.slot);
          freed = rw at_slot f.freed;
          home = rw (at_slot, digits_div, f.slot) t.home;
          fewest = rw f.count f.fewest;
        })
      where
        at_slot : lands (get_or (visits S T d bs) q 0 * S.ways + r) (path_moves S T t.b t.p r) ≡ t.b * S.ways + into t.p r
        at_slot = path_lands S T t.b t.p r (get_or (visits S T d bs) q 0 * S.ways + r) (rw t.ends)

    pub shortest : q < length (visits S T d bs)
        → Shortest S T bs (get_or (visits S T d bs) q 0 * S.ways + r) (climb S (visits S T d bs) (length bs) d q r)
    shortest l = let t = trail S T d bs (omega arith) d q r (omega arith) l in shortest_at t (fewest_at t)
