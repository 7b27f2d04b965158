-- Each whole block, where its own condition holds, keeps a good memory good. Assumes nothing.
use Prim.Native.Nat.{ℕ, ◌+◌, ◌*◌, ◌^◌, ◌<◌, ◌%◌, ◌/◌, min}
use native.Mathlib.Nat.{mod-lt}
use native.Mathlib.Omega.{arith}
use native.Mathlib.Decide.{ℕ_discrete, dec_lt}
use mathlib.Core.Path.{◌≡◌, refl, sym, ap, ◌∙◌, subst}
use mathlib.Core.Logic.{◌≢◌, ◌⊎◌, inl, inr, ⊎_elim, dite}
use mathlib.Core.Bool.{false}
use mathlib.Core.List.{List}
use lib.ListN.{length, get_or, set, length-set, get_or-eq_default}
use lib.Seq.{get_or-set_same, get_or-set_other}
use borrow.Author.Tests.{le-ltb, ne_eqb, lt-leb, eq-eqb}
use Rattle.model.specs.Memory.{Mem, animal, damaged, permission, place, recent, stamp, tag, word}
use Rattle.model.specs.Shape.{Home, Shape, bucket, counter_at, counter_of}
use Rattle.model.specs.Stores.{Block, enter, move, recency, remove, update, whole}
use Rattle.model.specs.Moves.{Legal, Move, moved}
use Rattle.model.specs.Row.{fill, renew}
use Rattle.model.specs.WellFormed.{Live, Points, Right, Sole, WellFormed}
use Rattle.model.proofs.ShapeLaws.{Lawful}
use Rattle.model.proofs.ListLaws.{inside_held, at_set}
use Rattle.model.proofs.MovedWords.{across, at_else, at_to, origin}
use Rattle.model.specs.Choice.{choose}
use lib.Dec.{eqb}

-- the counters after two additions to one of them
abbrev pub up : List ℕ → ℕ → List ℕ
up l c = set l c ((get_or l c 0 + 1) % 2 ^ 32)

even_up : (l : List ℕ) (c : ℕ) → c < length l → ((j : ℕ) → get_or l j 0 % 2 ≡ 0) → (j : ℕ) → get_or (up (up l c) c) j 0 % 2 ≡ 0
even_up l c h even j =
    dite (ℕ_discrete j c)
    (λ f. let k : c < length (up l c) = rw length-set h in simp (f, get_or-set_same) (omega (arith, even c)))
    λ ne. simp get_or-set_other (even j)

-- l' is l with the four words a b c d in place p
pub record Filled (l : List ℕ) (p a b c d : ℕ) (l' : List ℕ) : Type 0 where
  pub long : length l' ≡ length l
  pub there : (k : ℕ) → k / 4 ≢ p → get_or l' k 0 ≡ get_or l k 0
  pub w0 : animal l' p ≡ a
  pub w1 : permission l' p ≡ b
  pub w2 : stamp l' p ≡ c
  pub w3 : recent l' p ≡ d

module _ (l : List ℕ) (M p : ℕ) (long : length l ≡ 4 * M) (inside : p < M) where
  -- one of its words is set: word j of the four
  put : (j : ℕ) → j < 4 → {a b c d : ℕ} {l' : List ℕ} → Filled l p a b c d l' → (v : ℕ)
      → Filled l p (choose (eqb j 0) v a) (choose (eqb j 1) v b) (choose (eqb j 2) v c) (choose (eqb j 3) v d) (set l' (4 * p + j) v)
  put j four {l' = l'} r v =
      record {
        long = length-set l' (4 * p + j) v ∙ r.long;
        there = λ k ne. get_or-set_other l' (4 * p + j) k v 0 (λ e. ne (omega arith)) ∙ r.there k ne;
        w0 = word 0 (omega arith) ∙ ap (choose (eqb j 0) v) r.w0;
        w1 = word 1 (omega arith) ∙ ap (choose (eqb j 1) v) r.w1;
        w2 = word 2 (omega arith) ∙ ap (choose (eqb j 2) v) r.w2;
        w3 = word 3 (omega arith) ∙ ap (choose (eqb j 3) v) r.w3;
      }
    where
      word : (i : ℕ) {k : ℕ} → k ≡ 4 * p + i → get_or (set l' (4 * p + j) v) k 0 ≡ choose (eqb j i) v (get_or l' k 0)
      word i {k} q =
          dite (ℕ_discrete j i)
          (λ e. let same : 4 * p + j ≡ k = omega arith in rw (eq-eqb j i e, ← same) (get_or-set_same l' (4 * p + j) v 0 (omega (arith, r.long))))
          λ ne. rw (ne_eqb j i ne) (get_or-set_other l' (4 * p + j) k v 0 (λ e. ne (omega arith)))

  same_is : Filled l p (animal l p) (permission l p) (stamp l p) (recent l p) l
  same_is = record { long = refl; there = λ k ne. refl; w0 = refl; w1 = refl; w2 = refl; w3 = refl }

  pub fill_is : (a b c d : ℕ) → Filled l p a b c d (fill l p a b c d)
  fill_is a b c d =
      let first : 4 * p + 0 ≡ 4 * p = omega arith in
      rw first at (put 3 (omega arith) (put 2 (omega arith) (put 1 (omega arith) (put 0 (omega arith) same_is a) b) c) d)

  pub renew_is : (b c : ℕ) → Filled l p (animal l p) b c 1 (renew l p b c)
  renew_is b c = put 3 (omega arith) (put 2 (omega arith) (put 1 (omega arith) same_is b) c) 1

  pub mark_is : (d : ℕ) → Filled l p (animal l p) (permission l p) (stamp l p) d (set l (4 * p + 3) d)
  mark_is d = put 3 (omega arith) same_is d

abbrev Bare : List ℕ → ℕ → Type 0
Bare l q = animal l q ≡ 0 → (permission l q ≡ 0) × (stamp l q ≡ 0) × (recent l q ≡ 0)

-- what the item words alone must be
module _ {l l' : List ℕ} {p a b c d : ℕ} (r : Filled l p a b c d l') where
  pub animals : (q : ℕ) → ((q ≡ p) × (animal l' q ≡ a)) ⊎ ((q ≢ p) × (animal l' q ≡ animal l q))
  animals q = dite (ℕ_discrete q p) (λ e. inl (e, rw e r.w0)) λ ne. inr (ne, r.there (4 * q) (λ e. ne (omega arith)))

  narrow_is : b < 2 ^ 32 → ((q : ℕ) → permission l q < 2 ^ 32) → (q : ℕ) → permission l' q < 2 ^ 32
  narrow_is h was q = dite (ℕ_discrete q p) (λ e. rw (e, r.w1) h) λ ne. rw (r.there (4 * q + 1) (λ e. ne (omega arith))) (was q)

  bare_is : (a ≡ 0 → (b ≡ 0) × (c ≡ 0) × (d ≡ 0)) → ((q : ℕ) → Bare l q) → (q : ℕ) → Bare l' q
  bare_is h was q z =
      dite (ℕ_discrete q p) (λ e. let g = h (sym r.w0 ∙ rw e at z) in rw e (r.w1 ∙ g.0, r.w2 ∙ g.1, r.w3 ∙ g.2))
      λ ne. let g = was q (sym (r.there (4 * q) (λ e. ne (omega arith))) ∙ z) in (
        r.there (4 * q + 1) (λ e. ne (omega arith)) ∙ g.0,
        r.there (4 * q + 2) (λ e. ne (omega arith)) ∙ g.1,
        r.there (4 * q + 3) (λ e. ne (omega arith)) ∙ g.2,
      )

module _ (Y : Shape) where
  pub record Enters (m : Mem) (c p i x a v : ℕ) : Type 0 where
    pub real : a ≢ 0
    pub inside : p < Y.places
    pub vacant : animal m.items p ≡ 0
    pub slot : i < length m.slots
    pub free : word m i ≡ 0
    pub home : Home Y a (bucket Y i)
    pub entry : x ≡ Y.tag_of a * 65536 + p
    pub narrow : v < 2 ^ 32
    pub new : (q : ℕ) → animal m.items q ≢ a
    pub count : c ≡ counter_of Y a

  -- a block's own condition
  abbrev pub Fits : Mem → Block → Type 0
  Fits m (move c f t x) =
      Legal Y.layout m.slots (record { from = f; to = t }) × (x ≡ word m f) × (c ≡ counter_at Y (tag (word m f)) (bucket Y f))
  Fits m (enter c p i x a v s) = Enters m c p i x a v
  Fits m (update c p v s) = Live m.items p × (v < 2 ^ 32) × (c ≡ counter_of Y (animal m.items p))
  Fits m (remove c i p) = Points m.slots i p × (c ≡ counter_of Y (animal m.items p))
  Fits m (recency p v) = Live m.items p

  pub counter_in : (t b : ℕ) → 0 < Y.counters → counter_at Y t b < Y.counters
  counter_in t b h = mod-lt (min b (Y.layout.other t b)) h

  pub live_in : {m : Mem} → WellFormed Y m → (p : ℕ) → Live m.items p → p < Y.places
  live_in {m} g p h =
      dite (dec_lt p Y.places) (λ l. l) λ l. absurd (h (get_or-eq_default m.items 0 (omega (arith, g.items_long))))

  pub free_sound : damaged Y.places 0 ≡ false
  unfolding damaged
  free_sound = refl

module _ (Y : Shape) (L : Lawful Y) (m : Mem) (g : WellFormed Y m) where
  -- an entry's word
  pub tag_of : (a : ℕ) {p : ℕ} → p < Y.places → tag (Y.tag_of a * 65536 + p) ≡ Y.tag_of a
  unfolding tag
  tag_of a h = omega (arith, L.few_places)

  pub place_of : (a : ℕ) {p : ℕ} → p < Y.places → place (Y.tag_of a * 65536 + p) ≡ p
  unfolding place
  place_of a h = omega (arith, L.few_places)

  pub entry_sound : (a : ℕ) {p : ℕ} → p < Y.places → damaged Y.places (Y.tag_of a * 65536 + p) ≡ false
  unfolding damaged
  entry_sound a {p} h =
      let ne : ¬ (Y.tag_of a * 65536 + p ≡ 0) = omega (arith, L.tag_low a) in
      let nt : ¬ (Y.tag_of a ≡ 0) = omega (arith, L.tag_low a) in
      rw (ne_eqb (Y.tag_of a * 65536 + p) 0 ne, tag_of a h, ne_eqb (Y.tag_of a) 0 nt, le-ltb 255 (Y.tag_of a) (L.tag_high a), place_of a h, lt-leb Y.places p h)

  -- where the animals stay what they are
  module _ {p b c d : ℕ} {l' : List ℕ} (r : Filled m.items p (animal m.items p) b c d l') (lv : Live m.items p) (hb : b < 2 ^ 32)
      (cs : List ℕ) (long : length cs ≡ Y.counters) (even : (j : ℕ) → get_or cs j 0 % 2 ≡ 0) where
    same_animal : (q : ℕ) → animal l' q ≡ animal m.items q
    same_animal q = ⊎_elim (λ e. e.1 ∙ ap (animal m.items) (sym e.0)) (λ e. e.1) (animals r q)

    keep_items : WellFormed Y (record { slots = m.slots; counters = cs; items = l' })
    keep_items =
        record {
          slots_long = g.slots_long;
          counters_long = long;
          items_long = r.long ∙ g.items_long;
          undamaged = g.undamaged;
          even = even;
          points = λ i nz. rw same_animal (g.points i nz);
          pointed = λ q lq. g.pointed q (λ e. lq (same_animal q ∙ e));
          distinct = λ q s lq e. g.distinct q s (λ z. lq (same_animal q ∙ z)) (sym (same_animal q) ∙ e ∙ same_animal s);
          narrow = narrow_is r hb g.narrow;
          bare = bare_is r (λ z. absurd (lv z)) g.bare;
        }

  keep_update : (c p v s : ℕ) → Fits Y m (update c p v s) → WellFormed Y (whole (update c p v s) m)
  keep_update c p v s h =
      keep_items (renew_is m.items Y.places p g.items_long (live_in Y g p h.0) v s) h.0 h.1 (up (up m.counters c) c)
      (simp length-set g.counters_long) (even_up m.counters c (rw (h.2, g.counters_long) (counter_in Y (Y.tag_of x) (Y.first_of x) L.some_counter)) g.even)
    where
      x : ℕ
      x = animal m.items p

  keep_recent : (p v : ℕ) → Fits Y m (recency p v) → WellFormed Y (whole (recency p v) m)
  keep_recent p v h =
      keep_items (mark_is m.items Y.places p g.items_long (live_in Y g p h) v) h (g.narrow p) m.counters g.counters_long g.even

  keep_move : (c : ℕ) (v : Move) → c < Y.counters → Legal Y.layout m.slots v → WellFormed Y (whole (move c v.from v.to (word m v.from)) m)
  keep_move c v hc l =
      record {
        slots_long = simp length-set g.slots_long;
        counters_long = simp length-set g.counters_long;
        items_long = g.items_long;
        undamaged = λ i. dite (ℕ_discrete (get_or T i 0) 0) (λ z. rw z (free_sound Y)) λ nz.
            ⊎_elim (λ o. rw (← o.1) (g.undamaged v.from)) (λ o. rw (← o.1) (g.undamaged i)) (from_where nz i refl);
        even = even_up m.counters c (rw g.counters_long hc) g.even;
        points = λ i nz. ⊎_elim (λ o. moved_right i o.0 o.1) (λ o. rw o.1 at (g.points i (λ z. nz (sym o.1 ∙ z)))) (from_where nz i refl);
        pointed = λ p lv. pointed' p (g.pointed p lv);
        distinct = g.distinct;
        narrow = g.narrow;
        bare = g.bare;
      }
    where
      T : List ℕ
      T = moved m.slots v

      from_where : {x : ℕ} → x ≢ 0 → (i : ℕ) → get_or T i 0 ≡ x → ((i ≡ v.to) × (word m v.from ≡ x)) ⊎ ((i ≢ v.from) × (word m i ≡ x))
      from_where nz i e = origin Y.layout L.other_twice l nz i e

      moved_right : {y : ℕ} (i : ℕ) → i ≡ v.to → word m v.from ≡ y → Right Y (animal m.items (place y)) y i
      moved_right {y} i e f =
          let r : Right Y (animal m.items (place y)) y v.from = rw f at (g.points v.from l.held) in
          let goes : bucket Y i ≡ Y.layout.other (Y.tag_of (animal m.items (place y))) (bucket Y v.from) = rw (e, ← r.tagged, ← f) l.goes in
          record { live = r.live; tagged = r.tagged; home = across Y.layout L.other_twice goes r.home }

      pointed' : (p : ℕ) → Sole m.slots p → Sole T p
      pointed' p (i, h, u) =
          dite (ℕ_discrete i v.from)
          (λ e. (
            v.to,
            rw (at_to Y.layout L.other_twice l) (rw e at h),
            λ j k. ⊎_elim (λ o. o.0)
                (λ o. absurd (o.0 (u j (rw o.1 k) ∙ e))) (from_where k.0 j refl),
          ))
          λ ne. (
            i,
            rw (at_else Y.layout L.other_twice l i (λ e. h.0 (rw e l.vacant)) ne) h,
            λ j k. ⊎_elim
                (λ o. absurd (ne (sym (u v.from (rw o.1 k))))) (λ o. u j (rw o.1 k)) (from_where k.0 j refl),
          )

  keep_enter : (c p i x a v s : ℕ) → Fits Y m (enter c p i x a v s) → WellFormed Y (whole (enter c p i x a v s) m)
  keep_enter c p i x a v s h =
      record {
        slots_long = simp length-set g.slots_long;
        counters_long = simp length-set g.counters_long;
        items_long = r.long ∙ g.items_long;
        undamaged = λ j. ⊎_elim (λ e. rw (e.1, h.entry) (entry_sound a h.inside)) (λ e. rw e (g.undamaged j)) (at_set m.slots i x j);
        even = even_up m.counters c (rw (h.count, g.counters_long) (counter_in Y (Y.tag_of a) (Y.first_of a) L.some_counter)) g.even;
        points = λ j nz. ⊎_elim (λ e. rw (e.1, h.entry, place_of a h.inside, r.w0) (record { live = h.real; tagged = tag_of a h.inside; home = rw e.0 h.home }))
            (λ e. let was = g.points j (λ z. nz (e ∙ z)) in rw (e, elsewhere (place (word m j)) was.live) was) (at_set m.slots i x j);
        pointed = λ q lq. ⊎_elim (λ e. rw e.0 here) (λ e. other_place q e.0 (g.pointed q (λ z. lq (e.1 ∙ z)))) (animals r q);
        distinct = λ q t lq e. ⊎_elim
            (λ o. ⊎_elim (λ u. o.0 ∙ sym u.0) (λ u. absurd (h.new t (sym u.1 ∙ sym e ∙ o.1))) (animals r t))
            (λ o. ⊎_elim (λ u. absurd (h.new q (sym o.1 ∙ e ∙ u.1))) (λ u. g.distinct q t (λ z. lq (o.1 ∙ z)) (sym o.1 ∙ e ∙ u.1)) (animals r t)) (animals r q);
        narrow = narrow_is r h.narrow g.narrow;
        bare = bare_is r (λ z. absurd (h.real z)) g.bare;
      }
    where
      l' : List ℕ
      l' = fill m.items p a v s 1

      r : Filled m.items p a v s 1 l'
      r = fill_is m.items Y.places p g.items_long h.inside a v s 1

      elsewhere : (q : ℕ) → Live m.items q → animal l' q ≡ animal m.items q
      elsewhere q lv = ⊎_elim (λ e. absurd (lv (rw e.0 h.vacant))) (λ e. e.1) (animals r q)

      T : List ℕ
      T = set m.slots i x

      here : Sole T p
      here = (
        i,
        (
          rw (get_or-set_same m.slots i x 0 h.slot, h.entry) (omega (arith, L.tag_low a)),
          rw (get_or-set_same m.slots i x 0 h.slot, h.entry) (place_of a h.inside),
        ),
        λ j k. ⊎_elim (λ e. e.0)
            (λ e. absurd ((g.points j (λ z. k.0 (e ∙ z))).live (rw (← e, k.1) h.vacant))) (at_set m.slots i x j),
      )

      other_place : (q : ℕ) → q ≢ p → Sole m.slots q → Sole T q
      other_place q ne (k, f, u) =
          let nk : k ≢ i = λ e. f.0 (rw e h.free) in (
            k,
            rw (get_or-set_other m.slots i k x 0 nk) f,
            λ j f'. ⊎_elim
                (λ e. absurd (ne (sym f'.1 ∙ ap place (e.1 ∙ h.entry) ∙ place_of a h.inside))) (λ e. u j (rw e at f')) (at_set m.slots i x j),
          )

  keep_remove : (c i p : ℕ) → Fits Y m (remove c i p) → WellFormed Y (whole (remove c i p) m)
  keep_remove c i p h =
      record {
        slots_long = simp length-set g.slots_long;
        counters_long = simp length-set g.counters_long;
        items_long = r.long ∙ g.items_long;
        undamaged = λ j. ⊎_elim (λ e. rw e.1 (free_sound Y)) (λ e. rw e (g.undamaged j)) (at_set m.slots i 0 j);
        even = even_up m.counters c (rw (h.1, g.counters_long) (counter_in Y (Y.tag_of x) (Y.first_of x) L.some_counter)) g.even;
        points = λ j nz. ⊎_elim (λ e. absurd (nz e.1))
            (λ e. let was = g.points j (λ z. nz (e ∙ z)) in rw (e, elsewhere (place (word m j)) (λ f. nz (gone j (λ z. nz (e ∙ z)) f))) was) (at_set m.slots i 0 j);
        pointed = λ q lq. ⊎_elim (λ e. absurd (lq e.1)) (λ e. other_place q e.0 (g.pointed q (λ z. lq (e.1 ∙ z)))) (animals r q);
        distinct = λ q t lq e. ⊎_elim (λ o. absurd (lq o.1))
            (λ o. ⊎_elim (λ u. absurd (lq (e ∙ u.1))) (λ u. g.distinct q t (λ z. lq (o.1 ∙ z)) (sym o.1 ∙ e ∙ u.1)) (animals r t)) (animals r q);
        narrow = narrow_is r (omega arith) g.narrow;
        bare = bare_is r (λ z. (refl, refl, refl)) g.bare;
      }
    where
      x : ℕ
      x = animal m.items p

      lv : Live m.items p
      lv = rw h.0.1 at (g.points i h.0.0).live

      l' : List ℕ
      l' = fill m.items p 0 0 0 0

      r : Filled m.items p 0 0 0 0 l'
      r = fill_is m.items Y.places p g.items_long (live_in Y g p lv) 0 0 0 0

      elsewhere : (q : ℕ) → q ≢ p → animal l' q ≡ animal m.items q
      elsewhere q ne = r.there (4 * q) (λ e. ne (omega arith))

      T : List ℕ
      T = set m.slots i 0

      -- the only slot that points to p is cleared
      gone : (j : ℕ) → word m j ≢ 0 → place (word m j) ≡ p → get_or T j 0 ≡ 0
      gone j nz e =
          let s = g.pointed p lv in
          let f : j ≡ i = s.2 j (nz, e) ∙ sym (s.2 i h.0) in
          rw (f, get_or-set_same m.slots i 0 0 (inside_held m.slots i h.0.0))

      other_place : (q : ℕ) → q ≢ p → Sole m.slots q → Sole T q
      other_place q ne (k, f, u) =
          let nk : k ≢ i = λ e. ne (sym f.1 ∙ ap (λ j. place (word m j)) e ∙ h.0.1) in
          (k, rw (get_or-set_other m.slots i k 0 0 nk) f, λ j f'. ⊎_elim (λ e. absurd (f'.0 e.1)) (λ e. u j (rw e at f')) (at_set m.slots i 0 j))

  -- every block
  pub keep : (b : Block) → Fits Y m b → WellFormed Y (whole b m)
  keep (move c f t x) h =
      subst (λ y. WellFormed Y (whole (move c f t y) m)) (sym h.1)
      (keep_move c (record { from = f; to = t }) (rw h.2 (counter_in Y (tag (word m f)) (bucket Y f) L.some_counter)) h.0)
  keep (enter c p i x a v s) h = keep_enter c p i x a v s h
  keep (update c p v s) h = keep_update c p v s h
  keep (remove c i p) h = keep_remove c i p h
  keep (recency p v) h = keep_recent p v h
