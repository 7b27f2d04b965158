-- Reads between two stores. Assumes nothing.
use Prim.Native.Nat.{ℕ, ◌+◌, ◌*◌, ◌<◌, suc, ◌≤◌, ◌-◌, ◌%◌, zero, min}
use native.Mathlib.Nat.{mod-lt, min_comm}
use native.Mathlib.Omega.{arith}
use native.Mathlib.Decide.{ℕ_discrete, dec_le}
use mathlib.Core.Path.{◌≡◌, refl, sym, ap, ◌∙◌, subst}
use mathlib.Core.Logic.{◌≢◌, ◌⊎◌, inl, inr, ⊎_elim, dite}
use Rattle.std.specs.Prelude.{Option}
use mathlib.Core.List.{List, [], ◌∷◌, append-nil}
use lib.ListN.{length, get_or, length-append, take}
use lib.Seq.{get_or-set_same, take-nil, take-append-le, take_all}
use borrow.Author.Tests.{eq-eqb, ne_eqb}
use Rattle.model.specs.Choice.{choose}
use Rattle.model.specs.Memory.{Mem, animal, place, word}
use Rattle.model.specs.Shape.{Shape, counter_at, counter_of}
use Rattle.model.specs.Stores.{Block, Store, apply, apply_all, bump, counted, enter, item_to, move, recency, remove, slot_to, stores}
use Rattle.model.specs.Stores.{stores_of, update, whole, wholes}
use Rattle.model.specs.Answers.{Answer, refused}
use Rattle.model.specs.Age.{bad_time, judge}
use Rattle.model.specs.Calls.{Outcome, asked, busy, hit, home_damage, place_at, reading, tell}
use Rattle.model.specs.WellFormed.{WellFormed}
use Rattle.model.proofs.ShapeLaws.{Lawful}
use Rattle.model.proofs.ListLaws.{all_append, bool, take_past}
use Rattle.model.proofs.Calm.{calm, quick}
use Rattle.model.proofs.KeepBlocks.{Fits, keep}
use Rattle.model.proofs.View.{Entry, View, view_stores, view_told}
use Rattle.model.proofs.ReadWalk.{read_walk}
use Rattle.model.proofs.Spare.{spares, spares_recent, subject, view}

-- in m' a read of any animal gives busy, or what it gives in m, or, for animal a only, what it gives in m''
abbrev pub Seen : Shape → ℕ → Mem → Mem → Mem → Type 0
Seen Y a m m'' m' = (x limit now : ℕ)
    → (reading Y m' x limit now ≡ refused 8)
    ⊎ ((reading Y m' x limit now ≡ reading Y m x limit now)
    ⊎ ((x ≡ a) × (reading Y m' x limit now ≡ reading Y m'' x limit now)))

-- blocks that change no answer
abbrev pub Silent : Block → Type 0
Silent (move c f t x) = Unit {0}
Silent (enter c p i x a v s) = ⊥
Silent (update c p v s) = ⊥
Silent (remove c i p) = ⊥
Silent (recency p v) = Unit {0}

abbrev pub Quiet : List Store → Type 0
Quiet [] = Unit {0}
Quiet (bump c ∷ ss) = ⊥
Quiet (slot_to i x ∷ ss) = Quiet ss
Quiet (item_to i x ∷ ss) = Quiet ss

quiet_counters : (ss : List Store) (m : Mem) (k : ℕ) → Quiet ss → (apply_all (take k ss) m).counters ≡ m.counters
quiet_counters [] m zero h = refl
quiet_counters [] m (suc k) h = refl
quiet_counters (s ∷ ss) m zero h = refl
quiet_counters (bump c ∷ ss) m (suc k) h = absurd h
quiet_counters (slot_to i x ∷ ss) m (suc k) h = quiet_counters ss (apply (slot_to i x) m) k h
quiet_counters (item_to i x ∷ ss) m (suc k) h = quiet_counters ss (apply (item_to i x) m) k h

-- two memories in which the animal is refused before memory matters, or one of which is busy
abbrev said : (Y : Shape) (m : Mem) (x limit now : ℕ) → Outcome
said Y m x limit now = tell (judge m.items limit now (place_at m (hit Y m x)))

pub zero_read : (Y : Shape) (m : Mem) (x limit now : ℕ) → x ≡ 0 → reading Y m x limit now ≡ refused 2
unfolding reading
zero_read Y m x limit now z = ap (λ b. (choose b (tell (refused 2)) (choose (bad_time limit now) (tell (refused 3)) (choose (busy Y m x) (tell (refused 8)) (choose (home_damage Y m x) (tell (refused 4)) (said Y m x limit now))))).answer) (eq-eqb x 0 z)

busy_read : (Y : Shape) (m m' : Mem) (x limit now : ℕ) → get_or m'.counters (counter_of Y x) 0 % 2 ≡ 1
    → (reading Y m' x limit now ≡ refused 8) ⊎ (reading Y m' x limit now ≡ reading Y m x limit now)
unfolding reading
busy_read Y m m' x limit now odd =
    dite (ℕ_discrete x 0) (λ z. inr (zero_read Y m' x limit now z ∙ sym (zero_read Y m x limit now z)))
    λ nz. bool (λ b. ((asked Y m' x b (said Y m' x limit now)).answer ≡ refused 8) ⊎ ((asked Y m' x b (said Y m' x limit now)).answer ≡ (asked Y m x b (said Y m x limit now)).answer)) (bad_time limit now)
    (λ e. inr (rw (ne_eqb x 0 nz))) λ e. inl (rw (ne_eqb x 0 nz, eq-eqb (get_or m'.counters (counter_of Y x) 0 % 2) 1 odd))

-- a block stands between two additions to its animal's counter, or is one store to a recent word
pub data Framing (Y : Shape) (m : Mem) : Block → Type 0 where
  framed : {b : Block} (inner : List Store) → stores_of b ≡ counted (counter_of Y (subject m b)) inner → Quiet inner → Framing Y m b
  single : (p v : ℕ) → Framing Y m (recency p v)

-- two memories with the same view of x
module _ (Y : Shape) (m m' : Mem) (x : ℕ) (o : Option Entry) (r : View Y x o m) (r' : View Y x o m') (even : get_or m.counters (counter_of Y x) 0 % 2 ≡ 0) (limit now : ℕ) where
  even_view : get_or m'.counters (counter_of Y x) 0 % 2 ≡ 0 → reading Y m' x limit now ≡ reading Y m x limit now
  unfolding reading
  even_view even' =
      ap (λ (o : Outcome). o.answer) (calm Y m' x even' r'.sound (bad_time limit now) (said Y m' x limit now)
      ∙ ap (λ (s : Answer). quick x (bad_time limit now) (tell s)) (view_told Y x limit now o r' ∙ sym (view_told Y x limit now o r))
      ∙ sym (calm Y m x even r.sound (bad_time limit now) (said Y m x limit now)))

  pub same_view : (reading Y m' x limit now ≡ refused 8) ⊎ (reading Y m' x limit now ≡ reading Y m x limit now)
  same_view =
      dite (ℕ_discrete (get_or m'.counters (counter_of Y x) 0 % 2) 0) (λ e. inr (even_view e))
      λ ne. busy_read Y m m' x limit now (omega arith)

module _ (Y : Shape) (L : Lawful Y) (m : Mem) (g : WellFormed Y m) where
  -- a block leaves every other animal's read alone, at every cut
  others : (b : Block) → Fits Y m b → (k x limit now : ℕ) → x ≢ subject m b
      → (reading Y (apply_all (take k (stores_of b)) m) x limit now ≡ refused 8) ⊎ (reading Y (apply_all (take k (stores_of b)) m) x limit now ≡ reading Y m x limit now)
  others b h k x limit now ne =
      dite (ℕ_discrete x 0) (λ z. inr (zero_read Y (apply_all (take k (stores_of b)) m) x limit now z ∙ sym (zero_read Y m x limit now z)))
      λ nz. let w = view Y L m g x nz in
      same_view Y m (apply_all (take k (stores_of b)) m) x w.0 w.1 (view_stores Y x w.1 (stores_of b) (spares Y L m g x nz w.0 w.1 b h ne) k)
      (g.even (counter_of Y x)) limit now

  -- between the two additions its own animal is busy
  pub middle : (a : ℕ) (inner : List Store) → Quiet inner → (k : ℕ) → k ≤ length inner
      → get_or (apply_all (take (suc k) (counted (counter_of Y a) inner)) m).counters (counter_of Y a) 0 % 2 ≡ 1
  middle a inner quiet k h =
      let inside : counter_of Y a < length m.counters = rw g.counters_long (mod-lt (min (Y.first_of a) (Y.layout.other (Y.tag_of a) (Y.first_of a))) L.some_counter) in
      rw (take-append-le k inner (bump (counter_of Y a) ∷ []) h, quiet_counters inner (apply (bump (counter_of Y a)) m) k quiet, get_or-set_same) (omega (arith, g.even (counter_of Y a)))

  pub cut_counted : (a : ℕ) (inner : List Store) → Quiet inner → (k x limit now : ℕ) → x ≡ a
      → (reading Y (apply_all (take k (counted (counter_of Y a) inner)) m) x limit now ≡ refused 8)
      ⊎ ((reading Y (apply_all (take k (counted (counter_of Y a) inner)) m) x limit now ≡ reading Y m x limit now)
      ⊎ ((x ≡ a) × (reading Y (apply_all (take k (counted (counter_of Y a) inner)) m) x limit now ≡ reading Y (apply_all (counted (counter_of Y a) inner) m) x limit now)))
  cut_counted a inner quiet zero x limit now e = inr (inl refl)
  cut_counted a inner quiet (suc k) x limit now e =
      dite (dec_le k (length inner))
      (λ h. ⊎_elim inl (λ s. inr (inl s)) (busy_read Y m (apply_all (take (suc k) (counted (counter_of Y a) inner)) m) x limit now (rw e (middle a inner quiet k h))))
      λ h. let all : length (counted (counter_of Y a) inner) ≤ suc k = simp length-append (omega arith) in
      inr (inr (e, ap (λ ss. reading Y (apply_all ss m) x limit now) (take_all (suc k) (counted (counter_of Y a) inner) all)))

  pub counter_home : {a t b : ℕ} → t ≡ Y.tag_of a → (b ≡ Y.first_of a) ⊎ (b ≡ Y.layout.other (Y.tag_of a) (Y.first_of a)) → counter_at Y t b ≡ counter_of Y a
  counter_home {a} e (inl f) = rw (e, f)
  counter_home {a} e (inr f) = rw (e, f, L.other_twice (Y.tag_of a) (Y.first_of a)) (ap (λ n. n % Y.counters) (min_comm (Y.layout.other (Y.tag_of a) (Y.first_of a)) (Y.first_of a)))

  pub framing : (b : Block) → Fits Y m b → Framing Y m b
  framing (move c f t y) h =
      let r = g.points f h.0.held in
      let same : place y ≡ place (word m f) = ap place h.1 in
      framed {b = move c f t y} (slot_to t y ∷ slot_to f 0 ∷ [])
      (ap (λ c. counted c (slot_to t y ∷ slot_to f 0 ∷ [])) (h.2 ∙ counter_home (rw same r.tagged) (rw same r.home))) tt
  framing (enter c p i y a v s) h =
      let inner : List Store = item_to (4 * p) a ∷ item_to (4 * p + 1) v ∷ item_to (4 * p + 2) s ∷ item_to (4 * p + 3) 1 ∷ slot_to i y ∷ [] in
      framed {b = enter c p i y a v s} inner (ap (λ c. counted c inner) h.count) tt
  framing (update c p v s) h =
      let inner : List Store = item_to (4 * p + 1) v ∷ item_to (4 * p + 2) s ∷ item_to (4 * p + 3) 1 ∷ [] in
      framed {b = update c p v s} inner (ap (λ c. counted c inner) h.2) tt
  framing (remove c i p) h =
      let inner : List Store = slot_to i 0 ∷ item_to (4 * p) 0 ∷ item_to (4 * p + 1) 0 ∷ item_to (4 * p + 2) 0 ∷ item_to (4 * p + 3) 0 ∷ [] in
      framed {b = remove c i p} inner (ap (λ c. counted c inner) h.1) tt
  framing (recency p v) h = single p v

  pub silent_read : (b : Block) → Fits Y m b → Silent b → (x limit now : ℕ) → reading Y (whole b m) x limit now ≡ reading Y m x limit now
  silent_read (move c f t y) h s x limit now =
      read_walk Y (whole (move c f t y) m) (keep Y L m g (move c f t y) h) x limit now ∙ sym (read_walk Y m g x limit now)
  silent_read (enter c p i y a v s) h s' x limit now = absurd s'
  silent_read (update c p v s) h s' x limit now = absurd s'
  silent_read (remove c i p) h s' x limit now = absurd s'
  silent_read (recency p v) h s x limit now =
      dite (ℕ_discrete x 0) (λ z. zero_read Y (whole (recency p v) m) x limit now z ∙ sym (zero_read Y m x limit now z))
      λ nz. let w = view Y L m g x nz in
      even_view Y m (whole (recency p v) m) x w.0 w.1 (view_stores Y x w.1 (stores_of (recency p v)) (spares_recent Y L m g x nz w.0 w.1 p v) 1)
      (g.even (counter_of Y x)) limit now (g.even (counter_of Y x))

  cut_recent : (p v : ℕ) → Fits Y m (recency p v) → (k : ℕ) → Seen Y (animal m.items p) m (whole (recency p v) m) (apply_all (take k (stores_of (recency p v))) m)
  cut_recent p v h zero x limit now = inr (inl refl)
  cut_recent p v h (suc zero) x limit now = inr (inl (silent_read (recency p v) h tt x limit now))
  cut_recent p v h (suc (suc k)) x limit now = inr (inl (silent_read (recency p v) h tt x limit now))

  cut_framed : {b : Block} → Fits Y m b → Framing Y m b → (k : ℕ) → Seen Y (subject m b) m (whole b m) (apply_all (take k (stores_of b)) m)
  cut_framed h (single p v) k x limit now = cut_recent p v h k x limit now
  cut_framed {b} h (framed inner e quiet) k x limit now =
      dite (ℕ_discrete x (subject m b))
      (λ s. subst (λ ss. (reading Y (apply_all (take k ss) m) x limit now ≡ refused 8) ⊎ ((reading Y (apply_all (take k ss) m) x limit now ≡ reading Y m x limit now)
      ⊎ ((x ≡ subject m b) × (reading Y (apply_all (take k ss) m) x limit now ≡ reading Y (apply_all ss m) x limit now))))
      (sym e) (cut_counted (subject m b) inner quiet k x limit now s))
      λ ne. ⊎_elim inl (λ s. inr (inl s)) (others b h k x limit now ne)

  pub cut_block : (b : Block) → Fits Y m b → (k : ℕ) → Seen Y (subject m b) m (whole b m) (apply_all (take k (stores_of b)) m)
  cut_block b h = cut_framed h (framing b h)

-- the blocks of a call about animal a: each has its condition when its turn comes, and all but the last change no answer
pub data Tale (Y : Shape) (a : ℕ) : Mem → List Block → Type 0 where
  done : {m : Mem} → Tale Y a m []
  quiet : {m : Mem} {b : Block} {bs : List Block} → Fits Y m b → Silent b → Tale Y a (whole b m) bs → Tale Y a m (b ∷ bs)
  last : {m : Mem} {b : Block} → Fits Y m b → subject m b ≡ a → Tale Y a m (b ∷ [])

module _ (Y : Shape) (L : Lawful Y) (a : ℕ) where
  pub keep_tale : {m : Mem} {bs : List Block} → WellFormed Y m → Tale Y a m bs → WellFormed Y (wholes bs m)
  keep_tale g done = g
  keep_tale {m} g (quiet {b = b} f s t) = keep_tale (keep Y L m g b f) t
  keep_tale {m} g (last {b = b} f e) = keep Y L m g b f

  pub cut_tale : {m : Mem} {bs : List Block} → WellFormed Y m → Tale Y a m bs → (k : ℕ) → Seen Y a m (wholes bs m) (apply_all (take k (stores bs)) m)
  unfolding stores
  cut_tale {m} g done k = subst (λ ss. Seen Y a m m (apply_all ss m)) (sym (take-nil k)) λ x limit now. inr (inl refl)
  cut_tale {m} g (quiet {b = b} {bs = bs} f s t) k =
      dite (dec_le k (length (stores_of b)))
      (λ h. subst (λ ss. Seen Y a m (wholes bs (whole b m)) (apply_all ss m)) (sym (take-append-le k (stores_of b) (stores bs) h))
      λ x limit now. ⊎_elim inl (λ u. inr (inl (⊎_elim (λ e. e) (λ e. e.1 ∙ silent_read Y L m g b f s x limit now) u)))
      (cut_block Y L m g b f k x limit now))
      λ h. subst (λ m'. Seen Y a m (wholes bs (whole b m)) m')
      (sym (ap (λ ss. apply_all ss m) (take_past (stores_of b) (stores bs) k (omega arith)) ∙ all_append (stores_of b) (take (k - length (stores_of b)) (stores bs)) m))
      λ x limit now. ⊎_elim inl (λ u. inr (⊎_elim (λ e. inl (e ∙ silent_read Y L m g b f s x limit now)) inr u))
      (cut_tale (keep Y L m g b f) t (k - length (stores_of b)) x limit now)
  cut_tale {m} g (last {b = b} f e) k =
      subst (λ ss. Seen Y a m (whole b m) (apply_all (take k ss) m)) (sym (append-nil (stores_of b)))
      (subst (λ a. Seen Y a m (whole b m) (apply_all (take k (stores_of b)) m)) e (cut_block Y L m g b f k))
