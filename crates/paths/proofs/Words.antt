-- The words of a bucket: one of them, damage among them, and the lowest free slot. Assumes nothing.
use Prim.Native.Nat.{ℕ, zero, suc, ◌+◌, ◌*◌, ◌<◌}
use native.Mathlib.Omega.{arith}
use mathlib.Core.Path.{◌≡◌, refl, sym, ap, ◌∙◌}
use mathlib.Core.Bool.{Bool, true, false, cond, ◌||◌}
use Rattle.std.specs.Prelude.{Option, Some, None, Result, Ok, Err}
use Rattle.std.specs.List.{fold, list_any, position_or_len}
use Rattle.std.proofs.lemmas.List.Sums.{position_or_len_is}
use borrow.Author.Tests.{eq-eqb, ne_eqb, ltb-true, ltb-false}
use lib.Dec.{eqb, ltb}
use mathlib.Core.List.{List, [], ◌∷◌, map, Memᴰ as In}
use lib.ListN.{length, get_or}
use Rattle.model.specs.Choice.{any, choose, first, range, there}
use Rattle.model.specs.Memory.{damaged}
use Rattle.model.specs.Shape.{Layout}
use Rattle.model.specs.Moves.{Free}
use Rattle.model.specs.Visits.{free_slot}
use Rattle.model.proofs.Search.{full, slot_is}
use Rattle.model.proofs.ListLaws.{First, bool, first_is, found, missing, true_false}
use Rattle.model.specs.declared.Refusal.{Refusal}
use Rattle.model.specs.declared.Refusal.TheVariants.{Damaged}
use Rattle.paths.specs.Buckets.{bucket_damage, bucket_words, sound_free}

-- a test of the numbers of a list: one passes, or none does
module _ (f : ℕ → Bool) (l : List ℕ) where
  pub any_one : {i : ℕ} → In i l → f i ≡ true → any f l ≡ true
  any_one {i} q e = go (first_is f l)
    where
      go : {o : Option ℕ} → First f l o → there o ≡ true
      go (found p t) = refl
      go (missing h) = true_false e (h i q)

  pub any_none : ((i : ℕ) → In i l → f i ≡ false) → any f l ≡ false
  any_none h = go (first_is f l)
    where
      go : {o : Option ℕ} → First f l o → there o ≡ false
      go (found {i = i} p t) = true_false t (h i p)
      go (missing g) = refl

-- an eager fold asks the same
or_false : (b : Bool) → (b || false) ≡ b
or_false true = refl
or_false false = refl

or_or : (b c d : Bool) → ((b || c) || d) ≡ (b || (c || d))
or_or true c d = refl
or_or false c d = refl

pub fold_any : (f : ℕ → Bool) (b : Bool) (l : List ℕ) → fold (λ b w. b || f w) b l ≡ (b || list_any f l)
fold_any f b [] = sym (or_false b)
fold_any f b (w ∷ l) = fold_any f (b || f w) l ∙ or_or b (f w) (list_any f l)

-- the same test over the words and over the numbers that they stand at
any_map : (f : ℕ → Bool) (g : ℕ → ℕ) (l : List ℕ) → list_any f (map g l) ≡ any (λ i. f (g i)) l
unfolding first
any_map f g [] = refl
any_map f g (i ∷ l) =
    bool (λ b. (b || list_any f (map g l)) ≡ there (choose b (Some i) (first (λ i. f (g i)) l))) (f (g i)) (λ e. refl) λ e. any_map f g l

-- one word of a bucket
word_from : (T : List ℕ) (a n i : ℕ) → i < n → get_or (map (λ i. get_or T i 0) (range a n)) i 0 ≡ get_or T (a + i) 0
unfolding range
word_from T a zero i h = absurd (omega arith)
word_from T a (suc n) zero h = ap (λ i. get_or T i 0) (omega arith)
word_from T a (suc n) (suc i) h = word_from T (suc a) n i (omega arith) ∙ ap (λ i. get_or T i 0) (omega arith)

length_words : (T : List ℕ) (a n : ℕ) → length (map (λ i. get_or T i 0) (range a n)) ≡ n
unfolding range
length_words T a zero = refl
length_words T a (suc n) = ap suc (length_words T (suc a) n)

-- the words w of bucket b
module _ (S : Layout) (T : List ℕ) (b : ℕ) {w : List ℕ} (words : w ≡ bucket_words S.ways T b) where
  pub word_is : (i : ℕ) → i < S.ways → get_or w i 0 ≡ get_or T (b * S.ways + i) 0
  word_is i h = ap (λ (l : List ℕ). get_or l i 0) words ∙ word_from T (b * S.ways) S.ways i h

-- the four slots of a bucket, and their words
four_slots : (a : ℕ) → range a 4 ≡ a ∷ (a + 1) ∷ (a + 2) ∷ (a + 3) ∷ []
unfolding range
four_slots a =
    let e₁ : suc a ≡ a + 1 = omega arith in
    let e₂ : suc (suc a) ≡ a + 2 = omega arith in
    let e₃ : suc (suc (suc a)) ≡ a + 3 = omega arith in
    rw (e₃, e₂, e₁)

abbrev words_from : List ℕ → ℕ → List ℕ
words_from T a = get_or T a 0 ∷ get_or T (a + 1) 0 ∷ get_or T (a + 2) 0 ∷ get_or T (a + 3) 0 ∷ []

pub four_words : (T : List ℕ) (b : ℕ) → words_from T (b * 4) ≡ bucket_words 4 T b
four_words T b = ap (map (λ i. get_or T i 0)) (sym (four_slots (b * 4)))

-- the bucket's words, judged: one is damaged, or which is the lowest that is free
module _ (S : Layout) (T : List ℕ) (b m : ℕ) where
  pub data Judged : Result (Option ℕ) Refusal → Type 0 where
    bad : bucket_damage S T b m ≡ true → Judged (Err Damaged)
    room : {s : ℕ} → bucket_damage S T b m ≡ false → s < S.ways → s ≡ free_slot S T b → Judged (Ok (Some s))
    crowded : bucket_damage S T b m ≡ false → ¬ Free S T b → Judged (Ok None)

  module _ {w : List ℕ} (words : w ≡ bucket_words S.ways T b) where
    long : length w ≡ S.ways
    long = rw words (length_words T (b * S.ways) S.ways)

    damage_is : list_any (damaged m) w ≡ bucket_damage S T b m
    damage_is = rw words (any_map (damaged m) (λ i. get_or T i 0) (range (b * S.ways) S.ways))

    lowest_is : position_or_len (λ y. eqb y 0) w ≡ free_slot S T b
    lowest_is =
        let r = slot_is S T b in
        position_or_len_is (λ y. eqb y 0) w (free_slot S T b) 0 (omega (arith, r.top, long))
        (λ k h. let l : k < S.ways = omega (arith, r.top) in ne_eqb _ _ (λ z. r.under k (omega arith) h (sym (word_is S T b words k l) ∙ z)))
        λ h. let l : free_slot S T b < S.ways = omega (arith, long) in eq-eqb _ _ (word_is S T b words _ l ∙ r.free l)

    pub judged : Judged (sound_free m w)
    judged =
        rw (damage_is, lowest_is, long)
        (bool (λ d. Judged (choose d (Err Damaged) (Ok (cond (ltb (free_slot S T b) S.ways) (Some (free_slot S T b)) None)))) (bucket_damage S T b m) bad
        λ e. bool (λ l. Judged (Ok (cond l (Some (free_slot S T b)) None))) (ltb (free_slot S T b) S.ways)
        (λ h. room e (ltb-true _ _ h) refl) λ h. crowded e (full S T b (ltb-false _ _ h)))
