-- Laws on one word: whether it is a name, and what number it is. Assumes nothing.
use Prim.Native.Nat.{ℕ, ◌+◌, ◌*◌, ◌-◌, ◌≤◌, ◌<◌}
use native.Mathlib.Numerals.{add-one}
use native.Mathlib.Omega.{arith}
use mathlib.Core.Path.{◌≡◌, refl, sym, ap, ◌∙◌}
use mathlib.Core.Logic.{◌≢◌}
use mathlib.Core.Bool.{Bool, true, false, ◌&&◌}
use Rattle.std.specs.Prelude.{Some, None}
use Rattle.std.specs.List.{list_all, starts_with}
use mathlib.Core.List.{List, [], ◌∷◌}
use lib.ListN.{length, get_or, drop, drop_of_length-le, take}
use lib.Pointwise.{pointwise}
use lib.Seq.{drop-cons}
use lib.Dec.{eqb, leb}
use borrow.Author.Tests.{le-leb, lt-leb, eq-eqb, ne_eqb, eqb-true, eqb-false}
use Rattle.model.specs.Choice.{choose}
use Rattle.replay_words.specs.Words.{all_digits, is_digit, mark_length, number, number_from, same, value}
use Rattle.replay_words.proofs.Scan.{bool}

-- words are the same where each byte is
pub same_bytes : (w n : List ℕ) → pointwise eqb w n ≡ same w n
unfolding same
same_bytes [] [] = refl
same_bytes [] (c ∷ n) = refl
same_bytes (b ∷ w) [] = refl
same_bytes (b ∷ w) (c ∷ n) = bool (λ t. t && pointwise eqb w n ≡ choose t (same w n) false) (eqb b c) (λ e. same_bytes w n) λ e. refl

-- a byte order mark, or none
turned : (n w : List ℕ) → pointwise eqb n w ≡ same w n
unfolding same
turned [] [] = refl
turned [] (c ∷ w) = refl
turned (b ∷ n) [] = refl
turned (b ∷ n) (c ∷ w) =
    bool (λ t. eqb b c ≡ t → t && pointwise eqb n w ≡ choose (eqb c b) (same w n) false) (eqb b c)
    (λ _ e. rw (eq-eqb c b (sym (eqb-true b c e))) (turned n w)) (λ _ e. rw (ne_eqb c b (λ q. eqb-false b c e (sym q)))) refl

module _ (bs : List ℕ) {t : Bool} (e : t ≡ starts_with eqb bs (239 ∷ 187 ∷ 191 ∷ [])) where
  pub mark_found : t ≡ true → 3 ≡ mark_length bs
  unfolding mark_length
  mark_found y = rw (sym (turned (239 ∷ 187 ∷ 191 ∷ []) (take 3 bs)) ∙ sym e ∙ y)

  pub mark_none : t ≡ false → 0 ≡ mark_length bs
  unfolding mark_length
  mark_none n = rw (sym (turned (239 ∷ 187 ∷ 191 ∷ []) (take 3 bs)) ∙ sym e ∙ n)

-- all bytes of a word are digits
pub digits_all : (w : List ℕ) → list_all is_digit w ≡ all_digits w
unfolding all_digits
digits_all [] = refl
digits_all (b ∷ w) = bool (λ t. t && list_all is_digit w ≡ choose t (all_digits w) false) (is_digit b) (λ e. digits_all w) λ e. refl

-- more digits make no number smaller
value_grows : (v : ℕ) (ds : List ℕ) → v ≤ value v ds
unfolding value
value_grows v [] = omega arith
value_grows v (d ∷ ds) = omega (arith, value_grows (v * 10 + (d - 48)) ds)

module _ (top v : ℕ) where
  too_large : (ds : List ℕ) → top < v → number_from top v ds ≡ None
  unfolding number_from
  too_large ds h =
      let g : top < value v ds = omega (arith, value_grows v ds) in
      bool (λ t. choose t (choose (leb (value v ds) top) (Some (value v ds)) None) None ≡ None) (all_digits ds)
      (λ e. rw (lt-leb (value v ds) top g)) λ e. refl

  no_digit : (d : ℕ) (ds : List ℕ) → is_digit d ≡ false → number_from top v (d ∷ ds) ≡ None
  unfolding number_from all_digits
  no_digit d ds e = rw e

  one_digit : (d : ℕ) (ds : List ℕ) → is_digit d ≡ true → number_from top v (d ∷ ds) ≡ number_from top (v * 10 + (d - 48)) ds
  unfolding number_from all_digits value
  one_digit d ds e = rw e

-- a word read up to i makes v
pub record Reading (top : ℕ) (w : List ℕ) (v i : ℕ) : Type 0 where
  pub small : v ≤ top
  pub inside : i ≤ length w
  pub ahead : number_from top v (drop i w) ≡ number top w

pub read_none : (top : ℕ) (w : List ℕ) → length w ≡ 0 → None ≡ number top w
unfolding number
read_none top [] h = refl
read_none top (d ∷ ds) h = absurd (omega arith)

pub read_first : (top : ℕ) (w : List ℕ) → length w ≢ 0 → Reading top w 0 0
unfolding number
read_first top [] h = absurd (h refl)
read_first top (d ∷ ds) h = record { small = omega arith; inside = omega arith; ahead = refl }

module _ {top : ℕ} {w : List ℕ} {v i : ℕ} (r : Reading top w v i) where
  pub read_end : length w ≤ i → Some v ≡ number top w
  unfolding number_from all_digits value
  read_end h =
      let q : number_from top v (drop i w) ≡ Some v = rw (drop_of_length-le w h, le-leb v top r.small) in
      sym q ∙ r.ahead

  module _ (h : i < length w) where
    here : number_from top v (drop i w) ≡ number_from top v (get_or w i 0 ∷ drop (i + 1) w)
    here = rw (drop-cons w i 0 h, add-one)

    pub read_other : false ≡ is_digit (get_or w i 0) → None ≡ number top w
    read_other n = sym (here ∙ no_digit top v (get_or w i 0) (drop (i + 1) w) (sym n)) ∙ r.ahead

    module _ (digit : true ≡ is_digit (get_or w i 0)) where
      next : number top w ≡ number_from top (v * 10 + (get_or w i 0 - 48)) (drop (i + 1) w)
      next = sym r.ahead ∙ here ∙ one_digit top v (get_or w i 0) (drop (i + 1) w) (sym digit)

      pub read_over : top < v * 10 + (get_or w i 0 - 48) → None ≡ number top w
      read_over l = sym (next ∙ too_large top (v * 10 + (get_or w i 0 - 48)) (drop (i + 1) w) l)

      pub read_more : {u : ℕ} → u ≡ v * 10 + (get_or w i 0 - 48) → u ≤ top → Reading top w u (i + 1)
      read_more {u} e l = record { small = l; inside = omega arith; ahead = ap (λ (n : ℕ). number_from top n (drop (i + 1) w)) e ∙ sym next }
