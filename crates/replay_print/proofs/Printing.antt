-- Laws on what is printed. Assumes nothing.
use Prim.Native.Nat.{ℕ, zero, suc, ◌+◌, ◌*◌, ◌/◌, ◌%◌, ◌-◌, ◌^◌, ◌≤◌, ◌<◌}
use native.Mathlib.Nat.{pow-suc}
use native.Mathlib.Numerals.{add-one}
use native.Mathlib.Omega.{arith}
use native.Mathlib.Decide.{ℕ_discrete}
use mathlib.Core.Path.{◌≡◌, refl, sym, ap, ap₂, subst, ◌∙◌}
use mathlib.Core.Logic.{dite}
use mathlib.Core.Bool.{true, false}
use Rattle.std.specs.Prelude.{Some}
use mathlib.Core.List.{List, [], ◌∷◌, ◌++◌, append_assoc, append-nil}
use lib.ListN.{length, get_or, set, take, drop, drop_of_length-le, length-append, length-drop, length-set, length-take}
use lib.Seq.{drop-cons, drop-set-lt, get_or-set_same, sets, take_all}
use borrow.Author.Tests.{le-leb}
use Rattle.model.specs.Choice.{choose}
use Rattle.buffer.specs.Put.{Put}
use Rattle.replay_words.specs.Words.{all_digits, is_digit, number, number_from, value}
use Rattle.replay_words.proofs.Scan.{bool}
use Rattle.replay_print.specs.Print.{decimal_of, digits, hex_digit, hex_of}

-- turns enough are enough
digits_zero : (f : ℕ) → digits f 0 ≡ []
unfolding digits
digits_zero zero = refl
digits_zero (suc f) = refl

digits_any : (f g x : ℕ) → x ≤ f → x ≤ g → digits f x ≡ digits g x
unfolding digits
digits_any zero g zero hf hg = sym (digits_zero g)
digits_any zero g (suc x) hf hg = absurd (omega arith)
digits_any (suc f) g zero hf hg = sym (digits_zero g)
digits_any (suc f) zero (suc x) hf hg = absurd (omega arith)
digits_any (suc f) (suc g) (suc x) hf hg =
    ap (λ (l : List ℕ). l ++ ((48 + suc x % 10) ∷ [])) (digits_any f g (suc x / 10) (omega arith) (omega arith))

decimal_digits : (x : ℕ) → 0 < x → decimal_of x ≡ digits x x
unfolding decimal_of
decimal_digits zero h = absurd (omega arith)
decimal_digits (suc x) h = refl

-- the decimal of a number: one digit, or those of its tenth and one more
pub decimal_small : (x : ℕ) → x < 10 → decimal_of x ≡ (48 + x) ∷ []
unfolding decimal_of digits
decimal_small zero h = refl
decimal_small (suc x) h =
    let q : suc x / 10 ≡ 0 = omega arith in
    let r : suc x % 10 ≡ suc x = omega arith in
    ap₂ (λ (a b : ℕ). digits x a ++ ((48 + b) ∷ [])) q r ∙ ap (λ (l : List ℕ). l ++ ((48 + suc x) ∷ [])) (digits_zero x)

pub decimal_large : (x : ℕ) → 10 ≤ x → decimal_of x ≡ decimal_of (x / 10) ++ ((48 + x % 10) ∷ [])
unfolding decimal_of digits
decimal_large zero h = absurd (omega arith)
decimal_large (suc x) h =
    ap (λ (l : List ℕ). l ++ ((48 + suc x % 10) ∷ []))
    (digits_any x (suc x / 10) (suc x / 10) (omega arith) (omega arith) ∙ sym (decimal_digits (suc x / 10) (omega arith)))

-- what is printed is read again
value_more : (v : ℕ) (ds : List ℕ) (d : ℕ) → value v (ds ++ (d ∷ [])) ≡ value v ds * 10 + (d - 48)
unfolding value
value_more v [] d = refl
value_more v (c ∷ ds) d = value_more (v * 10 + (c - 48)) ds d

digits_more : (ds : List ℕ) (d : ℕ) → all_digits ds ≡ true → is_digit d ≡ true → all_digits (ds ++ (d ∷ [])) ≡ true
unfolding all_digits
digits_more [] d = λ e q. rw q
digits_more (c ∷ ds) d =
    bool (λ t. choose t (all_digits ds) false ≡ true → is_digit d ≡ true → choose t (all_digits (ds ++ (d ∷ []))) false ≡ true) (is_digit c)
    (λ _ e q. digits_more ds d e q) λ _ e q. e

digit_is : (n : ℕ) → is_digit (48 + n % 10) ≡ true
digit_is n = rw (le-leb 48 (48 + n % 10) (omega arith), le-leb (48 + n % 10) 57 (omega arith))

digits_value : (f x : ℕ) → x ≤ f → value 0 (digits f x) ≡ x
unfolding digits value
digits_value zero zero h = refl
digits_value zero (suc x) h = absurd (omega arith)
digits_value (suc f) zero h = refl
digits_value (suc f) (suc x) h =
    value_more 0 (digits f (suc x / 10)) (48 + suc x % 10)
    ∙ omega (arith, digits_value f (suc x / 10) (omega arith))

digits_are : (f x : ℕ) → all_digits (digits f x) ≡ true
unfolding digits all_digits
digits_are zero x = refl
digits_are (suc f) zero = refl
digits_are (suc f) (suc x) = digits_more (digits f (suc x / 10)) (48 + suc x % 10) (digits_are f (suc x / 10)) (digit_is (suc x))

number_is : (top x : ℕ) (w : List ℕ) → 0 < length w → all_digits w ≡ true → value 0 w ≡ x → x ≤ top → number top w ≡ Some x
unfolding number number_from
number_is top x [] h a v l = absurd (omega arith)
number_is top x (d ∷ ds) h a v l = rw (a, v, le-leb x top l)

some_digits : (f x : ℕ) → 0 < f → 0 < x → 0 < length (digits f x)
unfolding digits
some_digits zero x hf hx = absurd (omega arith)
some_digits (suc f) zero hf hx = absurd (omega arith)
some_digits (suc f) (suc x) hf hx = omega (arith, length-append (digits f (suc x / 10)) ((48 + suc x % 10) ∷ []))

pub printed_is_read : (top x : ℕ) → x ≤ top → number top (decimal_of x) ≡ Some x
unfolding decimal_of all_digits value
printed_is_read top zero l = number_is top 0 (48 ∷ []) (omega arith) refl refl l
printed_is_read top (suc x) l =
    number_is top (suc x) (digits (suc x) (suc x)) (some_digits (suc x) (suc x) (omega arith) (omega arith)) (digits_are (suc x) (suc x))
    (digits_value (suc x) (suc x) (omega arith)) l

-- no zero in front
front_of : (l m : List ℕ) → 48 < get_or l 0 0 → 48 < get_or (l ++ m) 0 0
front_of [] m h = absurd (omega arith)
front_of (b ∷ l) m h = h

first_digit : (f x : ℕ) → 0 < x → x ≤ f → 48 < get_or (digits f x) 0 0
unfolding digits
first_digit zero x h k = absurd (omega arith)
first_digit (suc f) zero h k = absurd (omega arith)
first_digit (suc f) (suc x) h k = dite (ℕ_discrete (suc x / 10) 0) one_digit
    λ ne. front_of (digits f (suc x / 10)) ((48 + suc x % 10) ∷ []) (first_digit f (suc x / 10) (omega arith) (omega arith))
  where
    one_digit : suc x / 10 ≡ 0 → 48 < get_or (digits f (suc x / 10) ++ ((48 + suc x % 10) ∷ [])) 0 0
    one_digit e =
        rw (ap (λ (n : ℕ). digits f n) e ∙ digits_zero f) (omega arith)

pub no_zero_in_front : (x : ℕ) → 0 < x → 48 < get_or (decimal_of x) 0 0
no_zero_in_front x h = rw (decimal_digits x h) (first_digit x x h (omega arith))

-- the digits of x are collected from the end; n are there, and those of rest are still to come
pub record Printing (x : ℕ) (tail : List ℕ) (rest n : ℕ) : Type 0 where
  pub long : length tail ≡ 20
  pub few : n ≤ 19
  pub left : rest < 10 ^ (20 - n)
  pub ahead : decimal_of rest ++ drop (20 - n) tail ≡ decimal_of x

-- one digit in front of those that are there
stored : (tail : List ℕ) (i d : ℕ) → i < length tail → drop i (set tail i d) ≡ d ∷ drop (suc i) tail
stored tail i d h =
    let k : i < length (set tail i d) = omega (arith, length-set tail i d) in
    drop-cons (set tail i d) i 0 k ∙ ap₂ (λ (a : ℕ) (l : List ℕ). a ∷ l) (get_or-set_same tail i d 0 h) (drop-set-lt (suc i) tail i d (omega arith))

module _ {x : ℕ} {tail : List ℕ} {rest n d : ℕ} (s : Printing x tail rest n) (e : d ≡ 48 + rest % 10) where
  one_more : drop (19 - n) (set tail (19 - n) d) ≡ d ∷ drop (20 - n) tail
  one_more =
      let q : suc (19 - n) ≡ 20 - n = omega (arith, s.few) in
      stored tail (19 - n) d (omega (arith, s.long)) ∙ ap (λ (k : ℕ). d ∷ drop k tail) q

  room : 10 ≤ rest → n + 1 ≤ 19
  room h =
      dite (ℕ_discrete n 19)
      (λ (q : n ≡ 19). let p : rest < 10 = subst (λ (k : ℕ). rest < 10 ^ (20 - k)) q s.left in absurd (omega arith))
      λ (q : n ≡ 19 → ⊥). omega (arith, s.few)

  pub print_more : 10 ≤ rest → Printing x (set tail (19 - n) d) (rest / 10) (n + 1)
  print_more h =
      let q : 20 - n ≡ suc (20 - (n + 1)) = omega (arith, s.few) in
      let p : rest < 10 ^ (20 - (n + 1)) * 10 = rw (← pow-suc, ← q) s.left in
      let i : 20 - (n + 1) ≡ 19 - n = omega arith in
      record {
        long = length-set tail (19 - n) d ∙ s.long;
        few = room h;
        left = omega arith;
        ahead =
            ap (λ (k : ℕ). decimal_of (rest / 10) ++ drop k (set tail (19 - n) d)) i
            ∙ ap (λ (l : List ℕ). decimal_of (rest / 10) ++ l) one_more
            ∙ sym (append_assoc (decimal_of (rest / 10)) (d ∷ []) (drop (20 - n) tail))
            ∙ ap (λ (k : ℕ). (decimal_of (rest / 10) ++ (k ∷ [])) ++ drop (20 - n) tail) e
            ∙ ap (λ (l : List ℕ). l ++ drop (20 - n) tail) (sym (decimal_large rest h)) ∙ s.ahead;
      }

  last : rest < 10 → drop (19 - n) (set tail (19 - n) d) ≡ decimal_of x
  last h =
      let m : rest % 10 ≡ rest = omega arith in
      one_more ∙ ap (λ (k : ℕ). k ∷ drop (20 - n) tail) (e ∙ ap (λ (k : ℕ). 48 + k) m)
      ∙ ap (λ (l : List ℕ). l ++ drop (20 - n) tail) (sym (decimal_small rest h)) ∙ s.ahead

  -- what was collected is copied
  module _ {at r : ℕ} {before after : List ℕ} (h : rest < 10)
      (p : Put (take (20 - (19 - n)) (drop (19 - n) (set tail (19 - n) d))) at before after r) where
    whole : take (20 - (19 - n)) (drop (19 - n) (set tail (19 - n) d)) ≡ decimal_of x
    whole =
        take_all (20 - (19 - n)) (drop (19 - n) (set tail (19 - n) d))
        (omega (arith, length-drop (19 - n) (set tail (19 - n) d), length-set tail (19 - n) d, s.long))
        ∙ last h

    pub print_put : Put (decimal_of x) at before after r
    print_put =
        record { bytes_put = p.bytes_put ∙ ap (λ (l : List ℕ). sets before at l) whole; next = p.next ∙ ap (λ (l : List ℕ). at + length l) whole }

    pub print_few : r ≤ at + 20
    print_few = omega (arith, p.next, length-take (20 - (19 - n)) (drop (19 - n) (set tail (19 - n) d)))

-- the two digits of a byte
pub hex_put : (b at a c : ℕ) (buffer : List ℕ) → a ≡ hex_digit (b / 16) → c ≡ hex_digit (b % 16)
    → Put (hex_of b) at buffer (set (set buffer at a) (at + 1) c) (at + 2)
unfolding hex_of
hex_put b at a c buffer ea ec = record { bytes_put = rw (ea, ec, add-one); next = refl }
