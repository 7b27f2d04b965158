-- Laws on the bytes before the first that passes a test, on lines, and on words. Assumes nothing.
use Prim.Native.Nat.{ℕ, suc, ◌+◌, ◌-◌, ◌≤◌, ◌<◌}
use native.Mathlib.Omega.{arith}
use mathlib.Core.Path.{◌≡◌, refl, sym, ap, ap₂, ◌∙◌}
use mathlib.Core.Logic.{◌≢◌}
use mathlib.Core.Bool.{Bool, true, false, cond, not}
use Rattle.std.specs.List.{prefix_len}
use Rattle.std.proofs.lemmas.List.Sums.{prefix_len-le-length}
use mathlib.Core.List.{List, [], ◌∷◌}
use lib.ListN.{length, take, drop, drop_of_length-le, length-drop}
use lib.Seq.{drop-drop, take_all}
use Rattle.model.specs.Choice.{choose}
use Rattle.replay_words.specs.Words.{before, filled, is_end, is_gap, is_no_gap, joined, lines, pieces, words}
use Rattle.replay_words.specs.Cursor.{First, NextWord, PieceAt, part}

pub bool : (P : Bool → Type 0) (b : Bool) → (b ≡ true → P true) → (b ≡ false → P false) → P b
bool P true t f = t refl
bool P false t f = f refl

-- how many bytes come before the first that passes a test
before_count : (f : ℕ → Bool) (bs : List ℕ) → prefix_len (λ b. not (f b)) bs ≡ length (before f bs)
unfolding before
before_count f [] = refl
before_count f (b ∷ bs) =
    bool (λ t. cond (not t) (1 + prefix_len (λ b. not (f b)) bs) 0 ≡ length (choose t [] (b ∷ before f bs))) (f b) (λ e. refl) λ e. omega (arith, before_count f bs)

-- the same in what is left from a position on
left : (bs : List ℕ) (at : ℕ) → take (length bs - at) (drop at bs) ≡ drop at bs
left bs at = take_all (length bs - at) (drop at bs) (omega (arith, length-drop at bs))

pub first_behind : (f : ℕ → Bool) {bs : List ℕ} {at r : ℕ} → at ≤ length bs → r ≡ prefix_len (λ b. not (f b)) (take (length bs - at) (drop at bs)) → First f bs at (at + r)
first_behind f {bs} {at} {r} h e =
    let q : r ≡ length (before f (drop at bs)) = e ∙ ap (prefix_len (λ b. not (f b))) (left bs at) ∙ before_count f (drop at bs) in
    record { first = ap (λ (n : ℕ). at + n) q; inside = omega (arith, q, before_count f (drop at bs), prefix_len-le-length (λ b. not (f b)) (drop at bs), length-drop at bs) }

pub first_there : (f : ℕ → Bool) {bs : List ℕ} {r : ℕ} → r ≡ prefix_len (λ b. not (f b)) bs → First f bs 0 r
first_there f {bs} {r} e =
    record { first = omega (arith, e ∙ before_count f bs); inside = omega (arith, e, prefix_len-le-length (λ b. not (f b)) bs) }

-- the bytes that are no gaps, and those that are
no_gaps : (bs : List ℕ) → prefix_len is_gap bs ≡ prefix_len (λ b. not (is_no_gap b)) bs
no_gaps [] = refl
no_gaps (b ∷ bs) = bool (λ t. cond t (1 + prefix_len is_gap bs) 0 ≡ cond (not (not t)) (1 + prefix_len (λ b. not (is_no_gap b)) bs) 0) (is_gap b) (λ e. omega (arith, no_gaps bs)) λ e. refl

pub first_in_word : {bs : List ℕ} {at r : ℕ} → at ≤ length bs → r ≡ prefix_len is_gap (take (length bs - at) (drop at bs)) → First is_no_gap bs at (at + r)
first_in_word {bs} {at} h e = first_behind is_no_gap h (e ∙ no_gaps (take (length bs - at) (drop at bs)))

-- the bytes before are the first ones
pub before_take : (f : ℕ → Bool) (bs : List ℕ) → take (length (before f bs)) bs ≡ before f bs
unfolding before
before_take f [] = refl
before_take f (b ∷ bs) =
    bool (λ t. take (length (choose t [] (b ∷ before f bs))) (b ∷ bs) ≡ choose t [] (b ∷ before f bs)) (f b) (λ e. refl)
    λ e. ap (λ (r : List ℕ). b ∷ r) (before_take f bs)

-- the first line is the bytes before the first LF, and the others are the lines behind it
lines_first : (bs : List ℕ) → 0 < length bs → lines bs ≡ before is_end bs ∷ lines (drop (suc (length (before is_end bs))) bs)
unfolding before lines
lines_first [] h = absurd (omega arith)
lines_first (b ∷ []) h =
    bool (λ t. joined t b [] ≡ choose t [] (b ∷ []) ∷ lines (drop (length (choose t [] (b ∷ []))) [])) (is_end b) (λ e. refl) λ e. refl
lines_first (b ∷ d ∷ bs) h =
    bool
    (λ t. joined t b (lines (d ∷ bs)) ≡ choose t [] (b ∷ before is_end (d ∷ bs)) ∷ lines (drop (length (choose t [] (b ∷ before is_end (d ∷ bs)))) (d ∷ bs)))
    (is_end b) (λ e. refl) λ e. ap (joined false b) (lines_first (d ∷ bs) (omega arith))

-- nothing has no lines
pub no_lines : (bs : List ℕ) → length bs ≡ 0 → lines bs ≡ []
unfolding lines
no_lines [] h = refl
no_lines (b ∷ bs) h = absurd (omega arith)

-- a line of a text, from where it ends; behind the last byte none is left, whether it is an LF or not
module _ {bs : List ℕ} {from e : ℕ} (h : from < length bs) (f : First is_end bs from e) where
  first_line : lines (drop from bs) ≡ part bs from e ∷ lines (drop (e + 1) bs)
  first_line =
      let rest = drop from bs in
      let long : e - from ≡ length (before is_end rest) = omega (arith, f.first) in
      let next : from + suc (length (before is_end rest)) ≡ e + 1 = omega (arith, f.first) in
      lines_first rest (simp length-drop (omega arith))
      ∙ ap₂ (λ (l : List ℕ) (ls : List (List ℕ)). l ∷ ls) (sym (before_take is_end rest) ∙ ap (λ k. take k rest) (sym long))
      (ap lines (drop-drop (suc (length (before is_end rest))) from bs ∙ ap (λ k. drop k bs) next))

  pub piece_ended : e < length bs → PieceAt bs from (record { end = e; next = e + 1 })
  piece_ended l =
      record { forward = omega (arith, f.first); behind = omega arith; goes_on = omega (arith, f.first); inside = omega arith; first_line = first_line }

  pub piece_last : length bs ≤ e → PieceAt bs from (record { end = e; next = e })
  piece_last l =
      let none : drop (e + 1) bs ≡ drop e bs = drop_of_length-le bs {i = e + 1} (omega arith) ∙ sym (drop_of_length-le bs l) in
      record {
        forward = omega (arith, f.first);
        behind = omega arith;
        goes_on = omega arith;
        inside = f.inside;
        first_line = first_line ∙ ap (λ (r : List ℕ). part bs from e ∷ lines r) none;
      }

-- a gap in front says nothing
gap_words : (b : ℕ) (bs : List ℕ) → is_gap b ≡ true → words (b ∷ bs) ≡ words bs
unfolding words pieces filled
gap_words b bs e = ap (λ t. filled (joined t b (pieces bs))) e

past_gaps : (bs : List ℕ) → words bs ≡ words (drop (length (before is_no_gap bs)) bs)
unfolding before
past_gaps [] = refl
past_gaps (b ∷ bs) =
    bool (λ t. words (b ∷ bs) ≡ words (drop (length (choose (not t) [] (b ∷ before is_no_gap bs))) (b ∷ bs))) (is_gap b)
    (λ e. gap_words b bs e ∙ past_gaps bs) λ e. refl

-- only gaps: no word
only_gaps : (bs : List ℕ) → length (before is_gap (drop (length (before is_no_gap bs)) bs)) ≡ 0 → words bs ≡ []
unfolding before words pieces filled
only_gaps [] = λ z. refl
only_gaps (b ∷ bs) =
    bool (λ t. length (before is_gap (drop (length (choose (not t) [] (b ∷ before is_no_gap bs))) (b ∷ bs))) ≡ 0 → words (b ∷ bs) ≡ []) (is_gap b)
    (λ e z. gap_words b bs e ∙ only_gaps bs z)
    λ e z. absurd (no_length e z)
  where
    no_length : is_gap b ≡ false → length (before is_gap (b ∷ bs)) ≡ 0 → ⊥
    no_length e z = let q : length (before is_gap (b ∷ bs)) ≡ suc (length (before is_gap bs)) = rw e in omega arith

-- the pieces: the bytes before the first gap, and others that make the words behind it
record Split (bs : List ℕ) : Type 0 where
  others : List (List ℕ)
  front : pieces bs ≡ before is_gap bs ∷ others
  back : filled others ≡ words (drop (length (before is_gap bs)) bs)

split_gap : (b : ℕ) (bs : List ℕ) → is_gap b ≡ true → Split (b ∷ bs)
unfolding before words pieces filled
split_gap b bs e =
    let z : before is_gap (b ∷ bs) ≡ [] = rw e in
    record { others = pieces bs; front = rw e; back = sym (ap (λ (l : List ℕ). words (drop (length l) (b ∷ bs))) z ∙ gap_words b bs e) }

split_word : (b : ℕ) (bs : List ℕ) → is_gap b ≡ false → Split bs → Split (b ∷ bs)
unfolding before words pieces filled
split_word b bs e s = record { others = s.others; front = rw (e, s.front); back = rw (e, s.back) }

split : (bs : List ℕ) → Split bs
unfolding before words pieces filled
split [] = record { others = []; front = refl; back = refl }
split (b ∷ bs) = bool (λ t. is_gap b ≡ t → Split (b ∷ bs)) (is_gap b) (λ _ e. split_gap b bs e) (λ _ e. split_word b bs e (split bs)) refl

filled_more : (w : List ℕ) (ps : List (List ℕ)) → length w ≢ 0 → filled (w ∷ ps) ≡ w ∷ filled ps
unfolding filled
filled_more [] ps ne = absurd (ne refl)
filled_more (b ∷ w) ps ne = refl

first_word : (bs : List ℕ) → length (before is_gap bs) ≢ 0 → words bs ≡ before is_gap bs ∷ words (drop (length (before is_gap bs)) bs)
unfolding words
first_word bs ne =
    ap filled (split bs).front ∙ filled_more (before is_gap bs) (split bs).others ne
    ∙ ap (λ (ws : List (List ℕ)). before is_gap bs ∷ ws) (split bs).back

-- the next word, from where it starts and ends
pub by_word : {bs : List ℕ} {at s e : ℕ} → First is_no_gap bs at s → First is_gap bs s e → NextWord bs at (record { start = s; end = e })
by_word {bs} {at} {s} {e} fs fe =
    let past : drop (length (before is_no_gap (drop at bs))) (drop at bs) ≡ drop s bs =
    drop-drop (length (before is_no_gap (drop at bs))) at bs ∙ ap (λ k. drop k bs) (sym fs.first) in
    let behind : drop (length (before is_gap (drop s bs))) (drop s bs) ≡ drop e bs =
    drop-drop (length (before is_gap (drop s bs))) s bs ∙ ap (λ k. drop k bs) (sym fe.first) in
    let long : e - s ≡ length (before is_gap (drop s bs)) = omega (arith, fe.first) in
    record {
      onward = omega (arith, fs.first);
      forward = omega (arith, fe.first);
      inside = fe.inside;
      none_left = λ q. only_gaps (drop at bs) (ap (λ (l : List ℕ). length (before is_gap l)) past ∙ omega (arith, long));
      next_word = λ ne. past_gaps (drop at bs) ∙ ap words past ∙ first_word (drop s bs) (λ z. ne (omega (arith, fe.first)))
          ∙ ap₂ (λ (w : List ℕ) (ws : List (List ℕ)). w ∷ ws)
          (sym (before_take is_gap (drop s bs)) ∙ ap (λ k. take k (drop s bs)) (sym long)) (ap words behind);
    }

-- a line has no more words than bytes
words_few_more : (p : List ℕ) (ps : List (List ℕ)) → length (filled ps) ≤ length (filled (p ∷ ps))
unfolding filled
words_few_more [] ps = omega arith
words_few_more (b ∷ p) ps = omega arith

pub words_few : (bs : List ℕ) → length (words bs) ≤ length bs
unfolding words pieces filled
words_few [] = omega arith
words_few (b ∷ bs) = one (is_gap b) (pieces bs) (words_few bs)
  where
    one : (t : Bool) (ps : List (List ℕ)) → length (filled ps) ≤ length bs → length (filled (joined t b ps)) ≤ suc (length bs)
    one true ps h = omega arith
    one false [] h = omega arith
    one false (p ∷ ps) h = omega (arith, words_few_more p ps)

-- nor a text more lines
pub lines_few : (bs : List ℕ) → length (lines bs) ≤ length bs
unfolding lines
lines_few [] = omega arith
lines_few (b ∷ bs) = one (is_end b) (lines bs) (lines_few bs)
  where
    one : (t : Bool) (ps : List (List ℕ)) → length ps ≤ length bs → length (joined t b ps) ≤ suc (length bs)
    one true ps h = omega arith
    one false [] h = omega arith
    one false (p ∷ ps) h = omega arith
