-- Laws on the rows of a table, and on the end of a line: one a way out of the code. Assumes nothing.
use Prim.Native.Nat.{ℕ, suc, ◌+◌, ◌-◌, ◌<◌}
use native.Mathlib.Numerals.{add-one}
use native.Mathlib.Omega.{arith}
use mathlib.Core.Path.{◌≡◌, refl, sym, ap, ap₂, ◌∙◌}
use mathlib.Core.Bool.{Bool, true, false, ◌&&◌}
use Rattle.std.specs.Prelude.{Option, Some, None, MatchOption}
use Rattle.std.specs.Option.{unwrap_or}
use Rattle.std.proofs.Common.{Bor}
use mathlib.Core.List.{List, [], ◌∷◌}
use lib.ListN.{length, drop, drop_of_length-le, get_or, replicate, take}
use lib.Pointwise.{pointwise}
use lib.Dec.{eqb}
use lib.Seq.{drop-cons, sets}
use Rattle.replay_words.specs.Words.{before, is_comment, lines, without_comment, without_return, words}
use Rattle.replay_words.specs.Cursor.{First}
use Rattle.replay_words.proofs.Scan.{before_take}
use Rattle.replay_lines.specs.Reasons.{reason_number, why_not}
use Rattle.replay_lines.specs.Line.{Said, first_row, fitting, or_else, padded, said_by}
use Rattle.replay_lines.specs.Cursor.{Fits, stored}
use Rattle.replay_lines.specs.declared.Reason.{Reason}

-- the rows in front of what is left do not fit, and they are n
pub record Trying (rows line left : List ℕ) (n : ℕ) : Type 0 where
  pub many : n + length (lines left) ≡ length (lines rows)
  pub ahead : first_row (why_not (lines rows) (words line)) n (lines left) (words line) ≡ said_by (lines rows) (words line)

pub try_first : (rows line : List ℕ) → Trying rows line rows 0
unfolding said_by
try_first rows line = record { many = omega arith; ahead = refl }

module _ {rows line left : List ℕ} {n : ℕ} (s : Trying rows line left n) where
  pub try_end : (y : Reason) → lines left ≡ [] → reason_number y ≡ why_not (lines rows) (words line)
      → said_by (lines rows) (words line) ≡ record { row = length (lines rows); numbers = reason_number y ∷ [] }
  unfolding first_row
  try_end y e w =
      let q : said_by (lines rows) (words line) ≡ record { row = n; numbers = why_not (lines rows) (words line) ∷ [] } = sym (rw e at s.ahead) in
      let k : n ≡ length (lines rows) = omega (arith, s.many, ap length e) in
      q ∙ ap₂ (λ (r v : ℕ). record { row = r; numbers = v ∷ [] }) k (sym w)

  module _ {row : List ℕ} (behind : List ℕ) (e : lines left ≡ row ∷ lines behind) where
    step : {o : Option (List ℕ)} → fitting (words row) (words line) ≡ o
        → or_else o n (first_row (why_not (lines rows) (words line)) (n + 1) (lines behind) (words line)) ≡ said_by (lines rows) (words line)
    unfolding first_row
    step {o} f = rw (sym f, add-one) (rw e at s.ahead)

    -- the numbers of a row that fits, in an array of k words
    module _ (k : ℕ) (clear after : List ℕ) where
      found : (o : Option (List ℕ)) → fitting (words row) (words line) ≡ o → Some after ≡ stored clear 0 o → clear ≡ replicate k 0
          → (n < length (lines rows)) × (n ≡ (said_by (lines rows) (words line)).row) × (after ≡ padded k (said_by (lines rows) (words line)).numbers)
      found None q f c = let z : ◌≡◌ {A = ℕ} 0 1 = cc in absurd (omega arith)
      found (Some ns) q f c =
          let a : after ≡ sets clear 0 ns = cc in (
            omega (arith, s.many, ap length e),
            ap (λ (x : Said). x.row) (step q),
            a ∙ ap (λ (l : List ℕ). sets l 0 ns) c ∙ ap (λ (x : Said). padded k x.numbers) (step q),
          )

      more : (o : Option (List ℕ)) → fitting (words row) (words line) ≡ o → None ≡ stored clear 0 o → Trying rows line behind (n + 1)
      more None q f = record { many = omega (arith, s.many, ap length e); ahead = step q }
      more (Some ns) q f = let z : ◌≡◌ {A = ℕ} 0 1 = cc in absurd (omega arith)

    pub try_found : (k : ℕ) {clear after : List ℕ} → Fits row line clear after true → clear ≡ replicate k 0
        → (n < length (lines rows)) × (n ≡ (said_by (lines rows) (words line)).row) × (after ≡ padded k (said_by (lines rows) (words line)).numbers)
    try_found k {clear} {after} f = found k clear after (fitting (words row) (words line)) refl f.fits

    pub try_more : {clear after : List ℕ} → Fits row line clear after false → Trying rows line behind (n + 1)
    try_more {clear} {after} f = more 0 clear after (fitting (words row) (words line)) refl f.fits

-- a CR at the end, or none
last_is : (bs : List ℕ) → pointwise eqb (drop (length bs - 1) bs) (13 ∷ []) ≡ eqb (get_or bs (length bs - 1) 0) 13
last_is [] = refl
last_is (b ∷ bs) =
    let l : List ℕ = b ∷ bs in
    let e : drop (suc (length l - 1)) l ≡ [] = drop_of_length-le l {i = suc (length l - 1)} (omega arith) in
    rw (drop-cons l (length l - 1) 0 (omega arith), e) (one (eqb (get_or l (length l - 1) 0) 13))
  where
    one : (t : Bool) → (t && true) ≡ t
    one true = refl
    one false = refl

rest_is : (line : Bor (List ℕ)) (r : Option (Bor (List ℕ))) (long : Bor (List ℕ) → Type 0)
    → MatchOption r (pointwise eqb (drop (length line.now - 1) line.now) (13 ∷ []) ≡ false)
    (λ x. (pointwise eqb (drop (length line.now - 1) line.now) (13 ∷ []) ≡ true) × (x.now ≡ take (length line.now - 1) line.now) × long x)
    → (unwrap_or r line).now ≡ without_return line.now
unfolding without_return
rest_is line None long f = rw (sym (last_is line.now) ∙ f)
rest_is line (Some x) long f = rw (sym (last_is line.now) ∙ f.0) f.1

pub body_rest : (line : Bor (List ℕ)) (r : Option (Bor (List ℕ))) (long : Bor (List ℕ) → Type 0) {rest : Bor (List ℕ)}
    → MatchOption r (pointwise eqb (drop (length line.now - 1) line.now) (13 ∷ []) ≡ false)
    (λ x. (pointwise eqb (drop (length line.now - 1) line.now) (13 ∷ []) ≡ true) × (x.now ≡ take (length line.now - 1) line.now) × long x)
    → rest ≡ unwrap_or r line → rest.now ≡ without_return line.now
body_rest line r long f e = ap (λ (x : Bor (List ℕ)). x.now) e ∙ rest_is line r long f

-- a line is the words before its comment and its line end
pub body_is : (line : List ℕ) {rest : List ℕ} {n : ℕ} → rest ≡ without_return line → First is_comment rest 0 n → take n rest ≡ without_comment (without_return line)
unfolding without_comment
body_is line {rest} {n} e c =
    let q : n ≡ length (before is_comment rest) = omega (arith, c.first) in
    ap (λ (k : ℕ). take k rest) q ∙ before_take is_comment rest ∙ ap (before is_comment) e
