-- Laws on why a line follows no row: one a way out of the code. Assumes nothing.
use Prim.Native.Nat.{ℕ, ◌+◌, ◌≤◌, ◌<◌}
use native.Mathlib.Numerals.{add-one}
use mathlib.Core.Path.{◌≡◌, refl, sym, ap, ap₂, ◌∙◌}
use mathlib.Core.Bool.{Bool, true, false}
use Rattle.std.specs.Prelude.{Option, Some, None}
use mathlib.Core.List.{List, [], ◌∷◌}
use borrow.Author.Tests.{le-leb, lt-leb}
use Rattle.replay_words.specs.Words.{all_digits, lines, words}
use Rattle.replay_words.proofs.Scan.{words_few}
use native.Mathlib.Omega.{arith}
use lib.ListN.{length}
use Rattle.std.specs.Option.{is_some as is_one}
use Rattle.model.proofs.ListLaws.{true_false}
use Rattle.model.specs.Choice.{choose}
use Rattle.replay_lines.specs.Taking.{bound, takes}
use Rattle.replay_lines.specs.Reasons.{Parting, behind, further, furthest, instead, parting, parts, reason_number, why_not}
use Rattle.replay_lines.specs.Cursor.{Parts}
use Rattle.replay_lines.specs.declared.Parting.{Parting as Parted}
use Rattle.replay_lines.specs.declared.Reason.{Reason}

-- the reasons by the word
module _ (w : List ℕ) {t : Bool} (e : t ≡ all_digits w) where
  pub behind_number : t ≡ true → 2 ≡ behind w
  unfolding behind
  behind_number y = rw (sym e ∙ y)

  pub behind_word : t ≡ false → 0 ≡ behind w
  unfolding behind
  behind_word n = rw (sym e ∙ n)

  pub instead_large : (b : Option ℕ) → true ≡ is_one b → t ≡ true → 3 ≡ instead b w
  unfolding instead
  instead_large None q y = true_false (sym q) refl
  instead_large (Some top) q y = rw (sym e ∙ y)

  pub instead_word : (b : Option ℕ) → t ≡ false → 0 ≡ instead b w
  unfolding instead
  instead_word None n = refl
  instead_word (Some top) n = rw (sym e ∙ n)

pub instead_name : (w : List ℕ) (b : Option ℕ) → false ≡ is_one b → 0 ≡ instead b w
unfolding instead
instead_name w None q = refl
instead_name w (Some top) q = true_false refl (sym q)

-- the further of two
pub further_first : (a b : Parted) → b.far ≤ a.far → Parts (further (parts a.far (reason_number a.why)) (parts b.far (reason_number b.why))) a
further_first a b h = record { far = rw (le-leb b.far a.far h); why = rw (le-leb b.far a.far h) }

pub further_second : (a b : Parted) → a.far < b.far → Parts (further (parts a.far (reason_number a.why)) (parts b.far (reason_number b.why))) b
further_second a b h = record { far = rw (lt-leb b.far a.far h); why = rw (lt-leb b.far a.far h) }

-- a row and a line agree in k words, up to what is left of them
pub record Along (row line row_left line_left : List ℕ) (k : ℕ) : Type 0 where
  pub few : k + length (words row_left) ≤ length row
  pub ahead : parting k (words row_left) (words line_left) ≡ parting 0 (words row) (words line)

pub along_first : (row line : List ℕ) → Along row line row line 0
along_first row line = record { few = omega (arith, words_few row); ahead = refl }

-- how far and why, as the code says it
parted : {a : Parting} {k : ℕ} (y : Reason) → parts k (reason_number y) ≡ a → Parts a (record { far = k; why = y })
parted y q = record { far = ap (λ (x : Parting). x.far) q; why = ap (λ (x : Parting). x.why) q }

module _ {row line row_left line_left : List ℕ} {k : ℕ} (a : Along row line row_left line_left k) where
  -- the row is over: with the line, or before it
  pub along_both_end : (y : Reason) → words row_left ≡ [] → words line_left ≡ [] → reason_number y ≡ 2
      → Parts (parting 0 (words row) (words line)) (record { far = k; why = y })
  unfolding parting
  along_both_end y e f q = parted y (ap (parts k) q ∙ (rw (e, f) at a.ahead))

  pub along_row_end : {w : List ℕ} {ws : List (List ℕ)} (y : Reason) → words row_left ≡ [] → words line_left ≡ w ∷ ws → reason_number y ≡ behind w
      → Parts (parting 0 (words row) (words line)) (record { far = k; why = y })
  unfolding parting
  along_row_end y e f q = parted y (ap (parts k) q ∙ (rw (e, f) at a.ahead))

  module _ {p : List ℕ} (row_behind : List ℕ) (e : words row_left ≡ p ∷ words row_behind) where
    pub along_line_end : (y : Reason) → words line_left ≡ [] → reason_number y ≡ 1 → Parts (parting 0 (words row) (words line)) (record { far = k; why = y })
    unfolding parting
    along_line_end y f q = parted y (ap (parts k) q ∙ (rw (e, f) at a.ahead))

    module _ {w : List ℕ} (line_behind : List ℕ) (f : words line_left ≡ w ∷ words line_behind) {t : Bool} (g : t ≡ takes p w) where
      step : {u : Bool} → u ≡ t → choose u (parting (k + 1) (words row_behind) (words line_behind)) (parts k (instead (bound p) w)) ≡ parting 0 (words row) (words line)
      unfolding parting
      step {u} q = rw (q ∙ g, add-one) (rw (e, f) at a.ahead)

      pub along_stop : (y : Reason) {b : Option ℕ} → t ≡ false → b ≡ bound p → reason_number y ≡ instead b w
          → Parts (parting 0 (words row) (words line)) (record { far = k; why = y })
      along_stop y n h q = parted y (ap (parts k) (q ∙ ap (λ (o : Option ℕ). instead o w) h) ∙ step {u = false} (sym n))

      pub along_on : t ≡ true → Along row line row_behind line_behind (k + 1)
      along_on n = record { few = omega (arith, a.few, ap length e); ahead = step {u = true} (sym n) }

-- the rows have been compared up to what is left of them
pub record Comparing (rows line left : List ℕ) (best : Parted) : Type 0 where
  pub ahead : furthest (parts best.far (reason_number best.why)) (lines left) (words line) ≡ furthest (parts 0 0) (lines rows) (words line)

module _ {rows line left : List ℕ} {best : Parted} (c : Comparing rows line left best) where
  pub compare_more : {row : List ℕ} (behind : List ℕ) {h b : Parted} → lines left ≡ row ∷ lines behind → Parts (parting 0 (words row) (words line)) h
      → Parts (further (parts best.far (reason_number best.why)) (parts h.far (reason_number h.why))) b → Comparing rows line behind b
  unfolding furthest
  compare_more {row} behind {h} {b} e x y =
      let u : parts h.far (reason_number h.why) ≡ parting 0 (words row) (words line) = ap₂ parts x.far x.why in
      let v : parts b.far (reason_number b.why) ≡ further (parts best.far (reason_number best.why)) (parting 0 (words row) (words line)) =
      ap₂ parts y.far y.why ∙ ap (further (parts best.far (reason_number best.why))) u in
      record {
        ahead = ap (λ (z : Parting). furthest z (lines behind) (words line)) v
            ∙ ap (λ (ls : List (List ℕ)). furthest (parts best.far (reason_number best.why)) ls (words line)) (sym e) ∙ c.ahead;
      }

  pub compare_end : lines left ≡ [] → reason_number best.why ≡ why_not (lines rows) (words line)
  unfolding why_not furthest
  compare_end e = ap (λ (z : Parting). z.why) (rw e at c.ahead)
