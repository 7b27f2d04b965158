-- Where no word is damaged, the word of a hit leads to a place. Assumes nothing.
use Prim.Native.Nat.{ℕ, ◌+◌, ◌*◌, ◌<◌, ◌≤◌, ◌%◌, ◌/◌}
use native.Mathlib.Omega.{arith}
use native.Mathlib.Decide.{ℕ_discrete}
use mathlib.Core.Path.{◌≡◌, refl, sym, ◌∙◌}
use mathlib.Core.Logic.{◌≢◌, dite}
use mathlib.Core.Bool.{Bool, true, false, ◌||◌}
use Rattle.std.specs.Prelude.{Some}
use mathlib.Core.List.{List, [], ◌∷◌}
use lib.ListN.{length}
use lib.Dec.{eqb, leb, ltb}
use borrow.Author.Tests.{eq-eqb, ne_eqb, leb-false}
use Rattle.model.specs.Choice.{any, choose, first}
use Rattle.model.specs.Memory.{damaged, place, tag}
use Rattle.model.proofs.ListLaws.{bool, true_false}
use Rattle.home_words.specs.HomeWords.{leads, tag_sum}
use Rattle.home_words.proofs.Words.{any_cons, lead_other, sum_small}

or_neither : (a b : Bool) → (a || b) ≡ false → (a ≡ false) × (b ≡ false)
or_neither true b e = true_false refl e
or_neither false b e = (refl, e)

-- a word that has a tag and is not damaged has a place
sound_place : (M w : ℕ) → 1 ≤ tag w → damaged M w ≡ false → place w < M
unfolding damaged tag
sound_place M w pos e =
    let nz : w ≢ 0 = λ z. absurd (omega arith) in
    let k : ((eqb (w / 65536) 0 || ltb 255 (w / 65536)) || leb M (place w)) ≡ false = rw (ne_eqb w 0 nz) at e in
    leb-false M (place w) (or_neither (eqb (w / 65536) 0 || ltb 255 (w / 65536)) (leb M (place w)) k).1

module _ (M t : ℕ) (pos : 1 ≤ t) where
  both_sound : (w : ℕ) (ws : List ℕ) → any (damaged M) (w ∷ ws) ≡ false → (damaged M w ≡ false) × (any (damaged M) ws ≡ false)
  both_sound w ws d = or_neither (damaged M w) (any (damaged M) ws) (sym (any_cons (damaged M) w ws) ∙ d)

  -- the one word with the tag, which is the sum
  pub sum_in : (ws : List ℕ) → any (damaged M) ws ≡ false → tag (tag_sum t ws) ≡ t → place (tag_sum t ws) < M
  unfolding tag_sum tag
  sum_in [] d e = absurd (omega arith)
  sum_in (w ∷ ws) d e =
      dite (ℕ_discrete (w / 65536) t)
      (λ q. let k : choose (eqb (w / 65536) t) w 0 ≡ w = rw (eq-eqb (w / 65536) t q) in
      let s : tag_sum t ws ≡ 0 = sum_small t pos ws (omega arith) in
      let z : choose (eqb (w / 65536) t) w 0 + tag_sum t ws ≡ w = omega arith in
      rw z (sound_place M w (omega arith) (both_sound w ws d).0))
      λ nq. let k : choose (eqb (w / 65536) t) w 0 ≡ 0 = rw (ne_eqb (w / 65536) t nq) in
      let z : choose (eqb (w / 65536) t) w 0 + tag_sum t ws ≡ tag_sum t ws = omega arith in
      rw z (sum_in ws (both_sound w ws d).1 (rw z at e))

  -- the word that was found
  pub found_in : (l : List ℕ) (x : ℕ) (ws : List ℕ) → any (damaged M) ws ≡ false → {w : ℕ} → first (leads l t x) ws ≡ Some w → place w < M
  unfolding first
  found_in l x [] d e = let z : ◌≡◌ {A = ℕ} 0 1 = cc in absurd (omega arith)
  found_in l x (v ∷ ws) d {w} e =
      bool (λ b. leads l t x v ≡ b → choose b (Some v) (first (leads l t x) ws) ≡ Some w → place w < M) (leads l t x v)
      (λ q h e. let f : v ≡ w = cc in rw (← f) (sound_place M v (has_tag h) (both_sound v ws d).0)) (λ q h e. found_in l x ws (both_sound v ws d).1 e) refl e
    where
      has_tag : leads l t x v ≡ true → 1 ≤ tag v
      has_tag h = dite (ℕ_discrete (tag v) t) (λ q. omega arith) λ nq. true_false h (lead_other l t x v nq)

-- in the code's words: the sum is read at a place
pub sum_reads : (l : List ℕ) (t : ℕ) {w : ℕ} (ws : List ℕ) → (1 ≤ t) × (w ≡ tag_sum t ws) → any (damaged (length l / 4)) ws ≡ false → w / 65536 ≡ t
    → 4 * (w % 65536) < length l
unfolding tag place
sum_reads l t ws known d e = rw known.1 (omega (arith, sum_in (length l / 4) t known.0 ws d (rw known.1 at e)))

-- and no word is damaged where the test said so
pub undamaged : (n : ℕ) (ws : List ℕ) {k : ℕ} {b : Bool} → k ≡ n → b ≡ any (damaged k) ws → b ≡ false → any (damaged n) ws ≡ false
undamaged n ws p e f = rw (← p) (sym e ∙ f)

-- the place of a hit lies in the items
pub hit_reads : (l : List ℕ) (t x : ℕ) (ws : List ℕ) → 1 ≤ t → any (damaged (length l / 4)) ws ≡ false → {w : ℕ} → first (leads l t x) ws ≡ Some w
    → 4 * (w % 65536) + 4 ≤ length l
unfolding place
hit_reads l t x ws pos d q = omega (arith, found_in (length l / 4) t pos l x ws d q)
