-- How long is left, the age of a permission, a law a way out, and the minutes of a set, in the code's own words. Assumes nothing.
use Rattle.std.proofs.Common.{◌≡◌, ℕ, ◌+◌, ◌-◌, ◌%◌, ◌^◌, ◌<◌, ◌≤◌, Bool, true, false, ◌||◌, eqb, ltb, leb, ◌≢◌, ℤ, pos, negsuc, ◌-ℤ◌, ◌≤ℤ◌, sym, refl, ap, ◌∙◌, ap₂, arith, leb→le, w64, SFits, to_z, of_z, ltb-false, le-ltb, lt-ltb, eq-eqb, ne_eqb, le-leb}
use native.Mathlib.Decide.{ℕ_discrete, dec_le}
use mathlib.Core.Logic.{dite}
use borrow.Author.Tests.{eqb-false, lt-leb}
use mir.ValLaws.{to_z_pos, to_z-of_z}
use Rattle.model.specs.Answers.{fresh, old}
use Rattle.model.specs.Age.{bad_grant, bad_time, least_left, left_of, no_minute, retired_mark, verdict}
use Rattle.model.specs.declared.Grant.{Grant}
use Rattle.model.proofs.ListLaws.{true_false}
use Rattle.model.proofs.Left.{bounds, far, near}
use Rattle.model.proofs.Verdict.{says_old, says_retired, says_young}

-- a limit and a minute that refusal 3 lets pass
good_time : (limit now : ℕ) → bad_time limit now ≡ false → (limit ≤ 10080) × (now ≢ no_minute)
good_time limit now e = by (ltb 10080 limit) (eqb now no_minute) (ltb-false 10080 limit) (eqb-false now no_minute) e
  where
    by : (b c : Bool) → (b ≡ false → limit ≤ 10080) → (c ≡ false → now ≢ no_minute) → (b || c) ≡ false → (limit ≤ 10080) × (now ≢ no_minute)
    by true c h k e = true_false refl e
    by false true h k e = true_false refl e
    by false false h k e = (h refl, k refl)

good_limit : (limit now : ℕ) → bad_time limit now ≡ false → limit ≤ 10080
good_limit limit now e = (good_time limit now e).0

-- what is left fits the word
left_small : (limit a : ℕ) → limit ≤ 10080 → SFits w64 (left_of limit a)
left_small limit a good = let b = bounds limit a in fits (left_of limit a) b.0 b.1
  where
    fits : (z : ℤ) → least_left ≤ℤ z → z ≤ℤ pos limit → SFits w64 z
    fits (pos n) l k = record { sfits = omega (arith, leb→le n limit k.le) }
    fits (negsuc n) l k = record { sfits = omega (arith, leb→le n (2 ^ 62 - 1) l.le) }

kept : (limit a : ℕ) → limit ≤ 10080 → {z : ℤ} → z ≡ left_of limit a → to_z w64 (of_z w64 z) ≡ left_of limit a
kept limit a good e = ap (λ (z : ℤ). to_z w64 (of_z w64 z)) e ∙ to_z-of_z w64 (left_of limit a) (left_small limit a good)

-- less than 2^62 minutes overdue, and as many or more
module _ (limit a : ℕ) (good : limit ≤ 10080) where
  module _ (h : a < limit + 4611686018427387904) where
    minus : to_z w64 limit -ℤ to_z w64 a ≡ left_of limit a
    minus =
        ap₂ (λ (y z : ℤ). y -ℤ z) (to_z_pos w64 limit (omega arith)) (to_z_pos w64 a (omega arith)) ∙ sym (near limit a (omega arith))

    pub left_near : to_z w64 (of_z w64 (to_z w64 limit -ℤ to_z w64 a)) ≡ left_of limit a
    left_near = kept limit a good minus

  pub left_far : limit + 4611686018427387904 ≤ a → negsuc 4611686018427387903 ≡ left_of limit a
  left_far h = sym (far limit a h)

-- the ways out of the judgement, as the code has their numbers
module _ (limit now v s : ℕ) where
  pub judged_retired : s ≡ retired_mark → old (negsuc 4611686018427387903) ≡ verdict limit now v s
  judged_retired e = says_retired limit now v s e

  module _ (good : bad_time limit now ≡ false) (fits : now < 2 ^ 64) (le : s ≤ now) {z : ℤ} (e : z ≡ left_of limit (now - s)) where
    told : to_z w64 (of_z w64 z) ≡ left_of limit (now - s)
    told = kept limit (now - s) (good_limit limit now good) e

    -- a stamp that is not later than a minute is not the mark
    dated : s ≢ retired_mark
    dated q = (good_time limit now good).1 (omega arith)

    pub judged_young : now - s ≤ limit → fresh (v % 2 ^ 32) (to_z w64 (of_z w64 z)) ≡ verdict limit now v s
    judged_young k = ap (fresh (v % 2 ^ 32)) told ∙ says_young limit now v s dated le k

    pub judged_old : limit < now - s → old (to_z w64 (of_z w64 z)) ≡ verdict limit now v s
    judged_old k = ap old told ∙ says_old limit now v s dated le k

-- the minute behind now: 0 behind the largest number
pub next_minute : (g : Grant) {n : ℕ} → g.minute < 2 ^ 64 → n ≡ (g.minute + 1) % 2 ^ 64 → leb n g.issued ≡ bad_grant g
next_minute g {n} h e =
    dite (ℕ_discrete g.minute no_minute)
    (λ q. let z : n ≡ 0 = omega arith in rw (z, eq-eqb g.minute no_minute q, le-leb 0 g.issued (omega arith)))
    λ ne. let s : n ≡ g.minute + 1 = omega arith in
    dite (dec_le (g.minute + 1) g.issued)
    (λ l. rw (s, ne_eqb g.minute no_minute ne, le-leb (g.minute + 1) g.issued l, lt-ltb g.minute g.issued (omega arith)))
    λ l. rw (s, ne_eqb g.minute no_minute ne, lt-leb (g.minute + 1) g.issued (omega arith), le-ltb g.minute g.issued (omega arith))
