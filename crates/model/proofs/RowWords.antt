-- The row is written apart from the table; here its own words are shown to say the same. Assumes nothing.
use Prim.Native.Nat.{ℕ, ◌+◌, ◌^◌, ◌<◌, suc, ◌≤◌, ◌-◌, ◌%◌, ◌/◌, zero}
use native.Mathlib.Nat.{zero-add, mod-eq_of_lt, mod-lt, mod-mod, pow-suc, div-one, div-div-eq-div-mul}
use native.Mathlib.Omega.{arith}
use native.Mathlib.Decide.{ℕ_discrete, dec_lt, dec_le}
use mathlib.Core.Path.{◌≡◌, refl, sym, ap, subst, ◌∙◌, ap₂}
use mathlib.Core.Logic.{◌≢◌, dite}
use mathlib.Core.Bool.{Bool, true, false, not, ◌&&◌, ◌||◌}
use Rattle.std.specs.Prelude.{Some}
use mathlib.Core.List.{List, [], ◌∷◌, ◌++◌}
use lib.IntN.{ℤ}
use lib.Signed.{lt_z, lt_z_no}
use lib.Dec.{T, eqb, ltb}
use borrow.Author.Tests.{lt-ltb, le-ltb, eq-eqb, ne_eqb}
use Rattle.model.specs.Choice.{any, choose, first, range, there}
use Rattle.model.specs.Memory.{animal, live, permission, stamp}
use Rattle.model.specs.Hash.{bytes}
use Rattle.model.specs.Answers.{Answer, ahead, fresh, old, says_fresh}
use Rattle.model.specs.Age.{bad_grant, bad_time, is_fresh, late, least_left, left_of, no_minute, retired_mark, verdict}
use Rattle.model.specs.Listing.{list_record, live_count, records}
use Rattle.model.specs.Row.{low_bytes, row_bad_grant, row_bad_time, row_count, row_late, row_left, row_list, row_says}
use Rattle.model.specs.Left.{limit_minus_age}
use Rattle.model.specs.declared.Grant.{Grant}
use Rattle.model.proofs.ListLaws.{bool}
use Rattle.model.proofs.Left.{left_is, left_least, minus_small}
use Rattle.model.proofs.Verdict.{says_ahead, says_old, says_retired, says_young}

-- how long is left, with a sign or by cases
pub left_signed : (limit now s : ℕ) → s ≤ now → left_of limit (now - s) ≡ row_left limit now s
unfolding row_left
left_signed limit now s le =
    rw (minus_small now s le)
    (bool (λ b. left_of limit (now - s) ≡ choose b least_left (limit_minus_age limit (now - s))) (lt_z (limit_minus_age limit (now - s)) least_left)
    (λ t. left_least limit (now - s) (record { lt = subst T (sym t) tt })) λ f. left_is limit (now - s) (lt_z_no (subst (λ b. T (not b)) (sym f) tt)))

-- what is said of a permission
pub says_is : (limit now v s : ℕ) → v < 2 ^ 32 → verdict limit now v s ≡ row_says limit now v s
unfolding row_says
says_is limit now v s h =
    dite (ℕ_discrete s retired_mark) (λ e. sym (says_retired limit now v s e) ∙ rw (eq-eqb s retired_mark e))
    λ ne. dite (dec_lt now s) (λ l. sym (says_ahead limit now v s ne l) ∙ rw (ne_eqb s retired_mark ne, lt-ltb now s l))
    λ l. let le : s ≤ now = omega arith in
    let z = left_signed limit now s le in
    dite (dec_le (now - s) limit)
    (λ k. sym (says_young limit now v s ne le k) ∙ rw (ne_eqb s retired_mark ne, le-ltb now s le, le-ltb limit (now - s) k, mod-eq_of_lt h, z))
    λ k. let lt : limit < now - s = omega arith in
    sym (says_old limit now v s ne le lt) ∙ rw (ne_eqb s retired_mark ne, le-ltb now s le, lt-ltb limit (now - s) lt, z)

-- a verdict by its tests: fresh, retired, ahead
abbrev told : Bool → Bool → Bool → ℕ → ℤ → Answer
told b c d v z = choose b (fresh v z) (choose c (old least_left) (choose d ahead (old z)))

-- a permission word above its range is judged modulo 2^32
pub says_mod : (limit now v s : ℕ) → verdict limit now v s ≡ row_says limit now (v % 2 ^ 32) s
unfolding verdict
says_mod limit now v s = sym same ∙ says_is limit now (v % 2 ^ 32) s (mod-lt v (omega arith))
  where
    same : verdict limit now (v % 2 ^ 32) s ≡ verdict limit now v s
    same = ap (λ u. told (is_fresh limit now s) (eqb s retired_mark) (ltb now s) u (left_of limit (now - s))) (mod-mod v (2 ^ 32))

fresh_told : (b c d : Bool) (v : ℕ) (z : ℤ) → says_fresh (told b c d v z) ≡ b
fresh_told true c d v z = refl
fresh_told false true d v z = refl
fresh_told false false true v z = refl
fresh_told false false false v z = refl

-- a verdict says fresh exactly if the stamp is in time
pub fresh_says : (limit now v s : ℕ) → says_fresh (verdict limit now v s) ≡ is_fresh limit now s
unfolding verdict
fresh_says limit now v s = fresh_told (is_fresh limit now s) (eqb s retired_mark) (ltb now s) (v % 2 ^ 32) (left_of limit (now - s))

pub fresh_is : (limit now v s : ℕ) → v < 2 ^ 32 → is_fresh limit now s ≡ says_fresh (row_says limit now v s)
fresh_is limit now v s h = sym (fresh_says limit now v s) ∙ ap says_fresh (says_is limit now v s h)

or_is : (b c : Bool) → (b || c) ≡ choose b true c
or_is true c = refl
or_is false c = refl

pub time_is : (M limit now : ℕ) → bad_time limit now ≡ row_bad_time M limit now
time_is M limit now = or_is (ltb 10080 limit) (eqb now no_minute)

-- set's minutes, and a late list
pub grant_is : (M : ℕ) (g : Grant) → bad_grant g ≡ row_bad_grant M g
grant_is M g = or_is (eqb g.minute no_minute) (ltb g.minute g.issued)

pub late_is : (M s : ℕ) (g : Grant) → late s g ≡ row_late M s g
late_is M s g = go (ltb g.issued s) (eqb s retired_mark)
  where
    go : (a b : Bool) → (a && not b) ≡ choose b false a
    go true true = refl
    go true false = refl
    go false true = refl
    go false false = refl

-- the list
pub bytes_is : (n x i : ℕ) → bytes n (x / 256 ^ i) ≡ low_bytes x i n
unfolding bytes low_bytes
bytes_is zero x i = refl
bytes_is (suc n) x i =
    ap (λ (l : List ℕ). x / 256 ^ i % 256 ∷ l)
    (ap (bytes n) (div-div-eq-div-mul x (256 ^ i) 256 ∙ ap (λ k. x / k) (sym (pow-suc 256 i))) ∙ bytes_is n x (suc i))

all_bytes : (n x : ℕ) → bytes n x ≡ low_bytes x 0 n
all_bytes n x = ap (bytes n) (sym (div-one x)) ∙ bytes_is n x 0

record_is : (l : List ℕ) (p : ℕ) → permission l p < 2 ^ 32
    → list_record l p ≡ low_bytes (animal l p) 0 8 ++ (low_bytes (permission l p) 0 4 ++ low_bytes (stamp l p) 0 8)
unfolding list_record
record_is l p h = rw (mod-eq_of_lt h, all_bytes 8 (animal l p), all_bytes 4 (permission l p), all_bytes 8 (stamp l p))

pub records_are : (l : List ℕ) → ((p : ℕ) → permission l p < 2 ^ 32) → (n p : ℕ) → records l (range p n) ≡ row_list l n p
unfolding records range row_list
records_are l narrow zero p = refl
records_are l narrow (suc n) p =
    ap₂ (λ (a b : List ℕ). a ++ b)
    (bool (λ b. choose (not b) (list_record l p) []
    ≡ choose b [] (low_bytes (animal l p) 0 8 ++ (low_bytes (permission l p) 0 4 ++ low_bytes (stamp l p) 0 8))) (eqb (animal l p) 0)
    (λ e. refl) λ e. record_is l p (narrow p))
    (records_are l narrow n (suc p))

pub count_is : (l : List ℕ) (n p : ℕ) → live_count l (range p n) ≡ row_count l n p
unfolding live_count range row_count
count_is l zero p = refl
count_is l (suc n) p =
    ap₂ (λ (a b : ℕ). a + b) (bool (λ b. choose {A = ℕ} (not b) 1 0 ≡ choose b 0 1) (eqb (animal l p) 0) (λ e. refl) λ e. refl) (count_is l n (suc p))

-- a live place
pub live_one : (l : List ℕ) (n p : ℕ) → any (live l) (range p n) ≡ not (eqb (row_count l n p) 0)
unfolding first range row_count
live_one l zero p = refl
live_one l (suc n) p =
    bool (λ b. there (choose (not b) (Some p) (first (live l) (range (suc p) n))) ≡ not (eqb (choose {A = ℕ} b 0 1 + row_count l n (suc p)) 0)) (eqb (animal l p) 0)
    (λ e. live_one l n (suc p) ∙ ap (λ k. not (eqb k 0)) (sym (zero-add (row_count l n (suc p)))))
    λ e. let ne : 1 + row_count l n (suc p) ≢ 0 = λ z. absurd (omega arith) in rw (ne_eqb (1 + row_count l n (suc p)) 0 ne)
