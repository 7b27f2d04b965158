-- Laws that the proofs of the list's functions cite. Assumes nothing.
use Rattle.std.specs.Prelude.{Result, Ok, Err}
use Prim.Native.Nat.{ℕ, ◌+◌, ◌*◌, ◌^◌, ◌<◌, suc, ◌≤◌, ◌-◌, ◌%◌, ◌/◌, zero}
use native.Mathlib.Nat.{zero-add}
use native.Mathlib.Numerals.{add-one}
use native.Mathlib.Omega.{arith}
use mathlib.Core.Path.{◌≡◌, refl, sym, ap, ap₂, ◌∙◌}
use mathlib.Core.Bool.{Bool, true, false, not}
use mathlib.Core.List.{List, [], ◌∷◌, ◌++◌}
use lib.ListN.{length, length-append, take, drop}
use lib.Seq.{sets, sets-eq, take_at}
use borrow.Author.Tests.{lt-ltb, le-ltb, eq-eqb, ne_eqb, not-false}
use Rattle.std.specs.List.{fold, range_with_len, sum_by}
use Rattle.model.specs.Choice.{choose, range}
use Rattle.model.specs.Memory.{Mem, animal, live, mem, permission, stamp}
use Rattle.model.specs.Hash.{bytes}
use Rattle.model.specs.Shape.{good_lengths, right_lengths, Ways}
use Rattle.model.specs.Answers.{Answer, listed, refused}
use Rattle.model.specs.Listing.{list_record, listing, live_count, records}
use Rattle.model.specs.Calls.{refuse, tell}
use Rattle.model.specs.Said.{listed_into, said_listing}
use Rattle.model.specs.declared.Refusal.{Refusal}
use Rattle.model.specs.declared.Refusal.TheVariants as refusal
use Rattle.model.proofs.ListLaws.{bool}
use Rattle.model.proofs.Lent.{fit}
use Rattle.buffer.specs.Put.{Put}
use Rattle.listing.specs.List.{ListedAs, list_answer, place_record}
use Rattle.buffer.proofs.Putting.{bytes_length, put_length, put_both, sets_both}

-- a record has 20
pub record_length : (l : List ℕ) (p : ℕ) → length (list_record l p) ≡ 20
unfolding list_record
record_length l p = simp (length-append, bytes_length)

-- 20 bytes a live place
pub records_length : (l ps : List ℕ) → length (records l ps) ≡ 20 * live_count l ps
unfolding records live_count
records_length l [] = refl
records_length l (p ∷ ps) =
    length-append (choose (live l p) (list_record l p) []) (records l ps)
    ∙ bool (λ b. length (choose b (list_record l p) []) + length (records l ps) ≡ 20 * (choose b 1 0 + live_count l ps)) (live l p)
    (λ t. omega (arith, record_length l p, records_length l ps))
    λ f. omega (arith, records_length l ps)

-- a live place has its record, a vacant one none
pub live_record : (l : List ℕ) (p : ℕ) → (animal l p ≡ 0 → ⊥) → place_record l p ≡ list_record l p
unfolding place_record
live_record l p h = rw (ne_eqb (animal l p) 0 h)

pub vacant_record : (l : List ℕ) (p : ℕ) → animal l p ≡ 0 → place_record l p ≡ []
unfolding place_record
vacant_record l p h = rw (eq-eqb (animal l p) 0 h)

-- the places from p on: p, and those from p + 1 on
pub places_from : (m p : ℕ) → p < m → range p (m - p) ≡ p ∷ range (p + 1) (m - (p + 1))
unfolding range
places_from m p h = let e : m - p ≡ suc (m - (p + 1)) = omega arith in rw (e, add-one p)

pub no_places : (m p : ℕ) → m ≤ p → range p (m - p) ≡ []
unfolding range
no_places m p h = let e : m - p ≡ 0 = omega arith in rw e

-- the live places, as the library sums them
fold_live : (l : List ℕ) (z p n : ℕ) → fold (λ a q. a + choose (live l q) 1 0) z (range_with_len p n) ≡ z + live_count l (range p n)
unfolding live_count range
fold_live l z p zero = omega arith
fold_live l z p (suc n) =
    let e : live_count l (range (p + 1) n) ≡ live_count l (range (suc p) n) = ap (λ k. live_count l (range k n)) (add-one p) in
    fold_live l (z + choose (live l p) 1 0) (p + 1) n ∙ omega (arith, e)

pub counted : (l : List ℕ) (p n : ℕ) → sum_by (λ q. choose (live l q) 1 0) (range_with_len p n) ≡ live_count l (range p n)
counted l p n = fold_live l 0 p n ∙ omega arith

-- at most one a place
pub count_most : (l : List ℕ) (n p : ℕ) → live_count l (range p n) ≤ n
unfolding live_count range
count_most l zero p = omega arith
count_most l (suc n) p =
    bool (λ b. choose b 1 0 + live_count l (range (suc p) n) ≤ suc n) (live l p)
    (λ t. omega (arith, count_most l n (suc p)))
    λ f. omega (arith, count_most l n (suc p))

-- there is room for a live place's three numbers
pub room_live : (l : List ℕ) (p at : ℕ) (b : List ℕ) → (animal l p ≡ 0 → ⊥) → at + length (place_record l p) ≤ length b → at + 20 ≤ length b
room_live l p at b h fits = omega (arith, ap length (live_record l p h), record_length l p)

pub room_animal : (at : ℕ) (b : List ℕ) → at + 20 ≤ length b → at + 8 ≤ length b
room_animal at b h = omega arith

module _ (x : ℕ) {at a₁ : ℕ} {b b₁ : List ℕ} (f : Put (bytes 8 x) at b b₁ a₁) where
  pub room_permission : at + 20 ≤ length b → a₁ + 4 ≤ length b₁
  room_permission h = omega (arith, f.next, bytes_length 8 x, put_length f)

  pub room_stamp : (y : ℕ) {b₂ : List ℕ} {a₂ : ℕ} → Put (bytes 4 y) a₁ b₁ b₂ a₂ → at + 20 ≤ length b → a₂ + 8 ≤ length b₂
  room_stamp y g h = omega (arith, f.next, bytes_length 8 x, put_length f, g.next, bytes_length 4 y, put_length g)

-- the record of a live place: three numbers one after the other
pub put_live : (l : List ℕ) (p : ℕ) {b b₁ b₂ b₃ : List ℕ} {at a₁ a₂ a₃ : ℕ} → (animal l p ≡ 0 → ⊥)
    → Put (bytes 8 (animal l p)) at b b₁ a₁ → Put (bytes 4 (permission l p % 2 ^ 32)) a₁ b₁ b₂ a₂ → Put (bytes 8 (stamp l p)) a₂ b₂ b₃ a₃
    → Put (place_record l p) at b b₃ a₃
unfolding list_record
put_live l p h f g k = rw (live_record l p h) (put_both f (put_both g k))

pub put_vacant : (l : List ℕ) (p : ℕ) {b : List ℕ} {at : ℕ} → animal l p ≡ 0 → Put (place_record l p) at b b at
put_vacant l p h = rw (vacant_record l p h) (record { bytes_put = refl; next = omega arith })

-- the loop over the places: what is still to be put from here on comes to the whole list
pub record Putting (l : List ℕ) (m : ℕ) (before buffer : List ℕ) (at p : ℕ) : Type 0 where
  pub within : p ≤ m
  pub same : length buffer ≡ length before
  pub room : at + length (records l (range p (m - p))) ≤ length buffer
  pub rest : sets buffer at (records l (range p (m - p))) ≡ sets before 0 (records l (range 0 m))

records_from : (l : List ℕ) (m p : ℕ) → p < m → records l (range p (m - p)) ≡ place_record l p ++ records l (range (p + 1) (m - (p + 1)))
unfolding records place_record
records_from l m p h = rw (places_from m p h)

pub putting_room : {l b₀ b : List ℕ} {m at p : ℕ} → p < m → Putting l m b₀ b at p → at + length (place_record l p) ≤ length b
putting_room {l} {b₀} {b} {m} {at} {p} h i =
    omega (arith, i.room, ap length (records_from l m p h), length-append (place_record l p) (records l (range (p + 1) (m - (p + 1)))))

pub putting_more : {l b₀ b b' : List ℕ} {m at at' p : ℕ} → p < m → Putting l m b₀ b at p → Put (place_record l p) at b b' at'
    → Putting l m b₀ b' at' (p + 1)
putting_more {l} {b₀} {b} {b'} {m} {at} {at'} {p} h i f =
    let more : List ℕ = records l (range (p + 1) (m - (p + 1))) in
    record {
      within = omega arith;
      same = put_length f ∙ i.same;
      room = omega (arith, i.room, f.next, put_length f, ap length (records_from l m p h), length-append (place_record l p) more);
      rest = rw (f.bytes_put, f.next) (sets_both (place_record l p) more b at ∙ ap (sets b at) (sym (records_from l m p h)) ∙ i.rest);
    }

pub putting_done : {l b₀ b : List ℕ} {m at p : ℕ} → m ≤ p → length (records l (range 0 m)) ≤ length b₀ → Putting l m b₀ b at p
    → b ≡ records l (range 0 m) ++ drop (length (records l (range 0 m))) b₀
unfolding records
putting_done {l} {b₀} {b} {m} {at} {p} h fits i =
    let e : sets b at (records l (range p (m - p))) ≡ b = rw (no_places m p h) in
    sym e ∙ i.rest ∙ sets-eq (records l (range 0 m)) b₀ 0 (omega arith) ∙ rw zero-add

-- the list's answer is decided by the lengths, and then by the room for 20 bytes a live place
module _ (W : Ways) (m : Mem) (b : List ℕ) where
  answer_is : {g : Bool} → right_lengths W m ≡ g
      → list_answer W m b ≡ (choose g (tell (listing m.items (length m.items / 4) (length b))) (refuse 1)).answer
  answer_is w = ap (λ (g : Bool). (choose g (tell (listing m.items (length m.items / 4) (length b))) (refuse 1)).answer) w

  listed_as : {a : Answer} {b' : List ℕ} {r : Result ℕ Refusal} → list_answer W m b ≡ a → said_listing r b' ≡ a → b' ≡ listed_into a b → ListedAs W m b b' r
  listed_as e f g = record { told = f ∙ sym e; left = g ∙ ap (λ (a : Answer). listed_into a b) (sym e) }

listing_short : (l : List ℕ) (M size : ℕ) → size < 20 * live_count l (range 0 M) → listing l M size ≡ refused 9
unfolding listing
listing_short l M size h = rw (lt-ltb size (20 * live_count l (range 0 M)) h)

listing_whole : (l : List ℕ) (M size : ℕ) → 20 * live_count l (range 0 M) ≤ size
    → listing l M size ≡ listed (live_count l (range 0 M)) (records l (range 0 M))
unfolding listing
listing_whole l M size h = rw (le-ltb size (20 * live_count l (range 0 M)) h)

-- the list itself, by the ways through the code
module _ (W : Ways) (s v l b : List ℕ) {good : Bool} (e : good ≡ good_lengths W (length s) (length v) (length l)) where
  module _ (t : not good ≡ false) where
    right : right_lengths W (mem s v l) ≡ true
    right = sym e ∙ not-false good t

    abbrev M : ℕ
    M = length l / 4

    module _ {n : ℕ} (c : n ≡ live_count l (range 0 M)) where
      pub list_few : n ≤ 4096
      list_few = omega (arith, c, count_most l M 0, (fit W (mem s v l) right).few)

      pub list_short : length b < 20 * n → ListedAs W (mem s v l) b b (Err refusal.ShortBuffer)
      list_short h =
          listed_as W (mem s v l) b (answer_is W (mem s v l) b right ∙ listing_short l M (length b) (omega (arith, c))) refl refl

      module _ (h : 20 * n ≤ length b) where
        pub list_room : length (records l (range 0 M)) ≤ length b
        list_room = omega (arith, c, records_length l (range 0 M))

        pub list_written : {b' : List ℕ} → b' ≡ records l (range 0 M) ++ drop (length (records l (range 0 M))) b
            → ListedAs W (mem s v l) b b' (Ok n)
        list_written {b'} f =
            let front : take (20 * n) b' ≡ records l (range 0 M) =
            ap (take (20 * n)) f
            ∙ take_at (records l (range 0 M)) (drop (length (records l (range 0 M))) b) (20 * n) (omega (arith, c, records_length l (range 0 M))) in
            listed_as W (mem s v l) b
            (answer_is W (mem s v l) b right ∙ listing_whole l M (length b) (omega (arith, c)))
            (ap₂ listed c front)
            f
