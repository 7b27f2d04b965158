-- Two cases of the code's answers that say the same are the same. Assumes nothing.
use Prim.Native.Nat.{ℕ}
use mathlib.Core.Path.{◌≡◌, refl, sym, ap, ◌∙◌}
use lib.IntN.{pos}
use Rattle.std.specs.Prelude.{Option, Some, None, Result, Ok, Err, unwrap_or}
use Rattle.model.specs.Choice.{choose}
use Rattle.model.specs.Answers.{Answer, absent, ahead, at_place, deleted, evicted, fresh, is, listed, old, paper, refused, started, stored, planned, move_made, entry_made, value}
use Rattle.model.specs.Said.{refusal_number, refusal_of, said_by, said_deleting, said_entry, said_finding, said_move, said_reading, said_setting, said_starting}
use Rattle.model.specs.declared.Refusal.{Refusal}
use Rattle.model.specs.declared.Refusal.TheVariants as refusal
use Rattle.model.specs.declared.Reading.{Reading}
use Rattle.model.specs.declared.Reading.TheVariants as reading
use Rattle.model.specs.declared.Stored.{Stored}

pub refusal_back : (r : Refusal) → refusal_of (refusal_number r) ≡ r
refusal_back refusal.Lengths = refl
refusal_back refusal.NoAnimal = refl
refusal_back refusal.Minutes = refl
refusal_back refusal.Damaged = refl
refusal_back refusal.NoPlace = refl
refusal_back refusal.NoRoom = refl
refusal_back refusal.Absent = refl
refusal_back refusal.Busy = refl
refusal_back refusal.ShortBuffer = refl
refusal_back refusal.NoVictim = refl
refusal_back refusal.Late = refl
refusal_back refusal.NoStep = refl

module _ {A : Type 0} where
  -- an answer read back: a refusal by its number, a success by g
  unsaid : (Answer → A) → Answer → Result A Refusal
  unsaid g (refused n) = Err (refusal_of n)
  unsaid g absent = Ok (g absent)
  unsaid g (fresh v z) = Ok (g (fresh v z))
  unsaid g (old z) = Ok (g (old z))
  unsaid g ahead = Ok (g ahead)
  unsaid g (stored v n) = Ok (g (stored v n))
  unsaid g deleted = Ok (g deleted)
  unsaid g (evicted x n h) = Ok (g (evicted x n h))
  unsaid g started = Ok (g started)
  unsaid g (listed n bs) = Ok (g (listed n bs))
  unsaid g (at_place p) = Ok (g (at_place p))
  unsaid g (planned vs p i) = Ok (g (planned vs p i))
  unsaid g move_made = Ok (g move_made)
  unsaid g entry_made = Ok (g entry_made)

  -- where g reads every success back, what says the same is the same
  one : (f : A → Answer) (g : Answer → A) → ((a : A) → unsaid g (f a) ≡ Ok a)
      → (r r' : Result A Refusal) → said_by f r ≡ said_by f r' → r ≡ r'
  unfolding unsaid
  one f g back r r' e = sym (all r) ∙ ap (unsaid g) e ∙ all r'
    where
      all : (q : Result A Refusal) → unsaid g (said_by f q) ≡ q
      all (Ok a) = back a
      all (Err k) = ap Err (refusal_back k)

reading_from : Answer → Reading
reading_from a =
    choose (is 1 a) (reading.Fresh (value a 1) (unwrap_or (paper a).signed (pos 0)))
    (choose (is 2 a) (reading.Old (unwrap_or (paper a).signed (pos 0))) (choose (is 3 a) reading.Ahead reading.Absent))

pub reading_one : (r r' : Result Reading Refusal) → said_reading r ≡ said_reading r' → r ≡ r'
unfolding unsaid reading_from
reading_one = one _ reading_from
    (elim [ reading.Absent ↦ refl | reading.Fresh v z ↦ refl | reading.Old z ↦ refl | reading.Ahead ↦ refl ])

pub finding_one : (r r' : Result (Option ℕ) Refusal) → said_finding r ≡ said_finding r' → r ≡ r'
unfolding unsaid
finding_one = one _ (λ a. choose (is 9 a) (Some (value a 1)) None) (elim [ None ↦ refl | Some p ↦ refl ])

pub setting_one : (r r' : Result Stored Refusal) → said_setting r ≡ said_setting r' → r ≡ r'
unfolding unsaid
setting_one = one _ (λ a. record { visits = value a 1; moves = value a 2 }) (λ b. refl)

pub deleting_one : (r r' : Result Unit Refusal) → said_deleting r ≡ said_deleting r' → r ≡ r'
unfolding unsaid
deleting_one = one _ (λ a. tt) (λ u. refl)

pub starting_one : (r r' : Result Unit Refusal) → said_starting r ≡ said_starting r' → r ≡ r'
unfolding unsaid
starting_one = one _ (λ a. tt) (λ u. refl)

pub move_one : (r r' : Result Unit Refusal) → said_move r ≡ said_move r' → r ≡ r'
unfolding unsaid
move_one = one _ (λ a. tt) (λ u. refl)

pub entry_one : (r r' : Result Unit Refusal) → said_entry r ≡ said_entry r' → r ≡ r'
unfolding unsaid
entry_one = one _ (λ a. tt) (λ u. refl)
