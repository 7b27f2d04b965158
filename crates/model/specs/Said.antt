-- What each case of the code's answers says: one of document 01's answers, and so the paper's number and values. Assumes nothing.
use Rattle.std.specs.Prelude.{ℕ, ◌*◌, Option, Some, None, Result, Ok, Err, List, ◌++◌, length, take, drop, eqb}
use Rattle.model.specs.Choice.{choose}
use Rattle.model.specs.Moves.{four_records}
use Rattle.model.specs.Answers.{is, paper, value, moves_told, Answer, refused, absent, fresh, old, ahead, stored, deleted, evicted, started, listed, at_place, planned, move_made, entry_made}
use Rattle.model.specs.declared.Refusal.{Refusal}
use Rattle.model.specs.declared.Refusal.TheVariants as refusal
use Rattle.model.specs.declared.Reading.{Reading}
use Rattle.model.specs.declared.Reading.TheVariants as reading
use Rattle.model.specs.declared.Stored.{Stored}
use Rattle.model.specs.declared.Plan.{Plan}
use Rattle.model.specs.declared.Evicted.{Evicted}

-- the number of a refusal
abbrev pub refusal_number : Refusal → ℕ
refusal_number refusal.Lengths = 1
refusal_number refusal.NoAnimal = 2
refusal_number refusal.Minutes = 3
refusal_number refusal.Damaged = 4
refusal_number refusal.NoPlace = 5
refusal_number refusal.NoRoom = 6
refusal_number refusal.Absent = 7
refusal_number refusal.Busy = 8
refusal_number refusal.ShortBuffer = 9
refusal_number refusal.NoVictim = 10
refusal_number refusal.Late = 11
refusal_number refusal.NoStep = 12

-- and the refusal of such a number: the last stands for any other
abbrev pub refusal_of : ℕ → Refusal
refusal_of n =
    choose (eqb n 1) refusal.Lengths (choose (eqb n 2) refusal.NoAnimal (choose (eqb n 3) refusal.Minutes
    (choose (eqb n 4) refusal.Damaged (choose (eqb n 5) refusal.NoPlace (choose (eqb n 6) refusal.NoRoom
    (choose (eqb n 7) refusal.Absent (choose (eqb n 8) refusal.Busy (choose (eqb n 9) refusal.ShortBuffer
    (choose (eqb n 10) refusal.NoVictim (choose (eqb n 11) refusal.Late refusal.NoStep))))))))))

-- a call's answer, by what a success says and by the number of what refuses
abbrev pub said_with : {A E : Type 0} → (E → ℕ) → (A → Answer) → Result A E → Answer
said_with n f (Ok a) = f a
said_with n f (Err e) = refused (n e)

-- and by the number of a refusal
abbrev pub said_by : {A : Type 0} → (A → Answer) → Result A Refusal → Answer
said_by f r = said_with refusal_number f r

-- read, serve and the plain engine
abbrev pub read_as : Reading → Answer
read_as reading.Absent = absent
read_as (reading.Fresh v z) = fresh v z
read_as (reading.Old z) = old z
read_as reading.Ahead = ahead

abbrev pub said_reading : Result Reading Refusal → Answer
said_reading r = said_by read_as r

-- find
abbrev pub found_at : Option ℕ → Answer
found_at None = absent
found_at (Some p) = at_place p

abbrev pub said_finding : Result (Option ℕ) Refusal → Answer
said_finding r = said_by found_at r

-- set
abbrev pub stored_as : Stored → Answer
stored_as b = stored b.visits b.moves

abbrev pub said_setting : Result Stored Refusal → Answer
said_setting r = said_by stored_as r

-- plan, from the answer to the code's
abbrev pub plan_of : Answer → Result Plan Refusal
plan_of a =
    choose (is 10 a)
    (Ok
    (record {
      moves = four_records (moves_told a);
      count = length (moves_told a);
      place = value a 1;
      slot = value a 2;
    }))
    (Err (refusal_of (paper a).number))

-- and back: what such a plan says
abbrev pub planned_as : Plan → Answer
planned_as b = planned (take b.count b.moves) b.place b.slot

abbrev pub said_plan : Result Plan Refusal → Answer
said_plan r = said_by planned_as r

-- a step: a move, or the final store
abbrev pub said_move : Result Unit Refusal → Answer
said_move r = said_by (λ _. move_made) r

abbrev pub said_entry : Result Unit Refusal → Answer
said_entry r = said_by (λ _. entry_made) r

-- delete
abbrev pub said_deleting : Result Unit Refusal → Answer
said_deleting r = said_by (λ _. deleted) r

-- evict, with the hand that came back
abbrev pub evicted_as : ℕ → Evicted → Answer
evicted_as h b = evicted b.victim b.looked h

abbrev pub said_evicting : Result Evicted Refusal → ℕ → Answer
said_evicting r h = said_by (evicted_as h) r

-- the list, with the buffer afterwards: 20 bytes a record
abbrev pub listed_as : List ℕ → ℕ → Answer
listed_as buffer n = listed n (take (20 * n) buffer)

abbrev pub said_listing : Result ℕ Refusal → List ℕ → Answer
said_listing r buffer = said_by (listed_as buffer) r

-- fresh
abbrev pub said_starting : Result Unit Refusal → Answer
said_starting r = said_by (λ _. started) r

-- the buffer after the list: its bytes in front, and what stood behind them as it was
abbrev pub listed_into : Answer → List ℕ → List ℕ
listed_into a buffer = choose (is 8 a) (drop 2 (paper a).values ++ drop (length (drop 2 (paper a).values)) buffer) buffer
