-- The plain row of places: the same calls over four words a place, with no slots, no tags, no hash and no counters. It is written
-- apart from the table: its own walk, its own judgement of age, its own CLOCK and its own list. Assumes nothing.
use Rattle.std.specs.Prelude.{ℕ, zero, suc, ◌+◌, ◌-◌, ◌*◌, ◌/◌, ◌%◌, ◌^◌, Bool, true, false, not, ◌&&◌, List, [], ◌∷◌, ◌++◌, set, replicate, ℤ, pos, neg_ℤ, ◌-ℤ◌, ltb, leb, eqb, Option, Some, None}
use Rattle.std.specs.Int.Signed.{lt_z}
use Rattle.model.specs.Choice.{choose, one_of}
use Rattle.model.specs.Memory.{animal, permission, stamp, recent}
use Rattle.model.specs.Calling.{Call, read, serve, find, set_animal, delete, evict, write_list, plan_set, step_move, step_enter, Event, make_fresh, did}
use Rattle.model.specs.Answers.{Answer, refused, absent, fresh, old, ahead, stored, deleted, evicted, started, listed, at_place, planned, move_made, entry_made, is, paper, value, says_fresh}
use Rattle.model.specs.declared.Grant.{Grant}

-- what a call on a row comes to: its answer and the row afterwards
pub record Row : Type 0 where
  pub answer : Answer
  pub words : List ℕ

-- an answer that leaves the row as it is
abbrev pub stay : List ℕ → Answer → Row
stay l a = record { answer = a; words = l }

-- walk over n places from p on to the first whose number is x; x = 0 looks for a vacant one
unfoldable pub walk_to : List ℕ → ℕ → ℕ → ℕ → Option ℕ
walk_to l x zero p = None
walk_to l x (suc n) p = choose (eqb (animal l p) x) (Some p) (walk_to l x n (suc p))

-- the four words of place p are written; the last three; the recent word
abbrev pub fill : List ℕ → ℕ → ℕ → ℕ → ℕ → ℕ → List ℕ
fill l p a b c d = set (set (set (set l (4 * p) a) (4 * p + 1) b) (4 * p + 2) c) (4 * p + 3) d

abbrev pub renew : List ℕ → ℕ → ℕ → ℕ → List ℕ
renew l p b c = set (set (set l (4 * p + 1) b) (4 * p + 2) c) (4 * p + 3) 1

abbrev pub note : List ℕ → ℕ → ℕ → List ℕ
note l p mark = set l (4 * p + 3) mark

-- a signed number, or the least one that is told, -2^62
abbrev pub at_least : ℤ → ℤ
at_least z = choose (lt_z z (neg_ℤ (pos (2 ^ 62)))) (neg_ℤ (pos (2 ^ 62))) z

-- how long is left of a permission with stamp s, with a sign throughout: the limit minus the age, which is now minus s
unfoldable pub row_left : ℕ → ℕ → ℕ → ℤ
row_left limit now s = at_least (pos limit -ℤ (pos now -ℤ pos s))

-- a permission v with stamp s: with the mark 2^64 - 1 it is old, with -2^62; else ahead, or old, or fresh, by the age
unfoldable pub row_says : ℕ → ℕ → ℕ → ℕ → Answer
row_says limit now v s =
    choose (eqb s (2 ^ 64 - 1)) (old (neg_ℤ (pos (2 ^ 62))))
    (choose (ltb now s) ahead (choose (ltb limit (now - s)) (old (row_left limit now s)) (fresh v (row_left limit now s))))

-- CLOCK as document 01 tells it. From the hand p on: skip a vacant place; store 0 in the recent word of a recent one and pass; take
-- the first live one that isn't recent. n places were looked at before, and at most f more are
pub record Turn : Type 0 where
  pub words : List ℕ
  pub victim : ℕ
  pub looked : ℕ

-- the row after the hand passed place p
abbrev pub passed : List ℕ → ℕ → List ℕ
passed l p = choose (eqb (animal l p) 0) l (note l p 0)

unfoldable pub row_clock : ℕ → List ℕ → ℕ → ℕ → ℕ → Option Turn
row_clock M l zero p n = None
row_clock M l (suc f) p n =
    choose (not (eqb (animal l p) 0) && eqb (recent l p) 0) (Some (record { words = l; victim = p; looked = n + 1 }))
    (row_clock M (passed l p) f ((p + 1) % M) (n + 1))

-- byte number i of a number, counting from the low end; and the first n of them from i on
abbrev pub byte : ℕ → ℕ → ℕ
byte x i = x / 256 ^ i % 256

unfoldable pub low_bytes : ℕ → ℕ → ℕ → List ℕ
low_bytes x i zero = []
low_bytes x i (suc n) = byte x i ∷ low_bytes x (suc i) n

-- the live ones of n places from p on: how many, and their 20-byte records one after the other
unfoldable pub row_count : List ℕ → ℕ → ℕ → ℕ
row_count l zero p = 0
row_count l (suc n) p = choose (eqb (animal l p) 0) 0 1 + row_count l n (suc p)

unfoldable pub row_list : List ℕ → ℕ → ℕ → List ℕ
row_list l zero p = []
row_list l (suc n) p =
    choose (eqb (animal l p) 0) []
    (low_bytes (animal l p) 0 8 ++ (low_bytes (permission l p) 0 4 ++ low_bytes (stamp l p) 0 8))
    ++ row_list l n (suc p)

-- M is the number of places
module _ (M : ℕ) where
  -- refusal 2 for number 0, then refusal 3 for a bad time
  abbrev pub row_asked : List ℕ → ℕ → Bool → Row → Row
  row_asked l x bad r = choose (eqb x 0) (stay l (refused 2)) (choose bad (stay l (refused 3)) r)

  abbrev pub row_bad_time : ℕ → ℕ → Bool
  row_bad_time limit now = choose (ltb 10080 limit) true (eqb now (2 ^ 64 - 1))

  -- read, serve and find, at the place where the walk found the animal
  abbrev pub row_read : List ℕ → ℕ → ℕ → Option ℕ → Answer
  row_read l limit now None = absent
  row_read l limit now (Some p) = row_says limit now (permission l p) (stamp l p)

  abbrev pub row_serve : List ℕ → ℕ → ℕ → Option ℕ → Row
  row_serve l limit now None = stay l absent
  row_serve l limit now (Some p) =
      record {
        answer = row_read l limit now (Some p);
        words = choose (says_fresh (row_read l limit now (Some p))) (note l p 1) l;
      }

  abbrev pub row_find : Option ℕ → Answer
  row_find None = absent
  row_find (Some p) = at_place p

  -- refusal 3 of a set: now is 2^64 - 1, or issued later than now
  abbrev pub row_bad_grant : Grant → Bool
  row_bad_grant g = choose (eqb g.minute (2 ^ 64 - 1)) true (ltb g.minute g.issued)

  -- a late list: none is for an entry with the mark; else the held stamp s is later
  abbrev pub row_late : ℕ → Grant → Bool
  row_late s g = choose (eqb s (2 ^ 64 - 1)) false (ltb g.issued s)

  -- set: a row can't know whether the table has room for a new entry, so it is told: `told` is 6 if it has none
  abbrev pub row_new : ℕ → List ℕ → Grant → Option ℕ → Row
  row_new told l g None = stay l (refused 5)
  row_new told l g (Some p) =
      choose (eqb told 6) (stay l (refused 6))
      (record { answer = stored 0 0; words = fill l p g.animal g.permission g.issued 1 })

  abbrev pub row_set : ℕ → List ℕ → Grant → Option ℕ → Row
  row_set told l g None = row_new told l g (walk_to l 0 M 0)
  row_set told l g (Some p) =
      choose (row_late (stamp l p) g) (stay l (refused 11)) (record { answer = stored 0 0; words = renew l p g.permission g.issued })

  -- plan: 12 for an animal that is held; else the place that a set would fill. Moves and slots are no words of a row
  abbrev pub row_plan_new : ℕ → Option ℕ → Answer
  row_plan_new told None = refused 5
  row_plan_new told (Some p) = choose (eqb told 6) (refused 6) (planned [] p 0)

  abbrev pub row_plan : ℕ → List ℕ → Option ℕ → Answer
  row_plan told l None = row_plan_new told (walk_to l 0 M 0)
  row_plan told l (Some p) = refused 12

  -- a move leaves the row alone, and all that it hangs on is the slots: `told` is 12 if it was not made
  abbrev pub row_move : ℕ → Answer
  row_move told = choose (eqb told 12) (refused 12) move_made

  -- the final store fills the planned place: 12 for an animal that is held and for a place that is not there or not vacant, and where
  -- `told` is 12, for the slot
  abbrev pub row_enter : ℕ → List ℕ → Grant → ℕ → Option ℕ → Row
  row_enter told l g p (Some q) = stay l (refused 12)
  row_enter told l g p None =
      choose (leb M p) (stay l (refused 12))
      (choose (not (eqb (animal l p) 0)) (stay l (refused 12))
      (choose (eqb told 12) (stay l (refused 12)) (record { answer = entry_made; words = fill l p g.animal g.permission g.issued 1 })))

  abbrev pub row_delete : List ℕ → Option ℕ → Row
  row_delete l None = stay l (refused 7)
  row_delete l (Some p) = record { answer = deleted; words = fill l p 0 0 0 0 }

  abbrev pub row_evict : List ℕ → Option Turn → Row
  row_evict l None = stay l (refused 10)
  row_evict l (Some t) =
      record {
        answer = evicted (animal l t.victim) t.looked ((t.victim + 1) % M);
        words = fill t.words t.victim 0 0 0 0;
      }

  -- every call on a row
  abbrev pub row_call : ℕ → List ℕ → Call → Row
  row_call told l (read x limit now) =
      row_asked l x (row_bad_time limit now) (stay l (row_read l limit now (walk_to l x M 0)))
  row_call told l (serve x limit now) = row_asked l x (row_bad_time limit now) (row_serve l limit now (walk_to l x M 0))
  row_call told l (find x) = row_asked l x false (stay l (row_find (walk_to l x M 0)))
  row_call told l (set_animal g) =
      row_asked l g.animal (row_bad_grant g) (row_set told l g (walk_to l g.animal M 0))
  row_call told l (delete x) = row_asked l x false (row_delete l (walk_to l x M 0))
  row_call told l (evict hand) =
      choose (leb M hand) (stay l (refused 1))
      (choose (eqb (row_count l M 0) 0) (stay l (refused 7)) (row_evict l (row_clock M l (2 * M) hand 0)))
  row_call told l (write_list size) =
      stay l (choose (ltb size (20 * row_count l M 0)) (refused 9) (listed (row_count l M 0) (row_list l M 0)))
  row_call told l (plan_set g) =
      row_asked l g.animal (row_bad_grant g) (stay l (row_plan told l (walk_to l g.animal M 0)))
  row_call told l (step_move g v) = row_asked l g.animal (row_bad_grant g) (stay l (row_move told))
  row_call told l (step_enter g p i) =
      row_asked l g.animal (row_bad_grant g) (row_enter told l g p (walk_to l g.animal M 0))

  -- with fresh among the calls: every word is 0
  abbrev pub row_event : ℕ → List ℕ → Event → Row
  row_event told l make_fresh = record { answer = started; words = replicate (4 * M) 0 }
  row_event told l (did c) = row_call told l c

-- the exceptions of demand 2: an answer without the search counts and the planned slots; and the refusal that a row can't know, 6 or
-- 12, 0 if it is none
abbrev pub plain : Answer → Answer
plain a = choose (is 4 a) (stored 0 0) (choose (is 10 a) (planned [] (value a 1) 0) a)

abbrev pub beyond : Answer → ℕ
beyond a = choose (one_of (paper a).number (6 ∷ 12 ∷ [])) (paper a).number 0
