-- What the search comes to, in the model's words, for any ways. Assumes nothing.
use Rattle.std.specs.Prelude.{ℕ, ◌*◌, ◌<◌, ◌≡◌, Bool, List, [], ◌∷◌, length, eqb, Result, Ok, Err}
use Rattle.model.specs.Choice.{choose}
use Rattle.model.specs.Hash.{Size}
use Rattle.model.specs.Shape.{Ways}
use Rattle.model.specs.Visits.{meets_damage, search_moves, stop, stop_slot, visit_list}
use Rattle.model.specs.declared.Refusal.{Refusal}
use Rattle.model.specs.declared.Refusal.TheVariants.{Damaged, NoRoom}
use Rattle.paths.specs.declared.Found.{Found}
use Rattle.paths.specs.Buckets.{layout_of}
use Rattle.paths.specs.Path.{room_at}

-- what the search takes: a good number n of buckets, their slots T, and two of the buckets
pub record Asked (W : Ways) (T : List ℕ) (n b c : ℕ) : Type 0 where
  pub size : Size n
  pub long : length T ≡ n * W.ways
  pub first_in : b < n
  pub second_in : c < n

-- the search of n buckets with the slots T, from the buckets b and c
module _ (W : Ways) (n : ℕ) (T : List ℕ) (b c : ℕ) where
  -- it comes to the end of the visit list
  abbrev pub at_end : Bool
  at_end =
      eqb (stop (layout_of W n) T (b ∷ c ∷ []) W.reach) (length (visit_list (layout_of W n) T (b ∷ c ∷ []) W.reach))

  -- it stops at a free slot: the visit's position counted from 1, the moves back, and the slot that is free after them
  abbrev pub room_there : Found
  room_there =
      room_at T (stop (layout_of W n) T (b ∷ c ∷ []) W.reach) (stop_slot (layout_of W n) T (b ∷ c ∷ []) W.reach)
      (search_moves (layout_of W n) T (b ∷ c ∷ []) W.reach)

module _ (W : Ways) (n m : ℕ) (T : List ℕ) (b c : ℕ) where
  -- it meets a word that is damaged among m places
  abbrev pub meets_damage_in : Bool
  meets_damage_in = meets_damage (layout_of W n) T (b ∷ c ∷ []) m W.reach

  -- what it gives back, with nothing left open: damage comes first, then no room
  pub record FoundIs (r : Result Found Refusal) : Type 0 where
    pub found_is : r ≡ choose meets_damage_in (Err Damaged) (choose (at_end W n T b c) (Err NoRoom) (Ok (room_there W n T b c)))
