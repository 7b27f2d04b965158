-- What each ending of the search says, for any ways. Assumes nothing.
use Prim.Native.Nat.{ℕ, ◌+◌, ◌<◌, ◌≤◌}
use native.Mathlib.Omega.{arith}
use mathlib.Core.Path.{◌≡◌, refl, sym, ap, ◌∙◌, subst}
use mathlib.Core.Bool.{true, false}
use Rattle.std.specs.Prelude.{Result, Ok, Err}
use mathlib.Core.List.{List, [], ◌∷◌}
use lib.ListN.{length, get_or, take}
use lib.Seq.{take_at}
use borrow.Author.Tests.{eqb-false}
use Rattle.model.specs.Choice.{choose}
use Rattle.model.specs.Shape.{Ways}
use Rattle.model.specs.Moves.{Move, as_moves, records_of}
use Rattle.model.specs.Visits.{free_slot, lands, search_moves, stop, stop_slot}
use Rattle.model.proofs.Search.{length_climb, stop_le}
use Rattle.model.proofs.ListLaws.{bool}
use Rattle.model.specs.declared.Refusal.{Refusal}
use Rattle.model.specs.declared.Refusal.TheVariants.{Damaged, NoRoom}
use Rattle.paths.specs.declared.Found.{Found}
use Rattle.paths.specs.Buckets.{layout_of}
use Rattle.paths.specs.Path.{path_records}
use Rattle.paths.proofs.Visits.{visits_of}
use Rattle.model.proofs.Records.{length_records, moves_back}
use Rattle.searching.specs.Search.{FoundIs, at_end, meets_damage_in, room_there}

module _ (W : Ways) (n m : ℕ) (T : List ℕ) (b c : ℕ) where
  abbrev stops : ℕ
  stops = stop (layout_of W n) T (b ∷ c ∷ []) W.reach

  abbrev the_moves : List Move
  the_moves = search_moves (layout_of W n) T (b ∷ c ∷ []) W.reach

  -- room was found
  pub record RoomFound (r : Found) : Type 0 where
    pub undamaged : meets_damage_in W n m T b c ≡ false
    pub not_at_end : at_end W n T b c ≡ false
    pub inside : stops < length (visits_of W n T b c)
    pub visits_are : r.visits ≡ stops + 1
    pub count_is : r.count ≡ length the_moves
    pub few_moves : r.count ≤ W.reach
    pub moves_are : r.moves ≡ path_records T the_moves
    pub first_moves : as_moves (take r.count r.moves) ≡ the_moves
    pub slot_is : r.slot ≡ lands (stop_slot (layout_of W n) T (b ∷ c ∷ []) W.reach) the_moves

  room_so : meets_damage_in W n m T b c ≡ false → at_end W n T b c ≡ false → RoomFound (room_there W n T b c)
  room_so d e =
      let ne = eqb-false stops (length (visits_of W n T b c)) e in
      let in_list : stops < length (visits_of W n T b c) = omega (arith, stop_le (layout_of W n) T (visits_of W n T b c)) in
      let first : take (length the_moves) (path_records T the_moves) ≡ records_of T the_moves
      = take_at (records_of T the_moves) _ (length the_moves) (length_records T the_moves) in
      record {
        undamaged = d;
        not_at_end = e;
        inside = in_list;
        visits_are = refl;
        count_is = refl;
        few_moves = length_climb (layout_of W n) (visits_of W n T b c) 2 W.reach stops (free_slot (layout_of W n) T (get_or (visits_of W n T b c) stops 0));
        moves_are = refl;
        first_moves = ap as_moves first ∙ moves_back T the_moves;
        slot_is = refl;
      }

  -- the three endings
  pub data Ends : Result Found Refusal → Type 0 where
    at_damage : meets_damage_in W n m T b c ≡ true → Ends (Err Damaged)
    at_last : meets_damage_in W n m T b c ≡ false → at_end W n T b c ≡ true → Ends (Err NoRoom)
    at_room : {r : Found} → RoomFound r → Ends (Ok r)

  pub ends_so : {r : Result Found Refusal} → FoundIs W n m T b c r → Ends r
  ends_so f =
      subst Ends (sym f.found_is)
      (bool (λ d. Ends (choose d (Err Damaged) (choose (at_end W n T b c) (Err NoRoom) (Ok (room_there W n T b c))))) (meets_damage_in W n m T b c) at_damage
      λ d. bool (λ e. Ends (choose e (Err NoRoom) (Ok (room_there W n T b c)))) (at_end W n T b c) (at_last d) λ e. at_room (room_so d e))

-- the contract leaves nothing open
pub found_same : {W : Ways} {n m : ℕ} {T : List ℕ} {b c : ℕ} {r r' : Result Found Refusal} → FoundIs W n m T b c r → FoundIs W n m T b c r' → r ≡ r'
found_same f g = f.found_is ∙ sym g.found_is
