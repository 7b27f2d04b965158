-- Where there is room, the source slot of every move lies in the table, for any ways. Assumes nothing.
use Prim.Native.Nat.{ℕ, zero, suc, ◌<◌}
use native.Mathlib.Omega.{arith}
use mathlib.Core.List.{List, [], ◌∷◌, ◌++◌}
use lib.ListN.{length, get_or, length-set}
use Rattle.model.specs.Shape.{Layout, Ways}
use Rattle.model.specs.Moves.{Move, Run, moved, records_of}
use Rattle.model.specs.Visits.{search_moves}
use Rattle.model.specs.declared.MoveRecord.{MoveRecord}
use Rattle.model.proofs.Hash.{other_lt}
use Rattle.model.proofs.ListLaws.{inside_held}
use Rattle.model.proofs.Search.{search_some}
use Rattle.paths.specs.declared.Found.{Found}
use Rattle.paths.specs.Buckets.{layout_of}
use Rattle.paths.proofs.Visits.{home_in}
use Rattle.searching.specs.Search.{Asked}
use Rattle.searching.proofs.Endings.{RoomFound}

-- the source slots of legal moves, as records
run_inside : (S : Layout) (T U : List ℕ) (ms : List Move) (rest : List MoveRecord) (i : ℕ) (d : MoveRecord) → Run S U ms → i < length ms
    → (get_or (records_of T ms ++ rest) i d).from < length U
run_inside S T U [] rest i d r h = absurd (omega arith)
run_inside S T U (m ∷ ms) rest zero d r h = inside_held U m.from r.0.held
run_inside S T U (m ∷ ms) rest (suc i) d r h = simp length-set at (run_inside S T (moved U m) ms rest i d r.1 (omega arith))

pub sources_in : {W : Ways} {n m : ℕ} {T : List ℕ} {b c : ℕ} {r : Found} → Asked W T n b c → RoomFound W n m T b c r
    → (i : ℕ) → i < r.count → (d : MoveRecord) → (get_or r.moves i d).from < length T
sources_in {W} {n} {T = T} {b} {c} ask f i h d =
    let S = layout_of W n in
    let ms = search_moves S T (b ∷ c ∷ []) W.reach in
    let homes = home_in W n T b c ask.size ask.first_in ask.second_in in
    let s = search_some S T n ask.long (other_lt ask.size) (b ∷ c ∷ []) homes W.reach f.inside in
    rw f.moves_are (run_inside S T T ms _ i d s.run (rw f.count_is at h))
