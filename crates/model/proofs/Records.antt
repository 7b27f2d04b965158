-- Records of moves: as many as the moves, which are read back off them, and they off their numbers. Assumes nothing.
use Prim.Native.Nat.{ℕ, suc}
use mathlib.Core.Path.{◌≡◌, refl, ap}
use mathlib.Core.List.{List, [], ◌∷◌}
use lib.ListN.{length}
use Rattle.model.specs.Moves.{Move, as_moves, records_of}
use Rattle.model.specs.Answers.{moves_from, record_numbers}
use Rattle.model.specs.declared.MoveRecord.{MoveRecord}

pub length_records : (T : List ℕ) (ms : List Move) → length (records_of T ms) ≡ length ms
length_records T [] = refl
length_records T (v ∷ ms) = ap suc (length_records T ms)

pub moves_back : (T : List ℕ) (ms : List Move) → as_moves (records_of T ms) ≡ ms
moves_back T [] = refl
moves_back T (v ∷ ms) = ap (λ l. v ∷ l) (moves_back T ms)

pub numbers_back : (vs : List MoveRecord) → moves_from (record_numbers vs) ≡ vs
numbers_back [] = refl
numbers_back (v ∷ vs) = ap (λ l. v ∷ l) (numbers_back vs)
