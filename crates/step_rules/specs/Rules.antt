-- The tests of a step, by the words that it looks at. Assumes nothing.
use Rattle.std.specs.Prelude.{ℕ, ◌/◌, Bool, not, ◌&&◌, [], ◌∷◌, ltb, eqb}
use Rattle.model.specs.Choice.{one_of}
use Rattle.model.specs.Memory.{tag, damaged}
use Rattle.model.specs.Hash.{other_bucket}
use Rattle.model.specs.declared.MoveRecord.{MoveRecord}

-- a move, by the word w in its source and the word d in its destination, in a run of so many slots of n buckets, among m places
abbrev pub moves_by : ℕ → ℕ → ℕ → ℕ → ℕ → ℕ → MoveRecord → Bool
moves_by ways long n m w d v =
    ltb v.from long && (ltb v.to long
    && (not (eqb w 0) && (not (damaged m w)
    && (eqb (tag w) v.tag && (eqb d 0
    && eqb (v.to / ways) (other_bucket n (tag w) (v.from / ways)))))))

-- the final store, by the animal number of its place and the word w in slot i, behind the tests that the animal is absent and the place
-- is there
abbrev pub enters_by : ℕ → ℕ → ℕ → ℕ → ℕ → ℕ → ℕ → Bool
enters_by ways long first second number w i =
    ltb i long && (eqb number 0 && (eqb w 0 && one_of (i / ways) (first ∷ second ∷ [])))
