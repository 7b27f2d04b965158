-- What the moves take. Assumes nothing.
use Rattle.std.specs.Prelude.{ℕ, ◌^◌, ◌<◌, ◌≤◌, List, length, get_or}
use Rattle.model.specs.Hash.{Size}
use Rattle.model.specs.declared.MoveRecord.{MoveRecord}

-- a move can be made: n buckets, v counters, 2^shift slots a bucket, and a source slot that fits 32 bits
pub record Movable (n v shift from : ℕ) : Type 0 where
  pub size : Size n
  pub some : 0 < v
  pub few : v ≤ 1024
  pub narrow : shift < 32
  pub inside : from < 2 ^ 32

-- the moves can be made
pub record MovesIn (n v shift : ℕ) (ms : List MoveRecord) : Type 0 where
  pub size : Size n
  pub some : 0 < v
  pub few : v ≤ 1024
  pub narrow : shift < 32
  pub sources : (j : ℕ) → j < length ms → (d : MoveRecord) → (get_or ms j d).from < 2 ^ 32
