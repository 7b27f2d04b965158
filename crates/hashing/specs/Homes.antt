-- What the code's four numbers of an animal are. Assumes nothing.
use Rattle.std.specs.Prelude.{ℕ, ◌%◌, min, ◌≡◌}
use Rattle.model.specs.Hash.{hash, tag_from, other_bucket}
use Rattle.hashing.specs.declared.Homes.{Homes}

-- the tag, the two buckets and the counter of animal x, among n buckets and v counters
pub record HomesAre (n v x : ℕ) (r : Homes) : Type 0 where
  pub tag_is : r.tag ≡ tag_from (hash x)
  pub first_is : r.first ≡ hash x % n
  pub second_is : r.second ≡ other_bucket n (tag_from (hash x)) (hash x % n)
  pub counter_is : r.counter ≡ min (hash x % n) (other_bucket n (tag_from (hash x)) (hash x % n)) % v
