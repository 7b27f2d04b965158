-- What it is to put bytes into a buffer. Assumes nothing.
use Rattle.std.specs.Prelude.{ℕ, ◌+◌, ◌≡◌, List, length}
use Rattle.std.proofs.lemmas.List.Edits.{sets}

-- some bytes put into a buffer from a position on, every other byte as it was, and the position behind them
pub record Put (bs : List ℕ) (at : ℕ) (before after : List ℕ) (r : ℕ) : Type 0 where
  pub bytes_put : after ≡ sets before at bs
  pub next : r ≡ at + length bs
