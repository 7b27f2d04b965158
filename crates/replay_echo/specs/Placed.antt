-- What the code's steps along a row say. Assumes nothing.
use Rattle.std.specs.Prelude.{ℕ, ◌+◌, ◌≤◌, ◌≡◌, List}
use Rattle.buffer.specs.Put.{Put}
use Rattle.replay_echo.specs.Echo.{in_place, behind}
use Rattle.replay_echo.specs.declared.Filled.{Filled}

-- a byte of a row is put
pub record One (xs : List ℕ) (i b at : ℕ) (before after : List ℕ) (r : Filled) : Type 0 where
  pub put : Put (in_place xs i b) at before after r.next
  pub near : r.next ≤ at + 20
  pub index : r.index ≡ behind i b
