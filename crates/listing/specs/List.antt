-- What the list promises, and what its parts do to the buffer. Assumes nothing.
use Rattle.std.specs.Prelude.{ℕ, ◌≡◌, List, [], length, Result}
use Rattle.model.specs.Choice.{choose}
use Rattle.model.specs.Memory.{Mem, live}
use Rattle.model.specs.Shape.{Ways}
use Rattle.model.specs.Answers.{Answer}
use Rattle.model.specs.Listing.{list_record}
use Rattle.model.specs.Lent.{lent_call}
use Rattle.model.specs.Said.{said_listing, listed_into}
use Rattle.model.specs.declared.Refusal.{Refusal}
use Rattle.model.specs.Calling.{write_list}

-- the answer to the list on lent memory, for a buffer
abbrev pub list_answer : Ways → Mem → List ℕ → Answer
list_answer W m before = (lent_call W m (write_list (length before))).answer

-- the list as the code leaves it: its result with the buffer afterwards says that answer, and every byte of the buffer is as that answer leaves it
pub record ListedAs (W : Ways) (m : Mem) (before after : List ℕ) (r : Result ℕ Refusal) : Type 0 where
  pub told : said_listing r after ≡ list_answer W m before
  pub left : after ≡ listed_into (list_answer W m before) before

-- what the list says of place p: its record if it is live, else nothing
unfoldable pub place_record : List ℕ → ℕ → List ℕ
place_record l p = choose (live l p) (list_record l p) []
