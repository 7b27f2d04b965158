-- The rows of the language by name, and what a line means by the row that it follows. Assumes nothing.
use Rattle.std.specs.Prelude.{ℕ, ◌≡◌, ◌<◌, List, Result, Ok, Err, MatchResult}
use Rattle.model.specs.Memory.{Mem}
use Rattle.replay_lines.specs.Reasons.{reason_number}
use Rattle.replay_lines.specs.declared.Reason.{Reason}
use Rattle.replay_answers.specs.Text.{not_understood}
use Rattle.replay_rows.specs.declared.NoRow.{NoRow}
use Rattle.replay_rows.specs.declared.Row.{Row}
use Rattle.replay_rows.specs.declared.Row.TheVariants as row
use Rattle.replay_rows.specs.World.{World, Replied, Reply, world}
use Rattle.replay_rows.specs.Meaning.{meaning, says}

-- the number of a row, from 0 on
abbrev pub row_number : Row → ℕ
row_number row.Serve = 0
row_number row.Read = 1
row_number row.Set = 2
row_number row.Delete = 3
row_number row.Evict = 4
row_number row.CutSet = 5
row_number row.CutDelete = 6
row_number row.CutEvict = 7
row_number row.Hand = 8
row_number row.List = 9
row_number row.PokeSlots = 10
row_number row.PokeCounters = 11
row_number row.PokeItems = 12
row_number row.Dump = 13
row_number row.Fresh = 14
row_number row.Plain = 15
row_number row.Judge = 16
row_number row.Plan = 17
row_number row.Move = 18
row_number row.Enter = 19
row_number row.Blank = 20

-- the row of a number, or that there is none
abbrev pub Numbers : ℕ → Result Row NoRow → Type 0
Numbers n r = MatchResult r (λ k. row_number k ≡ n) (λ e. (e.0 ≡ n) × (20 < n))

-- what line n means that follows a row with these numbers; where it follows none, why
abbrev pub meaning_of : Result Row Reason → ℕ → List ℕ → World → Reply
meaning_of (Ok k) n xs w = meaning (row_number k) n xs w
meaning_of (Err why) n xs w = says (not_understood n (reason_number why)) w

-- the code has answered a line that follows a row and leaves the hand where it was
abbrev pub Line : (k : Row) (n : ℕ) (xs : List ℕ) (m : Mem) (h : ℕ) (m' : Mem) (at : ℕ) (before after : List ℕ) (next : ℕ) → Type 0
Line k n xs m h m' at before after next = Replied (meaning (row_number k) n xs (world m h)) m' at before after (record { next = next; hand = h })
