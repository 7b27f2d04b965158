-- What a line of a dump does: its run is replaced. Assumes nothing.
use Rattle.std.specs.Prelude.{ℕ, Bool, List, [], length, get_or, eqb, leb}
use Rattle.model.specs.Choice.{choose}
use Rattle.model.specs.Memory.{Mem, mem}
use Rattle.model.specs.Answers.{refused}
use Rattle.replay_words.specs.Words.{lines}
use Rattle.replay_print.specs.Text.{bytes}
use Rattle.replay_print.specs.Print.{line}
use Rattle.replay_answers.specs.Text.{text}
use Rattle.replay_echo.specs.Echo.{echo}
use Rattle.replay_rows.specs.World.{World, Reply, reply}
use Rattle.replay_rows.specs.Meaning.{says}

-- how many words the program holds of a run: 0 slots, 1 counters, 2 items
abbrev pub room_of : ℕ → ℕ
room_of r = choose (eqb r 0) 8192 (choose (eqb r 1) 1024 4096)

-- the memory with other words in a run
abbrev pub with_run : ℕ → List ℕ → Mem → Mem
with_run r ws m =
    choose (eqb r 0) (mem ws m.counters m.items) (choose (eqb r 1) (mem m.slots ws m.items) (mem m.slots m.counters ws))

-- the run has these words, if the program holds as many; else the table there was
unfoldable pub loads_run : ℕ → List ℕ → World → Reply
loads_run r ws w =
    choose (leb (length ws) (room_of r)) (reply (line (bytes "loaded")) (with_run r ws w.memory) w.hand) (says (text (refused 1)) w)

-- the words of a loaded run are not shown again
abbrev pub run_lines : List ℕ
run_lines = bytes "slots ..\ncounters ..\nitems ..\n"

-- line n and its run before the answer, if they are to be shown
unfoldable pub shown_load : Bool → ℕ → ℕ → List ℕ
shown_load e n r = choose e (echo n (get_or (lines run_lines) r []) []) []
