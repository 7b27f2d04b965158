-- What the text of a dump says: its three runs, and what is told of them. Assumes nothing.
use Rattle.std.specs.Prelude.{ℕ, suc, Bool, true, false, List, [], ◌∷◌}
use Rattle.model.specs.Choice.{choose}
use Rattle.model.specs.Memory.{Mem, mem}
use Rattle.model.specs.Shape.{four}
use Rattle.judgement.specs.Verdict.{judgement}
use Rattle.replay_words.specs.Words.{lines, without_comment, without_mark, without_return, words}
use Rattle.replay_lines.specs.Reasons.{unknown_word}
use Rattle.replay_loads.specs.Load.{Load, faulty, loading, loads, other}
use Rattle.replay_answers.specs.Text.{judged, not_understood}
use Rattle.replay_rows.specs.Loaded.{with_run}

-- three runs; or the first line that is not understood, and why
pub data Dump : Type 0 where
  whole : (m : Mem) → Dump
  unclear : (line why : ℕ) → Dump

-- no words
abbrev pub none_there : List (List ℕ) → Bool
none_there [] = true
none_there (w ∷ ws) = false

-- a blank line or a comment
unfoldable pub is_blank : List ℕ → Bool
is_blank l = none_there (words (without_comment (without_return l)))

-- the runs with line n, by what it loads and whether it is blank
abbrev pub with_load : ℕ → Mem → Load → Bool → Dump
with_load n m (loads r ws) b = whole (with_run r ws m)
with_load n m (faulty y) b = unclear n y
with_load n m other b = choose b (whole m) (unclear n unknown_word)

-- a line more; none counts behind one that is not understood
abbrev pub with_line : ℕ → Dump → List ℕ → Dump
with_line n (whole m) l = with_load n m (loading l) (is_blank l)
with_line n (unclear k y) l = unclear k y

-- the lines behind n others
unfoldable pub with_lines : ℕ → Dump → List (List ℕ) → Dump
with_lines n d [] = d
with_lines n d (l ∷ ls) = with_lines (suc n) (with_line (suc n) d l) ls

-- a whole text, from no runs; a line that names a run again replaces it
unfoldable pub dump_of : List ℕ → Dump
dump_of text = with_lines 0 (whole (mem [] [] [])) (lines (without_mark text))

-- the line that is told: the verdict, or which line is not understood
abbrev pub told : Dump → List ℕ
told (whole m) = judged (judgement four m)
told (unclear n y) = not_understood n y
