-- The answers of the table as the replay program's lines, in bytes with the LF. Assumes nothing.
use Rattle.std.specs.Prelude.{ℕ, Bool, true, false, List, [], ◌∷◌, ◌++◌, eqb, Result, Ok, Err}
use Rattle.model.specs.Choice.{choose}
use Rattle.model.specs.Memory.{Mem}
use Rattle.model.specs.Answers.{Answer, refused, absent, fresh, old, ahead, stored, deleted, evicted, started, listed, at_place, planned, move_made, entry_made, record_numbers}
use Rattle.judgement.specs.Verdict.{Verdict, sound, broken}
use Rattle.replay_print.specs.Text.{bytes}
use Rattle.replay_print.specs.Print.{decimal_of, line, numbered, record_lines, signed_line, told}

-- the line of an answer; behind that of a list its records
abbrev pub text : Answer → List ℕ
text (refused n) = told (bytes "refused") (n ∷ [])
text absent = line (bytes "absent")
text (fresh p z) = signed_line (numbered (bytes "fresh") p) z
text (old z) = signed_line (bytes "old") z
text ahead = line (bytes "ahead")
text (stored v n) = told (bytes "stored") (v ∷ n ∷ [])
text deleted = line (bytes "deleted")
text (evicted x n h) = told (bytes "evicted") (x ∷ n ∷ h ∷ [])
text started = line (bytes "fresh")
text (listed n bs) = told (bytes "listed") (n ∷ []) ++ record_lines n bs
text (at_place p) = told (bytes "place") (p ∷ [])
text (planned vs p i) = told (bytes "planned") (p ∷ i ∷ record_numbers vs)
text move_made = line (bytes "moved")
text entry_made = line (bytes "entered")

-- the line of an answer that is only that something is done, by its word and by the number of what refuses
abbrev pub done_line : {E : Type 0} → (E → ℕ) → List ℕ → Result Unit E → List ℕ
done_line n word (Ok _) = line word
done_line n word (Err e) = text (refused (n e))

-- why a line says nothing that the language has
unfoldable pub reason : ℕ → List ℕ
reason y =
    choose (eqb y 0) (bytes "unknown word")
    (choose (eqb y 1) (bytes "too few numbers") (choose (eqb y 2) (bytes "too many numbers") (bytes "number too large")))

-- the answer to such a line, the n-th
abbrev pub not_understood : ℕ → ℕ → List ℕ
not_understood n y = bytes "line " ++ decimal_of n ++ bytes ": not understood: " ++ line (reason y)

-- every word of the three runs
abbrev pub dump : Mem → List ℕ
dump m = told (bytes "slots") m.slots ++ told (bytes "counters") m.counters ++ told (bytes "items") m.items

-- the answer to a poke: whether it was made
abbrev pub poke_told : Bool → List ℕ
poke_told true = line (bytes "poked")
poke_told false = line (bytes "no such word")

-- a verdict: yes, or no with the condition and the number that breaks it
abbrev pub judged : Verdict → List ℕ
judged sound = line (bytes "yes")
judged (broken c i) = told (bytes "no") (c ∷ i ∷ [])
