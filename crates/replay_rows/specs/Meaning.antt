-- What each line means: the table of the replay program's language. Assumes nothing.
use Rattle.std.specs.Prelude.{ℕ, zero, suc, ◌/◌, ◌%◌, ◌^◌, min, Bool, ◌&&◌, List, [], ◌∷◌, get_or, leb}
use Prim.Native.String.{String}
use Rattle.model.specs.Choice.{choose}
use Rattle.model.specs.Memory.{Mem, mem}
use Rattle.model.specs.Shape.{four, shape, good_lengths, fresh_memory}
use Rattle.model.specs.Calling.{Call, grant, read, serve, set_animal, delete, evict, write_list, plan_set, step_move, step_enter}
use Rattle.model.specs.Answers.{Answer, started, refused, hand_back}
use Rattle.model.specs.Lent.{lent_after, lent_call, lent_cut}
use Rattle.plain.specs.Plain.{plain_read}
use Rattle.replay_print.specs.Text.{bytes}
use Rattle.replay_print.specs.Print.{line}
use Rattle.judgement.specs.Verdict.{judgement}
use Rattle.replay_answers.specs.Text.{text, dump, judged, not_understood, poke_told}
use Rattle.replay_rows.specs.Poke.{can_poke, poked}
use Rattle.replay_rows.specs.World.{World, Replied, Reply, world, reply}

-- it only says something
abbrev pub says : List ℕ → World → Reply
says t w = record { text = t; world = w }

abbrev pub answer : World → Call → Answer
answer w c = (lent_call four w.memory c).answer

-- a call that only reads
abbrev pub asks : Call → World → Reply
asks c w = says (text (answer w c)) w

-- a call, and one that is cut behind its first k stores: it answers as the whole one
abbrev pub calls : Call → World → Reply
calls c w = reply (text (answer w c)) (lent_after four w.memory c) w.hand

abbrev pub cuts : ℕ → Call → World → Reply
cuts k c w = reply (text (answer w c)) (lent_cut four k w.memory c) w.hand

-- evict takes the hand and gives it back
abbrev pub turns : World → Reply
turns w = reply (text (answer w (evict w.hand))) (lent_after four w.memory (evict w.hand)) (hand_back w.hand (answer w (evict w.hand)))

abbrev pub cut_turns : ℕ → World → Reply
cut_turns k w = reply (text (answer w (evict w.hand))) (lent_cut four k w.memory (evict w.hand)) (hand_back w.hand (answer w (evict w.hand)))

-- fresh: a table of these lengths, all zero, and the hand at 0, if the program holds as much and the lengths are good; else the table there was
abbrev pub holds : ℕ → ℕ → ℕ → Bool
holds s v i = leb s 8192 && (leb v 1024 && leb i 4096)

unfoldable pub starts : ℕ → ℕ → ℕ → World → Reply
starts s v i w =
    choose (holds s v i && good_lengths four s v i) (reply (text started) (fresh_memory (shape four (s / 4) v (i / 4))) 0)
    (says (text (refused 1)) w)

-- the hand is given
abbrev pub hands : ℕ → World → Reply
hands h w = reply (line (bytes "hand")) w.memory h

-- the list into a buffer of that size, which a B keeps to the program's own
unfoldable pub lists : ℕ → World → Reply
lists size w = asks (write_list (min size 81920)) w

-- a poke of one of the runs
abbrev pub pokes_slots : ℕ → ℕ → World → Reply
pokes_slots i x w =
    reply (poke_told (can_poke 4294967295 i x w.memory.slots))
    (mem (poked 4294967295 i x w.memory.slots) w.memory.counters w.memory.items) w.hand

abbrev pub pokes_counters : ℕ → ℕ → World → Reply
pokes_counters i x w =
    reply (poke_told (can_poke 4294967295 i x w.memory.counters))
    (mem w.memory.slots (poked 4294967295 i x w.memory.counters) w.memory.items) w.hand

abbrev pub pokes_items : ℕ → ℕ → World → Reply
pokes_items i x w =
    reply (poke_told (can_poke 18446744073709551615 i x w.memory.items))
    (mem w.memory.slots w.memory.counters (poked 18446744073709551615 i x w.memory.items)) w.hand

-- the plain engine looks at the items and at nothing else
abbrev pub audits : ℕ → ℕ → ℕ → World → Reply
audits x limit now w = says (text (plain_read w.memory.items x limit now)) w

-- the three runs are judged
abbrev pub judges : World → Reply
judges w = says (judged (judgement four w.memory)) w

-- a row: what a line says, and what it means, by the numbers in it
pub record Row : Type 0 where
  pub says : String
  pub means : (ℕ → ℕ) → World → Reply

abbrev pub row : String → ((ℕ → ℕ) → World → Reply) → Row
row s f = record { says = s; means = f }

-- a P is below 2^32, so the remainder is the number itself
abbrev pub permission : ℕ → ℕ
permission p = p % 2 ^ 32

-- the language: N a number, P a permission, B a number of bytes. The first row that fits is taken, so the calls of a gate's day stand
-- first, and the blank line last
abbrev pub rows : List Row
rows =
    row "serve N N N" (λ x. calls (serve (x 0) (x 1) (x 2)))
    ∷ row "read N N N" (λ x. asks (read (x 0) (x 1) (x 2)))
    ∷ row "set N P N N" (λ x. calls (set_animal (grant (x 0) (permission (x 1)) (x 2) (x 3))))
    ∷ row "delete N" (λ x. calls (delete (x 0)))
    ∷ row "evict" (λ x. turns)
    ∷ row "cut N set N P N N" (λ x. cuts (x 0) (set_animal (grant (x 1) (permission (x 2)) (x 3) (x 4))))
    ∷ row "cut N delete N" (λ x. cuts (x 0) (delete (x 1)))
    ∷ row "cut N evict" (λ x. cut_turns (x 0))
    ∷ row "hand N" (λ x. hands (x 0))
    ∷ row "list B" (λ x. lists (x 0))
    ∷ row "poke slots N N" (λ x. pokes_slots (x 0) (x 1))
    ∷ row "poke counters N N" (λ x. pokes_counters (x 0) (x 1))
    ∷ row "poke items N N" (λ x. pokes_items (x 0) (x 1))
    ∷ row "dump" (λ x w. says (dump w.memory) w)
    ∷ row "fresh N N N" (λ x. starts (x 0) (x 1) (x 2))
    ∷ row "plain N N N" (λ x. audits (x 0) (x 1) (x 2))
    ∷ row "judge" (λ x. judges)
    ∷ row "plan N P N N" (λ x. asks (plan_set (grant (x 0) (permission (x 1)) (x 2) (x 3))))
    ∷ row "move N N N N P N N"
    (λ x. calls (step_move (grant (x 3) (permission (x 4)) (x 5) (x 6)) (record { from = x 0; tag = x 1; to = x 2 })))
    ∷ row "enter N N N P N N" (λ x. calls (step_enter (grant (x 2) (permission (x 3)) (x 4) (x 5)) (x 0) (x 1)))
    ∷ row "" (λ x w. says [] w)
    ∷ []

-- what line n means that follows row r with these numbers; with no row it is not understood, and its number says why
abbrev pub meant : List Row → ℕ → ℕ → List ℕ → World → Reply
meant [] r n xs w = says (not_understood n (get_or xs 0 0)) w
meant (t ∷ ts) zero n xs w = t.means (λ i. get_or xs i 0) w
meant (t ∷ ts) (suc r) n xs w = meant ts r n xs w

unfoldable pub meaning : ℕ → ℕ → List ℕ → World → Reply
meaning r n xs w = meant rows r n xs w

-- the code has answered a line that leaves the hand where it was
abbrev pub Arm : (row n : ℕ) (xs : List ℕ) (m : Mem) (h : ℕ) (m' : Mem) (at : ℕ) (before after : List ℕ) (next : ℕ) → Type 0
Arm row n xs m h m' at before after next = Replied (meaning row n xs (world m h)) m' at before after (record { next = next; hand = h })
