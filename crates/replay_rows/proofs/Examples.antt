-- The language's rows, and a text with its answers, by computation. Assumes nothing.
use Prim.Native.Nat.{ℕ}
use mathlib.Core.Path.{◌≡◌, refl}
use mathlib.Core.Bool.{true, false}
use mathlib.Core.List.{List, [], ◌∷◌}
use lib.ListN.{replicate}
use Rattle.model.specs.Choice.{first, range}
use Rattle.model.specs.Memory.{damaged, mem, place, tag}
use Rattle.model.specs.Hash.{bytes as low_bytes, fnv, fnv_step, hash, odd_up, other_bucket, spread, tag_from}
use Rattle.model.specs.Shape.{good_counters, good_items, good_lengths, good_slots}
use Rattle.model.specs.Visits.{climb, first_free, free_slot, hops, lowest, next_level, visits}
use Rattle.model.specs.Age.{is_fresh, left_of, verdict}
use Rattle.model.specs.Clock.{next_hand, passed_recent, seek_victim}
use Rattle.model.specs.Listing.{list_record, listing, live_count, records}
use Rattle.model.specs.Calls.{hit, hits, may_enter, may_move, slot_of, some_live, vacant_place}
use Rattle.model.specs.Stores.{stores}
use Rattle.model.specs.Row.{walk_to}
use Rattle.plain.specs.Plain.{plain_read}
use Rattle.judgement.specs.Conditions.{count, is_doubled, is_misshapen, is_stray, is_unsought, names, right_word, twin}
use Rattle.judgement.specs.Verdict.{judgement}
use Rattle.replay_words.specs.Words.{all_digits, before, filled, lines, number, mark_length, number_from, pieces, same, value, without_comment, without_mark, without_return, words}
use Rattle.replay_print.specs.Text.{bytes}
use Rattle.replay_print.specs.Print.{decimal_of, digits, hex_digit, hex_of, hexes, numbered, record_lines, signed_of, told}
use Rattle.replay_answers.specs.Text.{reason}
use Rattle.replay_loads.specs.Load.{load_of, loading, run_named, weighed}
use Rattle.replay_lines.specs.Taking.{bound, taken, takes}
use Rattle.replay_lines.specs.Reasons.{behind, furthest, instead, parting, why_not}
use Rattle.replay_lines.specs.Line.{Said, first_row, fitting, said, said_by}
use Rattle.replay_echo.specs.Echo.{behind as next_number, echo, filled_in, in_place}
use Rattle.replay_rows.specs.World.{World, reply}
use Rattle.replay_rows.specs.Meaning.{lists, meaning, says, starts}
use Rattle.replay_rows.specs.Loaded.{loads_run, shown_load}
use Rattle.replay_rows.specs.Replayed.{answers, language, missed, missed_in, replayed, reply_to, shown, status, unheard_line}

abbrev row : ℕ → List ℕ → Said
row r ns = record { row = r; numbers = ns }

pub understood :
    (said language (bytes "set 7 15 20 30") ≡ row 2 (7 ∷ 15 ∷ 20 ∷ 30 ∷ []))
    × (said language (bytes "\tset  7 015\t20 30\r") ≡ row 2 (7 ∷ 15 ∷ 20 ∷ 30 ∷ []))
    × (said language (bytes "set 1 4294967295 2 3") ≡ row 2 (1 ∷ 4294967295 ∷ 2 ∷ 3 ∷ []))
    × (said language (bytes "fresh 8 4 16") ≡ row 14 (8 ∷ 4 ∷ 16 ∷ []))
    × (said language (bytes "read 1 2 3#x") ≡ row 1 (1 ∷ 2 ∷ 3 ∷ []))
    × (said language (bytes "serve 1 2 3 # x") ≡ row 0 (1 ∷ 2 ∷ 3 ∷ []))
    × (said language (bytes "delete 9") ≡ row 3 (9 ∷ []))
    × (said language (bytes "evict") ≡ row 4 ([]))
    × (said language (bytes "hand 18446744073709551615") ≡ row 8 (18446744073709551615 ∷ []))
    × (said language (bytes "cut 5 set 1 2 3 4") ≡ row 5 (5 ∷ 1 ∷ 2 ∷ 3 ∷ 4 ∷ []))
    × (said language (bytes "cut 5 delete 9") ≡ row 6 (5 ∷ 9 ∷ []))
    × (said language (bytes "cut 5 evict") ≡ row 7 (5 ∷ []))
    × (said language (bytes "list 81920") ≡ row 9 (81920 ∷ []))
    × (said language (bytes "poke slots 0 9") ≡ row 10 (0 ∷ 9 ∷ []))
    × (said language (bytes "poke counters 0 9") ≡ row 11 (0 ∷ 9 ∷ []))
    × (said language (bytes "poke items 0 9") ≡ row 12 (0 ∷ 9 ∷ []))
    × (said language (bytes "dump") ≡ row 13 ([]))
    × (said language (bytes "plain 1 2 3") ≡ row 15 (1 ∷ 2 ∷ 3 ∷ []))
    × (said language (bytes "judge") ≡ row 16 ([]))
    × (said language (bytes "plan 1 2 3 4") ≡ row 17 (1 ∷ 2 ∷ 3 ∷ 4 ∷ []))
    × (said language (bytes "move 1 18446744073709551615 3 4 5 6 7") ≡ row 18 (1 ∷ 18446744073709551615 ∷ 3 ∷ 4 ∷ 5 ∷ 6 ∷ 7 ∷ []))
    × (said language (bytes "enter 1 2 3 4 5 6") ≡ row 19 (1 ∷ 2 ∷ 3 ∷ 4 ∷ 5 ∷ 6 ∷ []))
    × (said language (bytes "# set 7 15 20 30") ≡ row 20 ([]))
unfolding said said_by first_row fitting taken bound lines words pieces filled before same number number_from value all_digits without_comment without_return
understood = (refl, refl, refl, refl, refl, refl, refl, refl, refl, refl, refl, refl, refl, refl, refl, refl, refl, refl, refl, refl, refl, refl, refl)

-- no row fits: there are 21, and the number is the reason
pub not_understood :
    (said language (bytes "hand 18446744073709551616") ≡ row 21 (3 ∷ []))
    × (said language (bytes "hand +1") ≡ row 21 (0 ∷ []))
    × (said language (bytes "hand 1a") ≡ row 21 (0 ∷ []))
    × (said language (bytes "hand") ≡ row 21 (1 ∷ []))
    × (said language (bytes "hand 1 1") ≡ row 21 (2 ∷ []))
    × (said language (bytes "set 1 4294967296 2 3") ≡ row 21 (3 ∷ []))
    × (said language (bytes "set 1 2 3 4 standing") ≡ row 21 (0 ∷ []))
    × (said language (bytes "set 1 2 3 4 standing 5") ≡ row 21 (0 ∷ []))
    × (said language (bytes "cut 5 set 1 2 3 4 standing") ≡ row 21 (0 ∷ []))
    × (said language (bytes "set 1 2 3 standing") ≡ row 21 (0 ∷ []))
    × (said language (bytes "set 1 2 3") ≡ row 21 (1 ∷ []))
    × (said language (bytes "fresh 1 2") ≡ row 21 (1 ∷ []))
    × (said language (bytes "evict 1") ≡ row 21 (2 ∷ []))
    × (said language (bytes "Dump") ≡ row 21 (0 ∷ []))
    × (said language (bytes "dumps") ≡ row 21 (0 ∷ []))
    × (said language (bytes "dump\r\r") ≡ row 21 (0 ∷ []))
    × (said language (bytes "cut 5 read 1 2 3") ≡ row 21 (0 ∷ []))
    × (said language (bytes "cut evict") ≡ row 21 (0 ∷ []))
    × (said language (bytes "list 81921 5") ≡ row 21 (3 ∷ []))
    × (said language (bytes "poke") ≡ row 21 (1 ∷ []))
    × (said language (bytes "12 13") ≡ row 21 (0 ∷ []))
    × (said language (bytes "poke 0 9") ≡ row 21 (0 ∷ []))
    × (said language (bytes "plain 1 2") ≡ row 21 (1 ∷ []))
    × (said language (bytes "cut 5 plain 1 2 3") ≡ row 21 (0 ∷ []))
    × (said language (bytes "cut 3 plan 1 2 3 4") ≡ row 21 (0 ∷ []))
    × (said language (bytes "plan 1 4294967296 2 3") ≡ row 21 (3 ∷ []))
    × (said language (bytes "move 1 2 3 4 4294967296 5 6") ≡ row 21 (3 ∷ []))
    × (said language (bytes "enter 0 0 4711 4294967296 5 5") ≡ row 21 (3 ∷ []))
    × (said language (bytes "move 1 2 3 4 5 6") ≡ row 21 (1 ∷ []))
    × (said language (bytes "move 1 2 3 4 5 6 7 8") ≡ row 21 (2 ∷ []))
    × (said language (bytes "enter 1 2 -3 4 5 6") ≡ row 21 (0 ∷ []))
unfolding said said_by first_row fitting taken bound lines words pieces filled before same number number_from value all_digits without_comment without_return why_not furthest parting takes behind instead
not_understood = (refl, refl, refl, refl, refl, refl, refl, refl, refl, refl, refl, refl, refl, refl, refl, refl, refl, refl, refl, refl, refl, refl, refl, refl, refl, refl, refl, refl, refl, refl, refl)

-- a cow that is set, read, served and deleted but for one store; another that stays, and whose entry is retired; and what is answered to the rest
abbrev day : List ℕ
day = bytes "# a day of one cow\nfresh 8 1 4\nset 1 5 2 3\nread 1 720 2\nserve\t1 0 9\ncut 1 delete 1\nread 1 720 3\nplain 1 720 3\nfresh 8 1 8\nset 7 4294967295 5 6\nread 7 30 9\npoke items 2 18446744073709551615\nread 7 30 9\ncut 3 evict\nhand 1\nevict\nlist 20\nset 1 4294967296 2 3\npoke items 4 9\npoke slots 8 1\nlist 81921\ndump"

pub day_answered : answers false day
    ≡ bytes "fresh\nstored 1 0\nfresh 5 720\nold -7\ndeleted\nrefused 8\nfresh 5 719\nfresh\nstored 1 0\nfresh 4294967295 26\npoked\nold -4611686018427387904\nevicted 7 3 1\nhand\nrefused 8\nlisted 1\n0700000000000000ffffffffffffffffffffffff\nline 18: not understood: number too large\npoked\nno such word\nline 21: not understood: number too large\nslots 0 0 0 0 0 0 0 0\ncounters 3\nitems 7 4294967295 18446744073709551615 0 9 0 0 0\n"
unfolding replayed reply_to loading load_of run_named weighed loads_run shown meaning starts lists plain_read walk_to said said_by first_row fitting taken bound why_not furthest parting takes behind instead lines words pieces filled before same number number_from value all_digits without_comment without_return without_mark mark_length told numbered reason decimal_of signed_of digits record_lines hexes hex_of hex_digit hash fnv fnv_step low_bytes tag_from odd_up spread other_bucket tag place damaged range first good_lengths good_slots good_counters good_items hits hit vacant_place some_live visits next_level hops first_free free_slot lowest climb is_fresh left_of verdict next_hand seek_victim passed_recent slot_of list_record records live_count listing stores
day_answered = refl

-- a table is judged before the first fresh, fresh, with a cow, in the middle of a set, and with a twin
abbrev dump_judged : List ℕ
dump_judged = bytes "judge\nfresh 8 1 8\njudge\nset 1 5 2 3\njudge\ncut 1 set 1 6 3 3\njudge\npoke counters 0 2\npoke slots 1 4063233\npoke items 4 1\njudge\njudge 1"

pub dump_is_judged : answers false dump_judged
    ≡ bytes "no 1 0\nfresh\nyes\nstored 1 0\nyes\nstored 0 0\nno 3 0\npoked\npoked\npoked\nno 6 0\nline 12: not understood: too many numbers\n"
unfolding judgement count names twin right_word is_stray is_unsought is_doubled is_misshapen replayed reply_to loading load_of run_named weighed loads_run shown meaning starts lists plain_read walk_to said said_by first_row fitting taken bound why_not furthest parting takes behind instead lines words pieces filled before same number number_from value all_digits without_comment without_return without_mark mark_length told numbered reason decimal_of signed_of digits record_lines hexes hex_of hex_digit hash fnv fnv_step low_bytes tag_from odd_up spread other_bucket tag place damaged range first good_lengths good_slots good_counters good_items hits hit vacant_place some_live visits next_level hops first_free free_slot lowest climb is_fresh left_of verdict next_hand seek_victim passed_recent slot_of list_record records live_count listing stores
dump_is_judged = refl

-- a set in steps: a plan, its final store, a move that was in no plan; a tag that is right but for its 33rd bit, and who is held by now
abbrev in_steps : List ℕ
in_steps = bytes "fresh 8 1 8\nplan 1 5 2 3\nenter 0 0 1 5 2 3\nmove 0 62 4 7 5 2 3\nread 1 720 2\nmove 4 4294967358 0 7 5 2 3\nplan 1 5 2 3\nenter 1 0 1 5 2 3\nplan 7 1 3 3\nenter 1 18446744073709551615 7 1 3 3\nenter 1 0 7 1 3 3\nplan 8 4294967296 3 3\ndump"

pub in_steps_answered : answers false in_steps
    ≡ bytes "fresh\nplanned 0 0\nentered\nmoved\nfresh 5 720\nrefused 12\nrefused 12\nrefused 12\nplanned 1 0\nrefused 12\nentered\nline 12: not understood: number too large\nslots 8585217 0 0 0 4063232 0 0 0\ncounters 6\nitems 1 5 2 1 7 1 3 1\n"
unfolding may_move may_enter replayed reply_to loading load_of run_named weighed loads_run shown meaning starts lists plain_read walk_to said said_by first_row fitting taken bound why_not furthest parting takes behind instead lines words pieces filled before same number number_from value all_digits without_comment without_return without_mark mark_length told numbered reason decimal_of signed_of digits record_lines hexes hex_of hex_digit hash fnv fnv_step low_bytes tag_from odd_up spread other_bucket tag place damaged range first good_lengths good_slots good_counters good_items hits hit vacant_place some_live visits next_level hops first_free free_slot lowest climb is_fresh left_of verdict next_hand seek_victim passed_recent slot_of list_record records live_count listing stores
in_steps_answered = refl

-- a text behind a byte order mark, with the calls shown, and how many of its lines are not understood
abbrev hour : List ℕ
hour = 239 ∷ 187 ∷ 191 ∷ bytes "fresh 8 1 4\n\n# two lines without a call\nread  01 720 2\r\nlist 0020 # bytes\nread 1 720\ndump"

pub hour_answered : (answers true hour
    ≡ bytes "1: fresh 8 1 4 -> fresh\n4: read 1 720 2 -> absent\n5: list 20 -> listed 0\nline 6: not understood: too few numbers\n7: dump -> slots 0 0 0 0 0 0 0 0\ncounters 0\nitems 0 0 0 0\n")
    × (missed hour ≡ 1)
unfolding missed_in unheard_line echo filled_in in_place next_number replayed reply_to loading load_of run_named weighed loads_run shown_load shown meaning starts lists plain_read walk_to said said_by first_row fitting taken bound why_not furthest parting takes behind instead lines words pieces filled before same number number_from value all_digits without_comment without_return without_mark mark_length told numbered reason decimal_of signed_of digits record_lines hexes hex_of hex_digit hash fnv fnv_step low_bytes tag_from odd_up spread other_bucket tag place damaged range first good_lengths good_slots good_counters good_items hits hit vacant_place some_live visits next_level hops first_free free_slot lowest climb is_fresh left_of verdict next_hand seek_victim passed_recent slot_of list_record records live_count listing stores
hour_answered = (refl, refl)

-- a dump is loaded line by line and printed again; the hand stays, the words that are not understood do nothing, and a run may be emptied
abbrev loaded_day : List ℕ
loaded_day = bytes "counters 2\nslots 4063232 0 0 0 0 0 0 0\nhand 1\nitems 1 5 2 1 0 0 0 0 # two places\r\ndump\nslots 1 x\ncounters 4294967296 1\nread 1 720 2\nevict\nitems\nread 1 720 2"

pub loaded_day_answered : (answers false loaded_day
    ≡ bytes "loaded\nloaded\nhand\nloaded\nslots 4063232 0 0 0 0 0 0 0\ncounters 2\nitems 1 5 2 1 0 0 0 0\nline 6: not understood: unknown word\nline 7: not understood: number too large\nfresh 5 720\nevicted 1 4 1\nloaded\nrefused 1\n")
    × (missed loaded_day ≡ 2)
unfolding missed_in unheard_line echo filled_in in_place next_number replayed reply_to loading load_of run_named weighed loads_run shown_load shown meaning starts lists plain_read walk_to said said_by first_row fitting taken bound why_not furthest parting takes behind instead lines words pieces filled before same number number_from value all_digits without_comment without_return without_mark mark_length told numbered reason decimal_of signed_of digits record_lines hexes hex_of hex_digit hash fnv fnv_step low_bytes tag_from odd_up spread other_bucket tag place damaged range first good_lengths good_slots good_counters good_items hits hit vacant_place some_live visits next_level hops first_free free_slot lowest climb is_fresh left_of verdict next_hand seek_victim passed_recent slot_of list_record records live_count listing stores
loaded_day_answered = (refl, refl)

-- the words of a loaded run are not shown again, and nothing is shown of a line that is not understood
pub loads_shown : answers true (bytes "\nslots 007 # one\nitems 1 -1\ncounters")
    ≡ bytes "2: slots .. -> loaded\nline 3: not understood: unknown word\n4: counters .. -> loaded\n"
unfolding missed_in unheard_line echo filled_in in_place next_number replayed reply_to loading load_of run_named weighed loads_run shown_load shown meaning starts lists plain_read walk_to said said_by first_row fitting taken bound why_not furthest parting takes behind instead lines words pieces filled before same number number_from value all_digits without_comment without_return without_mark mark_length told numbered reason decimal_of signed_of digits record_lines hexes hex_of hex_digit hash fnv fnv_step low_bytes tag_from odd_up spread other_bucket tag place damaged range first good_lengths good_slots good_counters good_items hits hit vacant_place some_live visits next_level hops first_free free_slot lowest climb is_fresh left_of verdict next_hand seek_victim passed_recent slot_of list_record records live_count listing stores
loads_shown = refl

-- the longest runs that the program holds, and longer ones
module _ (w : World) where
  pub longest_runs :
      (loads_run 0 (replicate 8192 7) w ≡ reply (bytes "loaded\n") (mem (replicate 8192 7) w.memory.counters w.memory.items) w.hand)
      × (loads_run 1 (replicate 1024 7) w ≡ reply (bytes "loaded\n") (mem w.memory.slots (replicate 1024 7) w.memory.items) w.hand)
      × (loads_run 2 (replicate 4096 7) w ≡ reply (bytes "loaded\n") (mem w.memory.slots w.memory.counters (replicate 4096 7)) w.hand)
  unfolding loads_run
  longest_runs = (refl, refl, refl)

  pub longer_runs :
      (loads_run 0 (replicate 8193 7) w ≡ says (bytes "refused 1\n") w)
      × (loads_run 1 (replicate 1025 7) w ≡ says (bytes "refused 1\n") w)
      × (loads_run 2 (replicate 4097 7) w ≡ says (bytes "refused 1\n") w)
  unfolding loads_run told numbered decimal_of digits
  longer_runs = (refl, refl, refl)

pub statuses : (status true 0 ≡ 0) × (status true 7 ≡ 2) × (status false 0 ≡ 1) × (status false 7 ≡ 1)
statuses = (refl, refl, refl, refl)
