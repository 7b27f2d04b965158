-- The wrong tables break the demands that document 01 names. Assumes nothing.
use Prim.Native.Nat.{ℕ, ◌+◌, ◌*◌, ◌≤◌, ◌-◌}
use native.Mathlib.Omega.{arith}
use native.Mathlib.Decide.{ℕ_discrete}
use mathlib.Core.Path.{◌≡◌, refl, sym, ap, ◌∙◌, subst}
use mathlib.Core.Logic.{◌≢◌, inl, ⊎_elim, dite}
use mathlib.Core.Bool.{true, false}
use Rattle.std.specs.Prelude.{Some, None}
use mathlib.Core.List.{List, [], ◌∷◌, ◌++◌}
use lib.ListN.{get_or, replicate}
use lib.IntN.{ℤ, nat_abs, pos}
use Rattle.model.specs.Choice.{first, range}
use Rattle.model.specs.Memory.{Mem, damaged, mem, place, tag}
use Rattle.model.specs.Hash.{bytes, fnv, fnv_step, hash, odd_up, other_bucket, spread, tag_from}
use Rattle.model.specs.Shape.{good_counters, good_items, good_lengths, good_slots, four}
use Rattle.model.specs.Stores.{stores}
use Rattle.model.specs.Moves.{Free}
use Rattle.model.specs.Visits.{climb, first_free, free_slot, hops, lowest, next_level, visits}
use Rattle.model.specs.Calling.{AllTyped, Call, Event, did, read, set_animal, grant}
use Rattle.model.specs.Answers.{Answer, absent, fresh, refused, stored, says_fresh}
use Rattle.model.specs.Age.{is_fresh, left_of, verdict}
use Rattle.model.specs.Calls.{hit, hits, vacant_place}
use Rattle.model.specs.Row.{beyond, plain, row_event, row_left, row_says, walk_to}
use Rattle.model.specs.AnyTable.{Table, Write, cut_at, leaves, make_all}
use Rattle.model.specs.Demands.{CutReads, Demand2, Demand3, NeverLost, Position, SeenBy, Stands, Story, places, row, table, visit, shape_in, GoodInputs}
use Rattle.model.specs.Examples.{held_items, vacant_words}
use Rattle.model.proofs.Search.{full}
use Rattle.model.proofs.ListLaws.{true_false, zeros}
use Rattle.model.proofs.Demand1.{is_refusal}
use Rattle.model.proofs.Never.{not_standing}
use Rattle.refuted.specs.Wrong.{clears_later, counts, misreads, refuses_everything, source_first, stamps_arrival, stores_nothing}
use Rattle.refuted.proofs.Blind.{source_first_2}

-- one name for all that a run computes with
unfoldable pub computing : Unit {0}
unfolding hash fnv fnv_step bytes tag_from odd_up spread other_bucket tag place damaged range first good_lengths good_slots good_counters
    good_items hits hit vacant_place visits next_level hops first_free free_slot lowest climb is_fresh left_of verdict stores walk_to row_left row_says
computing = tt

-- memory as it may be lent, full of old words
abbrev pub lent : ℕ → ℕ → ℕ → Mem
lent s v i = mem (replicate s 7) (replicate v 3) (replicate i 9)

-- animal 1 is set with permission 5, issued in minute 2, at once; and issued in minute 1, a minute before it arrives
abbrev pub set_one : Event
set_one = did (set_animal (grant 1 5 2 2))

abbrev set_earlier : Event
set_earlier = did (set_animal (grant 1 5 1 2))

-- animal 1 is read in minute 2, with a limit of 720 minutes
abbrev pub read_one : Event
read_one = did (read 1 720 2)

-- animal x is set with permission 7 in minute 100
abbrev sets : ℕ → Call
sets x = set_animal (grant x 7 100 100)

-- some animals are, one after the other
abbrev pub set_each : List ℕ → List Event
set_each [] = []
set_each (x ∷ xs) = did (sets x) ∷ set_each xs

-- and permission 7 has 32 bits
pub each_typed : (xs : List ℕ) → AllTyped (set_each xs)
each_typed [] = tt
each_typed (x ∷ xs) = (omega arith, each_typed xs)

-- two buckets, one counter, three places: made fresh
abbrev pub none_yet : Story four
unfolding computing
none_yet = record { memory = lent 8 1 12; right = refl; calls = []; typed = tt }

-- and then animal 1 is set
abbrev pub one_in : Story four
unfolding computing
one_in = record { memory = lent 8 1 12; right = refl; calls = set_one ∷ []; typed = (omega arith, tt) }

-- or set a minute after the issue
abbrev pub earlier_in : Story four
unfolding computing
earlier_in = record { memory = lent 8 1 12; right = refl; calls = set_earlier ∷ []; typed = (omega arith, tt) }

-- made fresh where every word that was lent is 0
abbrev pub zero_lent : Story four
unfolding computing
zero_lent = record { memory = mem (replicate 8 0) (replicate 1 0) (replicate 12 0); right = refl; calls = []; typed = tt }

-- two buckets, five places: animals 1, 3, 5 and 7 fill bucket 0, the first bucket of all of them
abbrev four_animals : List ℕ
four_animals = 1 ∷ 3 ∷ 5 ∷ 7 ∷ []

-- they are set
abbrev four_in : Story four
unfolding computing
four_in = record { memory = lent 8 1 20; right = refl; calls = set_each four_animals; typed = each_typed four_animals }

-- and the memory is this
abbrev four_held : Mem
four_held = mem (4063232 ∷ 16318465 ∷ 13107202 ∷ 8585219 ∷ 0 ∷ 0 ∷ 0 ∷ 0 ∷ []) (8 ∷ []) (held_items 1 four_animals ++ vacant_words)

-- four buckets, nine places: 1, 5, 9, 13 fill bucket 0, and 12, 16, 20, 24 bucket 1. Then set 17 needs one displacement: animal 1 goes
-- from slot 0 to slot 12
abbrev eight_animals : List ℕ
eight_animals = 1 ∷ 5 ∷ 9 ∷ 13 ∷ 12 ∷ 16 ∷ 20 ∷ 24 ∷ []

-- they are set
abbrev eight_in : Story four
unfolding computing
eight_in = record { memory = lent 16 1 36; right = refl; calls = set_each eight_animals; typed = each_typed eight_animals }

-- and the memory is this
abbrev eight_held : Mem
eight_held =
    mem (4063232 ∷ 13107201 ∷ 2686978 ∷ 11796483 ∷ 1114116 ∷ 7405573 ∷ 16515078 ∷ 6094855 ∷ replicate 8 0) (16 ∷ [])
    (held_items 1 eight_animals ++ vacant_words)

-- four buckets, 13 places: the same, and 2, 6, 10, 14 fill bucket 3. Then set 17 needs two displacements: animal 6 goes from slot 13 to
-- slot 8, and animal 1 from slot 0 to slot 13
abbrev twelve_animals : List ℕ
twelve_animals = 1 ∷ 5 ∷ 9 ∷ 13 ∷ 12 ∷ 16 ∷ 20 ∷ 24 ∷ 2 ∷ 6 ∷ 10 ∷ 14 ∷ []

-- they are set
abbrev twelve_in : Story four
unfolding computing
twelve_in = record { memory = lent 16 1 52; right = refl; calls = set_each twelve_animals; typed = each_typed twelve_animals }

-- and the memory is this
abbrev twelve_held : Mem
twelve_held =
    mem (4063232 ∷ 13107201 ∷ 2686978 ∷ 11796483 ∷ 1114116 ∷ 7405573 ∷ 16515078 ∷ 6094855 ∷ 0 ∷ 0 ∷ 0 ∷ 0
    ∷ 5636104 ∷ 14745609 ∷ 4259850 ∷ 13369355 ∷ []) (24 ∷ []) (held_items 1 twelve_animals ++ vacant_words)

-- absent is not fresh
not_fresh : (v : ℕ) (z : ℤ) → absent ≡ fresh v z → ⊥
not_fresh v z e = true_false {b = false} (ap says_fresh e) refl

-- absent is no refusal
not_refused : (n : ℕ) → absent ≡ refused n → ⊥
not_refused n e = true_false {b = false} (ap is_refusal e) refl

-- any table at all that refuses the first read after fresh breaks demand 2: the row says absent
pub refuses_read_2 : (T : Table) (n : ℕ) → T.answer (table four T none_yet) read_one ≡ refused n → Demand2 four T → ⊥
unfolding computing
refuses_read_2 T n e D = not_refused n (sym (D.as_row none_yet read_one (tt, tt)) ∙ ap plain e)

-- animal 1, permission 5, minute 2
good_one : GoodInputs (grant 1 5 2 2)
good_one = record { typed = omega arith; real = λ z. absurd (omega arith); timely = λ z. absurd (omega arith); issued = omega arith }

-- any table at all that refuses the first set after fresh, with every slot free, breaks demand 3: there is room
pub refuses_set_3 : (T : Table) (n : ℕ) → (table four T zero_lent).slots ≡ replicate 8 0
    → T.answer (table four T zero_lent) set_one ≡ refused n → Demand3 four T → ⊥
unfolding computing
refuses_set_3 T n free e D =
    let Y = shape_in four zero_lent in
    let i = Y.first_of 1 * 4 + 0 in
    let room : Free Y.layout (table four T zero_lent).slots (Y.first_of 1)
    = (0, omega arith, ap (λ (l : List ℕ). get_or l i 0) free ∙ zeros 8 i) in
    let must = (D zero_lent (grant 1 5 2 2) good_one refl 0 refl).else_stores
    λ stuck. stuck [] (omega arith) (tt, inl room) in
    true_false {b = true} refl (ap is_refusal (sym e ∙ must.2))

-- any table at all that answers the first set as stored, and then says absent of that animal, breaks demand 2
pub says_absent_2 : (T : Table) (v n : ℕ) → T.answer (table four T none_yet) set_one ≡ stored v n
    → plain (T.answer (table four T one_in) read_one) ≡ absent → Demand2 four T → ⊥
unfolding computing
says_absent_2 T v n e r D =
    not_fresh 5 (pos 720) (sym r ∙ D.as_row one_in read_one (tt, tt)
    ∙ ap (λ b. (row_event 3 0 (row_event 3 b (replicate 12 0) set_one).words read_one).answer) (ap beyond e))

-- any table at all that says fresh of an animal before any was set breaks demand 2
pub says_fresh_2 : (T : Table) (v : ℕ) (z : ℤ) → T.answer (table four T none_yet) read_one ≡ fresh v z → Demand2 four T → ⊥
unfolding computing
says_fresh_2 T v z e D = not_fresh v z (sym (D.as_row none_yet read_one (tt, tt)) ∙ ap plain e)

-- any table at all that writes no word at the first set, and yet answers it as stored, breaks demand 2: reads are what they were
pub writes_nothing_2 : (T : Table) (v n : ℕ) → T.answer (table four T none_yet) set_one ≡ stored v n
    → T.writes (table four T none_yet) set_one ≡ [] → Demand2 four T → ⊥
unfolding computing
writes_nothing_2 T v n e w D =
    says_absent_2 T v n e
    (ap (λ (ws : List Write). plain (T.answer (make_all ws (table four T none_yet)) read_one)) w ∙ D.as_row none_yet read_one (tt, tt)) D

-- a table that refuses everything, by whatever numbers, breaks demand 2: the row answers a read
pub refuses_everything_2 : (f : Mem → Event → ℕ) → Demand2 four (refuses_everything f) → ⊥
unfolding computing
refuses_everything_2 f D = refuses_read_2 (refuses_everything f) (f (table four (refuses_everything f) none_yet) read_one) refl D

-- a table that refuses everything, by whatever numbers, breaks demand 3: a set must store
pub refuses_everything_3 : (f : Mem → Event → ℕ) → Demand3 four (refuses_everything f) → ⊥
unfolding zero_lent
refuses_everything_3 f = refuses_set_3 (refuses_everything f) (f (table four (refuses_everything f) zero_lent) set_one) refl refl

-- reads that say absent where permission 5 is due with 720 minutes left, whatever else they say, break demand 2
pub misreads_absent_2 : (f : Answer → Answer) → f (fresh 5 (pos 720)) ≡ absent → Demand2 four (misreads f) → ⊥
unfolding computing
misreads_absent_2 f e D = says_absent_2 (misreads f) 1 0 refl (ap plain e) D

-- reads that always say absent break demand 2
pub always_absent_2 : Demand2 four (misreads (λ a. absent)) → ⊥
always_absent_2 = misreads_absent_2 (λ a. absent) refl

-- reads that say fresh where absent is due, whatever else they say, break demand 2
pub misreads_fresh_2 : (f : Answer → Answer) (v : ℕ) (z : ℤ) → f absent ≡ fresh v z → Demand2 four (misreads f) → ⊥
unfolding computing
misreads_fresh_2 f v z e D = says_fresh_2 (misreads f) v z e D

-- reads that always say fresh, of whatever permission and with whatever time left, break demand 2
pub always_fresh_2 : (v : ℕ) (z : ℤ) → Demand2 four (misreads (λ r. fresh v z)) → ⊥
always_fresh_2 v z = misreads_fresh_2 (λ r. fresh v z) v z refl

-- any table at all that stores a set of the minute before, and then tells another number than 719, the age 1, say, breaks demand 2
pub another_left_2 : (T : Table) (v n : ℕ) (z : ℤ) → T.answer (table four T none_yet) set_earlier ≡ stored v n
    → plain (T.answer (table four T earlier_in) read_one) ≡ fresh 5 z → z ≢ pos 719 → Demand2 four T → ⊥
unfolding computing
another_left_2 T v n z e r ne D =
    let told : fresh 5 z ≡ fresh 5 (pos 719) = sym r ∙ D.as_row earlier_in read_one (tt, tt)
    ∙ ap (λ b. (row_event 3 0 (row_event 3 b (replicate 12 0) set_earlier).words read_one).answer) (ap beyond e) in
    ne cc

-- any table at all that stores a list of the minute before the one that it holds breaks demand 2: the row says 11
pub takes_late_2 : (T : Table) (v n v' n' : ℕ) → T.answer (table four T none_yet) set_one ≡ stored v n
    → T.answer (table four T one_in) set_earlier ≡ stored v' n' → Demand2 four T → ⊥
unfolding computing
takes_late_2 T v n v' n' e f D =
    let told : stored 0 0 ≡ refused 11 = sym (ap plain f) ∙ D.as_row one_in set_earlier (omega arith, tt)
    ∙ ap (λ t. (row_event 3 t (row four T one_in) set_earlier).answer) (ap beyond f)
    ∙ ap (λ b. (row_event 3 0 (row_event 3 b (replicate 12 0) set_one).words set_earlier).answer) (ap beyond e) in
    true_false {b = false} (ap is_refusal told) refl

-- a set that stamps the minute of arrival breaks demand 2
pub stamps_arrival_2 : Demand2 four stamps_arrival → ⊥
unfolding computing
stamps_arrival_2 D = another_left_2 stamps_arrival 1 0 (pos 720) refl refl (λ e. let z : ◌≡◌ {A = ℕ} 720 719 = ap nat_abs e in absurd (omega arith)) D

-- a set that stores nothing, and yet answers as ours does, breaks demand 2
pub stores_nothing_2 : Demand2 four stores_nothing → ⊥
unfolding computing
stores_nothing_2 D = writes_nothing_2 stores_nothing 1 0 refl refl D

-- a set that only clears sources after the first displacement: before set 17 there is none
clears_twelve : table four clears_later twelve_in ≡ twelve_held
unfolding computing
clears_twelve = refl

-- in set 17 the first displacement is proper (animal 6 is in slot 8), the second is not (slot 13 is left free, and 17 has slot 0)
clears_leaves : (leaves clears_later twelve_held (did (sets 17))).slots
    ≡ 1310732 ∷ 13107201 ∷ 2686978 ∷ 11796483 ∷ 1114116 ∷ 7405573 ∷ 16515078 ∷ 6094855 ∷ 14745609 ∷ 0 ∷ 0 ∷ 0
    ∷ 5636104 ∷ 0 ∷ 4259850 ∷ 13369355 ∷ []
unfolding computing
clears_leaves = refl

-- animal 1, which the call is not about, was fresh and is absent
lost_one : SeenBy four clears_later twelve_held (leaves clears_later twelve_held (did (sets 17))) (cut_at clears_later 100 twelve_held (did (sets 17)))
    17 1 720 100 → ⊥
unfolding computing
lost_one u =
    ⊎_elim (not_refused 8) (λ u. ⊎_elim (not_fresh 7 (pos 720)) (λ e. let z : ◌≡◌ {A = ℕ} 1 17 = e.0 in absurd (omega arith)) u) u

-- it breaks the unchanged reads of demand 2
pub clears_later_reads : CutReads four clears_later → ⊥
clears_later_reads D =
    lost_one (subst (λ m. SeenBy four clears_later m (leaves clears_later m (did (sets 17))) (cut_at clears_later 100 m (did (sets 17)))
    17 1 720 100) clears_twelve (D twelve_in (sets 17) (omega arith) tt 100 1 720 100))

-- a set that moves properly at the first displacement and only clears sources in later ones breaks demand 2
pub clears_later_2 : Demand2 four clears_later → ⊥
clears_later_2 D = clears_later_reads D.cut_reads

-- a visit count that is always n, and n is not 1: the first set into a fresh table looks at one bucket
count_not_1 : (n : ℕ) → n ≢ 1 → Demand3 four (counts n) → ⊥
unfolding computing
count_not_1 n ne D =
    let r = (D none_yet (grant 1 5 2 2) good_one refl 0 refl).looked n 0 refl in
    r.before 0 (omega (arith, r.one)) (0, omega arith, refl)

-- a visit count that is always 1: the memory when bucket 0 is full
four_left : table four (counts 1) four_in ≡ four_held
unfolding computing
four_left = refl

-- the row beside it
four_row : row four (counts 1) four_in ≡ four_held.items
unfolding computing
four_row = refl

-- the row does not hold animal 9
nine_absent : walk_to four_held.items 9 (places four four_in) 0 ≡ None
unfolding computing
nine_absent = refl

-- and has a vacant place
place_vacant : walk_to four_held.items 0 (places four four_in) 0 ≡ Some 4
unfolding computing
place_vacant = refl

-- set 9 reports one bucket
nine_said : (counts 1).answer four_held (did (sets 9)) ≡ stored 1 0
unfolding computing
nine_said = refl

-- four of four slots are taken
four_le : 4 ≤ 4
four_le = omega arith

-- but the first bucket on the visit list of 9 is bucket 0, which is full
not_first : Position (shape_in four four_in) four_held.slots 9 1 → ⊥
unfolding computing
not_first r =
    full (shape_in four four_in).layout four_held.slots (visit (shape_in four four_in) four_held.slots 9 (1 - 1)) four_le r.free

-- so the count should be 2
count_1 : Demand3 four (counts 1) → ⊥
count_1 D =
    not_first (subst (λ (m : Mem). Position (shape_in four four_in) m.slots 9 1) four_left
    ((D four_in (grant 9 7 100 100) (record { typed = omega arith; real = λ z. absurd (omega arith); timely = λ z. absurd (omega arith); issued = omega arith })
    (ap (λ l. walk_to l 9 (places four four_in) 0) four_row ∙ nine_absent) 4
    (ap (λ l. walk_to l 0 (places four four_in) 0) four_row ∙ place_vacant)
    ).looked 1 0 (ap (λ m. (counts 1).answer m (did (sets 9))) four_left ∙ nine_said)))

-- a visit count that is always the same number, whatever number, breaks demand 3
pub count_3 : (n : ℕ) → Demand3 four (counts n) → ⊥
count_3 n D = dite (ℕ_discrete n 1) (λ e. count_1 (subst (λ n. Demand3 four (counts n)) e D)) λ ne. count_not_1 n ne D

-- a visit count that is always 682 breaks demand 3
pub count_682_3 : Demand3 four (counts 682) → ⊥
count_682_3 = count_3 682

-- a visit count that is always 1 breaks demand 3
pub count_1_3 : Demand3 four (counts 1) → ⊥
count_1_3 = count_3 1

-- the source is cleared before the destination is written: before set 17 nothing is displaced
swapped_eight : table four source_first eight_in ≡ eight_held
unfolding computing
swapped_eight = refl

-- there animal 1 is in place 0
one_held : walk_to eight_held.items 1 (places four eight_in) 0 ≡ Some 0
unfolding computing
one_held = refl

-- and so it is in the row: its words are the table's item words by demand 2, which this table meets (proofs/Blind)
eight_row : row four source_first eight_in ≡ eight_held.items
eight_row = sym (source_first_2.same_words eight_in) ∙ ap (λ (m : Mem). m.items) swapped_eight

-- after two stores of set 17 no home slot leads to animal 1
nowhere : Stands (shape_in four eight_in) (cut_at source_first 2 eight_held (did (sets 17))) 1 → ⊥
unfolding computing
nowhere = not_standing (shape_in four eight_in) 1 (cut_at source_first 2 eight_held (did (sets 17))) refl

-- a table that clears the source before it writes the destination loses an entry at a cut
pub source_first_lost : NeverLost four source_first → ⊥
source_first_lost D =
    nowhere (subst (λ m. Stands (shape_in four eight_in) (cut_at source_first 2 m (did (sets 17))) 1) swapped_eight
    (D eight_in (sets 17) (omega arith) tt 1 0 (λ z. absurd (omega arith))
    (ap (λ l. walk_to l 1 (places four eight_in) 0) eight_row ∙ one_held) (λ z. absurd (omega arith)) 2))
