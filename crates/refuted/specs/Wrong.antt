-- The wrong tables that document 01 names, each a small change of ours; one that clears the source first, one that stamps the arrival,
-- and four with wrong steps. Assumes nothing.
use Rattle.std.specs.Prelude.{ℕ, Bool, List, [], ◌∷◌, ◌++◌}
use Rattle.model.specs.Choice.{choose, one_of}
use Rattle.model.specs.Answers.{is, paper, value, Answer, refused, stored}
use Rattle.model.specs.Memory.{Mem}
use Rattle.model.specs.Shape.{four, Ways}
use Rattle.model.specs.Stores.{Block, Store, counted, enter, move, recency, remove, slot_to, stores_of, update}
use Rattle.model.specs.Calling.{Event, delete, did, evict, find, make_fresh, plan_set, read, serve, set_animal, step_enter, step_move, write_list}
use Rattle.model.specs.Lent.{event_answer, lent_call}
use Rattle.model.specs.AnyTable.{Table, Write, counter, item, slot}
use Rattle.model.specs.Ours.{our_writes, traced}

-- wrong answers: reads and serves say f of what they should say
abbrev pub misread : (Answer → Answer) → Event → Answer → Answer
misread f make_fresh a = a
misread f (did (read x limit now)) a = f a
misread f (did (serve x limit now)) a = f a
misread f (did (find x)) a = a
misread f (did (set_animal g)) a = a
misread f (did (delete x)) a = a
misread f (did (evict hand)) a = a
misread f (did (write_list size)) a = a
misread f (did (plan_set g)) a = a
misread f (did (step_move g v)) a = a
misread f (did (step_enter g p i)) a = a

-- and the steps do
abbrev pub misstep : (Answer → Answer) → Event → Answer → Answer
misstep f make_fresh a = a
misstep f (did (read x limit now)) a = a
misstep f (did (serve x limit now)) a = a
misstep f (did (find x)) a = a
misstep f (did (set_animal g)) a = a
misstep f (did (delete x)) a = a
misstep f (did (evict hand)) a = a
misstep f (did (write_list size)) a = a
misstep f (did (plan_set g)) a = a
misstep f (did (step_move g v)) a = f a
misstep f (did (step_enter g p i)) a = f a

-- refusals 1, 8 and 4 are 12, and 2 and 3, which the row knows, what they are
abbrev pub by_twelve : Answer → Answer
by_twelve a = choose (one_of (paper a).number (1 ∷ 8 ∷ 4 ∷ [])) (refused 12) a

-- the visit count is n, whatever the search did
abbrev pub miscount : ℕ → Answer → Answer
miscount n a = choose (is 4 a) (stored n (value a 2)) a

-- wrong stores: those of a set are left out, its moves, its new entry and its update
abbrev pub forgets_sets : List Block → List Store
forgets_sets [] = []
forgets_sets (move c from to y ∷ bs) = forgets_sets bs
forgets_sets (enter c p i y x v s ∷ bs) = forgets_sets bs
forgets_sets (update c p v s ∷ bs) = forgets_sets bs
forgets_sets (remove c i p ∷ bs) = stores_of (remove c i p) ++ forgets_sets bs
forgets_sets (recency p mark ∷ bs) = stores_of (recency p mark) ++ forgets_sets bs

-- a move only clears its source, and writes no destination
abbrev pub only_clears : List Block → List Store
only_clears [] = []
only_clears (move c from to y ∷ bs) = counted c (slot_to from 0 ∷ []) ++ only_clears bs
only_clears (enter c p i y x v s ∷ bs) = stores_of (enter c p i y x v s) ++ only_clears bs
only_clears (update c p v s ∷ bs) = stores_of (update c p v s) ++ only_clears bs
only_clears (remove c i p ∷ bs) = stores_of (remove c i p) ++ only_clears bs
only_clears (recency p mark ∷ bs) = stores_of (recency p mark) ++ only_clears bs

-- the first displacement of a call is proper, and the later ones only clear their sources
abbrev pub first_proper : List Block → List Store
first_proper [] = []
first_proper (b ∷ bs) = stores_of b ++ only_clears bs

-- a move clears its source before it writes its destination
abbrev pub swapped : Block → List Store
swapped (move c from to y) = counted c (slot_to from 0 ∷ slot_to to y ∷ [])
swapped (enter c p i y x v s) = stores_of (enter c p i y x v s)
swapped (update c p v s) = stores_of (update c p v s)
swapped (remove c i p) = stores_of (remove c i p)
swapped (recency p mark) = stores_of (recency p mark)

-- and so do all the moves of a call
abbrev pub all_swapped : List Block → List Store
all_swapped [] = []
all_swapped (b ∷ bs) = swapped b ++ all_swapped bs

-- an entry that is made or updated gets the stamp t, whatever stamp it should get
abbrev pub restamped : ℕ → Block → List Store
restamped t (move c from to y) = stores_of (move c from to y)
restamped t (enter c p i y x v s) = stores_of (enter c p i y x v t)
restamped t (update c p v s) = stores_of (update c p v t)
restamped t (remove c i p) = stores_of (remove c i p)
restamped t (recency p mark) = stores_of (recency p mark)

abbrev pub all_restamped : ℕ → List Block → List Store
all_restamped t [] = []
all_restamped t (b ∷ bs) = restamped t b ++ all_restamped t bs

-- the writes to slots and items alone
abbrev pub uncounted : List Write → List Write
uncounted [] = []
uncounted (counter c v ∷ ws) = uncounted ws
uncounted (slot i v ∷ ws) = slot i v ∷ uncounted ws
uncounted (item i v ∷ ws) = item i v ∷ uncounted ws

-- changes of our table, of any ways and moves
module _ (W : Ways) where
  -- other answers, and the same writes
  abbrev pub retold : (Event → Answer → Answer) → Table
  retold f = record { answer = λ m e. f e (event_answer W m e); writes = our_writes W }

  -- other stores for what a call does; fresh writes what ours writes
  abbrev pub built_writes : (List Block → List Store) → Mem → Event → List Write
  built_writes f m make_fresh = our_writes W m make_fresh
  built_writes f m (did c) = traced m (f (lent_call W m c).blocks)

  -- the same answers, and those stores
  abbrev pub built : (List Block → List Store) → Table
  built f = record { answer = event_answer W; writes = built_writes f }

-- the wrong tables by name, for the gate: one that refuses everything, by whatever numbers, and writes nothing
abbrev pub refuses_everything : (Mem → Event → ℕ) → Table
refuses_everything f = record { answer = λ m e. refused (f m e); writes = λ m e. [] }

-- reads say f of what they should say: always absent, or always fresh, is a constant f
abbrev pub misreads : (Answer → Answer) → Table
misreads f = retold four (misread f)

-- a set stores nothing and answers as ours does
abbrev pub stores_nothing : Table
stores_nothing = built four forgets_sets

-- a set moves properly at the first displacement and only clears sources in later ones
abbrev pub clears_later : Table
clears_later = built four first_proper

-- a set stamps the minute of its arrival, and answers as ours does
abbrev pub arrival_writes : Mem → Event → List Write
arrival_writes m make_fresh = our_writes four m make_fresh
arrival_writes m (did (read x limit now)) = our_writes four m (did (read x limit now))
arrival_writes m (did (serve x limit now)) = our_writes four m (did (serve x limit now))
arrival_writes m (did (find x)) = our_writes four m (did (find x))
arrival_writes m (did (set_animal g)) =
    traced m (all_restamped g.minute (lent_call four m (set_animal g)).blocks)
arrival_writes m (did (delete x)) = our_writes four m (did (delete x))
arrival_writes m (did (evict hand)) = our_writes four m (did (evict hand))
arrival_writes m (did (write_list size)) = our_writes four m (did (write_list size))
arrival_writes m (did (plan_set g)) = our_writes four m (did (plan_set g))
arrival_writes m (did (step_move g v)) = our_writes four m (did (step_move g v))
arrival_writes m (did (step_enter g p i)) = our_writes four m (did (step_enter g p i))

abbrev pub stamps_arrival : Table
stamps_arrival = record { answer = event_answer four; writes = arrival_writes }

-- the visit count is always n
abbrev pub counts : ℕ → Table
counts n = retold four (λ e. miscount n)

-- the source is cleared before the destination is written
abbrev pub source_first : Table
source_first = built four all_swapped

-- a step would be made
abbrev a_step : Mem → Event → Bool
a_step m e = one_of (value (event_answer four m e) 0) (11 ∷ 12 ∷ [])

-- every step that would be made is 12 in its place, and nothing is written
abbrev pub never_steps : Table
never_steps =
    record {
      answer = λ m e. choose (a_step m e) (refused 12) (event_answer four m e);
      writes = λ m e. choose (a_step m e) [] (our_writes four m e);
    }

-- a step is 12 where 1, 8 or 4 should come first
abbrev pub twelve_first : Table
twelve_first = retold four (misstep by_twelve)

-- a move is said to be made, and f of what it should write is written
abbrev pub miswritten : (List Write → List Write) → Table
miswritten f =
    record { answer = event_answer four; writes = λ m e. choose (is 11 (event_answer four m e)) (f (our_writes four m e)) (our_writes four m e) }

-- a move writes nothing
abbrev pub moves_nothing : Table
moves_nothing = miswritten (λ ws. [])

-- a move does not count
abbrev pub counts_nothing : Table
counts_nothing = miswritten uncounted
