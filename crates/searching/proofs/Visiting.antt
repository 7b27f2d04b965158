-- The visits of the four-way search: what is so at each, and what the search gives back where it ends there. Assumes nothing.
use Prim.Native.Nat.{ℕ, ◌+◌, ◌*◌, ◌<◌, ◌≤◌}
use native.Mathlib.Omega.{arith}
use mathlib.Core.Path.{◌≡◌, ap, ◌∙◌}
use Rattle.std.specs.Prelude.{Option, Some, None, Result, Ok, Err}
use mathlib.Core.List.{List}
use lib.ListN.{length, get_or, set, replicate}
use Rattle.model.specs.Memory.{tag}
use Rattle.model.specs.Hash.{Size, other_bucket}
use Rattle.model.specs.Shape.{Layout, four}
use Rattle.model.specs.declared.Refusal.{Refusal}
use Rattle.model.specs.declared.Refusal.TheVariants.{Damaged, NoRoom}
use Rattle.paths.specs.declared.Found.{Found}
use Rattle.paths.specs.Buckets.{bucket_words, layout_of, sound_free}
use Rattle.paths.specs.Path.{BackFrom, room_from}
use Rattle.paths.proofs.Words.{Judged, bad, crowded, judged, room}
use Rattle.paths.proofs.Visits.{visit_in, visits_long, visits_of}
use Rattle.paths.proofs.Back.{room_same}
use Rattle.searching.specs.Search.{Asked, FoundIs}
use Rattle.searching.proofs.Stops.{Behind, behind_more, behind_none, stops_damaged, stops_nowhere, stops_with_room}
use Rattle.searching.proofs.Queue.{Queued, queued_homes, queued_more}

module _ (n m : ℕ) (T : List ℕ) (b c : ℕ) where
  -- the search is at position v
  pub record Visiting (queue : List ℕ) (v : ℕ) : Type 0 where
    pub asked : Asked four T n b c
    pub upto : v ≤ 682
    pub queued : Queued n T b c queue (2 + 4 * v)
    pub behind : Behind four n m T b c v

  -- at the start
  pub visit_homes : {x y : ℕ} → Asked four T n b c → x ≡ b → y ≡ c
      → Visiting (set (set (replicate 682 0) 0 x) 1 y) 0
  visit_homes ask ex ey = record { asked = ask; upto = omega arith; queued = queued_homes n T b c ex ey; behind = behind_none four n m T b c }

  -- the whole list is visited
  pub visit_none : {queue : List ℕ} {v : ℕ} → Visiting queue v → 682 ≤ v → FoundIs four n m T b c (Err NoRoom)
  visit_none st h = stops_nowhere st.behind (omega (arith, st.upto, visits_long four n T b c))

-- the visit to position v, whose bucket is x
pub record AtVisit (n m : ℕ) (T : List ℕ) (b c : ℕ) (queue : List ℕ) (v x : ℕ) : Type 0 where
  pub so_far : Visiting n m T b c queue v
  pub early : v < 682
  pub bucket : x ≡ get_or queue v 0

-- where the search is at a position of the list, it visits the bucket that the queue has there
pub at_visit : {n m : ℕ} {T : List ℕ} {b c : ℕ} {queue : List ℕ} {v x : ℕ} → Visiting n m T b c queue v → v < 682
    → x ≡ get_or queue v 0 → AtVisit n m T b c queue v x
at_visit so_far early bucket = record { so_far = so_far; early = early; bucket = bucket }

-- the visit to position v
module _ {n m : ℕ} {T : List ℕ} {b c : ℕ} {queue : List ℕ} {v : ℕ} (st : Visiting n m T b c queue v) (early : v < 682) where
  -- its bucket
  abbrev x : ℕ
  x = get_or queue v 0

  abbrev S : Layout
  S = layout_of four n

  abbrev Q : List ℕ
  Q = visits_of four n T b c

  in_queue : (p : ℕ) → p ≤ v → get_or queue p 0 ≡ get_or Q p 0
  in_queue p h = st.queued.put p (omega (arith, early)) (omega arith)

  in_table : (p : ℕ) → p ≤ v → get_or Q p 0 < n
  in_table p h =
      let ask = st.asked in
      visit_in four n T b c ask.size ask.first_in ask.second_in p (omega (arith, early, visits_long four n T b c))

  bucket_is : x ≡ get_or Q v 0
  bucket_is = st.queued.put v early (omega arith)

  -- what the calls require
  pub may_lead : Size n × (x < n)
  may_lead = (st.asked.size, rw bucket_is (in_table v (omega arith)))

  pub words_in : x * 4 + 4 ≤ length T
  words_in = omega (arith, may_lead.1, st.asked.long)

  pub back_from : {s : ℕ} → s < 4 → BackFrom T queue v s
  back_from h = record { early = early; slot = h; within = λ p l. omega (arith, in_queue p l, in_table p l, st.asked.long) }

  -- its words w, and what was found among them
  module _ {w : List ℕ} (words : w ≡ bucket_words 4 T x) {r : Result (Option ℕ) Refusal} (said : r ≡ sound_free m w) where
    words_here : w ≡ bucket_words 4 T (get_or Q v 0)
    words_here = words ∙ ap (bucket_words 4 T) bucket_is

    in_list : v < length Q
    in_list = omega (arith, early, visits_long four n T b c)

    here : Judged S T (get_or Q v 0) m r
    here = rw said (judged S T (get_or Q v 0) m words_here)

    -- one of them is damaged
    pub visit_damaged : {e : Refusal} → r ≡ Err e → FoundIs four n m T b c (Err e)
    visit_damaged {e} t = go here t
      where
        go : {r : Result (Option ℕ) Refusal} → Judged S T (get_or Q v 0) m r → r ≡ Err e → FoundIs four n m T b c (Err e)
        go (bad d) t = let z : Damaged ≡ e = cc in rw (← z) (stops_damaged st.behind in_list d)
        go (room d h z) t = cc
        go (crowded d f) t = cc

    -- none is, and slot s is the first that is free
    pub slot_small : {s : ℕ} → r ≡ Ok (Some s) → s < 4
    slot_small {s} t = go here t
      where
        go : {r : Result (Option ℕ) Refusal} → Judged S T (get_or Q v 0) m r → r ≡ Ok (Some s) → s < 4
        go (bad d) t = cc
        go (room {s = k} d h z) t = let same : k ≡ s = cc in omega arith
        go (crowded d f) t = cc

    pub visit_room : {s : ℕ} {f : Found} → r ≡ Ok (Some s) → ((k : ℕ) → f ≡ room_from four k T queue v s) → FoundIs four n m T b c (Ok f)
    visit_room {s} {f} t e = go here t
      where
        go : {r : Result (Option ℕ) Refusal} → Judged S T (get_or Q v 0) m r → r ≡ Ok (Some s) → FoundIs four n m T b c (Ok f)
        go (bad d) t = cc
        go (room {s = k} d h z) t =
            let same : k ≡ s = cc in
            rw (e n ∙ room_same four n T queue Q v s in_queue) (stops_with_room st.behind in_list d (rw (← same) h) (rw (← same) z))
        go (crowded d f) t = cc

    -- none is free: the search goes on
    module _ (t : r ≡ Ok None) where
      past : Behind four n m T b c (v + 1)
      past = go here t
        where
          go : {r : Result (Option ℕ) Refusal} → Judged S T (get_or Q v 0) m r → r ≡ Ok None → Behind four n m T b c (v + 1)
          go (bad d) t = cc
          go (room d h z) t = cc
          go (crowded d f) t = behind_more st.behind d f

      -- at the last level, with no bucket put into the queue
      pub onward : 170 ≤ v → Visiting n m T b c queue (v + 1)
      onward k =
          let g = st.queued in
          record {
            asked = st.asked;
            upto = omega (arith, early);
            queued = record { long = g.long; put = λ p h l. g.put p h (omega arith) };
            behind = past;
          }

      -- before it, with the buckets that its four words lead to
      pub pushed : {after : List ℕ} {s : ℕ} → Queued n T b c after (2 + 4 * v + s) → 4 ≤ s → Visiting n m T b c after (v + 1)
      pushed g k =
          record {
            asked = st.asked;
            upto = omega (arith, early);
            queued = record { long = g.long; put = λ p h l. g.put p h (omega arith) };
            behind = past;
          }

  pub push_one : {w after : List ℕ} {s y : ℕ} → w ≡ bucket_words 4 T x → v < 170 → s < 4 → Queued n T b c after (2 + 4 * v + s)
      → y ≡ other_bucket n (tag (get_or w s 0)) x → Queued n T b c (set after (2 + 4 * v + s) y) (2 + 4 * v + (s + 1))
  push_one words k h g e = queued_more n T b c g k h bucket_is (words ∙ ap (bucket_words 4 T) bucket_is) e
