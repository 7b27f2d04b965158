-- What evict is to do: a law a way out of the look, in the code's own words. Assumes nothing.
use Prim.Native.Nat.{ℕ, ◌+◌, ◌*◌, ◌<◌, ◌/◌, ◌%◌}
use native.Mathlib.Omega.{arith}
use native.Mathlib.Decide.{ℕ_discrete}
use mathlib.Core.Path.{◌≡◌, refl, sym, ap, ◌∙◌, ap₂}
use mathlib.Core.Logic.{dite}
use mathlib.Core.Bool.{Bool, true, false, not}
use Rattle.std.specs.Prelude.{Option, Some, None, Ok, Err}
use mathlib.Core.List.{List, ◌++◌}
use lib.ListN.{length, get_or}
use lib.Dec.{eqb}
use borrow.Author.Tests.{eq-eqb, ne_eqb, lt-leb, not-false}
use Rattle.model.specs.Choice.{choose, first, range}
use Rattle.model.specs.Memory.{Mem, place, tag, word}
use Rattle.model.specs.Shape.{Ways, good_lengths, homes, right_lengths, shape_of}
use Rattle.model.specs.Calling.{evict}
use Rattle.model.specs.Clock.{Victim, victim}
use Rattle.model.specs.Calls.{Outcome, busy, call, evict_animal, evict_at, evict_slot, home_damage, refuse, slot_of, some_live}
use Rattle.model.specs.Lent.{lent_call}
use Rattle.model.proofs.ListLaws.{both_no, both_yes, first_same}
use Rattle.model.proofs.Lent.{fit}
use Rattle.model.specs.declared.Refusal.TheVariants as refusal
use Rattle.looking.specs.Look.{LooksHome, own_words}
use Rattle.looking.proofs.Looking.{sound_calm}
use Rattle.looking.specs.declared.Home.{Home}
use Rattle.places.specs.Walks.{scanned}
use Rattle.places.proofs.Found.{Within, scan_empty, scan_live, scan_within}
use Rattle.places.specs.declared.Victim.{Victim as Found}
use Rattle.aiming.specs.Aiming.{Aim, Aimed, Aims, AimsAt, Handed, Readies, Turns, aiming, places_in}

-- a word has a tag and a place exactly if it is made of them
word_test : (w t p : ℕ) → p < 65536 → choose (eqb (tag w) t) (eqb (place w) p) false ≡ eqb w (t * 65536 + p)
unfolding tag place
word_test w t p h =
    dite (ℕ_discrete w (t * 65536 + p))
    (λ e. let a : w / 65536 ≡ t = omega arith in
    let b : w % 65536 ≡ p = omega arith in
    both_yes a b ∙ sym (eq-eqb w (t * 65536 + p) e))
    λ e. both_no (w / 65536) t (w % 65536) p (λ a b. e (omega arith)) ∙ sym (ne_eqb w (t * 65536 + p) e)

-- so the victim's slot is the first home slot with that word
slot_by_word : (W : Ways) (m : Mem) (x p : ℕ) → p < 65536
    → slot_of (shape_of W m) m x p ≡ first (λ i. eqb (word m i) ((shape_of W m).tag_of x * 65536 + p)) (homes (shape_of W m) x)
unfolding slot_of
slot_by_word W m x p h =
    first_same (λ i. choose (eqb (tag (word m i)) ((shape_of W m).tag_of x)) (eqb (place (word m i)) p) false)
    (λ i. eqb (word m i) ((shape_of W m).tag_of x * 65536 + p)) (λ i. word_test (word m i) ((shape_of W m).tag_of x) p h) (homes (shape_of W m) x)

-- the refusals of the victim in place p, animal x, and its slot
module _ (W : Ways) (m : Mem) (p n : ℕ) {x : ℕ} {h : Home} (a : Aimed W m p) (number : x ≡ get_or m.items (4 * p) 0) (l : LooksHome W m x h) where
  abbrev the_victim : Victim
  the_victim = record { place = p; looked = n }

  abbrev slot_due : ℕ → Outcome
  slot_due hand = evict_slot (shape_of W m) m hand the_victim x (slot_of (shape_of W m) m x p)

  in_turn : (hand : ℕ) → evict_at (shape_of W m) m hand (Some the_victim)
      ≡ choose (busy (shape_of W m) m x) (refuse 8) (choose (home_damage (shape_of W m) m x) (refuse 4) (slot_due hand))
  in_turn hand = ap (evict_animal (shape_of W m) m hand the_victim) (sym number)

  module _ {ws : List ℕ} (calm : h.words ≡ Ok ws) {o : Option ℕ}
      (found : o ≡ first (λ i. eqb (get_or m.slots i 0) (h.homes.tag * 65536 + p)) (range (h.homes.first * W.ways) W.ways ++ range (h.homes.second * W.ways) W.ways)) where
    slot_is : o ≡ slot_of (shape_of W m) m x p
    slot_is =
        found
        ∙ ap (λ t. first (λ i. eqb (get_or m.slots i 0) (t * 65536 + p)) (range (h.homes.first * W.ways) W.ways ++ range (h.homes.second * W.ways) W.ways)) l.homes_are.tag_is
        ∙ ap₂ (λ (f g : ℕ). first (λ i. eqb (get_or m.slots i 0) ((shape_of W m).tag_of x * 65536 + p)) (range (f * W.ways) W.ways ++ range (g * W.ways) W.ways))
        l.homes_are.first_is l.homes_are.second_is
        ∙ sym (slot_by_word W m x p (omega (arith, a.below, a.few)))

    past_look : (hand : ℕ) → evict_at (shape_of W m) m hand (Some the_victim) ≡ evict_slot (shape_of W m) m hand the_victim x o
    past_look hand =
        in_turn hand ∙ sound_calm W m x (own_words W m x) l.words_are calm (slot_due hand)
        ∙ ap (evict_slot (shape_of W m) m hand the_victim x) (sym slot_is)

    pub aim_nowhere : o ≡ None → AimsAt W m p n (Err refusal.Damaged)
    aim_nowhere q = record { comes = λ hand. sym (past_look hand ∙ ap (evict_slot (shape_of W m) m hand the_victim x) q); aims = tt }

    pub aim_takes : {i : ℕ} → o ≡ Some i → AimsAt W m p n (Ok (record { animal = x; place = p; looked = n; counter = h.homes.counter; slot = i }))
    aim_takes {i} q =
        record {
          comes = λ hand. sym (past_look hand ∙ ap (evict_slot (shape_of W m) m hand the_victim x) q
              ∙ ap (λ c. aiming m hand (Ok (record { animal = x; place = p; looked = n; counter = c; slot = i }))) (sym l.homes_are.counter_is));
          aims = (refl, refl);
        }

-- refusal 1 is not due
pub turn_handed : (W : Ways) (m : Mem) (hand : ℕ) {g : Bool} → g ≡ good_lengths W (length m.slots) (length m.counters) (length m.items) → not g ≡ false
    → hand < places_in m → Handed W m hand
turn_handed W m hand {g} good e q =
    let right : right_lengths W m ≡ true = sym good ∙ not-false g e in
    let f = fit W m right in
    record { lengths = right; few = f.few; four_each = f.items_fit; below = q }

-- refusal 7, and the refusals of the victim
module _ (W : Ways) (m : Mem) (hand : ℕ) (h : Handed W m hand) where
  abbrev live_due : Outcome
  live_due = evict_at (shape_of W m) m hand (victim (places_in m) m.items hand)

  past_hand : {b : Bool} → some_live (places_in m) m.items ≡ b → lent_call W m (evict hand) ≡ choose b live_due (refuse 7)
  past_hand lives =
      ap (λ z. choose z (call (shape_of W m) m (evict hand)) (refuse 1)) h.lengths
      ∙ ap (λ z. choose z (refuse 1) (choose (some_live (places_in m) m.items) live_due (refuse 7))) (lt-leb (places_in m) hand h.below)
      ∙ ap (λ z. choose z live_due (refuse 7)) lives

  module _ {s : Option Found} (seen : scanned s ≡ victim (places_in m) m.items hand) where
    pub turn_nobody : s ≡ None → Turns W m hand (Err refusal.Absent)
    turn_nobody q = record { comes = sym (past_hand (scan_empty (places_in m) m.items hand seen h.below q)); readies = tt }

    module _ {v : Found} (is_taken : s ≡ Some v) where
      there : Within (places_in m) m.items (record { place = v.place; looked = v.looked })
      there = scan_within (places_in m) m.items hand seen h.below is_taken

      -- its place fits 32 bits
      pub turn_small : v.place < 4294967296
      turn_small = omega (arith, there.below, h.few)

      pub turn_aimed : Aimed W m v.place
      turn_aimed = record { lengths = h.lengths; few = h.few; below = there.below }

      pub turn_found : {r : Aim} → AimsAt W m v.place v.looked r → Turns W m hand r
      turn_found {r} d =
          record {
            comes = sym (past_hand (scan_live (places_in m) m.items hand seen h.below is_taken)
                ∙ ap (evict_at (shape_of W m) m hand) (sym seen ∙ ap scanned is_taken) ∙ sym (d.comes hand));
            readies = ready r d.aims;
          }
        where
          ready : (r : Aim) → Aims v.place v.looked r → Readies m hand r
          ready (Err k) q = tt
          ready (Ok t) q =
              record {
                four_each = h.four_each;
                hand_below = h.below;
                place_below = rw q.0 there.below;
                looked_some = rw q.1 there.looked_some;
              }
