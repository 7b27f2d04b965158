-- Where an absent animal would go: the lowest vacant place, then the search; a law a way out. Assumes nothing.
use Prim.Native.Nat.{ℕ, ◌*◌, ◌<◌, ◌≤◌, ◌/◌, ◌^◌}
use native.Mathlib.Nat.{mul-le-mul_right}
use native.Mathlib.Omega.{arith}
use mathlib.Core.Path.{◌≡◌, sym, ap, ◌∙◌, subst, ap₂}
use mathlib.Core.Bool.{Bool}
use Rattle.std.specs.Prelude.{Option, Some, Result, Ok, Err}
use mathlib.Core.List.{List}
use lib.ListN.{length, take, length-take}
use lib.Seq.{get_or-take}
use lib.Dec.{eqb}
use Rattle.model.specs.Choice.{choose}
use Rattle.model.specs.Memory.{Mem}
use Rattle.model.specs.Shape.{Shape, Ways, second_of, shape_of}
use Rattle.model.specs.Moves.{Move, as_moves, four_records, records_of}
use Rattle.model.specs.Answers.{planned}
use Rattle.model.specs.Calls.{Outcome, enter_at, entered, final_slot, moves_found, plan_new, refuse, stopped, tell, vacant_place, visited}
use Rattle.model.specs.Said.{plan_of}
use Rattle.model.proofs.Hash.{size_most}
use Rattle.model.proofs.Lent.{fit, law}
use Rattle.model.proofs.Records.{length_records, numbers_back}
use Rattle.paths.specs.Path.{path_records}
use Rattle.places.proofs.Found.{vacant_within}
use Rattle.searching.specs.Search.{Asked, FoundIs}
use Rattle.searching.proofs.Endings.{Ends, RoomFound, at_damage, at_last, at_room, ends_so}
use Rattle.searching.proofs.Inside.{sources_in}
use Rattle.moves.specs.Moves.{MovesIn}
use Rattle.vacancy.specs.Room.{Homed, RoomIs, entering_new, planning_new}
use Rattle.model.specs.declared.Grant.{Grant}
use Rattle.model.specs.declared.Plan.{Plan}
use Rattle.model.specs.declared.Refusal.{Refusal}
use Rattle.model.specs.declared.Refusal.TheVariants.{Damaged, NoRoom}
use Rattle.hashing.specs.declared.Homes.{Homes}
use Rattle.paths.specs.declared.Found.{Found}
use Rattle.vacancy.specs.declared.Room.{Room}

-- a plan in the code's words: its moves behind each other, and empty ones to fill the four
plan_found : (T : List ℕ) (ms : List Move) (p i : ℕ)
    → plan_of (planned (records_of T ms) p i) ≡ Ok (record { moves = path_records T ms; count = length ms; place = p; slot = i })
plan_found T ms p i =
    ap (λ vs. Ok (record { moves = four_records vs; count = length vs; place = p; slot = i })) (numbers_back (records_of T ms))
    ∙ ap (λ n. Ok (record { moves = path_records T ms; count = n; place = p; slot = i })) (length_records T ms)

module _ (W : Ways) (m : Mem) (x : ℕ) {h : Homes} (a : Homed W m x h) where
  -- what the search takes, and the walk over the places
  pub asked_is : Asked W m.slots (length m.slots / W.ways) h.first h.second
  asked_is =
      let f = fit W m a.right in
      let L = law W m a.right in
      let Y = shape_of W m in
      record {
        size = f.size;
        long = f.slots_fit;
        first_in = rw a.homes_are.first_is (L.first_in x);
        second_in = rw a.homes_are.second_is (L.other_in (Y.tag_of x) (Y.first_of x) (L.first_in x));
      }

  pub places_are : (length m.items / 4 ≤ 4096) × (length m.items ≡ 4 * (length m.items / 4))
  places_are = let f = fit W m a.right in (f.few, f.items_fit)

-- a vacant place fits 32 bits
pub vacant_fits : {W : Ways} {m : Mem} {x : ℕ} {h : Homes} → Homed W m x h → {y : Option ℕ} → y ≡ vacant_place (length m.items / 4) m.items
    → {p : ℕ} → y ≡ Some p → p < 2 ^ 32
vacant_fits {W} {m} a v e = omega (arith, vacant_within (length m.items / 4) m.items v e, (fit W m a.right).few)

module _ (W : Ways) (m : Mem) (g : Grant) {h : Homes} (a : Homed W m g.animal h) {y : Option ℕ} (v : y ≡ vacant_place (length m.items / 4) m.items) where
  abbrev Y : Shape
  Y = shape_of W m

  refused_able : {e : Refusal} {room : Room} {A : Type 0} → ◌≡◌ {A = Result Room Refusal} (Err e) (Ok room) → A
  refused_able q = absurd (cc)

  -- place p is, and r is what the search from there found
  module _ {p : ℕ} (e : y ≡ Some p) where
    into : {o : Outcome} → o ≡ enter_at Y m g (Some p) → o ≡ entering_new W m g
    into q = q ∙ ap (enter_at Y m g) (sym e ∙ v)

    as_plan : {b : Result Plan Refusal} → b ≡ plan_of (plan_new Y m g.animal (Some p)).answer → b ≡ plan_of (planning_new W m g.animal).answer
    as_plan q = q ∙ ap (λ o. plan_of (plan_new Y m g.animal o).answer) (sym e ∙ v)

    own : {r : Result Found Refusal} → FoundIs W (length m.slots / W.ways) (length m.items / 4) m.slots h.first h.second r
        → FoundIs W (length m.slots / W.ways) (length m.items / 4) m.slots (Y.first_of g.animal) (second_of Y g.animal) r
    own {r} f =
        subst (λ c. FoundIs W (length m.slots / W.ways) (length m.items / 4) m.slots (Y.first_of g.animal) c r) a.homes_are.second_is
        (subst (λ b. FoundIs W (length m.slots / W.ways) (length m.items / 4) m.slots b h.second r) a.homes_are.first_is f)

    abbrev at_end : Bool
    at_end = eqb (stopped Y m g.animal) (length (visited Y m g.animal))

    abbrev found_plan : Outcome
    found_plan = tell (planned (records_of m.slots (moves_found Y m g.animal)) p (final_slot Y m g.animal))

    abbrev Ending : Result Found Refusal → Type 0
    Ending r = Ends W (length m.slots / W.ways) (length m.items / 4) m.slots (Y.first_of g.animal) (second_of Y g.animal) r

    -- it found none
    pub room_refused : {r : Result Found Refusal} → FoundIs W (length m.slots / W.ways) (length m.items / 4) m.slots h.first h.second r
        → {e : Refusal} → r ≡ Err e → RoomIs W m g h (Err e)
    room_refused f {e} q = go (ends_so W _ _ m.slots _ _ (own f)) q
      where
        go : {r : Result Found Refusal} → Ending r → r ≡ Err e → RoomIs W m g h (Err e)
        go (at_damage d) q =
            let z : Damaged ≡ e = cc in
            rw (← z)
            (record {
              comes = into (sym (ap (λ b. choose b (refuse 4) (choose at_end (refuse 6) (entered Y m g p))) d));
              plans = as_plan (sym (ap (λ b. plan_of (choose b (refuse 4) (choose at_end (refuse 6) found_plan)).answer) d));
              able = λ s l z room q. refused_able q;
            })
        go (at_last d t) q =
            let z : NoRoom ≡ e = cc in
            rw (← z)
            (record {
              comes = into (sym (ap₂ (λ (b c : Bool). choose b (refuse 4) (choose c (refuse 6) (entered Y m g p))) d t));
              plans = as_plan (sym (ap₂ (λ (b c : Bool). plan_of (choose b (refuse 4) (choose c (refuse 6) found_plan)).answer) d t));
              able = λ s l z room q. refused_able q;
            })
        go (at_room t) q = absurd (cc)

    -- it found room
    pub room_there : W.ways ≤ 8 → W.reach ≤ 4 → {r : Result Found Refusal}
        → FoundIs W (length m.slots / W.ways) (length m.items / 4) m.slots h.first h.second r → {f : Found} → r ≡ Ok f
        → RoomIs W m g h (Ok (record { place = p; found = f }))
    room_there narrow short ends {f} q = go (ends_so W _ _ m.slots _ _ (own ends)) q
      where
        asked_own : Asked W m.slots (length m.slots / W.ways) (Y.first_of g.animal) (second_of Y g.animal)
        asked_own = rw (a.homes_are.first_is, a.homes_are.second_is) at (asked_is W m g.animal a)

        the_room : RoomFound W (length m.slots / W.ways) (length m.items / 4) m.slots (Y.first_of g.animal) (second_of Y g.animal) f
            → RoomIs W m g h (Ok (record { place = p; found = f }))
        the_room t =
            let moves : as_moves (take f.count f.moves) ≡ moves_found Y m g.animal = t.first_moves in
            record {
              comes = into (sym (ap₂ (λ (b c : Bool). choose b (refuse 4) (choose c (refuse 6) (entered Y m g p))) t.undamaged t.not_at_end
                  ∙ rw (moves, t.visits_are, t.count_is, t.slot_is, a.homes_are.counter_is, a.homes_are.tag_is)));
              plans = as_plan (sym (ap₂ (λ (b c : Bool). plan_of (choose b (refuse 4) (choose c (refuse 6) found_plan)).answer) t.undamaged t.not_at_end
                  ∙ plan_found m.slots (moves_found Y m g.animal) p (final_slot Y m g.animal) ∙ rw (t.moves_are, t.count_is, t.slot_is)));
              able = λ s l z room q.
                  let same : record { place = p; found = f } ≡ room = cc in
                  rw (← same)
                  (record {
                    tag_small = a.homes_are.tag_high;
                    place_small = omega (arith, vacant_within (length m.items / 4) m.items v e, (fit W m a.right).few);
                    four = omega (arith, t.few_moves);
                    moves_in = moves_in t s l z;
                  });
            }
          where
            moves_in : RoomFound W (length m.slots / W.ways) (length m.items / 4) m.slots (Y.first_of g.animal) (second_of Y g.animal) f
                → (s : ℕ) → s < 32 → W.ways ≡ 2 ^ s → MovesIn (length m.slots / 2 ^ s) (length m.counters) s (take f.count f.moves)
            moves_in t s l q =
                let i = fit W m a.right in
                record {
                  size = rw q at i.size;
                  some = i.some;
                  few = i.few_counters;
                  narrow = l;
                  sources = λ j k d.
                      let short : j < f.count = omega (arith, length-take f.count f.moves) in
                      rw get_or-take (omega (arith, sources_in asked_own t j short d, i.slots_fit, mul-le-mul_right W.ways (size_most i.size)));
                }

        go : {r : Result Found Refusal} → Ending r → r ≡ Ok f → RoomIs W m g h (Ok (record { place = p; found = f }))
        go (at_damage d) q = absurd (cc)
        go (at_last d t) q = absurd (cc)
        go (at_room {r} t) q = let same : r ≡ f = cc in the_room (rw (← same) t)
