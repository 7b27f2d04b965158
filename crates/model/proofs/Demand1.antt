-- Demand 1 for our table, on any memory: a refusal is from the list and makes no store. Assumes nothing.
use Prim.Native.Nat.{ℕ, ◌*◌, ◌<◌}
use native.Mathlib.Omega.{arith}
use mathlib.Core.Path.{◌≡◌, refl, ap, ◌∙◌, subst}
use mathlib.Core.Bool.{Bool, true, false}
use Rattle.std.specs.Prelude.{Option, Some, None}
use mathlib.Core.List.{List, [], ◌∷◌}
use lib.ListN.{length, take}
use lib.Seq.{take-nil}
use lib.Dec.{eqb, ltb, leb}
use Rattle.model.specs.Choice.{choose, range, first, one_of, any, there}
use Rattle.model.specs.Memory.{Mem, animal, permission, stamp}
use Rattle.model.specs.Shape.{Shape, right_lengths, shape_of, Ways}
use Rattle.model.specs.Stores.{stores}
use Rattle.model.specs.Answers.{Answer, absent, at_place, Listed, refusal_numbers, paper, listed, refused, started}
use Rattle.model.specs.Age.{bad_time, judge, late, bad_grant}
use Rattle.model.specs.Clock.{Victim, victim}
use Rattle.model.specs.Listing.{listing, live_count}
use Rattle.model.specs.Calls.{Outcome, asked, busy, call, delete_at, enter_at, evict_at, evict_slot, find_at, held, hit, home_damage, refuse}
use Rattle.model.specs.Calls.{final_at, may_enter, may_move, move_at, plan_at, plan_new, serve_at, set_at, slot_of, some_live, stopped, tell, vacant_place, visited, search_damage}
use Rattle.model.specs.Lent.{lent_call}
use Rattle.model.specs.AnyTable.{Table, Write, make_all}
use Rattle.model.specs.Demands.{Demand1}
use Rattle.model.specs.Ours.{ours, traced, wipe}
use Rattle.model.specs.declared.Grant.{Grant}
use Rattle.model.proofs.Verdict.{of_verdict}
use Rattle.model.proofs.ListLaws.{true_false, bool}
use Rattle.model.specs.Calling.{Call, Event, make_fresh, read, did, serve, find, set_animal, delete, evict, write_list, plan_set, step_move, step_enter}
use mathlib.Core.Logic.{dite}
use native.Mathlib.Decide.{ℕ_discrete}
use borrow.Author.Tests.{leb-false, eqb-true}
use Rattle.model.proofs.Paper.{numbered}

abbrev none_told : List ℕ → Bool
none_told [] = true
none_told (v ∷ vs) = false

-- whether an answer is a refusal: it tells no value
abbrev pub is_refusal : Answer → Bool
is_refusal a = none_told (paper a).values

-- an outcome that is no refusal, or is one from the list and has no stores
abbrev Clean : Outcome → Type 0
Clean o = (n : ℕ) → o.answer ≡ refused n → Listed n × (o.blocks ≡ [])

one_by_one : (b : Bool) {o o' : Outcome} → Clean o → Clean o' → Clean (choose b o o')
one_by_one true c c' = c
one_by_one false c c' = c'

refusal : (k : ℕ) → Listed k → Clean (refuse k)
refusal k l n e = let f : k ≡ n = cc in (subst Listed f l, refl)

told : (o : Outcome) → is_refusal o.answer ≡ false → Clean o
told o f n e = true_false (ap is_refusal e) f

pub judged : (l : List ℕ) (limit now : ℕ) (o : Option ℕ) → is_refusal (judge l limit now o) ≡ false
judged l limit now None = refl
judged l limit now (Some p) = of_verdict limit now (permission l p) (stamp l p) (λ a. is_refusal a ≡ false) (λ z. refl) (λ z. refl) refl

module _ (Y : Shape) (m : Mem) where
  asks : (x : ℕ) (bad : Bool) (o : Outcome) → Clean o → Clean (asked Y m x bad o)
  asks x bad o c =
      one_by_one (eqb x 0) (refusal 2 refl) (one_by_one bad (refusal 3 refl)
      (one_by_one (busy Y m x) (refusal 8 refl) (one_by_one (home_damage Y m x) (refusal 4 refl) c)))

  serves : (limit now : ℕ) (o : Option ℕ) → Clean (serve_at Y m limit now o)
  serves limit now None = told (tell absent) refl
  serves limit now (Some p) = told (serve_at Y m limit now (Some p)) (judged m.items limit now (Some p))

  finds : (o : Option ℕ) → Clean (tell (find_at o))
  finds None = told (tell absent) refl
  finds (Some p) = told (tell (at_place p)) refl

  enters : (g : Grant) (o : Option ℕ) → Clean (enter_at Y m g o)
  enters g None = refusal 5 refl
  enters g (Some p) =
      one_by_one (search_damage Y m g.animal) (refusal 4 refl)
      (one_by_one (eqb (stopped Y m g.animal) (length (visited Y m g.animal))) (refusal 6 refl) λ n e. true_false (ap is_refusal e) refl)

  sets : (g : Grant) (o : Option ℕ) → Clean (set_at Y m g o)
  sets g None = enters g (vacant_place Y.places m.items)
  sets g (Some p) = one_by_one (late (stamp m.items p) g) (refusal 11 refl) λ n e. true_false (ap is_refusal e) refl

  plans_new : (x : ℕ) (o : Option ℕ) → Clean (plan_new Y m x o)
  plans_new x None = refusal 5 refl
  plans_new x (Some p) =
      one_by_one (search_damage Y m x) (refusal 4 refl)
      (one_by_one (eqb (stopped Y m x) (length (visited Y m x))) (refusal 6 refl) λ n e. true_false (ap is_refusal e) refl)

  plans : (x : ℕ) (o : Option ℕ) → Clean (plan_at Y m x o)
  plans x None = plans_new x (vacant_place Y.places m.items)
  plans x (Some p) = refusal 12 refl

  deletes : (x : ℕ) (o : Option ℕ) → Clean (delete_at Y m x o)
  deletes x None = refusal 7 refl
  deletes x (Some i) = λ n e. true_false (ap is_refusal e) refl

  evict_slots : (hand : ℕ) (v : Victim) (x : ℕ) (o : Option ℕ) → Clean (evict_slot Y m hand v x o)
  evict_slots hand v x None = refusal 4 refl
  evict_slots hand v x (Some i) = λ n e. true_false (ap is_refusal e) refl

  evicts : (hand : ℕ) (o : Option Victim) → Clean (evict_at Y m hand o)
  evicts hand None = refusal 10 refl
  evicts hand (Some v) =
      let x = animal m.items v.place in
      one_by_one (busy Y m x) (refusal 8 refl)
      (one_by_one (home_damage Y m x) (refusal 4 refl) (evict_slots hand v x (slot_of Y m x v.place)))

  lists : (size : ℕ) → Clean (tell (listing m.items Y.places size))
  unfolding listing
  lists size = go (ltb size (20 * live_count m.items (range 0 Y.places))) _ _
    where
      go : (b : Bool) (n : ℕ) (bs : List ℕ) → Clean (tell (choose b (refused 9) (listed n bs)))
      go true n bs = refusal 9 refl
      go false n bs = told (tell (listed n bs)) refl

  clean : (c : Call) → Clean (call Y m c)
  clean (read x limit now) =
      asks x (bad_time limit now) (tell (judge m.items limit now (held Y m x)))
      (told (tell (judge m.items limit now (held Y m x))) (judged m.items limit now (held Y m x)))
  clean (serve x limit now) = asks x (bad_time limit now) (serve_at Y m limit now (held Y m x)) (serves limit now (held Y m x))
  clean (find x) = asks x false (tell (find_at (held Y m x))) (finds (held Y m x))
  clean (set_animal g) = asks g.animal (bad_grant g) (set_at Y m g (held Y m g.animal)) (sets g (held Y m g.animal))
  clean (delete x) = asks x false (delete_at Y m x (hit Y m x)) (deletes x (hit Y m x))
  clean (evict hand) =
      one_by_one (leb Y.places hand) (refusal 1 refl)
      (one_by_one (some_live Y.places m.items) (evicts hand (victim Y.places m.items hand)) (refusal 7 refl))
  clean (write_list size) = lists size
  clean (plan_set g) = asks g.animal (bad_grant g) (plan_at Y m g.animal (held Y m g.animal)) (plans g.animal (held Y m g.animal))
  clean (step_move g v) =
      asks g.animal (bad_grant g) (move_at Y m v)
      (one_by_one (may_move Y m.slots v) (λ n e. true_false (ap is_refusal e) refl) (refusal 12 refl))
  clean (step_enter g p i) =
      asks g.animal (bad_grant g) (final_at Y m g p i)
      (one_by_one (may_enter Y m g.animal p i) (λ n e. true_false (ap is_refusal e) refl) (refusal 12 refl))

-- a table whose refusals are from the list and have no writes meets demand 1
pub quiet_refusals : (T : Table) → ((m : Mem) (e : Event) (n : ℕ) → T.answer m e ≡ refused n → Listed n × (T.writes m e ≡ [])) → Demand1 T
quiet_refusals T calm =
    record {
      listed = λ m e n h. (calm m e n h).0;
      unchanged = λ m e n h. ap (λ (ws : List Write). make_all ws m) (calm m e n h).1;
      uncut = λ m e n h k. ap (λ (ws : List Write). make_all (take k ws) m) (calm m e n h).1 ∙ ap (λ (ws : List Write). make_all ws m) (take-nil k);
    }

module _ (W : Ways) where
  pub no_blocks : (m : Mem) (c : Call) (n : ℕ) → (lent_call W m c).answer ≡ refused n → Listed n × ((lent_call W m c).blocks ≡ [])
  no_blocks m c = one_by_one (right_lengths W m) (clean (shape_of W m) m c) (refusal 1 refl)

  pub no_wipe : (m : Mem) (n : ℕ) → (ours W).answer m make_fresh ≡ refused n → Listed n × ((ours W).writes m make_fresh ≡ [])
  no_wipe m n e = go (right_lengths W m) e
    where
      go : (b : Bool) → choose b started (refused 1) ≡ refused n → Listed n × (choose b (wipe m) [] ≡ [])
      go true e = true_false (ap is_refusal e) refl
      go false e = let f : 1 ≡ n = cc in (subst Listed f refl, refl)

  our_refusals : (m : Mem) (e : Event) (n : ℕ) → (ours W).answer m e ≡ refused n → Listed n × ((ours W).writes m e ≡ [])
  unfolding stores
  our_refusals m make_fresh n e = no_wipe m n e
  our_refusals m (did c) n e = let h = no_blocks m c n e in (h.0, ap (λ bs. traced m (stores bs)) h.1)

  -- every call ends and refuses as document 01 says, on any memory whatsoever
  pub ends_and_refuses : Demand1 (ours W)
  ends_and_refuses = quiet_refusals (ours W) our_refusals

-- a refusal's number is small: it fits whatever a reply has for it
listed_small : (n : ℕ) (ks : List ℕ) → one_of n ks ≡ true → any (leb 65536) ks ≡ false → n < 65536
unfolding first
listed_small n [] e s = true_false e refl
listed_small n (k ∷ ks) e s =
    bool (λ b. eqb n k ≡ b → choose b true (one_of n ks) ≡ true → n < 65536) (eqb n k)
    (λ t q f. let z : n ≡ k = eqb-true n k q in small_first (leb 65536 k) refl s z)
    (λ t q f. listed_small n ks f (small_rest (leb 65536 k) s)) refl e
  where
    small_first : (b : Bool) → leb 65536 k ≡ b → there (choose b (Some k) (first (leb 65536) ks)) ≡ false → n ≡ k → n < 65536
    small_first true q s z = true_false {b = true} refl s
    small_first false q s z = rw z (leb-false 65536 k q)

    small_rest : (b : Bool) → there (choose b (Some k) (first (leb 65536) ks)) ≡ false → any (leb 65536) ks ≡ false
    small_rest true s = true_false {b = true} refl s
    small_rest false s = s

pub small_number : (a : Answer) (ks : List ℕ) → ((n : ℕ) → a ≡ refused n → one_of n ks ≡ true) → any (leb 65536) ks ≡ false → (paper a).number < 65536
small_number a ks h s =
    dite (ℕ_discrete (paper a).number 0) (λ z. omega arith)
    λ nz. listed_small (paper a).number ks (h (paper a).number (numbered a nz)) s

pub told_small : (W : Ways) (m : Mem) (c : Call) → (paper (lent_call W m c).answer).number < 65536
unfolding first
told_small W m c = small_number (lent_call W m c).answer refusal_numbers (λ n e. (no_blocks W m c n e).0) refl
