-- Wish 6: from fresh on, a table that answers as the row would never gets the mark into a place. Assumes nothing.
use Prim.Native.Nat.{ℕ, zero, suc, ◌+◌, ◌*◌, ◌%◌}
use native.Mathlib.Omega.{arith}
use native.Mathlib.Decide.{ℕ_discrete, dec_lt}
use mathlib.Core.Path.{◌≡◌, refl, sym, ◌∙◌}
use mathlib.Core.Logic.{◌≢◌, inl, inr, dite}
use mathlib.Core.Bool.{Bool, true, false, not, ◌&&◌}
use Rattle.std.specs.Prelude.{Option, Some, None}
use mathlib.Core.List.Memᴰ.{head}
use mathlib.Core.List.Memᴰ.{not-nil}
use mathlib.Core.List.Memᴰ.{tail}
use mathlib.Core.List.{List, [], ◌∷◌, Memᴰ as In}
use lib.ListN.{length, length-set, replicate, set, get_or-eq_default}
use lib.Seq.{get_or-set_other, get_or-set_same}
use lib.Dec.{eqb, leb}
use Rattle.model.specs.Choice.{choose}
use Rattle.model.specs.Memory.{Mem, animal, recent, stamp}
use Rattle.model.specs.Shape.{Ways}
use Rattle.model.specs.Calling.{Event, delete, did, evict, find, make_fresh, plan_set, read, serve, set_animal, step_enter, step_move, write_list}
use Rattle.model.specs.Answers.{refused, says_fresh}
use Rattle.model.specs.Age.{retired_mark}
use Rattle.model.specs.AnyTable.{Table, beside, leaves}
use Rattle.model.specs.Row.{Row, Turn, fill, note, passed, row_bad_grant, row_bad_time, row_clock, row_count, row_delete, row_enter, row_event, row_evict, row_late, row_new, row_read, row_serve, row_set, stay, walk_to}
use Rattle.model.specs.Demands.{Demand2, places}
use Rattle.model.specs.Retired.{Brings, MinuteFits, NoneRetired}
use Rattle.model.specs.declared.Grant.{Grant}
use Rattle.model.proofs.ListLaws.{bool, zeros}
use Rattle.model.proofs.RowWords.{grant_is}
use Rattle.model.proofs.Turns.{minutes_good}

-- no place of the row l has the mark
abbrev Dated : List ℕ → Type 0
Dated l = (p : ℕ) → stamp l p ≢ retired_mark

-- another word than a stamp is written; and a stamp that is not the mark
kept : (l : List ℕ) (k v : ℕ) → ((p : ℕ) → k ≢ 4 * p + 2) → Dated l → Dated (set l k v)
kept l k v away d p = rw (get_or-set_other l k (4 * p + 2) v 0 (λ e. away p (sym e))) (d p)

stamped : (l : List ℕ) (k v : ℕ) → v ≢ retired_mark → Dated l → Dated (set l k v)
stamped l k v ne d p =
    dite (ℕ_discrete k (4 * p + 2))
    (λ e. dite (dec_lt k (length l)) (λ h. rw (← e, get_or-set_same l k v 0 h) ne)
    λ h. let out : stamp (set l k v) p ≡ 0 = get_or-eq_default (set l k v) 0 (rw length-set (omega arith)) in rw out (λ q. absurd (omega arith)))
    λ q. rw (get_or-set_other l k (4 * p + 2) v 0 (λ e. q (sym e))) (d p)

noted : (l : List ℕ) (p mark : ℕ) → Dated l → Dated (note l p mark)
noted l p mark d = kept l (4 * p + 3) mark (λ q e. absurd (omega arith)) d

-- the words of a place: the last three, and all four
three : (l : List ℕ) (p b c e : ℕ) → c ≢ retired_mark → Dated l → Dated (set (set (set l (4 * p + 1) b) (4 * p + 2) c) (4 * p + 3) e)
three l p b c e ne d =
    let l' = set l (4 * p + 1) b in
    noted (set l' (4 * p + 2) c) p e (stamped l' (4 * p + 2) c ne (kept l (4 * p + 1) b (λ q e. absurd (omega arith)) d))

filled : (l : List ℕ) (p a b c e : ℕ) → c ≢ retired_mark → Dated l → Dated (fill l p a b c e)
filled l p a b c e ne d = three (set l (4 * p) a) p b c e ne (kept l (4 * p) a (λ q e. absurd (omega arith)) d)

cleared : (l : List ℕ) (p : ℕ) → Dated l → Dated (fill l p 0 0 0 0)
cleared l p d = filled l p 0 0 0 0 (λ e. absurd (omega arith)) d

-- the turn of the hand writes recent words only
abbrev TurnDated : Option Turn → Type 0
TurnDated None = Unit {0}
TurnDated (Some t) = Dated t.words

turned : (M : ℕ) (l : List ℕ) (f p n : ℕ) → Dated l → TurnDated (row_clock M l f p n)
unfolding row_clock
turned M l zero p n d = tt
turned M l (suc f) p n d =
    bool (λ b. TurnDated (choose b (Some (record { words = l; victim = p; looked = n + 1 })) (row_clock M (passed l p) f ((p + 1) % M) (n + 1))))
    (not (eqb (animal l p) 0) && eqb (recent l p) 0) (λ _. d)
    λ _. turned M (passed l p) f ((p + 1) % M) (n + 1) (bool (λ b. Dated (choose b l (note l p 0))) (eqb (animal l p) 0) (λ _. d) λ _. noted l p 0 d)

module _ (M told : ℕ) (l : List ℕ) (d : Dated l) where
  abbrev Fine : Row → Type 0
  Fine r = Dated r.words

  -- an answer that may stay a refusal
  fine : (b : Bool) (n : ℕ) (r : Row) → (b ≡ false → Fine r) → Fine (choose b (stay l (refused n)) r)
  fine true n r h = d
  fine false n r h = h refl

  serve_fine : (limit now : ℕ) (o : Option ℕ) → Fine (row_serve M l limit now o)
  serve_fine limit now None = d
  serve_fine limit now (Some p) =
      bool (λ b. Dated (choose b (note l p 1) l)) (says_fresh (row_read M l limit now (Some p))) (λ _. noted l p 1 d) λ _. d

  new_fine : (g : Grant) → g.issued ≢ retired_mark → (o : Option ℕ) → Fine (row_new M told l g o)
  new_fine g ne None = d
  new_fine g ne (Some p) = fine (eqb told 6) 6 _ λ _. filled l p g.animal g.permission g.issued 1 ne d

  set_fine : (g : Grant) → g.issued ≢ retired_mark → (o : Option ℕ) → Fine (row_set M told l g o)
  set_fine g ne None = new_fine g ne (walk_to l 0 M 0)
  set_fine g ne (Some p) = fine (row_late M (stamp l p) g) 11 _ λ _. three l p g.permission g.issued 1 ne d

  delete_fine : (o : Option ℕ) → Fine (row_delete M l o)
  delete_fine None = d
  delete_fine (Some p) = cleared l p d

  evict_fine : (o : Option Turn) → TurnDated o → Fine (row_evict M l o)
  evict_fine None t = d
  evict_fine (Some w) t = cleared w.words w.victim t

  -- a minute of issue that 3 lets pass is not the mark
  issue_dated : (g : Grant) → MinuteFits g → row_bad_grant M g ≡ false → g.issued ≢ retired_mark
  issue_dated g h b e = let q = minutes_good g (grant_is M g ∙ b) in q.0 (omega (arith, q.1))

  asked_fine : (x : ℕ) (bad : Bool) (r : Row) → (bad ≡ false → Fine r) → Fine (choose (eqb x 0) (stay l (refused 2)) (choose bad (stay l (refused 3)) r))
  asked_fine x bad r h = fine (eqb x 0) 2 _ λ _. fine bad 3 r h

  enter_fine : (g : Grant) → g.issued ≢ retired_mark → (p : ℕ) (o : Option ℕ) → Fine (row_enter M told l g p o)
  enter_fine g ne p (Some q) = d
  enter_fine g ne p None =
      fine (leb M p) 12 _ λ _. fine (not (eqb (animal l p) 0)) 12 _ λ _. fine (eqb told 12) 12 _ λ _.
      filled l p g.animal g.permission g.issued 1 ne d

  event_fine : (e : Event) → ((g : Grant) → Brings g (e ∷ []) → MinuteFits g) → Fine (row_event M told l e)
  event_fine make_fresh h = λ p. rw (zeros (4 * M) (4 * p + 2)) (λ q. absurd (omega arith))
  event_fine (did (read x limit now)) h = asked_fine x (row_bad_time M limit now) _ λ _. d
  event_fine (did (serve x limit now)) h = asked_fine x (row_bad_time M limit now) _ λ _. serve_fine limit now (walk_to l x M 0)
  event_fine (did (find x)) h = asked_fine x false _ λ _. d
  event_fine (did (set_animal g)) h =
      asked_fine g.animal (row_bad_grant M g) _ λ b. set_fine g (issue_dated g (h g (inl (head refl))) b) (walk_to l g.animal M 0)
  event_fine (did (delete x)) h = asked_fine x false _ λ _. delete_fine (walk_to l x M 0)
  event_fine (did (evict hand)) h =
      fine (leb M hand) 1 _ λ _. fine (eqb (row_count l M 0) 0) 7 _ λ _. evict_fine (row_clock M l (2 * M) hand 0) (turned M l (2 * M) hand 0 d)
  event_fine (did (write_list size)) h = d
  event_fine (did (plan_set g)) h = asked_fine g.animal (row_bad_grant M g) _ λ _. d
  event_fine (did (step_move g v)) h = asked_fine g.animal (row_bad_grant M g) _ λ _. d
  event_fine (did (step_enter g p i)) h =
      asked_fine g.animal (row_bad_grant M g) _ λ b.
      enter_fine g (issue_dated g (h g (inr (p, i, head refl))) b) p (walk_to l g.animal M 0)

-- a run of calls keeps the row dated
run_dated : (T : Table) (M : ℕ) (m : Mem) (l : List ℕ) (es : List Event) → ((g : Grant) → Brings g es → MinuteFits g)
    → Dated l → Dated (beside T M m l es)
run_dated T M m l [] h d = d
run_dated T M m l (e ∷ es) h d =
    run_dated T M (leaves T m e) _ es (λ g b. h g (brings_on (λ x. tail) b)) (event_fine M _ l d e (λ g b. h g (brings_on first_of b)))
  where
    brings_on : {g : Grant} {cs ds : List Event} → ((x : Event) → In x cs → In x ds) → Brings g cs → Brings g ds
    brings_on f (inl q) = inl (f _ q)
    brings_on f (inr (p, i, q)) = inr (p, i, f _ q)

    first_of : (x : Event) → In x (e ∷ []) → In x (e ∷ es)
    first_of x (head q) = head q
    first_of x (tail q) = absurd (not-nil q)

pub none_retired : (W : Ways) (T : Table) → Demand2 W T → NoneRetired W T
none_retired W T D s h p =
    let l : List ℕ = replicate (4 * places W s) 0 in
    let d : Dated l = λ q. rw (zeros (4 * places W s) (4 * q + 2)) (λ e. absurd (omega arith)) in
    rw (D.same_words s) (run_dated T (places W s) (leaves T s.memory make_fresh) l s.calls h d p)
