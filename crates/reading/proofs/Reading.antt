-- Read, serve and find on what was looked up, a law a way out. Assumes nothing.
use Prim.Native.Nat.{ℕ, ◌+◌, ◌*◌, ◌%◌}
use mathlib.Core.Path.{◌≡◌, refl, sym, ap, ◌∙◌}
use mathlib.Core.Bool.{Bool, true, false}
use mathlib.Core.List.{List, [], ◌∷◌}
use lib.ListN.{set}
use Rattle.std.specs.Prelude.{Option, Some, None, Ok, option_map}
use Rattle.model.specs.Choice.{choose}
use Rattle.model.specs.Memory.{Mem, mem, permission, place, stamp}
use Rattle.model.specs.Shape.{Ways, shape_of}
use Rattle.model.specs.Stores.{recency, wholes}
use Rattle.model.specs.Answers.{absent, says_fresh}
use Rattle.model.specs.Calling.{find, read, serve}
use Rattle.model.specs.Said.{found_at, said_reading}
use Rattle.model.specs.Age.{bad_time, is_fresh, judge, verdict}
use Rattle.model.specs.Calls.{Outcome, find_at, serve_at, tell}
use Rattle.model.specs.Lent.{lent_call}
use Rattle.model.specs.Promised.{WholeAs}
use Rattle.model.proofs.RowWords.{fresh_says}
use Rattle.looking.specs.Look.{LooksUp, Passed}
use Rattle.reading.proofs.Seen.{seen_absent, seen_held}
use Rattle.looking.specs.declared.Looked.{Looked}
use Rattle.model.specs.declared.Reading.{Reading}

-- what an outcome answers
says : {o o' : Outcome} → o ≡ o' → o'.answer ≡ o.answer
says e = sym (ap (λ (o : Outcome). o.answer) e)

module _ (W : Ways) (m : Mem) (x : ℕ) where
  module _ (limit now : ℕ) (p : Passed W m x (bad_time limit now)) {r : Looked} (l : LooksUp W m x r) where
    pub read_absent : r.hit ≡ Ok None → absent ≡ (lent_call W m (read x limit now)).answer
    read_absent q = says (seen_absent W m x (bad_time limit now) (λ o. tell (judge m.items limit now o)) p l q)

    pub read_held : {w : ℕ} → r.hit ≡ Ok (Some w) → (v : Reading)
        → said_reading (Ok v) ≡ verdict limit now (permission m.items (w % 65536)) (stamp m.items (w % 65536))
        → said_reading (Ok v) ≡ (lent_call W m (read x limit now)).answer
    unfolding place
    read_held q v e = e ∙ says (seen_held W m x (bad_time limit now) (λ o. tell (judge m.items limit now o)) p l q)

    pub serve_absent : r.hit ≡ Ok None → WholeAs W m (serve x limit now) m absent
    serve_absent q =
        let e = seen_absent W m x (bad_time limit now) (λ o. serve_at (shape_of W m) m limit now o) p l q in
        record { told = says e; left = sym (ap (λ (o : Outcome). wholes o.blocks m) e) }

    -- the place of the hit is judged, and marked if that says fresh
    pub serve_held : {w : ℕ} → r.hit ≡ Ok (Some w) → (v : Reading) {f : Bool} {items' : List ℕ}
        → said_reading (Ok v) ≡ verdict limit now (permission m.items (w % 65536)) (stamp m.items (w % 65536))
        → f ≡ says_fresh (said_reading (Ok v)) → items' ≡ choose f (set m.items (4 * (w % 65536) + 3) 1) m.items
        → WholeAs W m (serve x limit now) (mem m.slots m.counters items') (said_reading (Ok v))
    unfolding place
    serve_held {w} q v {f} {items'} e ef ei =
        record {
          told = e ∙ says at;
          left = ap (λ (l : List ℕ). mem m.slots m.counters l) (ei ∙ ap (λ b. choose b (set m.items (4 * k + 3) 1) m.items) fresh_now)
              ∙ marks (is_fresh limit now (stamp m.items k)) ∙ sym (ap (λ (o : Outcome). wholes o.blocks m) at);
        }
      where
        k : ℕ
        k = w % 65536

        at : lent_call W m (serve x limit now) ≡ serve_at (shape_of W m) m limit now (Some k)
        at = seen_held W m x (bad_time limit now) (λ o. serve_at (shape_of W m) m limit now o) p l q

        fresh_now : f ≡ is_fresh limit now (stamp m.items k)
        fresh_now = ef ∙ ap says_fresh e ∙ fresh_says limit now (permission m.items k) (stamp m.items k)

        marks : (b : Bool) → mem m.slots m.counters (choose b (set m.items (4 * k + 3) 1) m.items) ≡ wholes (choose b (recency k 1 ∷ []) []) m
        marks true = refl
        marks false = refl

  pub find_seen : Passed W m x false → {r : Looked} → LooksUp W m x r → (o : Option ℕ) → r.hit ≡ Ok o
      → found_at (option_map (λ w. w % 65536) o) ≡ (lent_call W m (find x)).answer
  unfolding place
  find_seen p l None q = says (seen_absent W m x false (λ o. tell (find_at o)) p l q)
  find_seen p l (Some w) q = says (seen_held W m x false (λ o. tell (find_at o)) p l q)
