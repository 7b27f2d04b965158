-- Our table meets demands 2 and 3 after every run of finished calls from fresh. Assumes nothing.
use Prim.Native.Nat.{ℕ, ◌*◌, ◌<◌}
use mathlib.Core.Path.{◌≡◌, refl, sym, ap, ◌∙◌, subst}
use mathlib.Core.Logic.{◌⊎◌}
use mathlib.Core.List.{List, [], ◌∷◌}
use lib.ListN.{replicate}
use lib.IntN.{ℤ}
use Rattle.model.specs.Choice.{choose}
use Rattle.model.specs.Memory.{Mem, stamp}
use Rattle.model.specs.Shape.{Shape, fresh_memory, four, eight, Ways}
use Rattle.model.specs.Answers.{fresh, refused, started}
use Rattle.model.specs.Row.{plain, row_call, row_event, row_late, walk_to, beyond}
use Rattle.model.specs.WellFormed.{WellFormed}
use Rattle.model.specs.AnyTable.{Table, beside, leaves, left}
use Rattle.model.specs.Demands.{Allowed, Demand1, Demand2, Demand3, Story, places, row, table, shape_in}
use Rattle.model.specs.Ours.{gate, ours}
use Rattle.model.proofs.Runs.{fresh_well}
use Rattle.model.proofs.Demand1.{ends_and_refuses}
use Rattle.model.proofs.OnWellFormed.{as_row_on, begun, fresh_on, roomy_on, seen_on, started_again, still_right, well_on, words_on, counts_on}
use Rattle.model.specs.Calling.{Event, make_fresh, did, AllTyped, read, serve}

module _ (W : Ways) where
  abbrev O : Table
  O = ours W

  module _ (s : Story W) where
    abbrev Z : Shape
    Z = shape_in W s

    -- well-formed, with the row's item words
    abbrev Along : Mem → List ℕ → Type 0
    Along m l = WellFormed Z m × (m.items ≡ l)

    -- a run of calls keeps it so
    pub along : (es : List Event) → AllTyped es → (m : Mem) (l : List ℕ) → Along m l → Along (left O m es) (beside O Z.places m l es)
    along [] t m l h = h
    along (make_fresh ∷ es) t m l h =
        subst (λ m'. Along (left O m' es) (beside O Z.places m' (replicate (4 * Z.places) 0) es))
        (sym (started_again W s.memory s.right m h.0))
        (along es t (fresh_memory Z) (replicate (4 * Z.places) 0) (fresh_well Z, refl))
    along (did c ∷ es) t m l h =
        along es t.1 (leaves O m (did c)) (row_call Z.places (beyond (O.answer m (did c))) l c).words (
          well_on W s.memory s.right m h.0 c t.0,
          words_on W s.memory s.right m h.0 c t.0
              ∙ ap (λ l. (row_call Z.places (beyond (O.answer m (did c))) l c).words) h.1,
        )

    -- fresh begins it
    pub opened : leaves O s.memory make_fresh ≡ fresh_memory Z
    opened =
        begun W s.memory s.right s.memory (record { slots_same = refl; counters_same = refl; items_same = refl })

    abbrev m : Mem
    m = table W O s

    told : Along m (row W O s)
    told =
        subst (λ m'. Along (left O m' s.calls) (beside O Z.places m' (replicate (4 * Z.places) 0) s.calls)) (sym opened)
        (along s.calls s.typed (fresh_memory Z) (replicate (4 * Z.places) 0) (fresh_well Z, refl))

    -- whatever finished calls leave is well-formed, and its item words are the row's
    pub well_story : WellFormed Z m
    well_story = told.0

    pub same_story : m.items ≡ row W O s
    same_story = told.1

    rows : (e : Event) → AllTyped (e ∷ [])
        → plain (O.answer m e) ≡ (row_event (places W s) (beyond (O.answer m e)) (row W O s) e).answer
    rows make_fresh t = ap (λ b. plain (choose b started (refused 1))) (still_right W s.memory s.right m well_story)
    rows (did c) t =
        as_row_on W s.memory s.right m well_story c t.0
        ∙ ap (λ l. (row_call Z.places (beyond (O.answer m (did c))) l c).answer) same_story

    freshes : (x limit now v : ℕ) (z : ℤ) → (O.answer m (did (read x limit now)) ≡ fresh v z) ⊎ (O.answer m (did (serve x limit now)) ≡ fresh v z)
        → (p : ℕ) × (p < places W s) × Allowed (row W O s) x limit now v z p
    freshes x limit now v z e =
        subst (λ l. (p : ℕ) × (p < places W s) × Allowed l x limit now v z p) same_story
        (fresh_on W s.memory s.right m well_story x limit now v z e)

  pub our_row : Demand2 W O
  our_row =
      record {
        starts = λ m r. ap (λ b. choose b started (refused 1)) r;
        as_row = rows;
        same_words = same_story;
        fresh_only = freshes;
        cut_reads = λ s c t h. seen_on W s.memory s.right (m s) (well_story s) c t;
        no_search = λ s q good p e k.
            counts_on W s.memory s.right (m s) (well_story s) q good p (ap (λ l. walk_to l q.animal (Z s).places 0) (same_story s) ∙ e)
            (ap (λ l. row_late (Z s).places (stamp l p) q) (same_story s) ∙ k);
      }

  pub our_room : Demand3 W O
  our_room s q good away p vacant =
      roomy_on W s.memory s.right (m s) (well_story s) q good (ap (λ l. walk_to l q.animal (Z s).places 0) (same_story s) ∙ away) p
      (ap (λ l. walk_to l 0 (Z s).places 0) (same_story s) ∙ vacant)

-- the gate's table: four ways and four moves
pub gate_1 : Demand1 gate
gate_1 = ends_and_refuses four

pub gate_2 : Demand2 four gate
gate_2 = our_row four

pub gate_3 : Demand3 four gate
gate_3 = our_room four

-- the same arguments serve eight ways and three moves
pub eight_1 : Demand1 (ours eight)
eight_1 = ends_and_refuses eight

pub eight_2 : Demand2 eight (ours eight)
eight_2 = our_row eight

pub eight_3 : Demand3 eight (ours eight)
eight_3 = our_room eight
