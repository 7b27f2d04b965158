-- What a yes is worth: from a memory that is judged sound on, demands 2 and 3 hold. Assumes nothing.
use Prim.Native.Nat.{ℕ, ◌<◌}
use mathlib.Core.Path.{◌≡◌, refl, ap, ◌∙◌, subst}
use mathlib.Core.Bool.{true}
use mathlib.Core.List.{List, [], ◌∷◌}
use Rattle.model.specs.Choice.{choose}
use Rattle.model.specs.Memory.{Mem, stamp}
use Rattle.model.specs.Shape.{Shape, Ways, right_lengths, shape_of}
use Rattle.model.specs.Calling.{Event, make_fresh, did, AllTyped}
use Rattle.model.specs.Answers.{refused, started}
use Rattle.model.specs.Row.{beyond, plain, row_call, row_event, row_late, walk_to}
use Rattle.model.specs.WellFormed.{WellFormed}
use Rattle.model.specs.AnyTable.{Table}
use Rattle.model.specs.Demands.{Allowed, Story}
use Rattle.model.specs.Ours.{ours}
use Rattle.model.proofs.OnWellFormed.{as_row_on, counts_on, fresh_on, roomy_on, seen_on, still_right}
use Rattle.model.proofs.Demands.{along}
use Rattle.judgement.specs.FromThenOn.{FromThenOn, SoundThenDemands, then, row_then}
use Rattle.judgement.proofs.Sound.{alike_sound, sound_well}

module _ (W : Ways) (m : Mem) (right : right_lengths W m ≡ true) (well : WellFormed (shape_of W m) m) where
  abbrev O : Table
  O = ours W

  abbrev Y : Shape
  Y = shape_of W m

  -- a story on the same memory: what is so along any story is so from here on
  abbrev story : Story W
  story = record { memory = m; right = right; calls = []; typed = tt }

  module _ (es : List Event) (t : AllTyped es) where
    abbrev n : Mem
    n = then W O m es

    abbrev l : List ℕ
    l = row_then W O m es

    told : WellFormed Y n × (n.items ≡ l)
    told = along W story es t m m.items (well, refl)

    rows : (e : Event) → AllTyped (e ∷ []) → plain (O.answer n e) ≡ (row_event Y.places (beyond (O.answer n e)) l e).answer
    rows make_fresh t = ap (λ b. plain (choose b started (refused 1))) (still_right W m right n told.0)
    rows (did c) t =
        as_row_on W m right n told.0 c t.0 ∙ ap (λ l. (row_call Y.places (beyond (O.answer n (did c))) l c).answer) told.1

    pub from_then_on : FromThenOn W O m es
    from_then_on =
        record {
          stays = alike_sound W m right n told.0;
          as_row = rows;
          same_words = told.1;
          fresh_only = λ x limit now v z e.
              subst (λ l. (p : ℕ) × (p < Y.places) × Allowed l x limit now v z p) told.1 (fresh_on W m right n told.0 x limit now v z e);
          cut_reads = λ c t h. seen_on W m right n told.0 c t;
          no_search = λ q good p e k.
              counts_on W m right n told.0 q good p (ap (λ l. walk_to l q.animal Y.places 0) told.1 ∙ e)
              (ap (λ l. row_late Y.places (stamp l p) q) told.1 ∙ k);
          room = λ q good away p vacant.
              roomy_on W m right n told.0 q good (ap (λ l. walk_to l q.animal Y.places 0) told.1 ∙ away) p
              (ap (λ l. walk_to l 0 Y.places 0) told.1 ∙ vacant);
        }

pub sound_then_demands : (W : Ways) (m : Mem) → SoundThenDemands W (ours W) m
sound_then_demands W m e = let h = sound_well W m e in from_then_on W m h.0 h.1
