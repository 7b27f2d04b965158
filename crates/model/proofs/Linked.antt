-- What the contracts of the code cite is what the demands speak of, on any lent memory. Assumes nothing.
use Prim.Native.Nat.{ℕ, ◌≤◌}
use mathlib.Core.Path.{◌≡◌, refl, sym, ap, ◌∙◌}
use mathlib.Core.List.{List, []}
use Rattle.model.specs.Choice.{choose}
use Rattle.model.specs.Memory.{Mem}
use Rattle.model.specs.Shape.{fresh_memory, right_lengths, shape_of, four, Ways}
use lib.ListN.{length}
use lib.Seq.{take_all}
use Rattle.model.specs.Stores.{Store, apply_all, stores}
use Rattle.model.specs.Lent.{after_fresh, lent_after, lent_call, lent_cut}
use Rattle.model.specs.AnyTable.{cut_at, leaves, make_all}
use Rattle.model.specs.Demands.{most_visits}
use Rattle.model.specs.Ours.{ours, wipe}
use Rattle.model.proofs.ListLaws.{bool}
use Rattle.model.proofs.Trace.{trace_all, trace_cut, wholes_stores}
use Rattle.model.proofs.OnWellFormed.{begun}
use Rattle.model.specs.Calling.{Call, make_fresh, did}

module _ (W : Ways) (m : Mem) where
  -- a whole call, and its cut form
  pub leaves_lent : (c : Call) → leaves (ours W) m (did c) ≡ lent_after W m c
  leaves_lent c = trace_all (stores (lent_call W m c).blocks) m ∙ wholes_stores (lent_call W m c).blocks m

  pub cuts_lent : (c : Call) (k : ℕ) → cut_at (ours W) k m (did c) ≡ lent_cut W k m c
  cuts_lent c k = trace_cut (stores (lent_call W m c).blocks) m k

  -- k at or above the number of the stores is the whole call
  pub cut_whole : (c : Call) (k : ℕ) → length (stores (lent_call W m c).blocks) ≤ k → lent_cut W k m c ≡ lent_after W m c
  cut_whole c k h =
      ap (λ (ss : List Store). apply_all ss m) (take_all k (stores (lent_call W m c).blocks) h) ∙ wholes_stores (lent_call W m c).blocks m

  -- fresh
  pub fresh_lent : leaves (ours W) m make_fresh ≡ after_fresh W m
  fresh_lent =
      bool (λ b. make_all (choose b (wipe m) []) m ≡ choose b (fresh_memory (shape_of W m)) m) (right_lengths W m)
      (λ e. sym (ap (λ b. make_all (choose b (wipe m) []) m) e)
      ∙ begun W m e m (record { slots_same = refl; counters_same = refl; items_same = refl }))
      λ e. refl

-- the gate's table has at most four moves, and so 682 visits
pub gate_reach : (m : Mem) (T : List ℕ) (x : ℕ) → ((shape_of four m).reach ≡ 4) × (most_visits (shape_of four m) T x ≡ 682)
gate_reach m T x = (refl, refl)
