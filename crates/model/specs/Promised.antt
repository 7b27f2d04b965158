-- What the calls promise: the answer, and every lent word afterwards. Assumes nothing.
use Rattle.std.specs.Prelude.{ℕ, ◌≡◌}
use Rattle.model.specs.Memory.{Mem}
use Rattle.model.specs.Shape.{Ways}
use Rattle.model.specs.Stores.{wholes, cut_stores}
use Rattle.model.specs.Answers.{Answer}
use Rattle.model.specs.Calling.{Call, make_fresh}
use Rattle.model.specs.Calls.{Outcome}
use Rattle.model.specs.Lent.{after_fresh, event_answer, lent_call}

-- the first k stores of an outcome took the memory m to m', and a is its answer
pub record Does (o : Outcome) (k : ℕ) (m m' : Mem) (a : Answer) : Type 0 where
  pub told : a ≡ o.answer
  pub left : m' ≡ cut_stores k o.blocks m

-- all of its stores did
pub record Did (o : Outcome) (m m' : Mem) (a : Answer) : Type 0 where
  pub told : a ≡ o.answer
  pub left : m' ≡ wholes o.blocks m

module _ (W : Ways) where
  -- the call c, cut behind its first k stores, took the memory m to m' and answered a
  abbrev pub CutAs : Mem → Call → ℕ → Mem → Answer → Type 0
  CutAs m c k m' a = Does (lent_call W m c) k m m' a

  -- the whole call did
  abbrev pub WholeAs : Mem → Call → Mem → Answer → Type 0
  WholeAs m c m' a = Did (lent_call W m c) m m' a

  -- fresh did
  pub record FreshAs (m m' : Mem) (a : Answer) : Type 0 where
    pub told : a ≡ event_answer W m make_fresh
    pub left : m' ≡ after_fresh W m
