-- What an exported call promises: its reply is the answer in its clothes, and every lent word afterwards. Assumes nothing.
use Rattle.std.specs.Prelude.{ℕ, ◌≡◌}
use Rattle.model.specs.Memory.{Mem}
use Rattle.model.specs.Shape.{Ways}
use Rattle.model.specs.Answers.{Answer}
use Rattle.model.specs.Calling.{Call}
use Rattle.model.specs.Lent.{lent_after, lent_call, lent_cut}

module _ (W : Ways) where
  -- the whole call c took the memory m to m', and the reply r is its answer in clothes
  pub record WholeIn {R : Type 0} (clothes : Answer → R) (m : Mem) (c : Call) (m' : Mem) (r : R) : Type 0 where
    pub told : r ≡ clothes (lent_call W m c).answer
    pub left : m' ≡ lent_after W m c

  -- so did the cut form, with the first k stores made
  pub record CutIn {R : Type 0} (clothes : Answer → R) (m : Mem) (c : Call) (k : ℕ) (m' : Mem) (r : R) : Type 0 where
    pub told : r ≡ clothes (lent_call W m c).answer
    pub left : m' ≡ lent_cut W k m c
