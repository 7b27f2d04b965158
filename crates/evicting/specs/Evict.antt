-- What evict promises: its answer, the hand that comes back, and every lent word afterwards; and the stores of its do. Assumes nothing.
use Rattle.std.specs.Prelude.{ℕ, ◌+◌, ◌*◌, ◌≡◌, List, [], ◌∷◌, ◌++◌}
use Rattle.model.specs.Memory.{Mem}
use Rattle.model.specs.Shape.{Ways}
use Rattle.model.specs.Stores.{Store, item_to, remove, stores_of}
use Rattle.model.specs.Answers.{hand_back}
use Rattle.model.specs.Calling.{evict}
use Rattle.model.specs.Calls.{Outcome}
use Rattle.model.specs.Lent.{lent_call}
use Rattle.model.specs.Said.{said_evicting}
use Rattle.model.specs.Promised.{Did, Does}
use Rattle.aiming.specs.Aiming.{passed_by}
use Rattle.aiming.specs.declared.Target.{Target}
use Rattle.evicting.specs.declared.Turned.{Turned}

-- the first k stores of an outcome took the memory m to m', and r tells its answer and the hand that comes back
pub record TurnsAs (o : Outcome) (hand k : ℕ) (m m' : Mem) (r : Turned) : Type 0 where
  pub does : Does o k m m' (said_evicting r.answer r.hand.at)
  pub back : r.hand.at ≡ hand_back hand o.answer

-- all of its stores did
pub record TurnedAs (o : Outcome) (hand : ℕ) (m m' : Mem) (r : Turned) : Type 0 where
  pub did : Did o m m' (said_evicting r.answer r.hand.at)
  pub back : r.hand.at ≡ hand_back hand o.answer

module _ (W : Ways) where
  -- the cut form, and the whole call
  abbrev pub EvictCut : Mem → ℕ → ℕ → Mem → Turned → Type 0
  EvictCut m hand k m' r = TurnsAs (lent_call W m (evict hand)) hand k m m' r

  abbrev pub Evicted : Mem → ℕ → Mem → Turned → Type 0
  Evicted m hand m' r = TurnedAs (lent_call W m (evict hand)) hand m m' r

-- 0 to the recent words of some places
abbrev pub clear_stores : List ℕ → List Store
clear_stores [] = []
clear_stores (p ∷ ps) = item_to (4 * p + 3) 0 ∷ clear_stores ps

-- the stores that take a target away: the clears, then the delete
abbrev pub evict_stores : Mem → ℕ → Target → List Store
evict_stores m hand t = clear_stores (passed_by m hand t) ++ stores_of (remove t.counter t.slot t.place)
