-- What a run of stores under a budget does. Assumes nothing.
use Rattle.std.specs.Prelude.{◌≡◌, ℕ, zero, suc, ◌-◌, List, length, set, take}
use Rattle.model.specs.Memory.{Mem}
use Rattle.model.specs.Stores.{Store, apply_all}

-- the whole budget: more stores than any call makes
abbrev pub all_stores : ℕ
all_stores = 18446744073709551615

-- v at i of the run s, where the budget l isn't 0
unfoldable pub put : {A : Type 0} → ℕ → List A → ℕ → A → List A
put zero s i v = s
put (suc l) s i v = set s i v

-- one store of v at i of the run s under the budget l: the run afterwards, and what is left of the budget
pub record Put {A : Type 0} (i : ℕ) (v : A) (l : ℕ) (s s' : List A) (l' : ℕ) : Type 0 where
  pub after : s' ≡ put l s i v
  pub rest : l' ≡ l - 1

-- the first l of the stores ss take the memory m to m', and l' are left of the budget l
pub record Made (ss : List Store) (l : ℕ) (m m' : Mem) (l' : ℕ) : Type 0 where
  pub after : m' ≡ apply_all (take l ss) m
  pub rest : l' ≡ l - length ss
