-- On a memory that is neither busy nor damaged where a call looks, memory plays no part in its first turns. Assumes nothing.
use Prim.Native.Nat.{ℕ, ◌%◌}
use native.Mathlib.Omega.{arith}
use mathlib.Core.Path.{◌≡◌, refl, ◌∙◌}
use mathlib.Core.Logic.{◌≢◌}
use mathlib.Core.Bool.{Bool, false}
use Rattle.std.specs.Prelude.{Option}
use mathlib.Core.List.{List}
use lib.ListN.{get_or}
use lib.Dec.{eqb}
use borrow.Author.Tests.{ne_eqb}
use Rattle.model.specs.Choice.{choose, first, there}
use Rattle.model.specs.Memory.{Mem, damaged, word}
use Rattle.model.specs.Shape.{Shape, counter_of, homes}
use Rattle.model.specs.Calls.{Outcome, asked, busy, refuse}
use Rattle.model.proofs.ListLaws.{First, first_is, found, missing, true_false}

-- the turns where memory plays no part; a memory that is neither busy nor damaged where a read looks
abbrev pub quick : ℕ → Bool → Outcome → Outcome
quick x bad o = choose (eqb x 0) (refuse 2) (choose bad (refuse 3) o)

pub none_damaged : (Y : Shape) (m : Mem) → ((i : ℕ) → damaged Y.places (word m i) ≡ false) → (l : List ℕ) → there (first (λ i. damaged Y.places (word m i)) l) ≡ false
none_damaged Y m sound l = go (first_is (λ i. damaged Y.places (word m i)) l)
  where
    go : {o : Option ℕ} → First (λ i. damaged Y.places (word m i)) l o → there o ≡ false
    go (found {i = i} q t) = true_false t (sound i)
    go (missing h) = refl

pub calm : (Y : Shape) (m : Mem) (x : ℕ) → get_or m.counters (counter_of Y x) 0 % 2 ≡ 0 → ((i : ℕ) → damaged Y.places (word m i) ≡ false)
    → (bad : Bool) (o : Outcome) → asked Y m x bad o ≡ quick x bad o
calm Y m x even sound bad o =
    let b : busy Y m x ≡ false = ne_eqb (get_or m.counters (counter_of Y x) 0 % 2) 1 (omega arith) in
    rw (b, none_damaged Y m sound (homes Y x))

-- with good inputs nothing comes before the call itself
pub past_asked : (Y : Shape) (m : Mem) (x : ℕ) → get_or m.counters (counter_of Y x) 0 % 2 ≡ 0
    → ((i : ℕ) → damaged Y.places (word m i) ≡ false) → x ≢ 0 → (bad : Bool) → bad ≡ false → (o : Outcome) → asked Y m x bad o ≡ o
past_asked Y m x even sound nz bad e o = calm Y m x even sound bad o ∙ rw (ne_eqb x 0 nz, e)
