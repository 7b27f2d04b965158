-- What the code's answers say, in the words of the definitions, and the parts of a walk over the places. Assumes nothing.
use Rattle.std.specs.Prelude.{ℕ, ◌-◌, List, eqb, Option, Some, None}
use Rattle.model.specs.Choice.{first, range}
use Rattle.model.specs.Memory.{animal}
use Rattle.model.specs.Clock.{Victim}
use Rattle.places.specs.declared.Victim.{Victim as Found}

-- the victim that the code found
abbrev pub scanned : Option Found → Option Victim
scanned (Some v) = Some (record { place = v.place; looked = v.looked })
scanned None = None

-- the first of the places p to m - 1 that has the number x; and of all m places
abbrev pub first_from : ℕ → List ℕ → ℕ → ℕ → Option ℕ
first_from m l x p = first (λ q. eqb (animal l q) x) (range p (m - p))

abbrev pub first_with : ℕ → List ℕ → ℕ → Option ℕ
first_with m l x = first (λ q. eqb (animal l q) x) (range 0 m)
