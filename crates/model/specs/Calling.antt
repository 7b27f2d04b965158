-- The calls that the table offers, with what they take, and what is so of each. Assumes nothing.
use Rattle.std.specs.Prelude.{ℕ, ◌^◌, ◌<◌, List, [], ◌∷◌}
use Rattle.model.specs.Answers.{Answer, victim_in}
use Rattle.model.specs.declared.Grant.{Grant}
use Rattle.model.specs.declared.MoveRecord.{MoveRecord}

-- what a set takes, in the order of a line
abbrev pub grant : ℕ → ℕ → ℕ → ℕ → Grant
grant x v issued now = record { animal = x; permission = v; issued = issued; minute = now }

pub data Call : Type 0 where
  read : (animal limit now : ℕ) → Call
  serve : (animal limit now : ℕ) → Call
  find : (animal : ℕ) → Call
  set_animal : (granted : Grant) → Call
  delete : (animal : ℕ) → Call
  evict : (hand : ℕ) → Call
  write_list : (size : ℕ) → Call
  plan_set : (granted : Grant) → Call
  step_move : (granted : Grant) (move : MoveRecord) → Call
  step_enter : (granted : Grant) (place slot : ℕ) → Call

-- a call on a table, or the call that makes one fresh
pub data Event : Type 0 where
  make_fresh : Event
  did : Call → Event

-- the numbers that a caller can pass; the animal that a call with that answer is about, and the one that it takes away: 0 if none;
-- whether it has a cut form
pub record Traits : Type 1 where
  pub typed : Type 0
  pub about : Answer → ℕ
  pub gone : Answer → ℕ
  pub cut : Type 0

-- a call that only looks for an animal
abbrev looks_for : ℕ → Traits
looks_for x = record { typed = Unit {0}; about = λ r. x; gone = λ r. 0; cut = ⊥ }

-- a call with set's inputs that has no cut form, about that animal; a move is about nobody, for no answer changes by it
abbrev granted : ℕ → Grant → Traits
granted x g = record { typed = g.permission < 2 ^ 32; about = λ r. x; gone = λ r. 0; cut = ⊥ }

abbrev pub traits : Call → Traits
traits (read x limit now) = looks_for x
traits (serve x limit now) = looks_for x
traits (find x) = looks_for x
traits (set_animal g) = record { typed = g.permission < 2 ^ 32; about = λ r. g.animal; gone = λ r. 0; cut = Unit {0} }
traits (delete x) = record { typed = Unit {0}; about = λ r. x; gone = λ r. x; cut = Unit {0} }
traits (evict hand) = record { typed = Unit {0}; about = victim_in; gone = victim_in; cut = Unit {0} }
traits (write_list size) = record { typed = Unit {0}; about = λ r. 0; gone = λ r. 0; cut = ⊥ }
traits (plan_set g) = granted g.animal g
traits (step_move g v) = granted 0 g
traits (step_enter g p i) = granted g.animal g

abbrev pub Typed : Call → Type 0
Typed c = (traits c).typed

abbrev pub about : Call → Answer → ℕ
about c r = (traits c).about r

abbrev pub gone : Call → Answer → ℕ
gone c r = (traits c).gone r

abbrev pub HasCut : Call → Type 0
HasCut c = (traits c).cut

abbrev pub AllTyped : List Event → Type 0
AllTyped [] = Unit {0}
AllTyped (make_fresh ∷ es) = AllTyped es
AllTyped (did c ∷ es) = Typed c × AllTyped es
