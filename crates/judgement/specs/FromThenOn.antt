-- What a yes is worth: demands 2 and 3 from that memory on, whoever built it. Assumes nothing.
use Rattle.std.specs.Prelude.{ℕ, ◌<◌, ◌≡◌, ◌⊎◌, false, List, [], ◌∷◌, ℤ, Some, None}
use Rattle.model.specs.Memory.{Mem, stamp}
use Rattle.model.specs.Shape.{Shape, Ways, shape_of}
use Rattle.model.specs.Calling.{Call, Event, did, Typed, AllTyped, HasCut, about, read, serve, set_animal}
use Rattle.model.specs.Answers.{fresh, stored}
use Rattle.model.specs.Row.{beyond, plain, row_event, row_late, walk_to}
use Rattle.model.specs.AnyTable.{Table, beside, cut_at, leaves, left}
use Rattle.model.specs.Demands.{Allowed, GoodInputs, Roomy, SeenBy}
use Rattle.model.specs.declared.Grant.{Grant}
use Rattle.judgement.specs.Verdict.{judgement, sound}

-- the table T on the memory m, and a row that begins with m's item words and is kept beside it
module _ (W : Ways) (T : Table) (m : Mem) where
  abbrev Y : Shape
  Y = shape_of W m

  -- the memory and the row after some finished calls
  abbrev pub then : List Event → Mem
  then es = left T m es

  abbrev pub row_then : List Event → List ℕ
  row_then es = beside T Y.places m m.items es

  -- after any finished calls, fresh among them
  pub record FromThenOn (es : List Event) : Type 0 where
    -- the memory still gets a yes
    pub stays : judgement W (then es) ≡ sound
    -- demand 2: the next call answers as the row would, save refusal 6, a step's refusal 12, the search counts and the planned slots; the
    -- item words are the row's; fresh is said only of a held permission within the age limit; a cut shows busy, before or after; a held
    -- animal takes no search
    pub as_row : (e : Event) → AllTyped (e ∷ [])
        → plain (T.answer (then es) e) ≡ (row_event Y.places (beyond (T.answer (then es) e)) (row_then es) e).answer
    pub same_words : (then es).items ≡ row_then es
    pub fresh_only : (x limit now v : ℕ) (z : ℤ)
        → (T.answer (then es) (did (read x limit now)) ≡ fresh v z) ⊎ (T.answer (then es) (did (serve x limit now)) ≡ fresh v z)
        → (p : ℕ) × (p < Y.places) × Allowed (row_then es) x limit now v z p
    pub cut_reads : (c : Call) → Typed c → HasCut c → (k x limit now : ℕ)
        → SeenBy W T (then es) (leaves T (then es) (did c)) (cut_at T k (then es) (did c)) (about c (T.answer (then es) (did c))) x limit now
    pub no_search : (g : Grant) → GoodInputs g → (p : ℕ) → walk_to (row_then es) g.animal Y.places 0 ≡ Some p
        → row_late Y.places (stamp (row_then es) p) g ≡ false → T.answer (then es) (did (set_animal g)) ≡ stored 0 0
    -- demand 3: for an absent animal, a vacant place and good inputs
    pub room : (g : Grant) → GoodInputs g
        → walk_to (row_then es) g.animal Y.places 0 ≡ None → (p : ℕ) → walk_to (row_then es) 0 Y.places 0 ≡ Some p
        → Roomy Y (then es).slots g.animal (T.answer (then es) (did (set_animal g))) (leaves T (then es) (did (set_animal g))).slots

  -- after a yes, all of that for ever
  abbrev pub SoundThenDemands : Type 0
  SoundThenDemands = judgement W m ≡ sound → (es : List Event) → AllTyped es → FromThenOn es
