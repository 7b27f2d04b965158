-- Evict's promise decides its answer, the hand that comes back, and every lent word. Assumes nothing.
use Prim.Native.Nat.{ℕ}
use mathlib.Core.Path.{◌≡◌, refl, sym, ap, ◌∙◌, ap₂}
use Rattle.std.specs.Prelude.{Result, Ok, Err}
use Rattle.model.specs.Memory.{Mem}
use Rattle.model.specs.Choice.{choose}
use Rattle.model.specs.Answers.{Answer, is, paper, value}
use Rattle.model.specs.Said.{refusal_of, said_evicting}
use Rattle.model.proofs.Said.{refusal_back}
use Rattle.evicting.specs.Evict.{TurnsAs, TurnedAs}
use Rattle.model.specs.declared.Evicted.{Evicted}
use Rattle.model.specs.declared.Refusal.{Refusal}
use Rattle.evicting.specs.declared.Turned.{Turned}
use Rattle.model.specs.Calls.{Outcome}

-- what the answer said, read back
abbrev unsaid : Answer → Result Evicted Refusal
unsaid a = choose (is 6 a) (Ok (record { victim = value a 1; looked = value a 2 })) (Err (refusal_of (paper a).number))

unsaid_said : (r : Result Evicted Refusal) (h : ℕ) → unsaid (said_evicting r h) ≡ r
unsaid_said (Ok e) h = refl
unsaid_said (Err r) h = ap Err (refusal_back r)

-- the same answer and the same hand are the same result
same_turned : (r r' : Turned) {a : Answer} {h : ℕ} → said_evicting r.answer r.hand.at ≡ a
    → said_evicting r'.answer r'.hand.at ≡ a → r.hand.at ≡ h → r'.hand.at ≡ h → r ≡ r'
same_turned r r' {a} {h} t t' b b' =
    ap₂ (λ (x : Result Evicted Refusal) (n : ℕ). record { answer = x; hand = record { at = n } })
    (sym (unsaid_said r.answer r.hand.at) ∙ ap unsaid (t ∙ sym t') ∙ unsaid_said r'.answer r'.hand.at) (b ∙ sym b')

-- any two outcomes that a promise allows are equal
module _ {o : Outcome} {hand : ℕ} {m m₁ m₂ : Mem} {r₁ r₂ : Turned} where
  pub decides_evict_cut : {k : ℕ} → TurnsAs o hand k m m₁ r₁ → TurnsAs o hand k m m₂ r₂ → (r₁ ≡ r₂) × (m₁ ≡ m₂)
  decides_evict_cut d e = (same_turned r₁ r₂ d.does.told e.does.told d.back e.back, d.does.left ∙ sym e.does.left)

  pub decides_evict : TurnedAs o hand m m₁ r₁ → TurnedAs o hand m m₂ r₂ → (r₁ ≡ r₂) × (m₁ ≡ m₂)
  decides_evict d e = (same_turned r₁ r₂ d.did.told e.did.told d.back e.back, d.did.left ∙ sym e.did.left)
