-- A legal move changes two words: where each word was before it. Assumes nothing.
use Prim.Native.Nat.{ℕ, ◌<◌}
use native.Mathlib.Decide.{ℕ_discrete}
use mathlib.Core.Path.{◌≡◌, sym, ap, ◌∙◌}
use mathlib.Core.Logic.{◌≢◌, ◌⊎◌, inl, inr, dite}
use mathlib.Core.List.{List}
use lib.ListN.{length, get_or, set, length-set}
use lib.Seq.{get_or-set_same, get_or-set_other}
use Rattle.model.specs.Shape.{Layout}
use Rattle.model.specs.Moves.{Legal, Move, moved}
use Rattle.model.proofs.ListLaws.{inside_held}

-- of two homes, the other is a home too
pub across : (S : Layout) → ((t b : ℕ) → S.other t (S.other t b) ≡ b) → {t b c k : ℕ} → c ≡ S.other t k → (k ≡ b) ⊎ (k ≡ S.other t b) → (c ≡ b) ⊎ (c ≡ S.other t b)
across S back {t} {b} e (inl h) = inr (e ∙ ap (S.other t) h)
across S back {t} {b} e (inr h) = inl (e ∙ ap (S.other t) h ∙ back t b)

module _ (S : Layout) (back : (t b : ℕ) → S.other t (S.other t b) ≡ b) where
  module _ {T : List ℕ} {m : Move} (l : Legal S T m) where
    pub at_from : get_or (moved T m) m.from 0 ≡ 0
    at_from =
        let inside : m.from < length (set T m.to (get_or T m.from 0)) = rw length-set (inside_held T m.from l.held) in
        rw get_or-set_same

    pub at_to : get_or (moved T m) m.to 0 ≡ get_or T m.from 0
    at_to =
        let ne : m.to ≢ m.from = λ e. l.held (rw e at l.vacant) in
        let inside : m.to < length T = l.inside in
        rw (get_or-set_other, get_or-set_same)

    pub at_else : (i : ℕ) → i ≢ m.to → i ≢ m.from → get_or (moved T m) i 0 ≡ get_or T i 0
    at_else i ne ne' = simp get_or-set_other

    -- where a word was before the move
    pub origin : {x : ℕ} → x ≢ 0 → (i : ℕ) → get_or (moved T m) i 0 ≡ x
        → ((i ≡ m.to) × (get_or T m.from 0 ≡ x)) ⊎ ((i ≢ m.from) × (get_or T i 0 ≡ x))
    origin nz i e =
        dite (ℕ_discrete i m.to) (λ f. inl (f, sym at_to ∙ rw f at e)) λ ne.
        dite (ℕ_discrete i m.from) (λ f. absurd (nz (sym (rw f at e) ∙ at_from))) λ ne'. inr (ne', sym (at_else i ne ne') ∙ e)
