-- A poke of one word, by the numbers of a run's words. Assumes nothing.
use Prim.Native.Nat.{ℕ, ◌≤◌, ◌<◌}
use native.Mathlib.Omega.{arith}
use mathlib.Core.Bool.{true, false}
use mathlib.Core.Path.{◌≡◌, refl}
use mathlib.Core.List.{List, [], ◌∷◌}
use lib.ListN.{length, set}
use borrow.Author.Tests.{lt-ltb, le-ltb, le-leb, lt-leb}
use Rattle.replay_words.proofs.RunWords.{numbers_length, numbers_set}
use Rattle.replay_rows.specs.Poke.{Poked}

module _ {X : Type 0} {number : X → ℕ} {numbers : List X → List ℕ} (none : numbers [] ≡ []) (more : (x : X) (xs : List X) → numbers (x ∷ xs) ≡ number x ∷ numbers xs)
    (top at word : ℕ) (run : List X) where
  pub poke_outside : length run ≤ at → Poked top at word (numbers run) (numbers run) false
  poke_outside h =
      let k : length (numbers run) ≤ at = rw (numbers_length none more run) h in
      record { told = rw (le-ltb _ _ k) refl; left = rw (le-ltb _ _ k) refl }

  module _ (h : at < length run) where
    inside : at < length (numbers run)
    inside = rw (numbers_length none more run) h

    pub poke_large : {largest : ℕ} → largest ≡ top → largest < word → Poked top at word (numbers run) (numbers run) false
    poke_large q h' =
        let l : top < word = omega arith in
        record { told = rw (lt-ltb _ _ inside, lt-leb _ _ l) refl; left = rw (lt-ltb _ _ inside, lt-leb _ _ l) refl }

    pub poke_made : {largest : ℕ} {x : X} → largest ≡ top → number x ≡ word → word ≤ largest → Poked top at word (numbers run) (numbers (set run at x)) true
    poke_made {x = x} q e h' =
        let l : word ≤ top = omega arith in
        record {
          told = rw (lt-ltb _ _ inside, le-leb _ _ l) refl;
          left = rw (lt-ltb _ _ inside, le-leb _ _ l, numbers_set none more run at x, e) refl;
        }
