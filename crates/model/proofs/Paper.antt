-- The paper's number and values tell every answer apart. Assumes nothing.
use Prim.Native.Nat.{ℕ, suc, zero}
use mathlib.Core.Path.{◌≡◌, refl, sym, ap, ◌∙◌}
use Rattle.std.specs.Prelude.{Option, unwrap_or}
use mathlib.Core.List.{List, [], ◌∷◌}
use lib.ListN.{get_or, drop}
use lib.IntN.{ℤ, pos}
use Rattle.model.specs.Answers.{Answer, Paper, absent, ahead, at_place, deleted, evicted, fresh, listed, old, paper, refused, started, stored, planned, move_made, entry_made, moves_from}
use Rattle.model.proofs.Records.{numbers_back}
use mathlib.Core.Logic.{◌≢◌}

-- the answer is read back off them
back_from : Option ℤ → ℕ → List ℕ → Answer
back_from o zero vs = absent
back_from o (suc zero) vs = fresh (get_or vs 0 0) (unwrap_or o (pos 0))
back_from o (suc (suc zero)) vs = old (unwrap_or o (pos 0))
back_from o (suc (suc (suc zero))) vs = ahead
back_from o (suc (suc (suc (suc zero)))) vs = stored (get_or vs 0 0) (get_or vs 1 0)
back_from o (suc (suc (suc (suc (suc zero))))) vs = deleted
back_from o (suc (suc (suc (suc (suc (suc zero)))))) vs = evicted (get_or vs 0 0) (get_or vs 1 0) (get_or vs 2 0)
back_from o (suc (suc (suc (suc (suc (suc (suc zero))))))) vs = started
back_from o (suc (suc (suc (suc (suc (suc (suc (suc zero)))))))) vs = listed (get_or vs 0 0) (drop 1 vs)
back_from o (suc (suc (suc (suc (suc (suc (suc (suc (suc zero))))))))) vs = at_place (get_or vs 0 0)
back_from o (suc (suc (suc (suc (suc (suc (suc (suc (suc (suc zero)))))))))) vs = planned (moves_from (drop 2 vs)) (get_or vs 0 0) (get_or vs 1 0)
back_from o (suc (suc (suc (suc (suc (suc (suc (suc (suc (suc (suc zero))))))))))) vs = move_made
back_from o (suc (suc (suc (suc (suc (suc (suc (suc (suc (suc (suc (suc n)))))))))))) vs = entry_made

back : Paper → Answer
back r = go r.values
  where
    go : List ℕ → Answer
    go [] = refused r.number
    go (k ∷ vs) = back_from r.signed k vs

read_back : (a : Answer) → back (paper a) ≡ a
unfolding back back_from
read_back (refused n) = refl
read_back absent = refl
read_back (fresh v z) = refl
read_back (old z) = refl
read_back ahead = refl
read_back (stored v n) = refl
read_back deleted = refl
read_back (evicted x n h) = refl
read_back started = refl
read_back (listed n bs) = refl
read_back (at_place p) = refl
read_back (planned vs p i) = ap (λ vs. planned vs p i) (numbers_back vs)
read_back move_made = refl
read_back entry_made = refl

pub paper_injective : (a b : Answer) → paper a ≡ paper b → a ≡ b
paper_injective a b e = sym (read_back a) ∙ ap back e ∙ read_back b

-- only a refusal has a number
pub numbered : (a : Answer) → (paper a).number ≢ 0 → a ≡ refused (paper a).number
numbered (refused n) h = refl
numbered absent h = absurd (h refl)
numbered (fresh v z) h = absurd (h refl)
numbered (old z) h = absurd (h refl)
numbered ahead h = absurd (h refl)
numbered (stored v n) h = absurd (h refl)
numbered deleted h = absurd (h refl)
numbered (evicted x n k) h = absurd (h refl)
numbered started h = absurd (h refl)
numbered (listed n bs) h = absurd (h refl)
numbered (at_place p) h = absurd (h refl)
numbered (planned vs p i) h = absurd (h refl)
numbered move_made h = absurd (h refl)
numbered entry_made h = absurd (h refl)
