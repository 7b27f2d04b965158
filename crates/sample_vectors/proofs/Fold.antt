-- FNV-1a over some bytes is a fold of its step. Assumes nothing.
use Rattle.std.specs.Prelude.{ℕ, ◌≡◌, List, [], ◌∷◌, refl}
use Rattle.std.specs.List.{fold}
use Rattle.model.specs.Hash.{fnv, fnv_step}

pub fnv_folds : (h : ℕ) (bs : List ℕ) → fold fnv_step h bs ≡ fnv h bs
unfolding fnv
fnv_folds h [] = refl
fnv_folds h (b ∷ bs) = fnv_folds (fnv_step h b) bs
