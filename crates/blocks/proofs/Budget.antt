-- Outcomes under a budget: refused, made, and made whole. Assumes nothing.
use Rattle.std.proofs.Common.{◌≡◌, ℕ, ◌≤◌, Bool, true, false, eqb, List, [], ◌∷◌, ◌++◌, length, sym, refl, ap, ◌∙◌, append_assoc, append-nil, arith, take_all}
use lib.Seq.{take-nil}
use Rattle.model.specs.Choice.{choose}
use Rattle.model.specs.Memory.{Mem}
use Rattle.model.specs.Stores.{Block, Store, apply_all, cut_stores, stores, stores_of}
use Rattle.model.specs.Answers.{Answer, refused}
use Rattle.model.specs.Calls.{Outcome, refuse, asked, busy, home_damage}
use Rattle.model.specs.Promised.{Did, Does}
use Rattle.model.proofs.Trace.{wholes_stores}
use Rattle.blocks.specs.Made.{Made, all_stores}
use Rattle.model.specs.Shape.{Ways, right_lengths, shape_of}

-- another name of the same outcome: what a look found is what the call comes to
pub does_as : {o o' : Outcome} {k : ℕ} {m m' : Mem} {a : Answer} → o ≡ o' → Does o k m m' a → Does o' k m m' a
does_as {k = k} {m = m} e d =
    record { told = d.told ∙ ap (λ (o : Outcome). o.answer) e; left = d.left ∙ ap (λ (o : Outcome). cut_stores k o.blocks m) e }

-- a refusal makes no store
pub does_refuse : {o : Outcome} {k n : ℕ} {m : Mem} → o ≡ refuse n → Does o k m m (refused n)
unfolding stores
does_refuse {k = k} {m = m} e =
    does_as (sym e) (record { told = refl; left = sym (ap (λ (ss : List Store). apply_all ss m) (take-nil k)) })

-- blocks that were made under the budget
pub does_made : {o : Outcome} {k l : ℕ} {m m' : Mem} (a : Answer) (bs : List Block) → o ≡ record { answer = a; blocks = bs }
    → Made (stores bs) k m m' l → Does o k m m' a
does_made a bs e d = does_as (sym e) (record { told = refl; left = d.after })

pub does_one : {o : Outcome} {k l : ℕ} {m m' : Mem} (a : Answer) (b : Block) → o ≡ record { answer = a; blocks = b ∷ [] }
    → Made (stores_of b) k m m' l → Does o k m m' a
unfolding stores
does_one {l = l} a b e d = does_made {l = l} a (b ∷ []) e (rw (append-nil (stores_of b)) d)

pub stores_append : (bs cs : List Block) → stores (bs ++ cs) ≡ stores bs ++ stores cs
unfolding stores
stores_append [] cs = refl
stores_append (b ∷ bs) cs = ap (λ (ss : List Store). stores_of b ++ ss) (stores_append bs cs) ∙ sym (append_assoc (stores_of b) (stores bs) (stores cs))

-- no more than n stores
pub record Few (n : ℕ) (o : Outcome) : Type 0 where
  pub few : length (stores o.blocks) ≤ n

pub few_or : {n : ℕ} (b : Bool) {o o' : Outcome} → Few n o → Few n o' → Few n (choose b o o')
few_or true f f' = f
few_or false f f' = f'

pub few_refuse : {n : ℕ} (k : ℕ) → Few n (refuse k)
unfolding stores
few_refuse k = record { few = omega arith }

-- a call about an animal makes no more than what comes behind its refusals
pub few_asked : (W : Ways) (m : Mem) (x : ℕ) (bad : Bool) {n : ℕ} {o : Outcome} → Few n o
    → Few n (choose (right_lengths W m) (asked (shape_of W m) m x bad o) (refuse 1))
few_asked W m x bad f =
    few_or (right_lengths W m) (few_or (eqb x 0) (few_refuse 2) (few_or bad (few_refuse 3)
    (few_or (busy (shape_of W m) m x) (few_refuse 8) (few_or (home_damage (shape_of W m) m x) (few_refuse 4) f)))) (few_refuse 1)

-- a budget that covers all stores makes the whole call
pub did_all : {o : Outcome} {n : ℕ} {m m' : Mem} {a : Answer} → Few n o → n ≤ all_stores → Does o all_stores m m' a → Did o m m' a
did_all {o} {m = m} f h d =
    record {
      told = d.told;
      left = d.left ∙ ap (λ (ss : List Store). apply_all ss m) (take_all all_stores (stores o.blocks) (omega (arith, f.few))) ∙ wholes_stores o.blocks m;
    }
