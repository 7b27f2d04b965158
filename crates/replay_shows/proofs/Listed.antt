-- The records of a list fit the buffer that it was given. Assumes nothing.
use Prim.Native.Nat.{ℕ, ◌*◌, ◌/◌, ◌≤◌}
use native.Mathlib.Omega.{arith}
use mathlib.Core.Path.{◌≡◌, refl, ap}
use Rattle.std.specs.Prelude.{Result, Ok, Err, IfOk}
use mathlib.Core.List.{List}
use lib.ListN.{length, take}
use lib.Dec.{ltb}
use borrow.Author.Tests.{ltb-false}
use Rattle.model.specs.Choice.{choose, range}
use Rattle.model.specs.Memory.{Mem}
use Rattle.model.specs.Shape.{four, right_lengths}
use Rattle.model.specs.Answers.{Answer, listed, refused, paper, value}
use Rattle.model.specs.Listing.{listing, live_count, records}
use Rattle.model.specs.Calls.{refuse, tell}
use Rattle.model.specs.Calling.{write_list}
use Rattle.model.specs.Lent.{lent_call}
use Rattle.model.specs.Said.{said_listing}
use Rattle.model.specs.declared.Refusal.{Refusal}
use Rattle.model.proofs.ListLaws.{bool}
use Rattle.buffer.specs.Put.{Put}
use Rattle.listing.specs.List.{ListedAs}
use Rattle.replay_answers.specs.Text.{text}

-- a list that is told has 20 bytes of the buffer for each record
listed_fits : (l : List ℕ) (M size n : ℕ) (bs : List ℕ) → listed n bs ≡ listing l M size → 20 * n ≤ size
unfolding listing
listed_fits l M size n bs =
    bool (λ b. ltb size (20 * live_count l (range 0 M)) ≡ b → listed n bs ≡ choose b (refused 9) (listed (live_count l (range 0 M)) (records l (range 0 M)))
    → 20 * n ≤ size) (ltb size (20 * live_count l (range 0 M)))
    (λ _ t e. let z : ◌≡◌ {A = ℕ} 0 9 = ap (λ (a : Answer). (paper a).number) e in absurd (omega arith))
    (λ _ f e. let q : n ≡ live_count l (range 0 M) = ap (λ (a : Answer). value a 1) e in omega (arith, ltb-false size (20 * live_count l (range 0 M)) f)) refl

-- so it is on lent memory
lent_fits : (m : Mem) (size n : ℕ) (bs : List ℕ) → listed n bs ≡ (lent_call four m (write_list size)).answer → 20 * n ≤ size
lent_fits m size n bs =
    bool (λ b. listed n bs ≡ (choose b (tell (listing m.items (length m.items / 4) size)) (refuse 1)).answer → 20 * n ≤ size) (right_lengths four m)
    (λ _ e. listed_fits m.items (length m.items / 4) size n bs e)
    λ _ e. let z : ◌≡◌ {A = ℕ} 0 1 = ap (λ (a : Answer). (paper a).number) e in absurd (omega arith)

module _ {m : Mem} {before after : List ℕ} where
  pub listed_counted : (said : Result ℕ Refusal) → length after ≡ length before → ListedAs four m before after said → IfOk said (λ n. 20 * n ≤ length after)
  listed_counted (Ok n) l p = omega (arith, l, lent_fits m (length before) n (take (20 * n) after) p.told)
  listed_counted (Err _) l p = tt

  pub listed_text : {said : Result ℕ Refusal} {at r : ℕ} {out out' : List ℕ} → ListedAs four m before after said → Put (text (said_listing said after)) at out out' r
      → Put (text (lent_call four m (write_list (length before))).answer) at out out' r
  listed_text p q = rw (← p.told) q
