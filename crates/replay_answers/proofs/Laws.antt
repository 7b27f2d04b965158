-- Laws on the lines of answers. Assumes nothing.
use Prim.Native.Nat.{ℕ, zero, suc, ◌+◌, ◌*◌, ◌≤◌}
use native.Mathlib.Omega.{arith}
use mathlib.Core.Path.{◌≡◌, refl, sym, ◌∙◌}
use Rattle.std.specs.Prelude.{Result, Ok}
use mathlib.Core.List.{List, [], ◌∷◌, ◌++◌, append_assoc}
use lib.ListN.{length, get_or, take}
use lib.Seq.{length-take-le}
use lib.IntN.{ℤ}
use mir.Syntax.{w64}
use mir.Val.{SFits, of_z, to_z}
use mir.ValLaws.{to_z-of_z}
use Rattle.model.specs.Memory.{Mem}
use Rattle.model.specs.Moves.{no_move}
use Rattle.model.specs.Answers.{planned, record_numbers}
use Rattle.model.specs.Said.{read_as, said_with}
use Rattle.model.specs.declared.Reading.{Reading}
use Rattle.model.specs.declared.Reading.TheVariants as reading
use Rattle.model.specs.declared.MoveRecord.{MoveRecord}
use Rattle.buffer.specs.Put.{Put}
use Rattle.buffer.proofs.Putting.{put_both}
use Rattle.replay_print.specs.Text.{bytes}
use Rattle.replay_print.specs.Print.{line, numbered, signed_line, signed_of, told}
use Rattle.replay_answers.specs.Text.{dump, not_understood, reason, text}

-- what is known is told as itself
pub as_known : {A : Type 0} (f : A → List ℕ) {said known : A} {at r : ℕ} {before after : List ℕ} → said ≡ known → Put (f known) at before after r
    → Put (f said) at before after r
as_known f e p = rw e p

-- words and the rest of a line with a signed number are the line
signed_behind : (words : List ℕ) (z : ℤ) → signed_line words z ≡ words ++ signed_line [] z
signed_behind words z =
    append_assoc (words ++ bytes " ") (signed_of z) (bytes "\n") ∙ append_assoc words (bytes " ") (signed_of z ++ bytes "\n")

-- the numbers of four moves, and of the first n of them
abbrev of_four : List MoveRecord → List ℕ
of_four vs =
    (get_or vs 0 no_move).from ∷ (get_or vs 0 no_move).tag ∷ (get_or vs 0 no_move).to ∷ (get_or vs 1 no_move).from ∷ (get_or vs 1 no_move).tag ∷ (get_or vs 1 no_move).to
    ∷ (get_or vs 2 no_move).from ∷ (get_or vs 2 no_move).tag ∷ (get_or vs 2 no_move).to ∷ (get_or vs 3 no_move).from ∷ (get_or vs 3 no_move).tag ∷ (get_or vs 3 no_move).to ∷ []

all_four : (vs : List MoveRecord) → length vs ≡ 4 → of_four vs ≡ record_numbers vs
all_four [] e = absurd (omega arith)
all_four (a ∷ []) e = absurd (omega arith)
all_four (a ∷ b ∷ []) e = absurd (omega arith)
all_four (a ∷ b ∷ c ∷ []) e = absurd (omega arith)
all_four (a ∷ b ∷ c ∷ d ∷ []) e = refl
all_four (a ∷ b ∷ c ∷ d ∷ f ∷ vs) e = absurd (omega arith)

first_few : (vs : List MoveRecord) (n : ℕ) → take (3 * n) (record_numbers vs) ≡ record_numbers (take n vs)
first_few vs zero = refl
first_few [] (suc n) = let e : 3 * suc n ≡ suc (suc (suc (3 * n))) = omega arith in rw e
first_few (v ∷ vs) (suc n) = let e : 3 * suc n ≡ suc (suc (suc (3 * n))) = omega arith in rw (e, first_few vs n)

module _ {at r : ℕ} {before after : List ℕ} where
  -- a line of words is short
  pub short : (k : ℕ) (words : List ℕ) → Put (line words) at before after r → length (line words) ≤ k → r ≤ at + k
  short k words p h = omega (arith, p.next)

  -- a reading that tells how long is left, as the code holds the number
  pub told_fresh : {E : Type 0} (n : E → ℕ) {said : Result Reading E} {told : Reading} {middle : List ℕ} {s v : ℕ} {z : ℤ} → SFits w64 z → said ≡ Ok told → told ≡ reading.Fresh v z
      → Put (numbered (bytes "fresh") v) at before middle s → Put (signed_line [] (to_z w64 (of_z w64 z))) s middle after r
      → Put (text (said_with n read_as said)) at before after r
  told_fresh n {v = v} {z} f e d p q = rw (e, d, signed_behind (numbered (bytes "fresh") v) z) (put_both p (rw (to_z-of_z w64 z f) at q))

  -- a plan, as the code holds its numbers
  pub told_numbers : (vs : List MoveRecord) (n p i : ℕ) → length vs ≡ 4 → Put (told (bytes "planned") (take (2 + 3 * n) (p ∷ i ∷ of_four vs))) at before after r
      → Put (text (planned (take n vs) p i)) at before after r
  told_numbers vs n p i l q = let f : 2 + 3 * n ≡ suc (suc (3 * n)) = omega arith in rw (← first_few vs n, ← all_four vs l) (rw f at q)

  pub put_line_number : {first second words : List ℕ} {s t y told : ℕ} (n : ℕ) → told ≡ y → words ≡ reason told → Put (numbered (bytes "line") n) at before first s
      → Put (bytes ": not understood: ") s first second t → Put (line words) t second after r → Put (not_understood n y) at before after r
  unfolding numbered
  put_line_number n d e p q l = rw (← d, ← e) (put_both (put_both p q) l)

-- the three runs of a dump
pub put_runs : {at r s t : ℕ} {before middle next after : List ℕ} (m : Mem) → Put (told (bytes "slots") m.slots) at before middle r
    → Put (told (bytes "counters") m.counters) r middle next s → Put (told (bytes "items") m.items) s next after t → Put (dump m) at before after t
put_runs m p q l = put_both (put_both p q) l

-- the front of a run has the length that it is cut to
pub front : (n : ℕ) (run : List ℕ) → n ≤ length run → n ≡ length (take n run)
front n run h = sym (length-take-le n run h)

-- and is no longer
front_short : (n : ℕ) (run : List ℕ) → length (take n run) ≤ n
front_short zero run = omega arith
front_short (suc n) [] = omega arith
front_short (suc n) (x ∷ run) = let h = front_short n run in omega arith

-- so the line of a plan is
module _ (at n : ℕ) (run : List ℕ) where
  pub plan_room : (out : List ℕ) → n ≤ 14 → at + 384 ≤ length out → at + 7 + 21 * length (take n run) + 1 ≤ length out
  plan_room out h k = omega (arith, front_short n run)

  pub plan_short : {r : ℕ} → r ≤ at + 7 + 21 * length (take n run) + 1 → n ≤ 14 → r ≤ at + 384
  plan_short k h = omega (arith, front_short n run)
