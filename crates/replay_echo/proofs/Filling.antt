-- Laws on a row that is filled in: one a way out of the code. Assumes nothing.
use Prim.Native.Nat.{ℕ, zero, suc, ◌+◌, ◌*◌, ◌≤◌, ◌<◌}
use native.Mathlib.Omega.{arith}
use native.Mathlib.Numerals.{add-one}
use mathlib.Core.Path.{◌≡◌, refl, sym, ap, ap₂, ◌∙◌}
use mathlib.Core.Logic.{◌≢◌}
use mathlib.Core.Bool.{Bool, true, false}
use mathlib.Core.List.{List, [], ◌∷◌, ◌++◌, append_assoc}
use lib.ListN.{length, get_or, drop, drop_of_length-le, set}
use lib.Seq.{drop-cons}
use Rattle.std.specs.Prelude.{Option, Some, None}
use Rattle.std.specs.Option.{unwrap_or, option_map}
use Rattle.std.proofs.Common.{Bor}
use Rattle.model.specs.Choice.{choose}
use Rattle.buffer.specs.Put.{Put}
use Rattle.buffer.proofs.Putting.{put_both, put_length}
use Rattle.replay_words.specs.Words.{is_end, joined, lines}
use Rattle.replay_print.specs.Text.{bytes}
use Rattle.replay_print.specs.Print.{decimal_of}
use Rattle.replay_echo.specs.Echo.{behind, echo, filled_in, in_place, is_capital}
use Rattle.replay_echo.specs.Placed.{One}
use Rattle.replay_echo.specs.declared.Filled.{Filled}

-- one byte
module _ (xs : List ℕ) (i b : ℕ) {t : Bool} (e : t ≡ is_capital b) {at : ℕ} {before : List ℕ} where
  pub one_number : {n r : ℕ} {after : List ℕ} → t ≡ true → n ≡ get_or xs i 0 → Put (decimal_of n) at before after r → r ≤ at + 20
      → One xs i b at before after (record { next = r; index = i + 1 })
  unfolding in_place behind
  one_number {n} {r} {after} y q p h =
      let f : decimal_of n ≡ in_place xs i b = ap decimal_of q ∙ rw (sym e ∙ y) in
      record { put = rw (← f) p; near = h; index = rw (sym e ∙ y) }

  pub one_byte : t ≡ false → One xs i b at before (set before at b) (record { next = at + 1; index = i })
  unfolding in_place behind
  one_byte n =
      let f : b ∷ [] ≡ in_place xs i b = rw (sym e ∙ n) in
      let p : Put (b ∷ []) at before (set before at b) (at + 1) = record { bytes_put = refl; next = refl } in
      record { put = rw (← f) p; near = omega arith; index = rw (sym e ∙ n) }

-- a row is filled in up to k: what is there and what is still to come are all of it
pub record Filling (xs row : List ℕ) (at : ℕ) (before out : List ℕ) (here : Filled) (k : ℕ) : Type 0 where
  pub front : List ℕ
  pub put : Put front at before out here.next
  pub ahead : front ++ filled_in xs here.index (drop k row) ≡ filled_in xs 0 row
  pub inside : k ≤ length row
  pub near : here.next ≤ at + 20 * k
  pub few : here.index ≤ k
  pub long : length out ≡ length before

-- a number more at most
behind_few : (i b : ℕ) → behind i b ≤ i + 1
unfolding behind
behind_few i b = by_test (is_capital b)
  where
    by_test : (t : Bool) → choose t (i + 1) i ≤ i + 1
    by_test true = omega arith
    by_test false = omega arith

module _ {xs row : List ℕ} {at : ℕ} {before out : List ℕ} {here : Filled} {k : ℕ} (s : Filling xs row at before out here k) where
  pub fill_more : {out' : List ℕ} {r : Filled} → k < length row → One xs here.index (get_or row k 0) here.next out out' r
      → Filling xs row at before out' r (k + 1)
  unfolding filled_in
  fill_more {out'} {r} h o =
      let one : List ℕ = in_place xs here.index (get_or row k 0) in
      let q : filled_in xs here.index (drop k row) ≡ one ++ filled_in xs r.index (drop (k + 1) row) =
      ap (filled_in xs here.index) (drop-cons row k 0 h)
      ∙ ap₂ (λ (j l : ℕ). one ++ filled_in xs j (drop l row)) (sym o.index) (sym (add-one k)) in
      record {
        front = s.front ++ one;
        put = put_both s.put o.put;
        ahead = append_assoc s.front one (filled_in xs r.index (drop (k + 1) row)) ∙ ap (λ (l : List ℕ). s.front ++ l) (sym q) ∙ s.ahead;
        inside = omega arith;
        near = omega (arith, s.near, o.near);
        few = omega (arith, s.few, o.index, behind_few here.index (get_or row k 0));
        long = put_length o.put ∙ s.long;
      }

  pub fill_end : length row ≤ k → Put (filled_in xs 0 row) at before out here.next
  unfolding filled_in
  fill_end h =
      let q : s.front ++ [] ≡ filled_in xs 0 row = ap (λ (l : List ℕ). s.front ++ filled_in xs here.index l) (sym (drop_of_length-le row h)) ∙ s.ahead in
      rw (← q) (put_both s.put (record { bytes_put = refl; next = omega arith }))

-- a line whose row is not empty
echo_is : (n : ℕ) (t xs : List ℕ) → length t ≢ 0 → echo n t xs ≡ decimal_of n ++ (bytes ": " ++ (filled_in xs 0 t ++ bytes " -> "))
unfolding echo
echo_is n [] xs ne = absurd (ne refl)
echo_is n (b ∷ bs) xs ne = refl

-- a row that is there, or another
pub row_or : (r : Option (Bor (List ℕ))) (other : Bor (List ℕ)) {row : Bor (List ℕ)} {o : Option (List ℕ)} → row ≡ unwrap_or r other → option_map (λ x. x.now) r ≡ o
    → row.now ≡ unwrap_or o other.now
row_or None other e f = ap (λ (x : Bor (List ℕ)). x.now) e ∙ ap (λ o. unwrap_or o other.now) f
row_or (Some x) other e f = ap (λ (x : Bor (List ℕ)). x.now) e ∙ ap (λ o. unwrap_or o other.now) f

-- no row is longer than the table
pub row_short : (rows : List ℕ) (k : ℕ) → length (get_or (lines rows) k []) ≤ length rows
unfolding lines
row_short [] k = omega arith
row_short (b ∷ bs) k = one (is_end b) (lines bs) (row_short bs) k
  where
    one : (t : Bool) (ps : List (List ℕ)) → ((k : ℕ) → length (get_or ps k []) ≤ length bs) → (k : ℕ) → length (get_or (joined t b ps) k []) ≤ suc (length bs)
    one true ps h zero = omega arith
    one true ps h (suc k) = omega (arith, h k)
    one false [] h zero = omega arith
    one false [] h (suc k) = omega arith
    one false (p ∷ ps) h zero = omega (arith, h zero)
    one false (p ∷ ps) h (suc k) = omega (arith, h (suc k))

module _ (n : ℕ) (xs : List ℕ) {row call : List ℕ} {at : ℕ} {before : List ℕ} (e : call ≡ row) where
  pub echo_nothing : length call ≡ 0 → Put (echo n row xs) at before before at
  unfolding echo
  echo_nothing z = rw (← e) (nothing call z)
    where
      nothing : (t : List ℕ) → length t ≡ 0 → Put (echo n t xs) at before before at
      nothing [] z = record { bytes_put = refl; next = omega arith }
      nothing (b ∷ t) z = absurd (omega arith)

  pub echo_call : {first second third after : List ℕ} {i j k l : ℕ} → length call ≢ 0 → Put (decimal_of n) at before first i
      → Put (bytes ": ") i first second j → Put (filled_in xs 0 call) j second third k → Put (bytes " -> ") k third after l
      → Put (echo n row xs) at before after l
  echo_call ne a b c d = rw (← e, echo_is n call xs ne) (put_both a (put_both b (put_both c d)))
