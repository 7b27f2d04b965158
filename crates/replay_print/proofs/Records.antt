-- Records, byte by byte and line by line. Assumes nothing.
use Prim.Native.Nat.{ℕ, suc, ◌+◌, ◌*◌, ◌-◌, ◌≤◌, ◌<◌}
use native.Mathlib.Omega.{arith}
use native.Mathlib.Numerals.{add-one}
use mathlib.Core.Path.{◌≡◌, refl, sym, ap, subst, ◌∙◌}
use mathlib.Core.List.{List, [], ◌∷◌, ◌++◌, append_assoc, append-nil}
use lib.ListN.{length, get_or, take, drop, drop_of_length-le, length-drop}
use lib.Seq.{drop-cons, drop-drop, length-take-le}
use Rattle.buffer.specs.Put.{Put}
use Rattle.buffer.proofs.Putting.{put_both, put_length}
use Rattle.replay_print.specs.Print.{hex_of, hexes, line, record_lines}

-- the bytes of a record up to i are there
pub record Digits (bs : List ℕ) (at : ℕ) (before out : List ℕ) (next i : ℕ) : Type 0 where
  pub front : List ℕ
  pub put : Put front at before out next
  pub ahead : front ++ hexes (drop i bs) ≡ hexes bs
  pub inside : i ≤ length bs
  pub near : next ≡ at + 2 * i
  pub long : length out ≡ length before

module _ {bs : List ℕ} {at : ℕ} {before out out' : List ℕ} {next i r : ℕ} (s : Digits bs at before out next i) where
  pub digits_more : i < length bs → Put (hex_of (get_or bs i 0)) next out out' r → r ≡ next + 2 → Digits bs at before out' r (i + 1)
  unfolding hexes
  digits_more h p l =
      let q : hexes (drop i bs) ≡ hex_of (get_or bs i 0) ++ hexes (drop (i + 1) bs) =
      ap hexes (drop-cons bs i 0 h ∙ ap (λ (k : ℕ). get_or bs i 0 ∷ drop k bs) (sym (add-one i))) in
      record {
        front = s.front ++ hex_of (get_or bs i 0);
        put = put_both s.put p;
        ahead = append_assoc s.front (hex_of (get_or bs i 0)) (hexes (drop (i + 1) bs)) ∙ ap (λ (l : List ℕ). s.front ++ l) (sym q) ∙ s.ahead;
        inside = omega arith;
        near = omega (arith, s.near);
        long = put_length p ∙ s.long;
      }

  pub digits_end : length bs ≤ i → Put (line []) next out out' r → Put (line (hexes bs)) at before out' r
  unfolding hexes
  digits_end h p =
      let q : s.front ≡ hexes bs = sym (append-nil s.front) ∙ ap (λ (l : List ℕ). s.front ++ hexes l) (sym (drop_of_length-le bs h)) ∙ s.ahead in
      rw (← q) (put_both s.put p)

-- the first i of n records are there
pub record Listing (n : ℕ) (bs : List ℕ) (at : ℕ) (before out : List ℕ) (next i : ℕ) : Type 0 where
  pub front : List ℕ
  pub put : Put front at before out next
  pub ahead : front ++ record_lines (n - i) (drop (20 * i) bs) ≡ record_lines n bs
  pub inside : i ≤ n
  pub near : next ≡ at + 41 * i
  pub long : length out ≡ length before

module _ {n : ℕ} {bs : List ℕ} {at : ℕ} {before out : List ℕ} {next i : ℕ} (s : Listing n bs at before out next i) where
  pub records_more : {out' : List ℕ} {r : ℕ} → i < n → 20 * n ≤ length bs → Put (line (hexes (take (20 * i + 20 - 20 * i) (drop (20 * i) bs)))) next out out' r
      → r ≡ next + 2 * length (take (20 * i + 20 - 20 * i) (drop (20 * i) bs)) + 1 → Listing n bs at before out' r (i + 1)
  unfolding record_lines
  records_more {out'} {r} h b p l =
      let k : n - i ≡ suc (n - (i + 1)) = omega arith in
      let t : 20 * i + 20 - 20 * i ≡ 20 = omega arith in
      let e : 20 * i + 20 ≡ 20 * (i + 1) = omega arith in
      let d : drop 20 (drop (20 * i) bs) ≡ drop (20 * (i + 1)) bs = drop-drop 20 (20 * i) bs ∙ ap (λ (k : ℕ). drop k bs) e in
      let q : record_lines (n - i) (drop (20 * i) bs) ≡ line (hexes (take 20 (drop (20 * i) bs))) ++ record_lines (n - (i + 1)) (drop (20 * (i + 1)) bs) =
      ap (λ (m : ℕ). record_lines m (drop (20 * i) bs)) k ∙ ap (λ (l : List ℕ). line (hexes (take 20 (drop (20 * i) bs))) ++ record_lines (n - (i + 1)) l) d in
      let w : length (take (20 * i + 20 - 20 * i) (drop (20 * i) bs)) ≡ 20 * i + 20 - 20 * i =
      length-take-le (20 * i + 20 - 20 * i) (drop (20 * i) bs) (omega (arith, length-drop (20 * i) bs)) in
      record {
        front = s.front ++ line (hexes (take 20 (drop (20 * i) bs)));
        put = put_both s.put (subst (λ (k : ℕ). Put (line (hexes (take k (drop (20 * i) bs)))) next out out' r) t p);
        ahead =
            append_assoc s.front (line (hexes (take 20 (drop (20 * i) bs)))) (record_lines (n - (i + 1)) (drop (20 * (i + 1)) bs))
            ∙ ap (λ (l : List ℕ). s.front ++ l) (sym q) ∙ s.ahead;
        inside = omega arith;
        near = omega (arith, l, s.near, w);
        long = put_length p ∙ s.long;
      }

  pub records_end : n ≤ i → Put (record_lines n bs) at before out next
  unfolding record_lines
  records_end h =
      let e : n - i ≡ 0 = omega arith in
      let q : s.front ≡ record_lines n bs =
      sym (append-nil s.front) ∙ ap (λ (m : ℕ). s.front ++ record_lines m (drop (20 * i) bs)) (sym e) ∙ s.ahead in
      rw (← q) s.put
