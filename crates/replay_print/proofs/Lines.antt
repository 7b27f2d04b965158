-- One part of a line behind the other. Assumes nothing.
use Prim.Native.Nat.{ℕ, ◌+◌, ◌*◌, ◌≤◌, ◌<◌}
use native.Mathlib.Omega.{arith}
use native.Mathlib.Numerals.{add-one}
use mathlib.Core.Path.{◌≡◌, refl, sym, ap, ap₂, ◌∙◌}
use mathlib.Core.List.{List, [], ◌∷◌, ◌++◌, append_assoc}
use lib.ListN.{length, get_or, drop, drop_of_length-le}
use lib.Seq.{drop-cons}
use Rattle.buffer.specs.Put.{Put}
use Rattle.buffer.proofs.Putting.{put_both, put_length}
use Rattle.replay_print.specs.Text.{bytes}
use Rattle.replay_print.specs.Print.{decimal_of, line, numbered, told}

-- the numbers behind a word are a line with no word
told_behind : (word ns : List ℕ) → told word ns ≡ word ++ told [] ns
unfolding told numbered
told_behind word [] = refl
told_behind word (n ∷ ns) =
    told_behind (numbered word n) ns ∙ ap (λ (l : List ℕ). l ++ told [] ns) (append_assoc word (bytes " ") (decimal_of n))
    ∙ append_assoc word (numbered [] n) (told [] ns)
    ∙ ap (λ (l : List ℕ). word ++ l) (sym (told_behind (numbered [] n) ns))

module _ {at r s : ℕ} {before middle after : List ℕ} where
  pub put_ended : (words : List ℕ) → Put words at before middle r → Put (bytes "\n") r middle after s → Put (line words) at before after s
  put_ended words p q = put_both p q

  pub put_number : {next : List ℕ} {t : ℕ} (word : List ℕ) (n : ℕ) → Put word at before middle r → Put (bytes " ") r middle next t
      → Put (decimal_of n) t next after s → Put (numbered word n) at before after s
  unfolding numbered
  put_number word n p q d = put_both (put_both p q) d

  pub put_behind : (word ns : List ℕ) → Put word at before middle r → Put (told [] ns) r middle after s → Put (told word ns) at before after s
  put_behind word ns p q = rw (told_behind word ns) (put_both p q)

-- the numbers of a line up to i are there: they and what is still to come are the line
pub record Telling (ns : List ℕ) (at : ℕ) (before out : List ℕ) (next i : ℕ) : Type 0 where
  pub front : List ℕ
  pub put : Put front at before out next
  pub ahead : front ++ told [] (drop i ns) ≡ told [] ns
  pub inside : i ≤ length ns
  pub near : next ≤ at + 21 * i
  pub long : length out ≡ length before

pub tell_first : (ns : List ℕ) (at : ℕ) (before : List ℕ) → Telling ns at before before at 0
tell_first ns at before =
    record { front = []; put = record { bytes_put = refl; next = omega arith }; ahead = refl; inside = omega arith; near = omega arith; long = refl }

module _ {ns : List ℕ} {at : ℕ} {before out out' : List ℕ} {next i r : ℕ} (s : Telling ns at before out next i) where
  pub tell_more : {x : ℕ} → i < length ns → x ≡ get_or ns i 0 → Put (numbered [] x) next out out' r → r ≤ next + 0 + 21 → Telling ns at before out' r (i + 1)
  unfolding told
  tell_more {x} h e p l =
      let q : told [] (drop i ns) ≡ numbered [] x ++ told [] (drop (i + 1) ns) =
      ap (told []) (drop-cons ns i 0 h ∙ ap₂ (λ (a k : ℕ). a ∷ drop k ns) (sym e) (sym (add-one i))) ∙ told_behind (numbered [] x) (drop (i + 1) ns) in
      record {
        front = s.front ++ numbered [] x;
        put = put_both s.put p;
        ahead = append_assoc s.front (numbered [] x) (told [] (drop (i + 1) ns)) ∙ ap (λ (l : List ℕ). s.front ++ l) (sym q) ∙ s.ahead;
        inside = omega arith;
        near = omega (arith, s.near);
        long = put_length p ∙ s.long;
      }

  pub tell_end : length ns ≤ i → Put (line []) next out out' r → Put (told [] ns) at before out' r
  unfolding told
  tell_end h p =
      let q : s.front ++ line [] ≡ told [] ns = ap (λ (l : List ℕ). s.front ++ told [] l) (sym (drop_of_length-le ns h)) ∙ s.ahead in
      rw (← q) (put_both s.put p)
