-- Conditions 4, 5 and 6 of one slot or place, by the words of eight home slots, in the code's own words. Assumes nothing.
use Prim.Native.Nat.{ℕ, ◌+◌, ◌*◌, ◌/◌, ◌%◌, ◌^◌, ◌<◌}
use native.Mathlib.Omega.{arith}
use mathlib.Core.Path.{◌≡◌, refl, sym, ap, ◌∙◌}
use mathlib.Core.Logic.{◌≢◌}
use mathlib.Core.Bool.{Bool, true, false, not, ◌&&◌, ◌||◌}
use Rattle.std.specs.Prelude.{Some, cond}
use Rattle.std.specs.List.{count_by}
use Rattle.std.proofs.lemmas.List.Recursion.{is_count_by}
use mathlib.Core.List.{List, [], ◌∷◌, map}
use lib.ListN.{length, get_or}
use lib.Dec.{eqb}
use borrow.Author.Tests.{eq-eqb, ne_eqb}
use Rattle.model.specs.Choice.{choose, first, any, there}
use Rattle.model.specs.Memory.{Mem, word, tag, place, animal}
use Rattle.model.specs.Shape.{Shape, four, homes, right_lengths, shape_of}
use Rattle.model.proofs.ListLaws.{bool}
use Rattle.model.proofs.Lent.{fit}
use Rattle.home_words.specs.HomeWords.{home_words}
use Rattle.looking.specs.Look.{HomesIn}
use Rattle.looking.proofs.OwnWords.{words_are}
use Rattle.hashing.specs.declared.Homes.{Homes}
use Rattle.judgement.specs.Conditions.{count, names, twin, right_word, is_stray, is_unsought, is_doubled}
use Rattle.judgement.proofs.Conditions.{four_holds, five_holds}
use Rattle.judgement.proofs.AtHome.{pointers_at_home, twins_at_home}
use Rattle.pointing.specs.Known.{Aimed, Sought}

-- the library's count of words is the definition's
pub counted : (f : ℕ → Bool) (ws : List ℕ) → count_by f ws ≡ count f ws
unfolding count
counted f ws =
    sym (is_count_by (count f) f refl (λ w ws. bool (λ b. choose b 1 0 + count f ws ≡ cond b (1 + count f ws) (count f ws)) (f w) (λ e. refl) (λ e. omega arith)) ws)

-- one word leads to a twin, by the number that was read
pub by_twin : (l : List ℕ) (x p w : ℕ) {y : ℕ} → y ≡ get_or l (4 * (w % 65536)) 0 → (not (eqb (w % 65536) p) && eqb y x) ≡ twin l x p (place w)
unfolding twin place
by_twin l x p w e = rw e

-- counts and tests of words are those of slots
count_map : (f : ℕ → Bool) (g : ℕ → ℕ) (is : List ℕ) → count f (map g is) ≡ count (λ i. f (g i)) is
unfolding count
count_map f g [] = refl
count_map f g (i ∷ is) = ap (λ n. choose (f (g i)) 1 0 + n) (count_map f g is)

any_map : (f : ℕ → Bool) (g : ℕ → ℕ) (is : List ℕ) → any f (map g is) ≡ any (λ i. f (g i)) is
unfolding first
any_map f g [] = refl
any_map f g (i ∷ is) =
    bool (λ b. there (choose b (Some (g i)) (first f (map g is))) ≡ there (choose b (Some i) (first (λ i. f (g i)) is))) (f (g i)) (λ e. refl) λ e. any_map f g is

-- a place's number fits 32 bits
pub place_fits : (m : Mem) (p : ℕ) → right_lengths four m ≡ true → 4 * p + 3 < length m.items → p < 2 ^ 32
place_fits m p right h = omega (arith, (fit four m right).few, (fit four m right).items_fit)

-- condition 4: one slot
module _ (m : Mem) (i : ℕ) where
  pub by_free : get_or m.slots i 0 ≡ 0 → false ≡ is_stray (shape_of four m) m i
  unfolding is_stray
  by_free e = rw (eq-eqb (get_or m.slots i 0) 0 e)

  module _ (nz : get_or m.slots i 0 ≢ 0) {x : ℕ} (ex : x ≡ get_or m.items (4 * (get_or m.slots i 0 % 65536)) 0) where
    pub by_vacant : x ≡ 0 → true ≡ is_stray (shape_of four m) m i
    unfolding is_stray right_word place
    by_vacant e = rw (ne_eqb (get_or m.slots i 0) 0 nz, eq-eqb (get_or m.items (4 * (get_or m.slots i 0 % 65536)) 0) 0 (sym ex ∙ e))

    pub by_homes : x ≢ 0 → {h : Homes} → HomesIn four m x h
        → not (eqb (get_or m.slots i 0 / 65536) h.tag && (eqb (i / 4) h.first || eqb (i / 4) h.second)) ≡ is_stray (shape_of four m) m i
    unfolding is_stray right_word place tag
    by_homes nx hs =
        let nx' : get_or m.items (4 * (get_or m.slots i 0 % 65536)) 0 ≢ 0 = λ z. nx (ex ∙ z) in
        rw (ne_eqb (get_or m.slots i 0) 0 nz, ne_eqb (get_or m.items (4 * (get_or m.slots i 0 % 65536)) 0) 0 nx', hs.tag_is, hs.first_is, hs.second_is, ex)

-- conditions 5 and 6: one place
module _ (m : Mem) (p : ℕ) where
  abbrev Y : Shape
  Y = shape_of four m

  abbrev x : ℕ
  x = animal m.items p

  pub by_vacant_place : x ≡ 0 → false ≡ is_unsought Y m p
  unfolding is_unsought
  by_vacant_place e = rw (eq-eqb x 0 e)

  pub by_vacant_twin : x ≡ 0 → false ≡ is_doubled Y m p
  unfolding is_doubled
  by_vacant_twin e = rw (eq-eqb x 0 e)

  module _ (nz : x ≢ 0) {h : Homes} (hs : HomesIn four m x h) {ws : List ℕ} (words : ws ≡ home_words 4 m.slots h.first h.second) where
    pub by_pointers : Aimed m → {n : ℕ} → n ≡ count (names p) ws → not (eqb n 1) ≡ is_unsought Y m p
    unfolding is_unsought
    by_pointers a {n} e =
        let k : n ≡ count (λ i. names p (word m i)) (homes Y x) =
        e ∙ ap (count (names p)) (words_are four m x hs words) ∙ count_map (names p) (word m) (homes Y x) in
        rw (ne_eqb x 0 nz, pointers_at_home four m a.right (four_holds Y m a.aimed) p, k)

    pub by_twins : Sought m → {b : Bool} → b ≡ any (λ w. twin m.items x p (place w)) ws → b ≡ is_doubled Y m p
    unfolding is_doubled
    by_twins s {b} e =
        let right = s.aims.right in
        let k : b ≡ any (λ i. twin m.items x p (place (word m i))) (homes Y x) =
        e ∙ ap (any (λ w. twin m.items x p (place w))) (words_are four m x hs words) ∙ any_map (λ w. twin m.items x p (place w)) (word m) (homes Y x) in
        let q = twins_at_home four m right (four_holds Y m s.aims.aimed) (five_holds Y m (fit four m right).items_fit s.sought) p nz in
        rw (ne_eqb x 0 nz, q, k)
