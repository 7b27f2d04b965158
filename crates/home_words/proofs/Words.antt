-- Laws on the eight words. Assumes nothing.
use Prim.Native.Nat.{ℕ, ◌+◌, ◌*◌, ◌<◌, ◌≤◌, ◌%◌, ◌/◌, suc}
use native.Mathlib.Omega.{arith}
use native.Mathlib.Decide.{ℕ_discrete}
use mathlib.Core.Path.{◌≡◌, refl, sym, ap, ◌∙◌}
use mathlib.Core.Logic.{◌≢◌, dite}
use mathlib.Core.Bool.{Bool, true, false, ◌||◌}
use Rattle.std.specs.Prelude.{Some, None, cond}
use mathlib.Core.List.{List, [], ◌∷◌, map, ◌++◌, append-nil}
use lib.ListN.{get_or}
use Rattle.std.specs.List.{find, fold, sum_by}
use Rattle.std.specs.Bool.{then_some}
use lib.Dec.{eqb}
use borrow.Author.Tests.{eq-eqb, ne_eqb, eqb-true}
use Rattle.model.specs.Choice.{any, choose, first, there, range}
use Rattle.model.specs.Memory.{animal, place, tag}
use Rattle.model.proofs.ListLaws.{bool}
use Rattle.home_words.specs.HomeWords.{leads, tag_sum, home_words}

-- any of a list passes: the first, or any of the rest
pub any_cons : (f : ℕ → Bool) (w : ℕ) (ws : List ℕ) → any f (w ∷ ws) ≡ (f w || any f ws)
unfolding first
any_cons f w ws = bool (λ b. there (choose b (Some w) (first f ws)) ≡ (b || any f ws)) (f w) (λ e. refl) λ e. refl

or_no : (b : Bool) → (b || false) ≡ b
or_no true = refl
or_no false = refl

or_in_turn : (a b c : Bool) → ((a || b) || c) ≡ (a || (b || c))
or_in_turn true b c = refl
or_in_turn false b c = refl

any_nil : (f : ℕ → Bool) → any f [] ≡ false
unfolding first
any_nil f = refl

any_eight : (f : ℕ → Bool) (a b c d e g h i : ℕ)
    → ((((f a || f b) || f c) || f d) || (((f e || f g) || f h) || f i)) ≡ any f (a ∷ b ∷ c ∷ d ∷ e ∷ g ∷ h ∷ i ∷ [])
any_eight f a b c d e g h i = simp (any_cons, any_nil, or_no, or_in_turn)

-- eight words tested one by one, four and four: some test holds exactly if any of the words passes
pub by_tests : (f : ℕ → Bool) (a b c d e g h i : ℕ) {p₀ p₁ p₂ p₃ p₄ p₅ p₆ p₇ : Bool}
    → p₀ ≡ f a → p₁ ≡ f b → p₂ ≡ f c → p₃ ≡ f d → p₄ ≡ f e → p₅ ≡ f g → p₆ ≡ f h → p₇ ≡ f i
    → ((((p₀ || p₁) || p₂) || p₃) || (((p₄ || p₅) || p₆) || p₇)) ≡ any f (a ∷ b ∷ c ∷ d ∷ e ∷ g ∷ h ∷ i ∷ [])
by_tests f a b c d e g h i q₀ q₁ q₂ q₃ q₄ q₅ q₆ q₇ = rw (q₀, q₁, q₂, q₃, q₄, q₅, q₆, q₇) (any_eight f a b c d e g h i)

-- by the library's words: an eager fold, a sum, a search
fold_any : (f : ℕ → Bool) (b : Bool) (ws : List ℕ) → fold (λ b w. b || f w) b ws ≡ (b || any f ws)
unfolding first
fold_any f b [] = sym (or_no b)
fold_any f b (w ∷ ws) = fold_any f (b || f w) ws ∙ or_in_turn b (f w) (any f ws) ∙ ap (λ c. b || c) (sym (any_cons f w ws))

pub any_folded : (f : ℕ → Bool) (ws : List ℕ) → fold (λ b w. b || f w) false ws ≡ any f ws
any_folded f ws = fold_any f false ws

fold_sum : (t z : ℕ) (ws : List ℕ) → fold (λ a w. a + choose (eqb (tag w) t) w 0) z ws ≡ z + tag_sum t ws
unfolding tag_sum
fold_sum t z [] = omega arith
fold_sum t z (w ∷ ws) = fold_sum t (z + choose (eqb (tag w) t) w 0) ws ∙ omega arith

pub sum_folded : (t : ℕ) (ws : List ℕ) → sum_by (λ w. choose (eqb (tag w) t) w 0) ws ≡ tag_sum t ws
sum_folded t ws = fold_sum t 0 ws ∙ omega arith

pub found_first : (f : ℕ → Bool) (ws : List ℕ) → find f ws ≡ first f ws
unfolding first
found_first f [] = refl
found_first f (w ∷ ws) = bool (λ b. cond b (Some w) (find f ws) ≡ choose b (Some w) (first f ws)) (f w) (λ e. refl) λ e. found_first f ws

pub lead_other : (l : List ℕ) (t x w : ℕ) → tag w ≢ t → leads l t x w ≡ false
unfolding leads
lead_other l t x w ne = rw (ne_eqb (tag w) t ne)

-- one word alone
alone_strange : (l : List ℕ) (t x w : ℕ) → tag w ≡ t → animal l (place w) ≢ x → None ≡ first (leads l t x) (w ∷ [])
unfolding first leads
alone_strange l t x w e ne = rw (eq-eqb (tag w) t e, ne_eqb (animal l (place w)) x ne)

alone_hit : (l : List ℕ) (t x w : ℕ) → tag w ≡ t → animal l (place w) ≡ x → Some w ≡ first (leads l t x) (w ∷ [])
unfolding first leads
alone_hit l t x w e e' = rw (eq-eqb (tag w) t e, eq-eqb (animal l (place w)) x e')

module _ (t : ℕ) (pos : 1 ≤ t) where
  -- a sum below one tag is no word at all
  pub sum_small : (ws : List ℕ) → tag_sum t ws < 65536 → tag_sum t ws ≡ 0
  unfolding tag_sum tag
  sum_small [] h = refl
  sum_small (w ∷ ws) h =
      bool (λ b. choose b w 0 + tag_sum t ws < 65536 → eqb (w / 65536) t ≡ b → choose b w 0 + tag_sum t ws ≡ 0) (eqb (w / 65536) t)
      (λ q h e. let z : w / 65536 ≡ t = eqb-true (w / 65536) t e in absurd (omega arith))
      (λ q h e. omega (arith, sum_small ws (omega arith))) h refl

  module _ (l : List ℕ) (x : ℕ) where
    abbrev lead : ℕ → Bool
    lead w = leads l t x w

    -- no word has the tag
    pub hit_none : (ws : List ℕ) → tag_sum t ws ≡ 0 → first lead ws ≡ None
    unfolding first tag_sum tag
    hit_none [] e = refl
    hit_none (w ∷ ws) e =
        dite (ℕ_discrete (w / 65536) t) (λ q. let k : choose (eqb (w / 65536) t) w 0 ≡ w = rw (eq-eqb (w / 65536) t q) in absurd (omega arith))
        λ nq. let k : choose (eqb (w / 65536) t) w 0 ≡ 0 = rw (ne_eqb (w / 65536) t nq) in
        rw (lead_other l t x w nq) (hit_none ws (omega arith))

    -- the sum has the tag: exactly one word has it, and the sum is that word
    pub hit_one : (ws : List ℕ) → tag (tag_sum t ws) ≡ t → first lead ws ≡ first lead (tag_sum t ws ∷ [])
    unfolding first tag_sum tag
    hit_one [] e = absurd (omega arith)
    hit_one (w ∷ ws) e =
        dite (ℕ_discrete (w / 65536) t)
        (λ q. let k : choose (eqb (w / 65536) t) w 0 ≡ w = rw (eq-eqb (w / 65536) t q) in
        let s : tag_sum t ws ≡ 0 = sum_small ws (omega arith) in
        let z : choose (eqb (w / 65536) t) w 0 + tag_sum t ws ≡ w = omega arith in
        rw (z, hit_none ws s))
        λ nq. let k : choose (eqb (w / 65536) t) w 0 ≡ 0 = rw (ne_eqb (w / 65536) t nq) in
        let z : choose (eqb (w / 65536) t) w 0 + tag_sum t ws ≡ tag_sum t ws = omega arith in
        rw (z, lead_other l t x w nq) (hit_one ws (rw z at e))

-- the ways out of the search for the hit word, in the code's own words
module _ (l : List ℕ) (t x : ℕ) {w : ℕ} (ws : List ℕ) (known : (1 ≤ t) × (w ≡ tag_sum t ws)) where
  pub by_no_tag : w ≡ 0 → None ≡ first (leads l t x) ws
  by_no_tag z = sym (hit_none t known.0 l x ws (sym known.1 ∙ z))

  module _ (e : w / 65536 ≡ t) where
    one_word : first (leads l t x) ws ≡ first (leads l t x) (w ∷ [])
    unfolding tag
    one_word = rw known.1 (hit_one t known.0 l x ws (rw known.1 at e))

    -- the number that its place holds decides
    pub by_number : then_some (eqb (get_or l (4 * (w % 65536)) 0) x) w ≡ first (leads l t x) ws
    unfolding tag place
    by_number =
        dite (ℕ_discrete (get_or l (4 * (w % 65536)) 0) x)
        (λ q. rw (eq-eqb _ x q) (alone_hit l t x w e q) ∙ sym one_word)
        λ nq. rw (ne_eqb _ x nq) (alone_strange l t x w e nq) ∙ sym one_word

-- the words of four slots one after the other
four_words : (T : List ℕ) (b : ℕ) (rest : List ℕ)
    → get_or T b 0 ∷ get_or T (b + 1) 0 ∷ get_or T (b + 2) 0 ∷ get_or T (b + 3) 0 ∷ rest ≡ map (λ i. get_or T i 0) (range b 4) ++ rest
unfolding range
four_words T b rest =
    let e₁ : b + 1 ≡ suc b = omega arith in
    let e₂ : b + 2 ≡ suc (suc b) = omega arith in
    let e₃ : b + 3 ≡ suc (suc (suc b)) = omega arith in
    rw (e₁, e₂, e₃)

map_append : (g : ℕ → ℕ) (xs ys : List ℕ) → map g (xs ++ ys) ≡ map g xs ++ map g ys
map_append g [] ys = refl
map_append g (x ∷ xs) ys = ap (λ (l : List ℕ). g x ∷ l) (map_append g xs ys)

pub by_words : (T : List ℕ) (f s : ℕ)
    → get_or T (f * 4) 0 ∷ get_or T (f * 4 + 1) 0 ∷ get_or T (f * 4 + 2) 0 ∷ get_or T (f * 4 + 3) 0
    ∷ get_or T (s * 4) 0 ∷ get_or T (s * 4 + 1) 0 ∷ get_or T (s * 4 + 2) 0 ∷ get_or T (s * 4 + 3) 0 ∷ [] ≡ home_words 4 T f s
by_words T f s =
    four_words T (f * 4) (get_or T (s * 4) 0 ∷ get_or T (s * 4 + 1) 0 ∷ get_or T (s * 4 + 2) 0 ∷ get_or T (s * 4 + 3) 0 ∷ [])
    ∙ ap (λ (l : List ℕ). map (λ i. get_or T i 0) (range (f * 4) 4) ++ l) (four_words T (s * 4) [] ∙ append-nil (map (λ i. get_or T i 0) (range (s * 4) 4)))
    ∙ sym (map_append (λ i. get_or T i 0) (range (f * 4) 4) (range (s * 4) 4))
