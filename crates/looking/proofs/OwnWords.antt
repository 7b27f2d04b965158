-- The home slots of an animal by their words: damage, the hit, and the place of the hit. Assumes nothing.
use Prim.Native.Nat.{ℕ, ◌/◌, ◌%◌}
use mathlib.Core.Path.{◌≡◌, refl, sym, ap, ◌∙◌, ap₂}
use mathlib.Core.Bool.{Bool}
use Rattle.std.specs.Prelude.{Option, Some, None, option_map}
use mathlib.Core.List.{List, [], ◌∷◌, map}
use lib.ListN.{length, get_or}
use lib.Dec.{eqb}
use Rattle.model.specs.Choice.{any, choose, first, there}
use Rattle.model.specs.Memory.{Mem, damaged, place, word}
use Rattle.model.specs.Shape.{Shape, Ways, homes, shape_of}
use Rattle.model.specs.Calls.{busy, held, hit, hits, home_damage, place_at}
use Rattle.model.proofs.ListLaws.{bool}
use Rattle.home_words.specs.HomeWords.{home_words, leads}
use Rattle.looking.specs.Look.{HomesIn, own_hit, own_words}
use Rattle.hashing.specs.declared.Homes.{Homes}

-- what is found among words is the word of what is found among slots
first_map : (f : ℕ → Bool) (g : ℕ → ℕ) (is : List ℕ) → first f (map g is) ≡ option_map g (first (λ i. f (g i)) is)
unfolding first
first_map f g [] = refl
first_map f g (i ∷ is) =
    bool (λ b. choose b (Some (g i)) (first f (map g is)) ≡ option_map g (choose b (Some i) (first (λ i. f (g i)) is))) (f (g i)) (λ e. refl) λ e. first_map f g is

there_map : (g : ℕ → ℕ) (o : Option ℕ) → there (option_map g o) ≡ there o
there_map g None = refl
there_map g (Some i) = refl

module _ (W : Ways) (m : Mem) (x : ℕ) where
  abbrev Y : Shape
  Y = shape_of W m

  pub damage_words : any (damaged (length m.items / 4)) (own_words W m x) ≡ home_damage Y m x
  damage_words =
      ap there (first_map (damaged (length m.items / 4)) (word m) (homes Y x))
      ∙ there_map (word m) (first (λ i. damaged (length m.items / 4) (word m i)) (homes Y x))

  pub hit_words : own_hit W m x ≡ option_map (word m) (hit Y m x)
  unfolding hit hits leads
  hit_words = first_map (leads m.items (Y.tag_of x) x) (word m) (homes Y x)

  pub held_hit : held Y m x ≡ option_map place (own_hit W m x)
  held_hit = go (hit Y m x) ∙ ap (option_map place) (sym hit_words)
    where
      go : (o : Option ℕ) → place_at m o ≡ option_map place (option_map (word m) o)
      go None = refl
      go (Some i) = refl

  -- what the code reads by the animal's four numbers
  module _ {h : Homes} (hs : HomesIn W m x h) where
    pub odd_is : {b : Bool} → b ≡ eqb (get_or m.counters h.counter 0 % 2) 1 → b ≡ busy Y m x
    odd_is odd = odd ∙ ap (λ c. eqb (get_or m.counters c 0 % 2) 1) hs.counter_is

    module _ {ws : List ℕ} (words : ws ≡ home_words W.ways m.slots h.first h.second) where
      pub words_are : ws ≡ own_words W m x
      words_are = words ∙ ap₂ (λ (f s : ℕ). home_words W.ways m.slots f s) hs.first_is hs.second_is

      pub damage_is : {k : ℕ} {c : Bool} → k ≡ length m.items / 4 → c ≡ any (damaged k) ws → c ≡ home_damage Y m x
      damage_is places damage = damage ∙ ap₂ (λ (k : ℕ) (ws : List ℕ). any (damaged k) ws) places words_are ∙ damage_words
