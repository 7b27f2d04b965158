-- Refusals 8 and 4, then the hit: a law a way out, in the code's own words; and what a look says of a call. Assumes nothing.
use Prim.Native.Nat.{ℕ, ◌+◌, ◌*◌, ◌≤◌, ◌%◌, ◌/◌}
use mathlib.Core.Path.{◌≡◌, refl, sym, ap, ◌∙◌, ap₂}
use mathlib.Core.Bool.{Bool, true, false}
use mathlib.Core.List.{List}
use lib.ListN.{length, get_or}
use lib.Dec.{eqb}
use Rattle.std.specs.Prelude.{Some, None, Result, Ok, Err, option_map}
use Rattle.model.specs.Choice.{any, choose}
use Rattle.model.specs.Memory.{Mem, damaged, mem, place}
use Rattle.model.specs.Said.{refusal_number}
use Rattle.model.specs.Shape.{Ways, shape_of}
use Rattle.model.specs.Calls.{Outcome, busy, held, home_damage, refuse}
use Rattle.model.specs.declared.Refusal.{Refusal}
use Rattle.model.specs.declared.Refusal.TheVariants as refusal
use Rattle.home_words.specs.HomeWords.{home_words}
use Rattle.home_words.proofs.Sound.{hit_reads}
use Rattle.looking.specs.Look.{HomesIn, LooksHome, LooksUp, Passed, own_hit, own_words, sound}
use Rattle.looking.proofs.Early.{asked_now, past_early}
use Rattle.looking.proofs.OwnWords.{damage_is, damage_words, held_hit, odd_is, words_are}
use Rattle.hashing.specs.declared.Homes.{Homes}
use Rattle.looking.specs.declared.Home.{Home}
use Rattle.looking.specs.declared.Looked.{Looked}

-- the ways out of a look at the home words
module _ (W : Ways) (m : Mem) (x : ℕ) {h : Homes} (hs : HomesIn W m x h) {b : Bool} (odd : b ≡ eqb (get_or m.counters h.counter 0 % 2) 1) where
  abbrev home : Result (List ℕ) Refusal → Home
  home ws = record { homes = h; words = ws }

  abbrev tested : Bool → Bool → List ℕ → Result (List ℕ) Refusal
  tested b c ws = choose b (Err refusal.Busy) (choose c (Err refusal.Damaged) (Ok ws))

  pub home_busy : b ≡ true → LooksHome W m x (home (Err refusal.Busy))
  home_busy e =
      record {
        words_are = ap (λ b. tested b (home_damage (shape_of W m) m x) (own_words W m x)) (sym e ∙ odd_is W m x hs odd);
        homes_are = hs;
      }

  module _ (calm : b ≡ false) {ws : List ℕ} {k : ℕ} {c : Bool} (words : ws ≡ home_words W.ways m.slots h.first h.second)
      (places : k ≡ length m.items / 4) (damage : c ≡ any (damaged k) ws) where
    judged : {d : Bool} → c ≡ d → tested false d (own_words W m x) ≡ sound W m x (own_words W m x)
    judged e = ap₂ (λ b c. tested b c (own_words W m x)) (sym calm ∙ odd_is W m x hs odd) (sym e ∙ damage_is W m x hs words places damage)

    pub home_damaged : c ≡ true → LooksHome W m x (home (Err refusal.Damaged))
    home_damaged e = record { words_are = judged e; homes_are = hs }

    pub home_sound : c ≡ false → LooksHome W m x (home (Ok ws))
    home_sound e = record { words_are = ap Ok (words_are W m x hs words) ∙ judged e; homes_are = hs }

-- what refusals 8 and 4 say: one is due, or neither
module _ (W : Ways) (m : Mem) (x : ℕ) {A : Type 0} (a : A) {e : Result A Refusal} (s : e ≡ sound W m x a) where
  by_tests : (b d : Bool) {r : Refusal} (o : Outcome) → choose b (Err refusal.Busy) (choose d (Err refusal.Damaged) (Ok a)) ≡ Err r
      → choose b (refuse 8) (choose d (refuse 4) o) ≡ refuse (refusal_number r)
  by_tests true d o f = let k = f in cc
  by_tests false true o f = let k = f in cc
  by_tests false false o f = absurd (cc)

  pub sound_refused : {r : Refusal} → e ≡ Err r → (o : Outcome)
      → choose (busy (shape_of W m) m x) (refuse 8) (choose (home_damage (shape_of W m) m x) (refuse 4) o) ≡ refuse (refusal_number r)
  sound_refused q o = by_tests (busy (shape_of W m) m x) (home_damage (shape_of W m) m x) o (sym s ∙ q)

  -- neither: then that is the value behind them
  record Calm (b d : Bool) (c : A) : Type 0 where
    pub calm : b ≡ false
    pub whole : d ≡ false
    pub same : a ≡ c

  neither : (b d : Bool) {c : A} → choose b (Err refusal.Busy) (choose d (Err refusal.Damaged) (Ok a)) ≡ Ok c → Calm b d c
  neither true d f = absurd (cc)
  neither false true f = absurd (cc)
  neither false false f = record { calm = refl; whole = refl; same = cc }

  module _ {c : A} (q : e ≡ Ok c) where
    now_calm : Calm (busy (shape_of W m) m x) (home_damage (shape_of W m) m x) c
    now_calm = neither (busy (shape_of W m) m x) (home_damage (shape_of W m) m x) (sym s ∙ q)

    pub sound_whole : home_damage (shape_of W m) m x ≡ false
    sound_whole = now_calm.whole

    pub sound_value : a ≡ c
    sound_value = now_calm.same

    pub neither_due : {B : Type 0} (v : B) → sound W m x v ≡ Ok v
    neither_due v = ap₂ (λ b d. choose b (Err refusal.Busy) (choose d (Err refusal.Damaged) (Ok v))) now_calm.calm now_calm.whole

    pub sound_calm : (o : Outcome) → choose (busy (shape_of W m) m x) (refuse 8) (choose (home_damage (shape_of W m) m x) (refuse 4) o) ≡ o
    sound_calm o = ap₂ (λ b d. choose b (refuse 8) (choose d (refuse 4) o)) now_calm.calm now_calm.whole

-- no word that a look goes on with is damaged
pub look_sound : (W : Ways) (m : Mem) (x : ℕ) {h : Home} → LooksHome W m x h → {ws : List ℕ} → h.words ≡ Ok ws
    → any (damaged (length m.items / 4)) ws ≡ false
look_sound W m x l q =
    ap (any (damaged (length m.items / 4))) (sym (sound_value W m x (own_words W m x) l.words_are q)) ∙ damage_words W m x
    ∙ sound_whole W m x (own_words W m x) l.words_are q

-- what a look says of a call about animal x, where o is what comes behind refusals 8 and 4
module _ (W : Ways) (m : Mem) (x : ℕ) (bad : Bool) (o : Outcome) (p : Passed W m x bad) {r : Looked} (l : LooksUp W m x r) where
  pub look_refused : {k : Refusal} → r.hit ≡ Err k → asked_now W m x bad o ≡ refuse (refusal_number k)
  look_refused q = past_early W m x bad p o ∙ sound_refused W m x (own_hit W m x) l.hit_is q o

  pub look_lacks : r.hit ≡ Ok None → (asked_now W m x bad o ≡ o) × (held (shape_of W m) m x ≡ None)
  look_lacks q =
      (past_early W m x bad p o ∙ sound_calm W m x (own_hit W m x) l.hit_is q o, held_hit W m x ∙ ap (option_map place) (sound_value W m x (own_hit W m x) l.hit_is q))

  pub look_holds : {w : ℕ} → r.hit ≡ Ok (Some w)
      → (asked_now W m x bad o ≡ o) × (held (shape_of W m) m x ≡ Some (place w)) × (own_hit W m x ≡ Some w)
  look_holds q =
      let v = sound_value W m x (own_hit W m x) l.hit_is q in
      (past_early W m x bad p o ∙ sound_calm W m x (own_hit W m x) l.hit_is q o, held_hit W m x ∙ ap (option_map place) v, v)

-- the place of a hit lies in the items: no home word is damaged
pub look_inside : (W : Ways) (s c i : List ℕ) (x : ℕ) {r : Looked} → LooksUp W (mem s c i) x r → {w : ℕ} → r.hit ≡ Ok (Some w)
    → 4 * (w % 65536) + 4 ≤ length i
look_inside W s c i x {r} l {w} q =
    let m = mem s c i in
    let Y = shape_of W m in
    let pos : 1 ≤ Y.tag_of x = rw (← l.homes_are.tag_is) l.homes_are.tag_low in
    hit_reads i (Y.tag_of x) x (own_words W m x) pos (damage_words W m x ∙ sound_whole W m x (own_hit W m x) l.hit_is q) (sound_value W m x (own_hit W m x) l.hit_is q)
