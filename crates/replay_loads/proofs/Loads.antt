-- Laws on a line of a dump: one a way out of the code. Assumes nothing.
use Prim.Native.Nat.{ℕ, suc, ◌+◌, ◌-◌, ◌≤◌}
use native.Mathlib.Numerals.{add-one}
use native.Mathlib.Omega.{arith}
use mathlib.Core.Path.{◌≡◌, refl, sym, ap, ◌∙◌}
use mathlib.Core.Bool.{Bool, true, false}
use Rattle.std.specs.Prelude.{Option, Some, None, Ok, Err}
use mathlib.Core.List.{List, [], ◌∷◌}
use lib.ListN.{length, drop, get_or, length-take, set, take}
use lib.Seq.{sets, sets-eq, take_at}
use lib.Dec.{eqb, leb}
use borrow.Author.Tests.{leb-true}
use Rattle.model.specs.Choice.{choose}
use Rattle.replay_words.specs.Words.{all_digits, is_comment, number, number_from, same, value, without_comment, without_return, words}
use Rattle.replay_words.proofs.Scan.{before_take, bool, words_few}
use Rattle.replay_print.specs.Text.{bytes}
use Rattle.replay_lines.specs.Reasons.{instead, reason_number}
use Rattle.replay_lines.specs.declared.Reason.{Reason}
use Rattle.replay_loads.specs.Load.{Weighed, bad, faulty, good, in_front, load_of, loaded_with, loading, loads, other, run_named, run_number, top_of, weighed}
use Rattle.replay_loads.specs.Cursor.{Measures, PouredLine, weight, weight_behind}
use Rattle.replay_loads.specs.declared.Measured.TheVariants as measures
use Rattle.replay_loads.specs.declared.Run.{Run}
use Rattle.replay_loads.specs.declared.Run.TheVariants as runs

-- the run that a word names, in the order of the tests
module _ (w : List ℕ) {t₁ : Bool} (e₁ : t₁ ≡ same w (bytes "slots")) where
  pub named_slots : t₁ ≡ true → 0 ≡ run_named w
  unfolding run_named
  named_slots y = rw (sym e₁ ∙ y)

  module _ {t₂ : Bool} (n₁ : t₁ ≡ false) (e₂ : t₂ ≡ same w (bytes "counters")) where
    pub named_counters : t₂ ≡ true → 1 ≡ run_named w
    unfolding run_named
    named_counters y = rw (sym e₁ ∙ n₁, sym e₂ ∙ y)

    module _ {t₃ : Bool} (n₂ : t₂ ≡ false) (e₃ : t₃ ≡ same w (bytes "items")) where
      pub named_items : t₃ ≡ true → 2 ≡ run_named w
      unfolding run_named
      named_items y = rw (sym e₁ ∙ n₁, sym e₂ ∙ n₂, sym e₃ ∙ y)

      pub named_none : t₃ ≡ false → 3 ≡ run_named w
      unfolding run_named
      named_none n₃ = rw (sym e₁ ∙ n₁, sym e₂ ∙ n₂, sym e₃ ∙ n₃)

-- one word more in front of others
weight_more : (top n v : ℕ) (w : List ℕ) (r : Weighed) → weight_behind n (in_front top w (Some v) r) ≡ weight_behind (n + 1) r
weight_more top n v w (good ws) = let e : n + suc (length ws) ≡ n + 1 + length ws = omega arith in ap Ok e
weight_more top n v w (bad y) = refl

-- words have been weighed up to what is left of them, and they are n
pub record Weighing (line left : List ℕ) (top n : ℕ) : Type 0 where
  pub few : n + length (words left) ≤ length line
  pub ahead : weight_behind n (weighed top (words left)) ≡ weight (weighed top (words line))

pub weigh_first : (line : List ℕ) (top : ℕ) → Weighing line line top 0
weigh_first line top = record { few = omega (arith, words_few line); ahead = refl }

module _ {line left : List ℕ} {top n : ℕ} (s : Weighing line left top n) where
  pub weigh_end : words left ≡ [] → Ok n ≡ weight (weighed top (words line))
  unfolding weighed
  weigh_end e =
      let z : n ≡ n + 0 = omega arith in
      ap Ok z ∙ (rw e at s.ahead)

  module _ {w : List ℕ} (behind : List ℕ) (e : words left ≡ w ∷ words behind) where
    step : {o : Option ℕ} → o ≡ number top w → weight_behind n (in_front top w o (weighed top (words behind))) ≡ weight (weighed top (words line))
    unfolding weighed
    step {o} q = rw q (rw e at s.ahead)

    pub weigh_bad : (y : Reason) → None ≡ number top w → reason_number y ≡ instead (Some top) w → Err (reason_number y) ≡ weight (weighed top (words line))
    weigh_bad y q f = ap Err f ∙ step q

    pub weigh_more : {v : ℕ} → Some v ≡ number top w → Weighing line behind top (n + 1)
    weigh_more {v} q =
        record { few = omega (arith, s.few, ap length e); ahead = sym (weight_more top n v w (weighed top (words behind))) ∙ step q }

-- a number of a word is at most its top
small_from : (top : ℕ) (ds : List ℕ) {n : ℕ} → number_from top 0 ds ≡ Some n → n ≤ top
unfolding number_from
small_from top ds {n} =
    bool (λ a. choose a (choose (leb (value 0 ds) top) (Some (value 0 ds)) None) None ≡ Some n → n ≤ top) (all_digits ds)
    (λ _. bool (λ b. choose b (Some (value 0 ds)) None ≡ Some n → n ≤ top) (leb (value 0 ds) top)
    (λ h e. let q : value 0 ds ≡ n = cc in omega (arith, leb-true (value 0 ds) top h))
    (λ _ e. let z : ◌≡◌ {A = ℕ} 0 1 = cc in absurd (omega arith)))
    (λ _ e. let z : ◌≡◌ {A = ℕ} 0 1 = cc in absurd (omega arith))

pub small : (top : ℕ) (w : List ℕ) {n : ℕ} → number top w ≡ Some n → n ≤ top
unfolding number
small top [] e = let z : ◌≡◌ {A = ℕ} 0 1 = cc in absurd (omega arith)
small top (d ∷ ds) e = small_from top (d ∷ ds) e

-- an array with words stored from i on, if they are good
abbrev pub pouring : List ℕ → ℕ → Weighed → Option (List ℕ)
pouring l i (good ws) = Some (sets l i ws)
pouring l i (bad y) = None

pouring_more : (l w : List ℕ) (top i v : ℕ) (r : Weighed) → pouring l i (in_front top w (Some v) r) ≡ pouring (set l i v) (i + 1) r
pouring_more l w top i v (good ws) = rw add-one
pouring_more l w top i v (bad y) = refl

-- words have been stored up to what is left of them, and they are i: if the line loads the run, what is left comes to its words
pub record Pouring (line left : List ℕ) (top : ℕ) (before now : List ℕ) (i : ℕ) : Type 0 where
  pub few : i + length (words left) ≤ length line
  pub ahead : (r : ℕ) (ws : List ℕ) → loading line ≡ loads r ws → top_of r ≡ top → pouring now i (weighed top (words left)) ≡ Some (sets before 0 ws)

module _ {line left : List ℕ} {top i : ℕ} {before now : List ℕ} (s : Pouring line left top before now i) where
  pub pour_end : words left ≡ [] → PouredLine top line before now
  unfolding weighed
  pour_end e = record { poured = λ r ws l t. let f : Some now ≡ Some (sets before 0 ws) = rw e at (s.ahead r ws l t) in cc }

  module _ {w : List ℕ} (behind : List ℕ) (e : words left ≡ w ∷ words behind) where
    pour_step : {o : Option ℕ} {after : Option (List ℕ)} → o ≡ number top w → pouring now i (weighed top (words left)) ≡ after
        → pouring now i (in_front top w o (weighed top (words behind))) ≡ after
    unfolding weighed
    pour_step q f = rw q (rw e at f)

    pub pour_stop : None ≡ number top w → PouredLine top line before now
    pour_stop n =
        record {
          poured = λ r ws l t.
              let f : None ≡ Some (sets before 0 ws) = pour_step n (s.ahead r ws l t) in let z : ◌≡◌ {A = ℕ} 0 1 = cc in absurd (omega arith);
        }

    pub pour_more : {v : ℕ} {after : List ℕ} → Some v ≡ number top w → after ≡ set now i v → Pouring line behind top before after (i + 1)
    pour_more {v} {after} q f =
        let more = weighed top (words behind) in
        record {
          few = omega (arith, s.few, ap length e);
          ahead = λ r ws l t.
              ap (λ (k : List ℕ). pouring k (i + 1) more) f ∙ sym (pouring_more now w top i v more) ∙ pour_step q (s.ahead r ws l t);
        }

-- a line loads the words that it has
loaded_good : (q r : ℕ) (w : Weighed) {ws : List ℕ} → loaded_with q w ≡ loads r ws → (q ≡ r) × (w ≡ good ws)
loaded_good q r (good vs) e = (cc, cc)
loaded_good q r (bad y) e = let z : ◌≡◌ {A = ℕ} 0 1 = cc in absurd (omega arith)

-- a line by its words
module _ (line : List ℕ) {body : List ℕ} (b : body ≡ without_comment (without_return line)) where
  by_words : loading line ≡ load_of (words body)
  unfolding loading
  by_words = ap (λ (l : List ℕ). load_of (words l)) (sym b)

  pub no_words : words body ≡ [] → loading line ≡ other
  unfolding load_of
  no_words e = rw e at by_words

  body_short : length body ≤ length line
  unfolding without_comment without_return
  body_short =
      let bs : List ℕ = without_return line in
      let k : length body ≡ length (take (length body) bs) = ap length b ∙ ap length (sym (before_take is_comment bs)) ∙ ap (λ (n : ℕ). length (take n bs)) (ap length (sym b)) in
      let r : length bs ≤ length line = shorter (eqb (get_or line (length line - 1) 0) 13) in
      omega (arith, k, length-take (length body) bs)
    where
      shorter : (t : Bool) → length (choose t (take (length line - 1) line) line) ≤ length line
      shorter true = omega (arith, length-take (length line - 1) line)
      shorter false = omega arith

  module _ {name : List ℕ} (left : List ℕ) (e : words body ≡ name ∷ words left) where
    by_name : loading line ≡ choose (eqb (run_named name) 3) other (loaded_with (run_named name) (weighed (top_of (run_named name)) (words left)))
    unfolding load_of
    by_name = rw e at by_words

    pub no_run : 3 ≡ run_named name → loading line ≡ other
    no_run q = rw (← q) at by_name

    module _ (run : Run) (q : run_number run ≡ run_named name) where
      by_run : loading line ≡ loaded_with (run_number run) (weighed (top_of (run_number run)) (words left))
      by_run = apart run (rw (← q) at by_name)
        where
          apart : (run : Run) → loading line ≡ choose (eqb (run_number run) 3) other (loaded_with (run_number run) (weighed (top_of (run_number run)) (words left)))
              → loading line ≡ loaded_with (run_number run) (weighed (top_of (run_number run)) (words left))
          apart runs.Slots p = p
          apart runs.Counters p = p
          apart runs.Items p = p

      module _ {top : ℕ} (t : top ≡ top_of (run_number run)) where
        pub measure_words : {n : ℕ} → Ok n ≡ weight (weighed top (words left)) → Measures (loading line) (measures.Loads run n)
        measure_words {n} f = counted (weighed (top_of (run_number run)) (words left)) by_run (f ∙ ap (λ k. weight (weighed k (words left))) t)
          where
            counted : (w : Weighed) → loading line ≡ loaded_with (run_number run) w → Ok n ≡ weight w → Measures (loading line) (measures.Loads run n)
            counted (good ws) p g = let z : n ≡ 0 + length ws = cc in (ws, p, omega arith)
            counted (bad y) p g = let z : ◌≡◌ {A = ℕ} 0 1 = cc in absurd (omega arith)

        pub measure_bad : (y : Reason) → Err (reason_number y) ≡ weight (weighed top (words left)) → Measures (loading line) (measures.Faulty y)
        measure_bad y f = faulted (weighed (top_of (run_number run)) (words left)) by_run (f ∙ ap (λ k. weight (weighed k (words left))) t)
          where
            faulted : (w : Weighed) → loading line ≡ loaded_with (run_number run) w → Err (reason_number y) ≡ weight w → loading line ≡ faulty (reason_number y)
            faulted (good ws) p g = let z : ◌≡◌ {A = ℕ} 0 1 = cc in absurd (omega arith)
            faulted (bad x) p g = let z : x ≡ reason_number y = cc in p ∙ ap faulty z

    -- the words behind the name are good if the line loads them
    rest_good : (top r : ℕ) (ws : List ℕ) → loading line ≡ loads r ws → top_of r ≡ top → weighed top (words left) ≡ good ws
    rest_good top r ws l t =
        bool
        (λ z. choose z other (loaded_with (run_named name) (weighed (top_of (run_named name)) (words left))) ≡ loads r ws → weighed top (words left) ≡ good ws)
        (eqb (run_named name) 3)
        (λ _ q. let z : ◌≡◌ {A = ℕ} 0 1 = cc in absurd (omega arith))
        (λ _ q.
        let g = loaded_good (run_named name) r (weighed (top_of (run_named name)) (words left)) q in
        ap (λ (k : ℕ). weighed k (words left)) (sym (ap top_of g.0 ∙ t)) ∙ g.1)
        (sym by_name ∙ l)

    pub pour_first : (top : ℕ) (run : List ℕ) → Pouring line left top run run 0
    pour_first top run =
        record {
          few = omega (arith, ap length e, words_few body, body_short);
          ahead = λ r ws l t. ap (pouring run 0) (rest_good top r ws l t);
        }

  -- a line without words says nothing
  pub pour_nothing : (top : ℕ) {before after : List ℕ} → words body ≡ [] → PouredLine top line before after
  pour_nothing top e = record { poured = λ r ws l t. let f : other ≡ loads r ws = sym (no_words e) ∙ l in let z : ◌≡◌ {A = ℕ} 0 1 = cc in absurd (omega arith) }

-- the words stand in front
pub poured_front : (ws run : List ℕ) (n : ℕ) → n ≡ length ws → n ≤ length run → take n (sets run 0 ws) ≡ ws
poured_front ws run n e h =
    let short : 0 + length ws ≤ length run = omega arith in
    ap (take n) (sets-eq ws run 0 short) ∙ take_at ws (drop (0 + length ws) run) n (sym e)
