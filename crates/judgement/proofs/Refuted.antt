-- Wrong judges, each refuted by one memory on which ours says another thing. Assumes nothing.
use Prim.Native.Nat.{ℕ}
use native.Mathlib.Omega.{arith}
use mathlib.Core.Path.{◌≡◌, refl, sym, ap, ◌∙◌}
use mathlib.Core.List.{[], ◌∷◌}
use lib.ListN.{get_or}
use Rattle.model.specs.Choice.{first, range}
use Rattle.model.specs.Memory.{Mem, damaged, mem, place, tag}
use Rattle.model.specs.Shape.{four, good_counters, good_items, good_slots}
use Rattle.judgement.specs.Conditions.{count, is_doubled, is_misshapen, is_stray, is_unsought, names, right_word, twin}
use Rattle.judgement.specs.Verdict.{Verdict, sound, broken, judgement}
use Rattle.judgement.specs.Judges.{Judges, numbered_0}
use Rattle.judgement.specs.Examples.{told}
use Rattle.judgement.proofs.Judges.{one_judge}

-- two buckets and one place, all zero; and the same with an odd counter, number 1 of two
calm : Mem
calm = mem (0 ∷ 0 ∷ 0 ∷ 0 ∷ 0 ∷ 0 ∷ 0 ∷ 0 ∷ []) (0 ∷ 0 ∷ []) (0 ∷ 0 ∷ 0 ∷ 0 ∷ [])

cut_off : Mem
cut_off = mem (0 ∷ 0 ∷ 0 ∷ 0 ∷ 0 ∷ 0 ∷ 0 ∷ 0 ∷ []) (0 ∷ 1 ∷ []) (0 ∷ 0 ∷ 0 ∷ 0 ∷ [])

calm_sound : judgement four calm ≡ sound
unfolding calm judgement count names twin right_word is_stray is_unsought is_doubled is_misshapen first range tag place damaged good_slots good_counters good_items
calm_sound = refl

cut_off_broken : judgement four cut_off ≡ broken 3 1
unfolding cut_off judgement is_stray is_misshapen first range tag place damaged good_slots good_counters good_items
cut_off_broken = refl

pub yes_to_all : ¬ Judges four (λ m. sound)
yes_to_all j =
    let z : ◌≡◌ {A = ℕ} 0 3 = ap (λ v. get_or (told v) 0 0) (one_judge four (λ m. sound) j cut_off ∙ cut_off_broken) in absurd (omega arith)

pub no_to_all : (c i : ℕ) → ¬ Judges four (λ m. broken c i)
no_to_all c i j =
    let e : broken c i ≡ sound = one_judge four (λ m. broken c i) j calm ∙ calm_sound in
    let z : ◌≡◌ {A = ℕ} 2 1 = ap (λ v. length_told v) e in absurd (omega arith)
  where
    length_told : Verdict → ℕ
    length_told sound = 1
    length_told (broken c i) = 2

pub number_0_always : ¬ Judges four (λ m. numbered_0 (judgement four m))
number_0_always j =
    let z : ◌≡◌ {A = ℕ} 0 1 =
    ap (λ v. get_or (told v) 1 0) (ap numbered_0 (sym cut_off_broken) ∙ one_judge four (λ m. numbered_0 (judgement four m)) j cut_off ∙ cut_off_broken) in
    absurd (omega arith)
