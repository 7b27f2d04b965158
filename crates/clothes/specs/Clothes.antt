-- The C clothes of an answer: document 01's number and values of it, as the fields of a reply. Assumes nothing.
use Rattle.std.specs.Prelude.{ℕ, [], length, ℤ, pos, unwrap_or, Result, Ok, Err}
use Rattle.model.specs.Choice.{choose}
use Rattle.model.specs.Moves.{four_records}
use Rattle.model.specs.Answers.{Answer, hand_back, is, moves_told, paper, value}
use Rattle.model.specs.declared.Plan.{Plan}
use Rattle.judgement.specs.Verdict.{Verdict, sound, broken}
use Rattle.clothes.specs.declared.BoughladderReading.{BoughladderReading}
use Rattle.clothes.specs.declared.BoughladderFinding.{BoughladderFinding}
use Rattle.clothes.specs.declared.BoughladderSetting.{BoughladderSetting}
use Rattle.clothes.specs.declared.BoughladderPlan.{BoughladderPlan}
use Rattle.clothes.specs.declared.BoughladderEvicting.{BoughladderEvicting}
use Rattle.clothes.specs.declared.BoughladderListing.{BoughladderListing}
use Rattle.clothes.specs.declared.BoughladderJudgement.{BoughladderJudgement}

-- the refusal number, 0 for success; and value i: value 0 says which success it is, those after it what it tells; 0 where there is none
abbrev pub number : Answer → ℕ
number a = (paper a).number

-- the permission that a reading tells and how long is left: 0 where it tells none
abbrev pub permission_told : Answer → ℕ
permission_told a = choose (is 1 a) (value a 1) 0

abbrev pub left_told : Answer → ℤ
left_told a = unwrap_or (paper a).signed (pos 0)

-- read, serve and the plain engine
abbrev pub reading_clothes : Answer → BoughladderReading
reading_clothes a = record { refusal = number a; kind = value a 0; permission = permission_told a; left = left_told a }

-- find
abbrev pub finding_clothes : Answer → BoughladderFinding
finding_clothes a = record { refusal = number a; kind = value a 0; place = value a 1 }

-- set
abbrev pub setting_clothes : Answer → BoughladderSetting
setting_clothes a = record { refusal = number a; visits = value a 1; moves = value a 2 }

-- plan; and what the code's plan says, in its clothes, by the number of what refuses
abbrev pub plan_clothes : Answer → BoughladderPlan
plan_clothes a =
    record {
      refusal = number a;
      count = length (moves_told a);
      place = value a 1;
      slot = value a 2;
      moves = four_records (moves_told a);
    }

abbrev pub plan_dressed : {E : Type 0} → (E → ℕ) → Result Plan E → BoughladderPlan
plan_dressed n (Ok b) = record { refusal = 0; count = b.count; place = b.place; slot = b.slot; moves = b.moves }
plan_dressed n (Err e) = record { refusal = n e; count = 0; place = 0; slot = 0; moves = four_records [] }

-- evict, with the hand h that comes back; and with the hand that was passed in
abbrev pub turned_clothes : ℕ → Answer → BoughladderEvicting
turned_clothes h a = record { refusal = number a; victim = value a 1; looked = value a 2; hand = h }

abbrev pub evicting_clothes : ℕ → Answer → BoughladderEvicting
evicting_clothes hand a = turned_clothes (hand_back hand a) a

-- the list
abbrev pub listing_clothes : Answer → BoughladderListing
listing_clothes a = record { refusal = number a; count = value a 1 }

-- a no by its condition's number
abbrev pub numbered : Result Unit (ℕ × ℕ) → Verdict
numbered (Ok _) = sound
numbered (Err (c, i)) = broken c i

-- judge: 0 is a yes
abbrev pub judgement_clothes : Verdict → BoughladderJudgement
judgement_clothes sound = record { condition = 0; at = 0 }
judgement_clothes (broken c i) = record { condition = c; at = i }
