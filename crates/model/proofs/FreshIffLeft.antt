-- On any lent memory: read and serve say fresh exactly if what is left is not negative. Assumes nothing.
use Prim.Native.Nat.{ℕ, ◌+◌, ◌-◌, ◌%◌, ◌^◌, ◌<◌, ◌≤◌}
use native.Mathlib.Omega.{arith}
use native.Mathlib.Decide.{ℕ_discrete, dec_le, dec_lt}
use mathlib.Core.Path.{◌≡◌, refl, sym, subst, ◌∙◌}
use mathlib.Core.Logic.{dite}
use mathlib.Core.Bool.{Bool, true, false}
use Rattle.std.specs.Prelude.{Option, Some, None}
use mathlib.Core.List.{List}
use lib.IntN.{ℤ}
use lib.Signed.{clash_ℤ}
use lib.Dec.{eqb}
use Rattle.model.specs.Choice.{choose}
use Rattle.model.specs.Memory.{Mem, permission, stamp}
use Rattle.model.specs.Shape.{Shape, Ways, right_lengths, shape_of}
use Rattle.model.specs.Answers.{Answer, absent, ahead, fresh, old, paper, refused}
use Rattle.model.specs.Calling.{read, serve}
use Rattle.model.specs.Age.{bad_time, judge, least_left, left_of, retired_mark, verdict}
use Rattle.model.specs.Calls.{busy, call, held, home_damage, refuse, tell}
use Rattle.model.specs.Left.{FreshIffLeft, TellsTime, Timely}
use Rattle.model.specs.Ours.{ours}
use Rattle.model.proofs.ListLaws.{true_false}
use Rattle.model.proofs.Left.{bounds, far, negative, not_negative}
use Rattle.model.proofs.Verdict.{says_ahead, says_old, says_retired, says_young}
use Rattle.model.proofs.Runs.{serve_reads}

-- an answer without a number
pub untold : (limit : ℕ) (a : Answer) → (paper a).signed ≡ None → TellsTime limit a
untold limit a n z e = let q : ◌≡◌ {A = Option ℤ} None (Some z) = sym n ∙ e in cc

module _ (limit : ℕ) where
  told_fresh : (v a : ℕ) → a ≤ limit → TellsTime limit (fresh v (left_of limit a))
  told_fresh v a h z e =
      let q : left_of limit a ≡ z = cc in
      let b = bounds limit a in
      subst (Timely limit (fresh v (left_of limit a))) q
      (record { fresh_iff_left = (λ _. not_negative limit a h, λ _. refl); least = b.0; most = b.1 })

  told_old : (a : ℕ) → limit < a → TellsTime limit (old (left_of limit a))
  told_old a h z e =
      let q : left_of limit a ≡ z = cc in
      let b = bounds limit a in
      subst (Timely limit (old (left_of limit a))) q
      (record { fresh_iff_left = (λ t. true_false t refl, λ k. clash_ℤ (negative limit a h) k); least = b.0; most = b.1 })

  -- whatever the permission and its stamp
  pub verdict_timely : (now v s : ℕ) → TellsTime limit (verdict limit now v s)
  verdict_timely now v s =
      dite (ℕ_discrete s retired_mark) (λ e. said (says_retired limit now v s e) (subst (λ (z : ℤ). TellsTime limit (old z)) far_off (told_old (limit + 2 ^ 62) (omega arith))))
      λ ne. dite (dec_lt now s) (λ l. said (says_ahead limit now v s ne l) (untold limit ahead refl))
      λ l. let le : s ≤ now = omega arith in
      dite (dec_le (now - s) limit) (λ k. said (says_young limit now v s ne le k) (told_fresh (v % 2 ^ 32) (now - s) k))
      λ k. let lt : limit < now - s = omega arith in said (says_old limit now v s ne le lt) (told_old (now - s) lt)
    where
      said : {a : Answer} → a ≡ verdict limit now v s → TellsTime limit a → TellsTime limit (verdict limit now v s)
      said e t = subst (TellsTime limit) e t

      -- a retired one tells what an age far beyond the limit would
      far_off : left_of limit (limit + 2 ^ 62) ≡ least_left
      far_off = far limit (limit + 2 ^ 62) (omega arith)

  -- whatever place was found
  pub judge_timely : (l : List ℕ) (now : ℕ) (o : Option ℕ) → TellsTime limit (judge l limit now o)
  judge_timely l now None = untold limit absent refl
  judge_timely l now (Some p) = verdict_timely now (permission l p) (stamp l p)

  pub refusal_untold : (n : ℕ) → TellsTime limit (refused n)
  refusal_untold n = untold limit (refused n) refl

module _ (Y : Shape) (m : Mem) (x limit now : ℕ) where
  reads : TellsTime limit (call Y m (read x limit now)).answer
  reads = asks (eqb x 0) (bad_time limit now) (busy Y m x) (home_damage Y m x)
    where
      asks : (b c d f : Bool)
          → TellsTime limit (choose b (refuse 2) (choose c (refuse 3) (choose d (refuse 8) (choose f (refuse 4) (tell (judge m.items limit now (held Y m x))))))).answer
      asks true c d f = refusal_untold limit 2
      asks false true d f = refusal_untold limit 3
      asks false false true f = refusal_untold limit 8
      asks false false false true = refusal_untold limit 4
      asks false false false false = judge_timely limit m.items now (held Y m x)

pub fresh_iff_left : (W : Ways) → FreshIffLeft (ours W)
fresh_iff_left W m x limit now = go (right_lengths W m)
  where
    Y : Shape
    Y = shape_of W m

    go : (b : Bool) → TellsTime limit (choose b (call Y m (read x limit now)) (refuse 1)).answer
        × TellsTime limit (choose b (call Y m (serve x limit now)) (refuse 1)).answer
    go true = let t = reads Y m x limit now in (t, subst (TellsTime limit) (sym (serve_reads Y m x limit now)) t)
    go false = let t = refusal_untold limit 1 in (t, t)
