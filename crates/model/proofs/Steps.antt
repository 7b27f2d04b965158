-- Every call on a well-formed table answers as the row does, and leaves the row's item words. Assumes nothing.
use Prim.Native.Nat.{ℕ}
use mathlib.Core.Path.{refl, subst}
use mathlib.Core.Bool.{false}
use lib.Ieee.{size}
use Rattle.model.specs.Memory.{Mem}
use Rattle.model.specs.Shape.{Shape, homes}
use Rattle.model.specs.Age.{bad_time, judge, bad_grant}
use Rattle.model.specs.Calls.{call, delete_at, final_at, find_at, held, hit, hits, move_at, plan_at, serve_at, set_at, tell}
use Rattle.model.specs.Row.{row_bad_grant, row_bad_time, row_call, row_delete, row_enter, row_find, row_move, row_plan, row_read, row_serve, row_set, stay}
use Rattle.model.specs.WellFormed.{WellFormed}
use Rattle.model.proofs.ShapeLaws.{Lawful}
use Rattle.model.proofs.ListLaws.{First, first_is}
use Rattle.model.proofs.ReadWalk.{held_walk}
use Rattle.model.proofs.RowWords.{grant_is, time_is}
use Rattle.model.proofs.Step.{Step, as_walked, step_asked, step_delete, step_find, step_list, step_read, step_serve, walked}
use Rattle.model.proofs.StepSet.{step_set}
use Rattle.model.proofs.StepEvict.{step_evict}
use Rattle.model.proofs.StepInSteps.{step_final, step_moves, step_plan}
use Rattle.model.specs.Calling.{Call, Typed, about, read, serve, find, set_animal, delete, evict, write_list, plan_set, step_move, step_enter}

module _ (Y : Shape) (L : Lawful Y) (m : Mem) (g : WellFormed Y m) where
  pub step : (c : Call) → Typed c → Step Y (about c) m (call Y m c) (λ f. row_call Y.places f m.items c)
  unfolding hit
  step (read x limit now) h =
      step_asked Y (λ a. x) m g x (bad_time limit now) (row_bad_time Y.places limit now) (time_is Y.places limit now)
      (tell (judge m.items limit now (held Y m x))) (λ f. stay m.items (row_read Y.places m.items limit now (walked Y L m g x)))
      λ nz. as_walked Y L m g (λ a. x) x nz (λ o. tell (judge m.items limit now o))
      (λ o f. stay m.items (row_read Y.places m.items limit now o)) λ o k. step_read Y L m g x limit now o
  step (serve x limit now) h =
      step_asked Y (λ a. x) m g x (bad_time limit now) (row_bad_time Y.places limit now) (time_is Y.places limit now)
      (serve_at Y m limit now (held Y m x)) (λ f. row_serve Y.places m.items limit now (walked Y L m g x))
      λ nz. as_walked Y L m g (λ a. x) x nz (λ o. serve_at Y m limit now o)
      (λ o f. row_serve Y.places m.items limit now o) λ o k. step_serve Y L m g x limit now nz k
  step (find x) h =
      step_asked Y (λ a. x) m g x false false refl (tell (find_at (held Y m x))) (λ f. stay m.items (row_find Y.places (walked Y L m g x)))
      λ nz. as_walked Y L m g (λ a. x) x nz (λ o. tell (find_at o)) (λ o f. stay m.items (row_find Y.places o)) λ o k. step_find Y L m g x o
  step (set_animal q) h =
      let x = q.animal in
      step_asked Y (λ a. x) m g x (bad_grant q) (row_bad_grant Y.places q) (grant_is Y.places q) (set_at Y m q (held Y m x))
      (λ f. row_set Y.places f m.items q (walked Y L m g x))
      λ nz. as_walked Y L m g (λ a. x) x nz (λ o. set_at Y m q o) (λ o f. row_set Y.places f m.items q o)
      λ o k. step_set Y L m g q nz h k
  step (delete x) h =
      step_asked Y (λ a. x) m g x false false refl (delete_at Y m x (hit Y m x)) (λ f. row_delete Y.places m.items (walked Y L m g x))
      λ nz. subst (λ o. Step Y (λ a. x) m (delete_at Y m x (hit Y m x)) (λ f. row_delete Y.places m.items o)) (held_walk Y m g x nz)
      (step_delete Y L m g x nz (hit_first x))
    where
      hit_first : (x : ℕ) → First (hits Y m x) (homes Y x) (hit Y m x)
      hit_first x = first_is (hits Y m x) (homes Y x)
  step (evict hand) h = step_evict Y L m g hand
  step (write_list size) h = step_list Y L m g size
  step (plan_set q) h =
      let x = q.animal in
      step_asked Y (λ a. x) m g x (bad_grant q) (row_bad_grant Y.places q) (grant_is Y.places q) (plan_at Y m x (held Y m x))
      (λ f. stay m.items (row_plan Y.places f m.items (walked Y L m g x)))
      λ nz. as_walked Y L m g (λ a. x) x nz (λ o. plan_at Y m x o) (λ o f. stay m.items (row_plan Y.places f m.items o))
      λ o k. step_plan Y L m g x k
  step (step_move q v) h =
      step_asked Y (λ a. 0) m g q.animal (bad_grant q) (row_bad_grant Y.places q) (grant_is Y.places q) (move_at Y m v)
      (λ f. stay m.items (row_move Y.places f)) λ nz. step_moves Y L m g v
  step (step_enter q p i) h =
      let x = q.animal in
      step_asked Y (λ a. x) m g x (bad_grant q) (row_bad_grant Y.places q) (grant_is Y.places q) (final_at Y m q p i)
      (λ f. row_enter Y.places f m.items q p (walked Y L m g x)) λ nz. step_final Y L m g q nz h p i
