-- Fresh, where the lengths are right: in the code's own words. Assumes nothing.
use Prim.Native.Nat.{ℕ}
use mathlib.Core.Path.{◌≡◌, sym, ap, ◌∙◌, ap₂}
use mathlib.Core.Bool.{Bool, false, not}
use mathlib.Core.List.{List}
use lib.ListN.{length, replicate}
use borrow.Author.Tests.{not-false}
use Rattle.model.specs.Choice.{choose}
use Rattle.model.specs.Memory.{Mem, mem}
use Rattle.model.specs.Shape.{Ways, fresh_memory, right_lengths, shape_of}
use Rattle.model.specs.Answers.{refused, started}
use Rattle.model.specs.Promised.{FreshAs}
use Rattle.model.proofs.Lent.{fit}

pub fresh_made : (W : Ways) (m : Mem) {g : Bool} → g ≡ right_lengths W m → not g ≡ false
    → {s c i : List ℕ} → s ≡ replicate (length m.slots) 0 → c ≡ replicate (length m.counters) 0 → i ≡ replicate (length m.items) 0
    → FreshAs W m (mem s c i) started
fresh_made W m {g} e t {s} {c} {i} es ec ei =
    let f = sym e ∙ not-false g t in
    let q = fit W m f in
    record {
      told = sym (ap (λ b. choose b started (refused 1)) f);
      left =
          ap (λ (c' : List ℕ). mem s c' i) ec
          ∙ ap₂ (λ (s i : List ℕ). mem s (replicate (length m.counters) 0) i) (es ∙ ap (λ n. replicate n 0) q.slots_fit) (ei ∙ ap (λ n. replicate n 0) q.items_fit)
          ∙ sym (ap (λ b. choose b (fresh_memory (shape_of W m)) m) f);
    }
