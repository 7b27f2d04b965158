-- The queue of the four-way search is the visit list, as far as it is filled. Assumes nothing.
use Prim.Native.Nat.{ℕ, ◌+◌, ◌*◌, ◌<◌, ◌≤◌}
use native.Mathlib.Omega.{arith}
use native.Mathlib.Decide.{ℕ_discrete}
use mathlib.Core.Path.{◌≡◌, sym, ap₂, ◌∙◌}
use mathlib.Core.Logic.{dite}
use mathlib.Core.List.{List}
use lib.ListN.{length, get_or, set, replicate, length-set, length-replicate}
use lib.Seq.{get_or-set_same, get_or-set_other}
use Rattle.model.specs.Memory.{tag}
use Rattle.model.specs.Hash.{other_bucket}
use Rattle.model.specs.Shape.{four}
use Rattle.paths.specs.Buckets.{bucket_words, layout_of}
use Rattle.paths.proofs.Words.{word_is}
use Rattle.paths.proofs.Visits.{first_visit, put_by, second_visit, visits_of}

module _ (n : ℕ) (T : List ℕ) (b c : ℕ) where
  abbrev Q : List ℕ
  Q = visits_of four n T b c

  -- the queue has the first t positions of the list
  pub record Queued (queue : List ℕ) (t : ℕ) : Type 0 where
    pub long : length queue ≡ 682
    pub put : (p : ℕ) → p < 682 → p < t → get_or queue p 0 ≡ get_or Q p 0

  queued_one : (queue : List ℕ) {t : ℕ} (i : ℕ) (y : ℕ) → Queued queue t → i ≤ t → i < 682 → y ≡ get_or Q i 0 → Queued (set queue i y) (i + 1)
  queued_one queue i y g h k e =
      record {
        long = simp length-set g.long;
        put = λ p a l. dite (ℕ_discrete p i) (λ z. let inside : i < length queue = omega (arith, g.long) in rw (z, get_or-set_same) e) λ z.
            rw get_or-set_other (g.put p a (omega arith));
      }

  -- at the start it has the two homes
  pub queued_homes : {x y : ℕ} → x ≡ b → y ≡ c → Queued (set (set (replicate 682 0) 0 x) 1 y) 2
  queued_homes {x} {y} ex ey =
      let none : Queued (replicate 682 0) 0 = record { long = length-replicate {A = ℕ} 682 0; put = λ p h k. absurd (omega arith) } in
      let one = queued_one (replicate 682 0) 0 x none (omega arith) (omega arith) (ex ∙ sym (first_visit four n T b c)) in
      queued_one (set (replicate 682 0) 0 x) 1 y one (omega arith) (omega arith) (ey ∙ sym (second_visit four n T b c))

  -- a visit at position v, with the words w of the bucket x, puts four more there, one by one
  pub queued_more : {queue w : List ℕ} {v x s y : ℕ} → Queued queue (2 + 4 * v + s) → v < 170 → s < 4 → x ≡ get_or Q v 0
      → w ≡ bucket_words 4 T (get_or Q v 0) → y ≡ other_bucket n (tag (get_or w s 0)) x
      → Queued (set queue (2 + 4 * v + s) y) (2 + 4 * v + (s + 1))
  queued_more {queue} {v = v} {s = s} {y} g early h here words e =
      let leads : y ≡ get_or Q (2 + 4 * v + s) 0
      = e ∙ ap₂ (λ u z. other_bucket n (tag u) z) (word_is (layout_of four n) T (get_or Q v 0) words s h) here ∙ sym (put_by n T b c v s early h) in
      let one = queued_one queue (2 + 4 * v + s) y g (omega arith) (omega arith) leads in
      record { long = one.long; put = λ p l k. one.put p l (omega arith) }
