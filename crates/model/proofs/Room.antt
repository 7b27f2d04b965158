-- The search says "no room" exactly if no legal moves make room, and what it finds takes the fewest moves. Assumes nothing.
use Prim.Native.Nat.{ℕ, ◌*◌, ◌<◌, suc, ◌≤◌, zero}
use native.Mathlib.Omega.{arith}
use native.Mathlib.Decide.{dec_le}
use mathlib.Core.Path.{◌≡◌}
use mathlib.Core.Logic.{◌↔◌, dite}
use mathlib.Core.List.{List, Memᴰ as Mem}
use lib.ListN.{length}
use Rattle.model.specs.Shape.{Layout}
use Rattle.model.specs.Moves.{moved_by}
use Rattle.model.proofs.Reach.{Reach, run_reach}
use Rattle.model.proofs.Paths.{AllFull, Fewest, Found, Shut, into, path_moves}
use Rattle.model.proofs.Levels.{level_visits, level_walk, reach_level, reach_walk, visits_level, walk_reach}
use Rattle.model.proofs.PathMoves.{Done, Short, distinct, into_slot, length_path_moves, path_done}

module _ (S : Layout) (T : List ℕ) (n : ℕ) (size : length T ≡ n * S.ways) (closed : (t b : ℕ) → b < n → S.other t b < n)
    (bs : List ℕ) (home_in : (b : ℕ) → Mem b bs → b < n) where
  none : {d : ℕ} → Shut S T bs d → (K k : ℕ) → k < K → k ≤ d → (b : ℕ) → Mem b bs → ¬ Reach S T k b
  none shut zero k h l b q x = absurd (omega arith)
  none {d} shut (suc K) k h l b q x =
      let w = reach_walk S T x in
      let r = w.3.0 in
      let y = path_done S T n size closed r w.3.1 b w.0 (home_in b q) w.2 w.3.2 (λ j lt. none shut K j (omega arith) (omega arith) b q) in
      shut (path_moves S T b w.0 r) (omega (arith, length_path_moves S T b w.0 r)) y.run b q
      (into w.0 r, into_slot S w.0 w.3.1 w.2, y.freed)

  -- "no room" is right
  pub shut_iff : (d : ℕ) → AllFull S T bs d ↔ Shut S T bs d
  shut_iff d = (
    λ full ms l run b q f.
        let x = reach_level S T bs q (run_reach S ms run f) in
        full x.1 (level_visits S T x.0 d bs (omega arith) x.3) x.4,
    λ no v q f.
        let x = visits_level S T d bs q in
        let y = level_walk S T x.0 bs x.2 in
        none no (suc d) (length y.2) (omega arith) (omega arith) y.0 y.1 (walk_reach S T y.2 y.4 (rw y.5 f)),
  )

  -- what the search finds takes the fewest moves
  pub found_fewest : {b : ℕ} {p : List ℕ} {r : ℕ} → Found S T bs b p r → Fewest S T bs b p r
  found_fewest {b} {p} {r} o =
      record {
        different = distinct S T b p o.slots (r, o.slot, o.free) (short b o.home);
        run = y.run;
        untouched = y.untouched;
        count = length_path_moves S T b p r;
        slot = into_slot S p o.slot o.slots;
        freed = y.freed;
        fewest = λ ms run c q f. dite (dec_le (length p) (length ms)) (λ l. l)
            λ l. absurd (short c q (length ms) (omega arith) (run_reach S ms run f));
      }
    where
      short : (c : ℕ) → Mem c bs → Short S T c p
      short c q j l x = let y = reach_level S T bs q x in o.first y.0 y.1 (omega arith) y.3 y.4

      y : Done S T n size closed r o.slot b p (moved_by T (path_moves S T b p r))
      y = path_done S T n size closed r o.slot b p (home_in b o.home) o.slots o.free (short b o.home)
