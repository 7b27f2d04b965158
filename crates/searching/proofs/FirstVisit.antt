-- The first home bucket: the search stops there, at damage or at room, and no queue is made. Assumes nothing.
use Prim.Native.Nat.{ℕ, ◌+◌, ◌*◌, ◌<◌}
use native.Mathlib.Omega.{arith}
use mathlib.Core.Path.{◌≡◌}
use Rattle.std.specs.Prelude.{Option, Some, Result, Ok, Err}
use mathlib.Core.List.{List, []}
use lib.ListN.{length}
use Rattle.model.specs.Shape.{Layout, four}
use Rattle.model.specs.Visits.{climb}
use Rattle.model.specs.declared.Refusal.{Refusal}
use Rattle.model.specs.declared.Refusal.TheVariants.{Damaged}
use Rattle.paths.specs.declared.Found.{Found}
use Rattle.paths.specs.Buckets.{bucket_words, layout_of, sound_free}
use Rattle.paths.specs.Path.{room_at}
use Rattle.paths.proofs.Visits.{first_visit, visits_long, visits_of}
use Rattle.paths.proofs.Words.{Judged, bad, crowded, judged, room}
use Rattle.searching.specs.Search.{FoundIs}
use Rattle.searching.proofs.Stops.{behind_none, stops_damaged, stops_with_room}

-- the words w of the first home bucket, and what was found among them
module _ (n m : ℕ) (T : List ℕ) (b c : ℕ) {w : List ℕ} (words : w ≡ bucket_words 4 T b) {r : Result (Option ℕ) Refusal} (said : r ≡ sound_free m w) where
  abbrev S : Layout
  S = layout_of four n

  here : Judged S T b m r
  here = rw said (judged S T b m words)

  in_list : 0 < length (visits_of four n T b c)
  in_list = omega (arith, visits_long four n T b c)

  pub home_damaged : {e : Refusal} → r ≡ Err e → FoundIs four n m T b c (Err e)
  home_damaged {e} t = go here t
    where
      go : {r : Result (Option ℕ) Refusal} → Judged S T b m r → r ≡ Err e → FoundIs four n m T b c (Err e)
      go (bad d) t = let z : Damaged ≡ e = cc in rw (← z) (stops_damaged (behind_none four n m T b c) in_list (rw (first_visit four n T b c) d))
      go (room d h z) t = cc
      go (crowded d f) t = cc

  pub home_room : {s : ℕ} {f : Found} → r ≡ Ok (Some s) → f ≡ room_at [] 0 (b * 4 + s) [] → FoundIs four n m T b c (Ok f)
  unfolding climb
  home_room {s} {f} t e = go here t
    where
      go : {r : Result (Option ℕ) Refusal} → Judged S T b m r → r ≡ Ok (Some s) → FoundIs four n m T b c (Ok f)
      go (bad d) t = cc
      go (room {s = k} d h z) t =
          let same : k ≡ s = cc in
          let first = first_visit four n T b c in
          rw e (rw first at (stops_with_room (behind_none four n m T b c) in_list {s = s} (rw first d) (rw (← same) h) (rw first (rw (← same) z))))
      go (crowded d f) t = cc
