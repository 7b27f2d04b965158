-- The list, the plain engine's line and the judge's. Assumes nothing.
use Prim.Native.Nat.{ℕ, ◌+◌, ◌*◌, ◌≤◌, min}
use native.Mathlib.Omega.{arith}
use mathlib.Core.Path.{◌≡◌, refl, sym}
use mathlib.Core.List.{List}
use lib.ListN.{length, get_or, take}
use lib.Seq.{length-take-le}
use Rattle.model.specs.Memory.{Mem}
use Rattle.model.specs.Shape.{four}
use Rattle.model.specs.Calling.{write_list}
use Rattle.model.specs.Lent.{lent_call}
use Rattle.plain.specs.Plain.{plain_read}
use Rattle.buffer.specs.Put.{Put}
use Rattle.replay_answers.specs.Text.{text}
use Rattle.replay_rows.specs.World.{Replied, world, longest}
use Rattle.replay_rows.specs.Meaning.{Arm, lists, meaning}

-- the row of the plain engine: where its line stands in the buffer, the row is answered, and the table and the hand are left as they were
pub as_plain : {m : Mem} {at : ℕ} {before after : List ℕ} {row : ℕ} (h n : ℕ) (xs : List ℕ) {next : ℕ} → row ≡ 15
    → Put (text (plain_read m.items (get_or xs 0 0) (get_or xs 1 0) (get_or xs 2 0))) at before after next → next ≤ at + 384
    → Arm row n xs m h m at before after next
unfolding meaning
as_plain h n xs e p l = rw e (record { put = p; near = omega arith; left = refl; hand = refl })

-- the list: the bytes lent for it are there, and its lines have room
pub list_bytes : (size : ℕ) {n : ℕ} (run : List ℕ) → length run ≡ 81920 → n ≡ min size 81920 → n ≡ length (take n run)
list_bytes size {n} run e h = let k : n ≤ length run = omega arith in sym (length-take-le n run k)

pub list_room : (at size : ℕ) {n : ℕ} (run out : List ℕ) → length run ≡ 81920 → n ≡ min size 81920 → at + longest ≤ length out
    → at + 384 + 3 * length (take n run) ≤ length out
list_room at size run out e h r = omega (arith, list_bytes size run e h)

pub list_told : {m : Mem} {at next n : ℕ} {before after : List ℕ} (h size : ℕ) (run : List ℕ) → length run ≡ 81920 → n ≡ min size 81920
    → Put (text (lent_call four m (write_list (length (take n run)))).answer) at before after next → next ≤ at + 384 + 3 * length (take n run)
    → Replied (lists size (world m h)) m at before after (record { next = next; hand = h })
unfolding lists
list_told h size run e s p l =
    record { put = rw (← s, list_bytes size run e s) p; near = omega (arith, list_bytes size run e s); left = refl; hand = refl }
