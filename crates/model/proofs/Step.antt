-- One call on a well-formed table: its blocks have their conditions, its answer and its item words are the row's. Read, serve, find,
-- delete and the list. Assumes nothing.
use Prim.Native.Nat.{ℕ, ◌*◌}
use mathlib.Core.Path.{◌≡◌, refl, sym, ap, ◌∙◌, subst, ap₂}
use mathlib.Core.Logic.{◌≢◌}
use mathlib.Core.Bool.{Bool, true, false}
use Rattle.std.specs.Prelude.{Option, Some, None}
use mathlib.Core.List.{List, [], ◌∷◌}
use lib.Dec.{eqb, ltb}
use borrow.Author.Tests.{eqb-true, eqb-false}
use Rattle.model.specs.Choice.{choose, range}
use Rattle.model.specs.Memory.{Mem, animal, permission, place, stamp, tag, word}
use Rattle.model.specs.Shape.{Shape, counter_of, homes}
use Rattle.model.specs.Stores.{recency, remove, wholes}
use Rattle.model.specs.Answers.{Answer, absent, at_place, listed, refused}
use Rattle.model.specs.Age.{is_fresh, judge, verdict}
use Rattle.model.specs.Listing.{listing, live_count, records}
use Rattle.model.specs.Calls.{Outcome, asked, delete_at, find_at, held, hits, place_at, serve_at, tell}
use Rattle.model.specs.Row.{Row, note, plain, row_asked, row_call, row_count, row_delete, row_find, row_list, row_read, beyond, row_serve, stay, walk_to}
use Rattle.model.specs.WellFormed.{WellFormed}
use Rattle.model.proofs.Verdict.{of_verdict}
use Rattle.model.proofs.ShapeLaws.{Lawful, tagged_word}
use Rattle.model.proofs.ListLaws.{First, bool, both_is, found, missing, walk_is}
use Rattle.model.proofs.Calm.{calm, quick}
use Rattle.model.proofs.KeepBlocks.{Fits}
use Rattle.model.proofs.ReadWalk.{held_walk, hit_number}
use Rattle.model.proofs.Cut.{Tale, done, last, quiet}
use Rattle.model.proofs.RowWords.{count_is, fresh_is, records_are, says_is}
use Rattle.model.specs.Calling.{write_list}

-- the outcome o of a call about animal `who`, and the row's outcome r, where the row is told whether the table had no room
pub record Step (Y : Shape) (who : Answer → ℕ) (m : Mem) (o : Outcome) (r : ℕ → Row) : Type 0 where
  pub tale : Tale Y (who o.answer) m o.blocks
  pub answer : plain o.answer ≡ (r (beyond o.answer)).answer
  pub items : (wholes o.blocks m).items ≡ (r (beyond o.answer)).words

-- the search counts play no part in what a read says
plain_verdict : (limit now v s : ℕ) → plain (verdict limit now v s) ≡ verdict limit now v s
plain_verdict limit now v s = of_verdict limit now v s (λ a. plain a ≡ a) (λ z. refl) (λ z. refl) refl

module _ (Y : Shape) (who : Answer → ℕ) (m : Mem) where
  abbrev l : List ℕ
  l = m.items

  -- an answer with no stores
  pub still : (a b : Answer) → plain a ≡ b → Step Y who m (tell a) (λ f. stay l b)
  still a b e = record { tale = done; answer = e; items = refl }

  pub both : (b : Bool) {o o' : Outcome} {r r' : ℕ → Row} → (b ≡ true → Step Y who m o r) → (b ≡ false → Step Y who m o' r')
      → Step Y who m (choose b o o') (λ f. choose b (r f) (r' f))
  both true t f = t refl
  both false t f = f refl

  -- the turns 2, 3, 8 and 4
  pub step_asked : WellFormed Y m → (x : ℕ) (bad bad' : Bool) → bad ≡ bad' → (o : Outcome) (r : ℕ → Row) → (x ≢ 0 → Step Y who m o r)
      → Step Y who m (asked Y m x bad o) (λ f. row_asked Y.places l x bad' (r f))
  step_asked g x bad bad' e o r h =
      subst (λ o. Step Y who m o (λ f. row_asked Y.places l x bad' (r f)))
      (sym (calm Y m x (g.even (counter_of Y x)) g.undamaged bad o ∙ ap (λ b. quick x b o) e))
      (both (eqb x 0) (λ z. still (refused 2) (refused 2) refl)
      λ z. both bad' (λ z. still (refused 3) (refused 3) refl) λ z'. h (eqb-false x 0 z))

module _ (Y : Shape) (L : Lawful Y) (m : Mem) (g : WellFormed Y m) where
  -- o is what a walk over the places to animal x finds
  abbrev pub Held : ℕ → Option ℕ → Type 0
  Held x o = First (λ p. eqb (animal m.items p) x) (range 0 Y.places) o

  abbrev pub walked : ℕ → Option ℕ
  walked x = walk_to m.items x Y.places 0

  -- put what the walk finds in for what the table finds
  pub as_walked : (who : Answer → ℕ) (x : ℕ) → x ≢ 0 → (o : Option ℕ → Outcome) (r : Option ℕ → ℕ → Row)
      → ((p : Option ℕ) → Held x p → Step Y who m (o p) (r p)) → Step Y who m (o (held Y m x)) (r (walked x))
  as_walked who x nz o r h =
      subst (λ p. Step Y who m (o p) (r (walked x))) (sym (held_walk Y m g x nz))
      (h (walked x) (walk_is m.items x Y.places 0))

  judged : (limit now : ℕ) (o : Option ℕ) → plain (judge m.items limit now o) ≡ row_read Y.places m.items limit now o
  judged limit now None = refl
  judged limit now (Some p) =
      plain_verdict limit now (permission m.items p) (stamp m.items p)
      ∙ says_is limit now (permission m.items p) (stamp m.items p) (g.narrow p)

  pub step_read : (x limit now : ℕ) (o : Option ℕ)
      → Step Y (λ a. x) m (tell (judge m.items limit now o)) (λ f. stay m.items (row_read Y.places m.items limit now o))
  step_read x limit now o =
      still Y (λ a. x) m (judge m.items limit now o) (row_read Y.places m.items limit now o) (judged limit now o)

  pub step_serve : (x limit now : ℕ) → x ≢ 0 → {o : Option ℕ} → Held x o
      → Step Y (λ a. x) m (serve_at Y m limit now o) (λ f. row_serve Y.places m.items limit now o)
  step_serve x limit now nz (missing h) = still Y (λ a. x) m absent absent refl
  step_serve x limit now nz (found {i = p} q t) =
      record {
        tale = bool (λ b. Tale Y x m (choose b (recency p 1 ∷ []) [])) fresh?
            (λ e. quiet (rw (eqb-true (animal m.items p) x t) nz) tt done) λ e. done;
        answer = judged limit now (Some p);
        items = bool (λ b. (wholes (choose b (recency p 1 ∷ []) []) m).items ≡ choose b (note m.items p 1) m.items) fresh?
            (λ e. refl) (λ e. refl)
            ∙ ap (λ b. choose b (note m.items p 1) m.items)
            (fresh_is limit now (permission m.items p) (stamp m.items p) (g.narrow p));
      }
    where
      fresh? : Bool
      fresh? = is_fresh limit now (stamp m.items p)

  pub step_find : (x : ℕ) (o : Option ℕ) → Step Y (λ a. x) m (tell (find_at o)) (λ f. stay m.items (row_find Y.places o))
  step_find x None = still Y (λ a. x) m absent absent refl
  step_find x (Some p) = still Y (λ a. x) m (at_place p) (at_place p) refl

  hit_tag : (x i : ℕ) → hits Y m x i ≡ true → tag (word m i) ≡ Y.tag_of x
  unfolding hits
  hit_tag x i t = (both_is (tag (word m i)) (Y.tag_of x) (animal m.items (place (word m i))) x t).0

  pub step_delete : (x : ℕ) → x ≢ 0 → {o : Option ℕ} → First (hits Y m x) (homes Y x) o
      → Step Y (λ a. x) m (delete_at Y m x o) (λ f. row_delete Y.places m.items (place_at m o))
  step_delete x nz (missing h) = still Y (λ a. x) m (refused 7) (refused 7) refl
  step_delete x nz (found {i = i} q t) =
      let e = hit_number Y m g x nz i t in
      let w : tag (word m i) ≡ Y.tag_of x = hit_tag x i t in
      let f : Fits Y m (remove (counter_of Y x) i (place (word m i)))
      = ((tagged_word L (word m i) x w, refl), ap (counter_of Y) (sym e)) in
      record { tale = last f e; answer = refl; items = refl }

  pub step_list : (size : ℕ)
      → Step Y (λ a. 0) m (tell (listing m.items Y.places size)) (λ f. row_call Y.places f m.items (write_list size))
  unfolding listing
  step_list size =
      still Y (λ a. 0) m (choose (ltb size (20 * n)) (refused 9) (listed n bs)) (choose (ltb size (20 * n')) (refused 9) (listed n' bs'))
      (go (ltb size (20 * n)) ∙ ap₂ (λ (n : ℕ) (bs : List ℕ). choose (ltb size (20 * n)) (refused 9) (listed n bs))
      (count_is m.items Y.places 0) (records_are m.items g.narrow Y.places 0))
    where
      n : ℕ
      n = live_count m.items (range 0 Y.places)

      bs : List ℕ
      bs = records m.items (range 0 Y.places)

      n' : ℕ
      n' = row_count m.items Y.places 0

      bs' : List ℕ
      bs' = row_list m.items Y.places 0

      go : (b : Bool) → plain (choose b (refused 9) (listed n bs)) ≡ choose b (refused 9) (listed n bs)
      go true = refl
      go false = refl
