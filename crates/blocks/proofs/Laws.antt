-- Laws of stores under a budget: none, one, and runs one after the other. Assumes nothing.
use Rattle.std.proofs.Common.{◌≡◌, ℕ, zero, suc, ◌+◌, ◌-◌, ◌*◌, ◌%◌, ◌^◌, ◌≢◌, List, [], ◌∷◌, ◌++◌, length, get_or, take, set, refl, ◌∙◌, arith, length-append}
use native.Mathlib.Nat.{sub-zero, suc-sub-suc, zero-sub}
use Rattle.model.specs.Memory.{Mem, mem}
use Rattle.model.specs.Stores.{Store, apply, apply_all, bump, enter, item_to, move, remove, slot_to, stores_of, update}
use Rattle.blocks.specs.Made.{Made, Put, put}

pub made_nil : {l : ℕ} {m : Mem} → Made [] l m m l
made_nil {l} {m} = record { after = go l; rest = omega arith }
  where
    go : (l : ℕ) → m ≡ apply_all (take l []) m
    go zero = refl
    go (suc l) = refl

-- runs one after the other
split : (xs ys : List Store) (l : ℕ) (m : Mem)
    → apply_all (take l (xs ++ ys)) m ≡ apply_all (take (l - length xs) ys) (apply_all (take l xs) m)
split [] ys zero m = refl
split [] ys (suc l) m = rw sub-zero
split (x ∷ xs) ys zero m = rw zero-sub
split (x ∷ xs) ys (suc l) m = rw suc-sub-suc (split xs ys l (apply x m))

pub made_append : {xs ys : List Store} {l l₁ l₂ : ℕ} {m m₁ m₂ : Mem} → Made xs l m m₁ l₁ → Made ys l₁ m₁ m₂ l₂ → Made (xs ++ ys) l m m₂ l₂
made_append {xs} {ys} {l} {l₁} {l₂} {m} {m₁} {m₂} p q =
    record { after = rw (split xs ys l m, ← p.rest, ← p.after) q.after; rest = simp length-append (omega (arith, p.rest, q.rest)) }

-- one store and then a run
made_cons : {x y : Store} {ys : List Store} {l l₁ l₂ : ℕ} {m m₁ m₂ : Mem}
    → Made (x ∷ []) l m m₁ l₁ → Made (y ∷ ys) l₁ m₁ m₂ l₂ → Made (x ∷ y ∷ ys) l m m₂ l₂
made_cons p q = made_append p q

-- one store to one run
pub put_none : {A : Type 0} {i : ℕ} {v : A} {l : ℕ} {s : List A} → l ≡ 0 → Put i v l s s 0
unfolding put
put_none e = record { after = rw e; rest = rw e (omega arith) }

one : {A : Type 0} (i : ℕ) (v : A) (l : ℕ) (s : List A) → l ≢ 0 → set s i v ≡ put l s i v
unfolding put
one i v zero s h = absurd (h refl)
one i v (suc l) s h = refl

pub put_one : {A : Type 0} {i : ℕ} {v : A} {l : ℕ} {s s' : List A} → l ≢ 0 → s' ≡ set s i v → Put i v l s s' (l - 1)
put_one {i} {v} {l} {s} h e = record { after = e ∙ one i v l s h; rest = refl }

-- and what it does to the memory
slot_made : (i y l : ℕ) (s k t : List ℕ) → mem (put l s i y) k t ≡ apply_all (take l (slot_to i y ∷ [])) (mem s k t)
unfolding put
slot_made i y zero s k t = refl
slot_made i y (suc zero) s k t = refl
slot_made i y (suc (suc l)) s k t = refl

bump_made : (c l : ℕ) (s k t : List ℕ) → mem s (put l k c ((get_or k c 0 + 1) % 2 ^ 32)) t ≡ apply_all (take l (bump c ∷ [])) (mem s k t)
unfolding put
bump_made c zero s k t = refl
bump_made c (suc zero) s k t = refl
bump_made c (suc (suc l)) s k t = refl

item_made : (i v l : ℕ) (s k t : List ℕ) → mem s k (put l t i v) ≡ apply_all (take l (item_to i v ∷ [])) (mem s k t)
unfolding put
item_made i v zero s k t = refl
item_made i v (suc zero) s k t = refl
item_made i v (suc (suc l)) s k t = refl

lift_slot : {i y l l' : ℕ} {s s' k t : List ℕ} → Put i y l s s' l' → Made (slot_to i y ∷ []) l (mem s k t) (mem s' k t) l'
lift_slot {i} {y} {l} {l'} {s} {s'} {k} {t} p = record { after = rw p.after (slot_made i y l s k t); rest = p.rest }

lift_bump : {c l l' : ℕ} {s k k' t : List ℕ} → Put c ((get_or k c 0 + 1) % 2 ^ 32) l k k' l' → Made (bump c ∷ []) l (mem s k t) (mem s k' t) l'
lift_bump {c} {l} {l'} {s} {k} {k'} {t} p = record { after = rw p.after (bump_made c l s k t); rest = p.rest }

pub lift_item : {i v l l' : ℕ} {s k t t' : List ℕ} → Put i v l t t' l' → Made (item_to i v ∷ []) l (mem s k t) (mem s k t') l'
lift_item {i} {v} {l} {l'} {s} {k} {t} {t'} p = record { after = rw p.after (item_made i v l s k t); rest = p.rest }

-- the blocks, each premise as a callee ensures it
pub by_move : {c f t y l l₁ l₂ l₃ l₄ : ℕ} {s s₁ s₂ k k₁ k₂ is : List ℕ}
    → Put c ((get_or k c 0 + 1) % 2 ^ 32) l k k₁ l₁ → Put t y l₁ s s₁ l₂ → Put f 0 l₂ s₁ s₂ l₃ → Put c ((get_or k₁ c 0 + 1) % 2 ^ 32) l₃ k₁ k₂ l₄
    → Made (stores_of (move c f t y)) l (mem s k is) (mem s₂ k₂ is) l₄
by_move p q r u = made_cons (lift_bump p) (made_cons (lift_slot q) (made_cons (lift_slot r) (lift_bump u)))

pub by_enter : (p : ℕ) {c i y x v w l l₁ l₂ l₃ l₄ l₅ l₆ l₇ : ℕ} {s s₁ k k₁ k₂ t t₁ t₂ t₃ t₄ : List ℕ}
    → Put c ((get_or k c 0 + 1) % 2 ^ 32) l k k₁ l₁ → Put (4 * p) x l₁ t t₁ l₂ → Put (4 * p + 1) v l₂ t₁ t₂ l₃ → Put (4 * p + 2) w l₃ t₂ t₃ l₄
    → Put (4 * p + 3) 1 l₄ t₃ t₄ l₅ → Put i y l₅ s s₁ l₆ → Put c ((get_or k₁ c 0 + 1) % 2 ^ 32) l₆ k₁ k₂ l₇
    → Made (stores_of (enter c p i y x v w)) l (mem s k t) (mem s₁ k₂ t₄) l₇
by_enter p a b c d e f g =
    made_cons (lift_bump a) (made_cons (lift_item b) (made_cons (lift_item c) (made_cons (lift_item d) (made_cons (lift_item e)
    (made_cons (lift_slot f) (lift_bump g))))))

pub by_update : (p : ℕ) {c v w l l₁ l₂ l₃ l₄ l₅ : ℕ} {s k k₁ k₂ t t₁ t₂ t₃ : List ℕ}
    → Put c ((get_or k c 0 + 1) % 2 ^ 32) l k k₁ l₁ → Put (4 * p + 1) v l₁ t t₁ l₂ → Put (4 * p + 2) w l₂ t₁ t₂ l₃ → Put (4 * p + 3) 1 l₃ t₂ t₃ l₄
    → Put c ((get_or k₁ c 0 + 1) % 2 ^ 32) l₄ k₁ k₂ l₅
    → Made (stores_of (update c p v w)) l (mem s k t) (mem s k₂ t₃) l₅
by_update p a b c d e = made_cons (lift_bump a) (made_cons (lift_item b) (made_cons (lift_item c) (made_cons (lift_item d) (lift_bump e))))

pub by_remove : (p : ℕ) {c i l l₁ l₂ l₃ l₄ l₅ l₆ l₇ : ℕ} {s s₁ k k₁ k₂ t t₁ t₂ t₃ t₄ : List ℕ}
    → Put c ((get_or k c 0 + 1) % 2 ^ 32) l k k₁ l₁ → Put i 0 l₁ s s₁ l₂ → Put (4 * p) 0 l₂ t t₁ l₃ → Put (4 * p + 1) 0 l₃ t₁ t₂ l₄
    → Put (4 * p + 2) 0 l₄ t₂ t₃ l₅ → Put (4 * p + 3) 0 l₅ t₃ t₄ l₆ → Put c ((get_or k₁ c 0 + 1) % 2 ^ 32) l₆ k₁ k₂ l₇
    → Made (stores_of (remove c i p)) l (mem s k t) (mem s₁ k₂ t₄) l₇
by_remove p a b c d e f g =
    made_cons (lift_bump a) (made_cons (lift_slot b) (made_cons (lift_item c) (made_cons (lift_item d) (made_cons (lift_item e)
    (made_cons (lift_item f) (lift_bump g))))))
