-- Tests of numbers and locks, and functions that are changed at one place.
use Rattle.std.proofs.Common.{ℕ, ◌<◌, ◌≤◌, ◌≡◌, ◌≢◌, ◌⊎◌, inl, inr, Bool, true, false, List, ◌∷◌, Option, Some, None, IsSome, nat_eq, refl, ap, subst, arith, cond}
use Rattle.std.proofs.lemmas.Bool.{eq-eqb, eqb-false, eqb-true}
use Rattle.frang_base.specs.declared.lock.LockId.{LockId}
use Rattle.frang_base.specs.declared.lock.LockId.TheVariants.{Log, Segment, Node}
use Rattle.frang_base.specs.Locks.{same_lock}
use Rattle.frang_base.specs.Functions.{keep_if, put, put2, put_lock}

pub by_test : {X : Type 0} (P : X → Type 0) (x y : X) (b : Bool) → (b ≡ true → P x) → (b ≡ false → P y) → P (cond b x y)
by_test P x y true onyes onno = onyes refl
by_test P x y false onyes onno = onno refl

pub le_or_lt : (a b : ℕ) → (a ≤ b) ⊎ (b < a)
le_or_lt a b = grind arith

pub true_or : (b : Bool) → (b ≡ true) ⊎ (b ≡ true → ⊥)
true_or true = inl refl
true_or false = inr (λ e. cc)

pub by_some : {X : Type 0} (P : Option X → Type 0) (o : Option X) → (o ≡ None → P None) → ((x : X) → o ≡ Some x → P (Some x)) → P o
by_some P None f g = f refl
by_some P (Some x) f g = g x refl

pub some_or : {X : Type 0} (o : Option X) → IsSome o ⊎ (IsSome o → ⊥)
some_or None = inr (λ e. cc)
some_or (Some x) = inl refl

-- locks
pub lock_of : (k l : LockId) → same_lock k l ≡ true → k ≡ l
lock_of (Log a) (Log b) e = ap Log (eqb-true a b e)
lock_of (Log a) (Segment b) e = cc
lock_of (Log a) (Node b) e = cc
lock_of (Segment a) (Log b) e = cc
lock_of (Segment a) (Segment b) e = ap Segment (eqb-true a b e)
lock_of (Segment a) (Node b) e = cc
lock_of (Node a) (Log b) e = cc
lock_of (Node a) (Segment b) e = cc
lock_of (Node a) (Node b) e = ap Node (eqb-true a b e)

pub lock_same : (l : LockId) → same_lock l l ≡ true
lock_same (Log a) = eq-eqb a a refl
lock_same (Segment a) = eq-eqb a a refl
lock_same (Node a) = eq-eqb a a refl

pub lock_not : (k l : LockId) → same_lock k l ≡ false → k ≢ l
lock_not k l e i = let q : same_lock k l ≡ true = subst (λ x. same_lock k x ≡ true) i (lock_same k) in cc

-- a fact of f with another value at k, by the two cases
pub at_put : {X : Type 0} (P : X → Type 0) (f : ℕ → X) (k : ℕ) (v : X) (i : ℕ) → (i ≡ k → P v) → (i ≢ k → P (f i)) → P (put f k v i)
at_put P f k v i same other = by_test P v (f i) (nat_eq i k) (λ e. same (eqb-true i k e)) (λ e. other (eqb-false i k e))

pub put_same : {X : Type 0} (f : ℕ → X) (k : ℕ) (v : X) → put f k v k ≡ v
put_same f k v = at_put (λ x. x ≡ v) f k v k (λ e. refl) (λ n. absurd (n refl))

pub put_other : {X : Type 0} (f : ℕ → X) (k : ℕ) (v : X) (i : ℕ) → i ≢ k → put f k v i ≡ f i
put_other f k v i n = at_put (λ x. x ≡ f i) f k v i (λ e. absurd (n e)) (λ m. refl)

-- a fact of f with another value at a pair
pub at_put2 : {X : Type 0} (P : X → Type 0) (f : ℕ → ℕ → X) (a s : ℕ) (v : X) (b t : ℕ) → (b ≡ a → t ≡ s → P v) → ((b ≡ a → t ≢ s) → P (f b t)) → P (put2 f a s v b t)
at_put2 {X} P f a s v b t same other =
    let inner : X = cond (nat_eq t s) v (f b t) in
    by_test P inner (f b t) (nat_eq b a)
    (λ e. by_test P v (f b t) (nat_eq t s) (λ g. same (eqb-true b a e) (eqb-true t s g)) (λ g. other (λ i. eqb-false t s g)))
    (λ e. other (λ i. absurd (eqb-false b a e i)))

pub at_lock : {X : Type 0} (P : X → Type 0) (f : ℕ → LockId → X) (a : ℕ) (l : LockId) (v : X) (b : ℕ) (k : LockId) → (b ≡ a → k ≡ l → P v) → ((b ≡ a → k ≢ l) → P (f b k)) → P (put_lock f a l v b k)
at_lock {X} P f a l v b k same other =
    let inner : X = cond (same_lock k l) v (f b k) in
    by_test P inner (f b k) (nat_eq b a)
    (λ e. by_test P v (f b k) (same_lock k l) (λ g. same (eqb-true b a e) (lock_of k l g)) (λ g. other (λ i. lock_not k l g)))
    (λ e. other (λ i. absurd (eqb-false b a e i)))

-- lists with an element or without it
pub by_keep : {X : Type 0} (P : List X → Type 0) (b : Bool) (x : X) (xs : List X) → (b ≡ true → P (x ∷ xs)) → (b ≡ false → P xs) → P (keep_if b x xs)
by_keep P true x xs onyes onno = onyes refl
by_keep P false x xs onyes onno = onno refl
