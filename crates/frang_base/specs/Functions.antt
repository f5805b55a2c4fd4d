-- Functions that are changed at one place, and lists with an element or without it.
use Rattle.std.specs.Prelude.{ℕ, Bool, true, false, List, [], ◌∷◌, nat_eq, if◌then◌else◌}
use Rattle.frang_base.specs.declared.lock.LockId.{LockId}
use Rattle.frang_base.specs.Locks.{same_lock}

-- f with another value at k
abbrev pub put : {X : Type 0} → (ℕ → X) → ℕ → X → ℕ → X
put f k v i = if nat_eq i k then v else f i

-- f with another value at the pair of a and s
abbrev pub put2 : {X : Type 0} → (ℕ → ℕ → X) → ℕ → ℕ → X → ℕ → ℕ → X
put2 f a s v b t = if nat_eq b a then (if nat_eq t s then v else f b t) else f b t

-- f with another value at the pair of a and the lock l
abbrev pub put_lock : {X : Type 0} → (ℕ → LockId → X) → ℕ → LockId → X → ℕ → LockId → X
put_lock f a l v b k = if nat_eq b a then (if same_lock k l then v else f b k) else f b k

-- the element in front, if the test says so
abbrev pub keep_if : {X : Type 0} → Bool → X → List X → List X
keep_if true x xs = x ∷ xs
keep_if false x xs = xs

-- the number is in the list
abbrev pub member : ℕ → List ℕ → Bool
member s [] = false
member s (x ∷ xs) = if nat_eq x s then true else member s xs
