-- Tests of locks.
use Rattle.std.specs.Prelude.{ℕ, Bool, true, false, List, [], ◌∷◌, nat_eq, if◌then◌else◌}
use Rattle.frang_base.specs.declared.lock.LockId.{LockId}
use Rattle.frang_base.specs.declared.lock.LockId.TheVariants.{Log, Segment, Node}

-- the locks are one
abbrev pub same_lock : LockId → LockId → Bool
same_lock (Log a) (Log b) = nat_eq a b
same_lock (Log a) (Segment b) = false
same_lock (Log a) (Node b) = false
same_lock (Segment a) (Log b) = false
same_lock (Segment a) (Segment b) = nat_eq a b
same_lock (Segment a) (Node b) = false
same_lock (Node a) (Log b) = false
same_lock (Node a) (Segment b) = false
same_lock (Node a) (Node b) = nat_eq a b

-- the lock is in the list
abbrev pub has_lock : LockId → List LockId → Bool
has_lock l [] = false
has_lock l (x ∷ xs) = if same_lock x l then true else has_lock l xs
