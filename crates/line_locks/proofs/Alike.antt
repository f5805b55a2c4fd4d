-- Locks that are within others, put together from their parts.
use Rattle.std.proofs.Common.{ℕ, inl, inr, List, [], ◌∷◌, ◌++◌}
use Rattle.std.proofs.lemmas.List.Elements.{Contains-append_left, Contains-append_right}
use Rattle.std.specs.List.{AllByRecursion, Contains}
use Rattle.frang_base.specs.declared.lock.LockId.{LockId}
use Rattle.frang_base.specs.declared.lock.LockId.TheVariants as lock
use Rattle.frang_base.specs.declared.lock.Mode.{Mode}
use Rattle.frang_base.specs.declared.lock.Mode.TheVariants.{Shared, Sole}
use Rattle.frang_base.proofs.Lists.{all_map, all_append}
use Rattle.disk_definitions.specs.Plans.{Lock, shared_nodes, sole_nodes, sole_segments}
use Rattle.plan_laws.proofs.Covering.{all_from}
use Rattle.plan_laws.specs.Locks.{IsSole}
use Rattle.plan_laws.specs.Covers.{IsHeld}
use Rattle.line_locks.specs.Same.{Have, HaveMode, AreWithin}

-- ---- locks

-- a lock that is there in its mode
pub have_it : (locks : List Lock) (need : Lock) → Contains locks need → Have locks need
have_it locks need c = go need.1 c
  where
    go : (mode : Mode) → Contains locks (need.0, mode) → HaveMode locks need.0 mode
    go Shared c = (Shared, c)
    go Sole c = c

-- more locks have it too
pub have_more : (locks more : List Lock) → ((need : Lock) → Contains locks need → Contains more need) → (need : Lock) → Have locks need → Have more need
have_more locks more f need h = go need.1 h
  where
    go : (mode : Mode) → HaveMode locks need.0 mode → HaveMode more need.0 mode
    go Shared h = (h.0, f (need.0, h.0) h.1)
    go Sole h = f (need.0, Sole) h

pub within_more : (locks others more : List Lock) → ((need : Lock) → Contains others need → Contains more need) → AreWithin locks others → AreWithin locks more
within_more [] others more f w = tt
within_more (need ∷ locks) others more f w = (have_more others more f need w.0, within_more locks others more f w.1)

pub within_itself : (locks more : List Lock) → ((need : Lock) → Contains locks need → Contains more need) → AreWithin locks more
within_itself locks more f = all_from (Have more) locks (λ need c. have_it more need (f need c))

pub within_join : (a b others : List Lock) → AreWithin a others → AreWithin b others → AreWithin (a ++ b) others
within_join a b others v w = all_append (Have others) a b v w

pub within_shared : (inodes : List ℕ) (others : List Lock) → ((i : ℕ) → Contains inodes i → IsHeld others (lock.Node i)) → AreWithin (shared_nodes inodes) others
within_shared inodes others f = all_map (Have others) (λ i. (lock.Node i, Shared)) inodes (all_from (λ i. IsHeld others (lock.Node i)) inodes f)

pub within_nodes : (inodes : List ℕ) (others : List Lock) → AllByRecursion (λ i. IsSole others (lock.Node i)) inodes → AreWithin (sole_nodes inodes) others
within_nodes inodes others a = all_map (Have others) (λ i. (lock.Node i, Sole)) inodes a

pub within_segments : (segments : List ℕ) (others : List Lock) → AllByRecursion (λ k. IsSole others (lock.Segment k)) segments → AreWithin (sole_segments segments) others
within_segments segments others a = all_map (Have others) (λ k. (lock.Segment k, Sole)) segments a

-- ---- a lock in front or behind

pub sole_left : (a b : List Lock) (l : LockId) → IsSole a l → IsSole (a ++ b) l
sole_left a b l c = Contains-append_left a b (l, Sole) c

pub sole_right : (a b : List Lock) (l : LockId) → IsSole b l → IsSole (a ++ b) l
sole_right a b l c = Contains-append_right a b (l, Sole) c

pub held_left : (a b : List Lock) (l : LockId) → IsHeld a l → IsHeld (a ++ b) l
held_left a b l h = (h.0, Contains-append_left a b (l, h.0) h.1)

pub held_right : (a b : List Lock) (l : LockId) → IsHeld b l → IsHeld (a ++ b) l
held_right a b l h = (h.0, Contains-append_right a b (l, h.0) h.1)
