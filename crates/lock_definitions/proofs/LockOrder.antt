-- Locks are in a total order, in which only the same lock is equal.
use Rattle.std.proofs.Common.{◌≡◌, true, ap, rules, arith}
use Rattle.std.specs.Cmp.{IsTotalOrder, IsEquivalence, eq_by_cmp_equiv}
use Rattle.std.specs.Cmp.Rules.{comparing}
use Rattle.std.specs.Ordering.{eq_by_cmp}
use Rattle.std.specs.declared.cmp.Ordering.TheVariants.{Equal}
use Rattle.std.proofs.lemmas.Bool.Decides.{nat_tests}
use Rattle.frang_base.proofs.Tests.{cmp_itself}
use Rattle.frang_base.specs.declared.lock.LockId.{LockId}
use Rattle.frang_base.specs.declared.lock.LockId.TheVariants.{Log, Segment, Node}
use Rattle.sorted_entries.specs.Places.{IsKeyOrder}
use Rattle.lock_definitions.specs.Order.{lock_cmp, is_lock}

pub lock_total : IsTotalOrder lock_cmp
lock_total = search (comparing, rules)

-- a lock found is the lock that was looked for
pub found_lock : (a b : LockId) → is_lock a b ≡ true → b ≡ a
found_lock (Log a) (Log b) e = ap Log (grind (arith, nat_tests))
found_lock (Log a) (Segment b) e = cc
found_lock (Log a) (Node b) e = cc
found_lock (Segment a) (Log b) e = cc
found_lock (Segment a) (Segment b) e = ap Segment (grind (arith, nat_tests))
found_lock (Segment a) (Node b) e = cc
found_lock (Node a) (Log b) e = cc
found_lock (Node a) (Segment b) e = cc
found_lock (Node a) (Node b) e = ap Node (grind (arith, nat_tests))

pub is_lock_equiv : IsEquivalence (eq_by_cmp lock_cmp)
is_lock_equiv = eq_by_cmp_equiv lock_total

pub lock_itself : (a : LockId) → lock_cmp a a ≡ Equal
lock_itself (Log a) = cmp_itself a
lock_itself (Segment a) = cmp_itself a
lock_itself (Node a) = cmp_itself a

-- locks are keys
pub locks : IsKeyOrder lock_cmp
locks = record { total = lock_total; exact = found_lock }
