use Rattle.std.proofs.Common.{◌≡◌, is_some, drop}
use Rattle.std.specs.Map.{lookup}
use Rattle.lock_definitions.specs.Order.{is_lock}
use Rattle.lock_table.proofs.looks.has_lock.Given as goal

-- the lock is among those that are left, if it is among all
abbrev pub invariant-loop-known : goal.invariant-loop-known
invariant-loop-known l = is_some (lookup (is_lock l.lock) (drop l.known-index l.set)) ≡ is_some (lookup (is_lock l.lock) l.set)
