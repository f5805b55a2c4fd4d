-- No locks ascend.
use Rattle.std.proofs.Common.{sym, subst}
use Rattle.std.specs.List.Sorted.{IsStrictlySortedBy}
use Rattle.std.specs.Map.{keys_of}
use Rattle.lock_definitions.specs.Order.{lock_cmp}
use Rattle.lock_sets.proofs.Along.{none_sorted}
use Rattle.lock_sets.proofs.set.LockSet.new.Goals as goal

pub invariant_of-result : goal.invariant_of-result
invariant_of-result c = subst (λ z. IsStrictlySortedBy lock_cmp (keys_of z)) (sym c.new.ensures.items) none_sorted
