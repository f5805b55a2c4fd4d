-- The slice is the set's locks, which ascend.
use Rattle.std.proofs.Common.{sym, subst}
use Rattle.std.specs.List.Sorted.{IsStrictlySortedBy}
use Rattle.std.specs.Map.{keys_of}
use Rattle.lock_definitions.specs.Order.{lock_cmp}
use Rattle.lock_sets.proofs.set.LockSet.place.Goals as goal

pub place_of-requires : goal.place_of-requires
place_of-requires c = subst (λ z. IsStrictlySortedBy lock_cmp (keys_of z)) (sym c.deref.ensures.value) c.self.invariant
