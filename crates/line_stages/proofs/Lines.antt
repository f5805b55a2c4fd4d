-- What is seen of a line under way holds of it.
use Rattle.std.proofs.Common.{◌≡◌, IfSome, Option, Some, subst}
use Rattle.std.specs.List.Sorted.{IsStrictlySortedBy}
use Rattle.std.specs.Map.{keys_of}
use Rattle.lock_definitions.specs.Order.{lock_cmp}
use Rattle.core_definitions.specs.Lines.{Under}

pub sorted_there : (o : Option Under) → IfSome o (λ u. IsStrictlySortedBy lock_cmp (keys_of u.set)) → (under : Under) → o ≡ Some under → IsStrictlySortedBy lock_cmp (keys_of under.set)
sorted_there o is under at = subst (λ o. IfSome o (λ u. IsStrictlySortedBy lock_cmp (keys_of u.set))) at is
