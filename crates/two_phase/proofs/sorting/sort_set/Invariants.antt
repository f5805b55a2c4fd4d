-- The first locks are a set, which the others join.
use Rattle.std.proofs.Common.{◌≡◌, ◌-◌, ◌≤◌, [], length, take, drop}
use Rattle.std.specs.List.Sorted.{IsStrictlySortedBy}
use Rattle.std.specs.Map.{keys_of}
use Rattle.lock_definitions.specs.Order.{lock_cmp}
use Rattle.set_definitions.specs.Sets.{joined_all}
use Rattle.two_phase.proofs.sorting.sort_set.Given as goal

abbrev pub invariant-loop-count : goal.invariant-loop-count
invariant-loop-count l = record {
  inside : l.count ≤ length l.set.items;
  ordered : IsStrictlySortedBy lock_cmp (keys_of (take l.count l.set.items));
  all : joined_all (take l.count l.set.items) (drop l.count l.set.items) ≡ joined_all [] l.initial.set.items;
}

abbrev pub decreases-loop-count : goal.decreases-loop-count
decreases-loop-count l = length l.set.items - l.count
