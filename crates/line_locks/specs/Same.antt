-- Lists of locks that are as good as each other.
use Rattle.std.specs.Prelude.{◌≡◌, List, []}
use Rattle.std.specs.List.{AllByRecursion, list_any}
use Rattle.std.specs.List.Sorted.{IsStrictlySortedBy}
use Rattle.std.specs.Map.{keys_of}
use Rattle.frang_base.specs.declared.lock.LockId.{LockId}
use Rattle.frang_base.specs.declared.lock.Mode.{Mode}
use Rattle.frang_base.specs.declared.lock.Mode.TheVariants.{Shared, Sole}
use Rattle.lock_definitions.specs.Order.{lock_cmp}
use Rattle.disk_definitions.specs.Plans.{Lock}
use Rattle.plan_laws.specs.Locks.{IsSole}
use Rattle.plan_laws.specs.Covers.{IsHeld}
use Rattle.set_definitions.specs.Sets.{LockSet, joined_all, lacks}

-- these locks have the lock in this mode, or sole
abbrev pub HaveMode : List Lock → LockId → Mode → Type 0
HaveMode locks lock Shared = IsHeld locks lock
HaveMode locks lock Sole = IsSole locks lock

abbrev pub Have : List Lock → Lock → Type 0
Have locks need = HaveMode locks need.0 need.1

-- each of the first is among the second, in its mode or sole
abbrev pub AreWithin : List Lock → List Lock → Type 0
AreWithin locks others = AllByRecursion (Have others) locks

pub record AreAlike (locks others : List Lock) : Type 0 where
  pub there : AreWithin locks others
  pub back : AreWithin others locks

-- so a set that is in order grows alike by both
abbrev pub AlikeLocksJoinAlike : Type 0
AlikeLocksJoinAlike =
    (locks others : List Lock) (set : LockSet) → AreAlike locks others → IsStrictlySortedBy lock_cmp (keys_of set) → joined_all set locks ≡ joined_all set others

-- and lacks one of the first where it lacks one of the second
abbrev pub AlikeLocksLackAlike : Type 0
AlikeLocksLackAlike = (locks others : List Lock) (set : LockSet) → AreAlike locks others → list_any (lacks set) locks ≡ list_any (lacks set) others

-- the set of some locks is as good as they are
abbrev pub SetsAreAlike : Type 0
SetsAreAlike = (locks : List Lock) → AreAlike (joined_all [] locks) locks
