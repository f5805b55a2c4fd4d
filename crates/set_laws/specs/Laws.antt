-- A set of locks beside the locks of which it is made, as statements.
use Rattle.std.specs.Prelude.{◌≡◌, List, []}
use Rattle.std.specs.List.{list_any}
use Rattle.std.specs.List.Sorted.{IsStrictlySortedBy}
use Rattle.std.specs.Map.{keys_of}
use Rattle.lock_definitions.specs.Order.{lock_cmp}
use Rattle.disk_definitions.specs.Plans.{Lock}
use Rattle.set_definitions.specs.Sets.{LockSet, joined_all, lacks}

-- locks that are made a set first join a set in order as they do one by one
abbrev pub ASetJoinsAsItsLocksDo : Type 0
ASetJoinsAsItsLocksDo = (set : LockSet) (needs : List Lock) → IsStrictlySortedBy lock_cmp (keys_of set) → joined_all set (joined_all [] needs) ≡ joined_all set needs

-- a set lacks one of some locks exactly where it lacks one of the set that they make
abbrev pub ASetIsLackedAsItsLocksAre : Type 0
ASetIsLackedAsItsLocksAre = (set : LockSet) (needs : List Lock) → list_any (lacks set) (joined_all [] needs) ≡ list_any (lacks set) needs
