-- Locks that are made a set first join another set as they do one by one.
use Rattle.std.proofs.Common.{◌≡◌, Bool, true, false, if◌then◌else◌, List, [], ◌∷◌, Option, Some, None, refl, sym, ap, ◌∙◌, subst}
use Rattle.std.specs.List.Sorted.{IsStrictlySortedBy}
use Rattle.std.specs.Map.{keys_of}
use Rattle.std.specs.Ordering.{is_eq}
use Rattle.frang_base.specs.declared.lock.LockId.{LockId}
use Rattle.frang_base.specs.declared.lock.Mode.{Mode}
use Rattle.frang_base.specs.declared.lock.Mode.TheVariants.{Shared, Sole}
use Rattle.lock_definitions.specs.Order.{is_lock, lock_cmp}
use Rattle.lock_definitions.proofs.LockOrder.{found_lock, lock_total, locks}
use Rattle.disk_definitions.specs.Plans.{Lock}
use Rattle.set_definitions.specs.Sets.{LockSet, joined, joined_all, mode_in, with_mode}
use Rattle.sorted_entries.proofs.Sorted.{lookup-insert_entry, sorted-insert_entry}
use Rattle.set_laws.proofs.Entries.{AllAbove, same_entries}

-- ---- a set stays in order

abbrev pub IsSet : LockSet → Type 0
IsSet set = IsStrictlySortedBy lock_cmp (keys_of set)

pub joined_sorted : (set : LockSet) (need : Lock) → IsSet set → IsSet (joined set need)
joined_sorted set need sorted = sorted-insert_entry lock_total need.0 (with_mode (mode_in set need.0) need.1) set sorted

pub all_sorted : (set : LockSet) (needs : List Lock) → IsSet set → IsSet (joined_all set needs)
all_sorted set [] sorted = sorted
all_sorted set (need ∷ needs) sorted = all_sorted (joined set need) needs (joined_sorted set need sorted)

pub made_sorted : (needs : List Lock) → IsSet (joined_all [] needs)
unfolding IsStrictlySortedBy
made_sorted needs = all_sorted [] needs tt

-- ---- the mode in which a lock is needed

-- beside this mode by these locks too
abbrev needed : LockId → Option Mode → List Lock → Option Mode
needed lock mode [] = mode
needed lock mode (need ∷ needs) = needed lock (if is_lock lock need.0 then Some (with_mode mode need.1) else mode) needs

mode_after : (lock : LockId) (need : Lock) (set : LockSet) → mode_in (joined set need) lock ≡ (if is_lock lock need.0 then Some (with_mode (mode_in set lock) need.1) else mode_in set lock)
mode_after lock need set = lookup-insert_entry lock_total need.0 (with_mode (mode_in set need.0) need.1) lock set ∙ go (is_lock lock need.0) refl
  where
    go : (b : Bool) → is_lock lock need.0 ≡ b → (if b then Some (with_mode (mode_in set need.0) need.1) else mode_in set lock) ≡ (if b then Some (with_mode (mode_in set lock) need.1) else mode_in set lock)
    go true e = ap (λ k. Some (with_mode (mode_in set k) need.1)) (found_lock lock need.0 e)
    go false e = refl

mode_is : (lock : LockId) (needs : List Lock) (set : LockSet) → mode_in (joined_all set needs) lock ≡ needed lock (mode_in set lock) needs
mode_is lock [] set = refl
mode_is lock (need ∷ needs) set = mode_is lock needs (joined set need) ∙ ap (λ mode. needed lock mode needs) (mode_after lock need set)

-- needed in one mode, and in another where there is one
abbrev beside : Option Mode → Option Mode → Option Mode
beside mode None = mode
beside mode (Some other) = Some (with_mode mode other)

both : (mode before : Option Mode) (other : Mode) → beside mode (Some (with_mode before other)) ≡ Some (with_mode (beside mode before) other)
both mode None other = refl
both None (Some Sole) other = refl
both None (Some Shared) other = refl
both (Some Sole) (Some Sole) other = refl
both (Some Sole) (Some Shared) other = refl
both (Some Shared) (Some Sole) other = refl
both (Some Shared) (Some Shared) other = refl

beside_needed : (lock : LockId) (needs : List Lock) (mode before : Option Mode) → beside mode (needed lock before needs) ≡ needed lock (beside mode before) needs
beside_needed lock [] mode before = refl
beside_needed lock (need ∷ needs) mode before =
    beside_needed lock needs mode (if is_lock lock need.0 then Some (with_mode before need.1) else before) ∙ ap (λ m. needed lock m needs) (go (is_lock lock need.0))
  where
    go : (b : Bool) → beside mode (if b then Some (with_mode before need.1) else before) ≡ (if b then Some (with_mode (beside mode before) need.1) else beside mode before)
    go true = both mode before need.1
    go false = refl

-- locks of a set are needed as the set has them
unneeded : (lock : LockId) (mode : Option Mode) (set : LockSet) → AllAbove locks lock set → needed lock mode set ≡ mode
unneeded lock mode [] above = refl
unneeded lock mode (need ∷ set) above = ap (λ o. needed lock (if is_eq o then Some (with_mode mode need.1) else mode) set) above.0 ∙ unneeded lock mode set above.1

of_set : (lock : LockId) (mode : Option Mode) (set : LockSet) → IsSet set → needed lock mode set ≡ beside mode (mode_in set lock)
unfolding IsStrictlySortedBy
of_set lock mode [] sorted = refl
of_set lock mode (need ∷ set) sorted = go (is_lock lock need.0) refl (of_set lock mode set sorted.1)
  where
    go : (b : Bool) → is_lock lock need.0 ≡ b → needed lock mode set ≡ beside mode (mode_in set lock) → needed lock (if b then Some (with_mode mode need.1) else mode) set ≡ beside mode (if b then Some need.1 else mode_in set lock)
    go true e rest = subst (λ k. needed k (Some (with_mode mode need.1)) set ≡ Some (with_mode mode need.1)) (found_lock lock need.0 e) (unneeded need.0 (Some (with_mode mode need.1)) set sorted.0)
    go false e rest = rest

pub joins_as_its_locks : (set : LockSet) (needs : List Lock) → IsSet set → joined_all set (joined_all [] needs) ≡ joined_all set needs
joins_as_its_locks set needs sorted =
    let made : LockSet = joined_all [] needs in
    same_entries locks (joined_all set made) (joined_all set needs) (all_sorted set made sorted) (all_sorted set needs sorted) (λ lock.
    mode_is lock made set ∙ of_set lock (mode_in set lock) made (made_sorted needs) ∙ ap (beside (mode_in set lock)) (mode_is lock needs [])
    ∙ beside_needed lock needs (mode_in set lock) None ∙ sym (mode_is lock needs set))
