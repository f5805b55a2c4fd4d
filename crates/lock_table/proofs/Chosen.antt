-- What a function makes of the entries of a sorted list: which locks it is made of, and how it changes with one entry.
use Rattle.std.proofs.Common.{◌≡◌, Bool, true, false, if◌then◌else◌, List, [], ◌∷◌, map, filter, Option, Some, None, refl, sym, ap, ◌∙◌}
use Rattle.std.specs.List.{AllByRecursion, filter_map, cons_option}
use Rattle.std.specs.List.Sorted.{IsStrictlySortedBy}
use Rattle.std.specs.Map.{lookup, remove_entry, keys_of}
use Rattle.std.specs.BTreeMap.{insert_entry}
use Rattle.std.specs.Ordering.{match_ordering, ordering_reverse, is_eq}
use Rattle.std.specs.Option.{option_map}
use Rattle.std.specs.declared.cmp.Ordering.{Ordering}
use Rattle.std.specs.declared.cmp.Ordering.TheVariants.{Less, Equal, Greater}
use Rattle.ordered_map.proofs.Spots.{equal_is}
use Rattle.frang_base.specs.declared.lock.LockId.{LockId}
use Rattle.sorted_entries.proofs.Spots.{nothing_removed, by_answer}
use Rattle.sorted_entries.proofs.Sorted.{all_along}
use Rattle.lock_definitions.specs.Order.{lock_cmp, is_lock}
use Rattle.lock_definitions.proofs.LockOrder.{lock_total, found_lock, is_lock_equiv, locks}
use Rattle.lock_table.specs.Asked.{with_made}
use Rattle.lock_table.specs.Kept.{chosen}

-- ---- a lock below all that are listed

module _ {V : Type 0} (lock : LockId) where
  abbrev IsBelow : List (LockId × V) → Type 0
  IsBelow entries = AllByRecursion (λ other. lock_cmp lock other ≡ Less) (keys_of entries)

  missed_below : (entries : List (LockId × V)) → IsBelow entries → lookup (is_lock lock) entries ≡ None
  missed_below [] below = refl
  missed_below (entry ∷ entries) below = ap (λ b. if b then Some entry.1 else lookup (is_lock lock) entries) (ap is_eq below.0) ∙ missed_below entries below.1

  -- a lock below the first is below all
  below_all : (entry : LockId × V) (entries : List (LockId × V)) → lock_cmp lock entry.0 ≡ Less → IsStrictlySortedBy lock_cmp (keys_of (entry ∷ entries)) → IsBelow (entry ∷ entries)
  unfolding IsStrictlySortedBy
  below_all entry entries is sorted = (is, all_along (λ y above. lock_total.trans lock entry.0 y is above) (keys_of entries) sorted.0)

  put_below : (entries : List (LockId × V)) (o : Option V) → IsBelow entries → with_made entries lock o ≡ cons_option (option_map (λ made. (lock, made)) o) entries
  put_below entries None below = nothing_removed locks.total lock entries (missed_below entries below)
  put_below [] (Some made) below = refl
  put_below (entry ∷ entries) (Some made) below = ap (λ o. match_ordering o ((lock, made) ∷ entry ∷ entries) ((entry.0, made) ∷ entries) (entry ∷ insert_entry lock_cmp entries lock made)) below.0

  -- what is put over the first
  put_first : (entries : List (LockId × V)) (before now : Option V) → IsBelow entries → with_made (cons_option (option_map (λ made. (lock, made)) before) entries) lock now ≡ cons_option (option_map (λ made. (lock, made)) now) entries
  put_first entries None now below = put_below entries now below
  put_first entries (Some made) None below = ap (λ b. if b then entries else (lock, made) ∷ remove_entry (is_lock lock) entries) (is_lock_equiv.refl lock)
  put_first entries (Some made) (Some other) below = ap (λ o. match_ordering o ((lock, other) ∷ (lock, made) ∷ entries) ((lock, other) ∷ entries) ((lock, made) ∷ insert_entry lock_cmp entries lock other)) (equal_is (lock_cmp lock lock) (is_lock_equiv.refl lock))

  -- what is put behind the first
  put_behind : (entry : LockId × V) (entries : List (LockId × V)) (o : Option V) → lock_cmp lock entry.0 ≡ Greater → with_made (entry ∷ entries) lock o ≡ entry ∷ with_made entries lock o
  put_behind entry entries None is = ap (λ b. if b then entries else entry ∷ remove_entry (is_lock lock) entries) (ap is_eq is)
  put_behind entry entries (Some made) is = ap (λ o. match_ordering o ((lock, made) ∷ entry ∷ entries) ((entry.0, made) ∷ entries) (entry ∷ insert_entry lock_cmp entries lock made)) is

  -- what is there is put once more
  put_again : (entries : List (LockId × V)) (made : V) → IsStrictlySortedBy lock_cmp (keys_of entries) → lookup (is_lock lock) entries ≡ Some made → insert_entry lock_cmp entries lock made ≡ entries
  unfolding IsStrictlySortedBy
  put_again [] made sorted found = cc
  put_again (entry ∷ entries) made sorted found = by_answer (lock_cmp lock entry.0)
      (λ is. cc (sym (missed_below (entry ∷ entries) (below_all entry entries is sorted)) ∙ found))
      (λ is. put_behind_equal is (sym (ap (λ b. if b then Some entry.1 else lookup (is_lock lock) entries) (ap is_eq is)) ∙ found))
      (λ is. put_behind entry entries (Some made) is ∙ ap (λ rest. entry ∷ rest) (put_again entries made sorted.1 (sym (ap (λ b. if b then Some entry.1 else lookup (is_lock lock) entries) (ap is_eq is)) ∙ found)))
    where
      put_behind_equal : lock_cmp lock entry.0 ≡ Equal → Some entry.1 ≡ Some made → insert_entry lock_cmp (entry ∷ entries) lock made ≡ entry ∷ entries
      put_behind_equal is same = ap (λ o. match_ordering o ((lock, made) ∷ entry ∷ entries) ((entry.0, made) ∷ entries) (entry ∷ insert_entry lock_cmp entries lock made)) is ∙ ap (λ v. (entry.0, v) ∷ entries) (cc same)

  pub same_made : (entries : List (LockId × V)) → IsStrictlySortedBy lock_cmp (keys_of entries) → with_made entries lock (lookup (is_lock lock) entries) ≡ entries
  same_made entries sorted = go (lookup (is_lock lock) entries) refl
    where
      go : (o : Option V) → lookup (is_lock lock) entries ≡ o → with_made entries lock o ≡ entries
      go None missed = nothing_removed locks.total lock entries missed
      go (Some made) found = put_again entries made sorted found

pub sorted-none : (V : Type 0) → IsStrictlySortedBy lock_cmp (keys_of {X = V} [])
unfolding IsStrictlySortedBy
sorted-none V = tt

-- each entry is found at its lock
pub all_found : {V : Type 0} (entries : List (LockId × V)) → IsStrictlySortedBy lock_cmp (keys_of entries) → AllByRecursion (λ entry. lookup (is_lock entry.0) entries ≡ Some entry.1) entries
unfolding IsStrictlySortedBy
all_found [] sorted = tt
all_found {V} (entry ∷ entries) sorted = (ap (λ b. if b then Some entry.1 else lookup (is_lock entry.0) entries) (is_lock_equiv.refl entry.0), behind entries sorted.0 (all_found entries sorted.1))
  where
    behind : (some : List (LockId × V)) → AllByRecursion (λ other. lock_cmp entry.0 other ≡ Less) (keys_of some) → AllByRecursion (λ e. lookup (is_lock e.0) entries ≡ Some e.1) some
        → AllByRecursion (λ e. lookup (is_lock e.0) (entry ∷ entries) ≡ Some e.1) some
    behind [] above all = tt
    behind (e ∷ some) above all = (ap (λ b. if b then Some entry.1 else lookup (is_lock e.0) entries) (ap is_eq (lock_total.antisymm e.0 entry.0 ∙ ap ordering_reverse above.0)) ∙ all.0, behind some above.1 all.1)

-- ---- what a function makes of the entries

-- what is made of an entry that may be there
abbrev pub made_of : {V W : Type 0} → (V → Option W) → Option V → Option W
made_of of None = None
made_of of (Some v) = of v

module _ {V W : Type 0} (of : V → Option W) where
  all_chosen : (P : LockId → Type 0) (entries : List (LockId × V)) → AllByRecursion P (keys_of entries) → AllByRecursion P (keys_of (chosen of entries))
  all_chosen P [] all = tt
  all_chosen P (entry ∷ entries) all = go (of entry.1) (all_chosen P entries all.1)
    where
      go : (o : Option W) → AllByRecursion P (keys_of (chosen of entries)) → AllByRecursion P (keys_of (cons_option (option_map (λ made. (entry.0, made)) o) (chosen of entries)))
      go None rest = rest
      go (Some made) rest = (all.0, rest)

  pub sorted-chosen : (entries : List (LockId × V)) → IsStrictlySortedBy lock_cmp (keys_of entries) → IsStrictlySortedBy lock_cmp (keys_of (chosen of entries))
  unfolding IsStrictlySortedBy
  sorted-chosen [] sorted = tt
  sorted-chosen (entry ∷ entries) sorted = go (of entry.1) (sorted-chosen entries sorted.1)
    where
      go : (o : Option W) → IsStrictlySortedBy lock_cmp (keys_of (chosen of entries)) → IsStrictlySortedBy lock_cmp (keys_of (cons_option (option_map (λ made. (entry.0, made)) o) (chosen of entries)))
      go None rest = rest
      go (Some made) rest = (all_chosen (λ y. lock_cmp entry.0 y ≡ Less) entries sorted.0, rest)

  pub lookup-chosen : (lock : LockId) (entries : List (LockId × V)) → IsStrictlySortedBy lock_cmp (keys_of entries) → lookup (is_lock lock) (chosen of entries) ≡ made_of of (lookup (is_lock lock) entries)
  unfolding IsStrictlySortedBy
  lookup-chosen lock [] sorted = refl
  lookup-chosen lock (entry ∷ entries) sorted = go (is_lock lock entry.0) refl (of entry.1) refl (lookup-chosen lock entries sorted.1)
    where
      Rest : List (LockId × W)
      Rest = chosen of entries

      go : (b : Bool) → is_lock lock entry.0 ≡ b → (o : Option W) → of entry.1 ≡ o → lookup (is_lock lock) Rest ≡ made_of of (lookup (is_lock lock) entries)
          → lookup (is_lock lock) (cons_option (option_map (λ made. (entry.0, made)) o) Rest) ≡ made_of of (if b then Some entry.1 else lookup (is_lock lock) entries)
      go true found (Some made) is rest = ap (λ b. if b then Some made else lookup (is_lock lock) Rest) found ∙ sym is
      go true found None is rest = ap (λ l. lookup (is_lock l) Rest) (sym (found_lock lock entry.0 found)) ∙ missed_below entry.0 Rest (all_chosen (λ y. lock_cmp entry.0 y ≡ Less) entries sorted.0) ∙ sym is
      go false missed (Some made) is rest = ap (λ b. if b then Some made else lookup (is_lock lock) Rest) missed ∙ rest
      go false missed None is rest = rest

  pub chosen-insert : (lock : LockId) (v : V) (entries : List (LockId × V)) → IsStrictlySortedBy lock_cmp (keys_of entries) → chosen of (insert_entry lock_cmp entries lock v) ≡ with_made (chosen of entries) lock (of v)
  unfolding IsStrictlySortedBy
  chosen-insert lock v [] sorted = go (of v)
    where
      go : (o : Option W) → cons_option (option_map (λ made. (lock, made)) o) [] ≡ with_made [] lock o
      go None = refl
      go (Some made) = refl
  chosen-insert lock v (entry ∷ entries) sorted = by_answer (lock_cmp lock entry.0)
      (λ is. steps is ∙ sym (put_below lock (chosen of (entry ∷ entries)) (of v) (all_chosen (λ y. lock_cmp lock y ≡ Less) (entry ∷ entries) (below_all lock entry entries is sorted))))
      (λ is. steps is ∙ sym (put_first entry.0 (chosen of entries) (of entry.1) (of v) (all_chosen (λ y. lock_cmp entry.0 y ≡ Less) entries sorted.0)) ∙ ap (λ l. with_made (chosen of (entry ∷ entries)) l (of v)) (found_lock lock entry.0 (ap is_eq is)))
      (λ is. steps is ∙ ap (cons_option (option_map (λ made. (entry.0, made)) (of entry.1))) (chosen-insert lock v entries sorted.1) ∙ sym (behind is (of entry.1)))
    where
      steps : {o : Ordering} → lock_cmp lock entry.0 ≡ o → chosen of (insert_entry lock_cmp (entry ∷ entries) lock v)
          ≡ chosen of (match_ordering o ((lock, v) ∷ entry ∷ entries) ((entry.0, v) ∷ entries) (entry ∷ insert_entry lock_cmp entries lock v))
      steps is = ap (λ o. chosen of (match_ordering o ((lock, v) ∷ entry ∷ entries) ((entry.0, v) ∷ entries) (entry ∷ insert_entry lock_cmp entries lock v))) is

      behind : lock_cmp lock entry.0 ≡ Greater → (o : Option W)
          → with_made (cons_option (option_map (λ made. (entry.0, made)) o) (chosen of entries)) lock (of v) ≡ cons_option (option_map (λ made. (entry.0, made)) o) (with_made (chosen of entries) lock (of v))
      behind is None = refl
      behind is (Some made) = put_behind lock (entry.0, made) (chosen of entries) (of v) is

  pub chosen-remove : (lock : LockId) (entries : List (LockId × V)) → IsStrictlySortedBy lock_cmp (keys_of entries) → chosen of (remove_entry (is_lock lock) entries) ≡ remove_entry (is_lock lock) (chosen of entries)
  unfolding IsStrictlySortedBy
  chosen-remove lock [] sorted = refl
  chosen-remove lock (entry ∷ entries) sorted = go (is_lock lock entry.0) refl (chosen-remove lock entries sorted.1)
    where
      Rest : List (LockId × W)
      Rest = chosen of entries

      at_first : is_lock lock entry.0 ≡ true → (o : Option W) → Rest ≡ remove_entry (is_lock lock) (cons_option (option_map (λ made. (entry.0, made)) o) Rest)
      at_first found (Some made) = sym (ap (λ b. if b then Rest else (entry.0, made) ∷ remove_entry (is_lock lock) Rest) found)
      at_first found None = sym (ap (λ l. remove_entry (is_lock l) Rest) (sym (found_lock lock entry.0 found)) ∙ nothing_removed locks.total entry.0 Rest (missed_below entry.0 Rest (all_chosen (λ y. lock_cmp entry.0 y ≡ Less) entries sorted.0)))

      behind : is_lock lock entry.0 ≡ false → (o : Option W) → cons_option (option_map (λ made. (entry.0, made)) o) (remove_entry (is_lock lock) Rest) ≡ remove_entry (is_lock lock) (cons_option (option_map (λ made. (entry.0, made)) o) Rest)
      behind missed (Some made) = sym (ap (λ b. if b then Rest else (entry.0, made) ∷ remove_entry (is_lock lock) Rest) missed)
      behind missed None = refl

      go : (b : Bool) → is_lock lock entry.0 ≡ b → chosen of (remove_entry (is_lock lock) entries) ≡ remove_entry (is_lock lock) Rest
          → chosen of (if b then entries else entry ∷ remove_entry (is_lock lock) entries) ≡ remove_entry (is_lock lock) (cons_option (option_map (λ made. (entry.0, made)) (of entry.1)) Rest)
      go true found rest = at_first found (of entry.1)
      go false missed rest = ap (cons_option (option_map (λ made. (entry.0, made)) (of entry.1))) rest ∙ behind missed (of entry.1)

  pub chosen-filter : (test : LockId × V → Bool) → ((entry : LockId × V) → test entry ≡ false → of entry.1 ≡ None) → (entries : List (LockId × V)) → chosen of (filter test entries) ≡ chosen of entries
  chosen-filter test drops [] = refl
  chosen-filter test drops (entry ∷ entries) = go (test entry) refl (chosen-filter test drops entries)
    where
      go : (b : Bool) → test entry ≡ b → chosen of (filter test entries) ≡ chosen of entries → chosen of (if b then entry ∷ filter test entries else filter test entries) ≡ chosen of (entry ∷ entries)
      go true kept rest = ap (cons_option (option_map (λ made. (entry.0, made)) (of entry.1))) rest
      go false dropped rest = rest ∙ ap (λ o. cons_option (option_map (λ made. (entry.0, made)) o) (chosen of entries)) (sym (drops entry dropped))

  pub chosen-none : ((v : V) → of v ≡ None) → (entries : List (LockId × V)) → chosen of entries ≡ []
  chosen-none none [] = refl
  chosen-none none (entry ∷ entries) = ap (λ o. cons_option (option_map (λ made. (entry.0, made)) o) (chosen of entries)) (none entry.1) ∙ chosen-none none entries

  -- what is made anew of the locks of which something was made
  pub rechosen : {X : Type 0} (other : V → Option X) (again : LockId → Option X) → ((v : V) → of v ≡ None → other v ≡ None) → (entries : List (LockId × V)) → AllByRecursion (λ entry. again entry.0 ≡ other entry.1) entries
      → filter_map (λ entry. option_map (λ made. (entry.0, made)) (again entry.0)) (chosen of entries) ≡ chosen other entries
  rechosen other again none [] all = refl
  rechosen {X} other again none (entry ∷ entries) all = go (of entry.1) refl (rechosen other again none entries all.1)
    where
      Again : List (LockId × W) → List (LockId × X)
      Again list = filter_map (λ e. option_map (λ made. (e.0, made)) (again e.0)) list

      go : (o : Option W) → of entry.1 ≡ o → Again (chosen of entries) ≡ chosen other entries
          → Again (cons_option (option_map (λ made. (entry.0, made)) o) (chosen of entries)) ≡ cons_option (option_map (λ made. (entry.0, made)) (other entry.1)) (chosen other entries)
      go None is rest = rest ∙ ap (λ o. cons_option (option_map (λ made. (entry.0, made)) o) (chosen other entries)) (sym (none entry.1 is))
      go (Some made) is rest = λ i. cons_option (option_map (λ x. (entry.0, x)) (all.0 i)) (rest i)

-- functions that make the same of each
pub chosen-alike : {V W : Type 0} (of other : V → Option W) → ((v : V) → of v ≡ other v) → (entries : List (LockId × V)) → chosen of entries ≡ chosen other entries
chosen-alike of other same [] = refl
chosen-alike of other same (entry ∷ entries) = λ i. cons_option (option_map (λ made. (entry.0, made)) (same entry.1 i)) (chosen-alike of other same entries i)

-- values that are changed before something is made of them
pub chosen-map : {V W : Type 0} (of : V → Option W) (f : V → V) (entries : List (LockId × V)) → chosen of (map (λ entry. (entry.0, f entry.1)) entries) ≡ chosen (λ v. of (f v)) entries
chosen-map of f [] = refl
chosen-map of f (entry ∷ entries) = ap (cons_option (option_map (λ made. (entry.0, made)) (of (f entry.1)))) (chosen-map of f entries)
