-- A lock joins the set that the first of some locks are: its place there is its place among all.
use Rattle.std.proofs.Common.{◌≡◌, ℕ, ◌+◌, ◌-◌, ◌<◌, ◌≤◌, suc, List, ◌++◌, length, take, drop, get_or, set, Some, None, Ok, Err, sym, ap, ◌∙◌, subst, arith}
use Rattle.std.specs.List.{insert, remove}
use Rattle.std.specs.List.Sorted.{IsStrictlySortedBy}
use Rattle.std.specs.Map.{keys_of}
use Rattle.std.specs.BTreeMap.{insert_entry}
use Rattle.std.proofs.lemmas.List.{drop_more, get_or-take, length-append, length-drop, length-set, length-take-le, set-append_left, take-append-drop}
use Rattle.std.proofs.lemmas.List.Edits.{insert-append_left, length-insert}
use Rattle.std.proofs.Math.Seq.{drop-append_seam, take-append_seam}
use Rattle.frang_base.specs.declared.lock.Mode.{Mode}
use Rattle.lock_definitions.specs.Order.{lock_cmp}
use Rattle.lock_definitions.proofs.LockOrder.{lock_total, locks}
use Rattle.sorted_entries.specs.Places.{place_of}
use Rattle.sorted_entries.proofs.Places.{place_found}
use Rattle.sorted_entries.proofs.Spots.{place_missed}
use Rattle.sorted_entries.proofs.Sorted.{sorted-insert_entry}
use Rattle.disk_definitions.specs.Plans.{Lock}
use Rattle.set_definitions.specs.Sets.{joined, joined_all, mode_in, with_mode}

-- ---- the lock in its place

module _ (items : List Lock) (count : ℕ) (need : Lock) (inside : count ≤ length items) where
  abbrev front : List Lock
  front = take count items

  abbrev behind : List Lock
  behind = drop count items

  front_length : length front ≡ count
  front_length = length-take-le count items inside

  parts : items ≡ front ++ behind
  parts = sym (take-append-drop count items)

  module _ (at : ℕ) (place : place_of lock_cmp need.0 front ≡ Ok at) where
    pub found_inside : at < length items
    found_inside = omega (arith, (place_found locks need.0 front at place).inside, front_length)

    module _ (found : Lock) (is : found ≡ get_or items at found) where
      abbrev value : Mode
      value = with_mode (Some found.1) need.1

      mode_found : mode_in front need.0 ≡ Some found.1
      mode_found =
          let p = place_found locks need.0 front at place in
          let low : at < count = omega (arith, p.inside, front_length) in
          p.value found ∙ ap (λ (one : Lock). Some one.1) (get_or-take count items at found low ∙ sym is)

      joins_found : set front at (need.0, value) ≡ joined front need
      joins_found = (place_found locks need.0 front at place).writes value ∙ ap (λ mode. insert_entry lock_cmp front need.0 (with_mode mode need.1)) (sym mode_found)

      pub found_items : set items at (need.0, value) ≡ joined front need ++ behind
      found_items =
          ap (λ all. set all at (need.0, value)) parts ∙ set-append_left front behind at (need.0, value) (place_found locks need.0 front at place).inside ∙ ap (λ all. all ++ behind) joins_found

      pub found_count : count ≡ length (joined front need)
      found_count = sym front_length ∙ sym (length-set front at (need.0, value)) ∙ ap length joins_found

  module _ (at : ℕ) (place : place_of lock_cmp need.0 front ≡ Err at) where
    pub missed_inside : at ≤ length items
    missed_inside = omega (arith, (place_missed lock_total need.0 front at place).inside, front_length)

    module _ (is : mode_in front need.0 ≡ None) where
      joins_missed : insert front at need ≡ joined front need
      joins_missed = (place_missed lock_total need.0 front at place).writes need.1 ∙ ap (λ mode. insert_entry lock_cmp front need.0 (with_mode mode need.1)) (sym is)

      pub missed_items : insert items at need ≡ joined front need ++ behind
      missed_items =
          ap (λ all. insert all at need) parts ∙ insert-append_left front behind at need (place_missed lock_total need.0 front at place).inside ∙ ap (λ all. all ++ behind) joins_missed

      pub missed_count : count + 1 ≡ length (joined front need)
      missed_count = omega (arith, front_length, length-insert front at need (place_missed lock_total need.0 front at place).inside, ap length joins_missed)

-- ---- one lock after another

pub still_ordered : (front : List Lock) (need : Lock) → IsStrictlySortedBy lock_cmp (keys_of front) → IsStrictlySortedBy lock_cmp (keys_of (joined front need))
still_ordered front need ordered = sorted-insert_entry lock_total need.0 (with_mode (mode_in front need.0) need.1) front ordered

-- without the lock behind the front the front is as it was, and the locks behind it are those behind the lock
module _ (items : List Lock) (count : ℕ) (inside : count < length items) where
  taken : take count (remove items count) ≡ take count items
  taken = subst (λ n. take n (take count items ++ drop (suc count) items) ≡ take count items) (length-take-le count items (omega arith)) (take-append_seam (take count items) (drop (suc count) items))

  dropped : drop count (remove items count) ≡ drop (suc count) items
  dropped = subst (λ n. drop n (take count items ++ drop (suc count) items) ≡ drop (suc count) items) (length-take-le count items (omega arith)) (drop-append_seam (take count items) (drop (suc count) items))

  module _ (need : Lock) (is : need ≡ get_or items count need) (removed new : List Lock) (more : ℕ) (without : removed ≡ remove items count)
      (made : new ≡ joined (take count removed) need ++ drop count removed) (counted : more ≡ length (joined (take count removed) need)) where
    front_now : joined (take count removed) need ≡ joined (take count items) need
    front_now = ap (λ front. joined front need) (ap (take count) without ∙ taken)

    behind_now : drop count removed ≡ drop (count + 1) items
    behind_now = let e : suc count ≡ count + 1 = omega arith in ap (drop count) without ∙ dropped ∙ ap (λ n. drop n items) e

    new_front : take more new ≡ joined (take count items) need
    new_front = ap (take more) made ∙ ap (λ n. take n (joined (take count removed) need ++ drop count removed)) counted ∙ take-append_seam (joined (take count removed) need) (drop count removed) ∙ front_now

    new_behind : drop more new ≡ drop (count + 1) items
    new_behind = ap (drop more) made ∙ ap (λ n. drop n (joined (take count removed) need ++ drop count removed)) counted ∙ drop-append_seam (joined (take count removed) need) (drop count removed) ∙ behind_now

    pub turn_all : joined_all (take more new) (drop more new) ≡ joined_all (take count items) (drop count items)
    turn_all =
        ap (λ front. joined_all front (drop more new)) new_front ∙ ap (joined_all (joined (take count items) need)) new_behind
        ∙ ap (λ one. joined_all (joined (take count items) one) (drop (count + 1) items)) is ∙ sym (ap (joined_all (take count items)) (drop_more items count need inside))

    pub turn_ordered : IsStrictlySortedBy lock_cmp (keys_of (take count items)) → IsStrictlySortedBy lock_cmp (keys_of (take more new))
    turn_ordered ordered = subst (λ front. IsStrictlySortedBy lock_cmp (keys_of front)) (sym new_front) (still_ordered (take count items) need ordered)

    lengths : length new ≡ more + (length items - (count + 1))
    lengths = omega (arith, ap length made, counted, length-append (joined (take count removed) need) (drop count removed), ap length behind_now, length-drop (count + 1) items)

    pub turn_inside : more ≤ length new
    turn_inside = omega (arith, lengths)
