-- The first mark under a lock, in order of covers and marks, is the least of those under it.
use Rattle.std.proofs.Common.{◌≡◌, Bool, true, false, ◌&&◌, if◌then◌else◌, find, List, [], ◌∷◌, Option, Some, None, refl, sym, ap, ◌∙◌, arith}
use Rattle.std.proofs.lemmas.Bool.Decides.{nat_tests}
use Rattle.std.proofs.lemmas.Cmp.{tied_itself}
use Rattle.std.specs.List.{AllByRecursion, cons_option}
use Rattle.std.specs.List.Sorted.{IsStrictlySortedBy}
use Rattle.std.specs.Map.{keys_of}
use Rattle.std.specs.BTreeMap.{insert_entry}
use Rattle.std.specs.Option.{option_map}
use Rattle.std.specs.Ordering.{match_ordering, ordering_then, is_eq, is_le}
use Rattle.std.specs.declared.cmp.Ordering.{Ordering}
use Rattle.std.specs.declared.cmp.Ordering.TheVariants.{Less, Equal, Greater}
use Rattle.frang_base.specs.declared.lock.LockId.{LockId}
use Rattle.lock_definitions.specs.Order.{is_lock, lock_cmp}
use Rattle.lock_definitions.proofs.LockOrder.{lock_total, found_lock}
use Rattle.flush_order.specs.declared.Mark.{Mark}
use Rattle.flush_order.specs.Marks.{mark_cmp, least, lesser}
use Rattle.ordered_map.specs.Entries.{first_from}
use Rattle.sector_bytes.proofs.MapLaws.{by_answer}
use Rattle.clerk_cache.specs.declared.covered_mark.CoveredMark.{CoveredMark}
use Rattle.clerk_cache.specs.Kept.{is_idle, is_idle_under, passing_marks, state_mark}
use Rattle.clerk_cache.specs.Keys.{with_key, keyed}
use Rattle.clerk_cache.specs.CoveredMarks.{covered_mark, covered_mark_cmp, covered_mark_key, first_mark_of, mark_under}
use Rattle.clerk_cache.proofs.CoveredMarkOrder.{covered_marks}
use Rattle.clerk_cache.proofs.Joining.{States}
use Rattle.clerk_cache.proofs.Keying.{keyed_sorted}

abbrev Keys : Type 0
Keys = List (CoveredMark × Unit {0})

abbrev lowest_mark : Mark
lowest_mark = record { sector = record { 0 = 0 }; mark = 0 }

lowest : (m : Mark) → is_le (mark_cmp lowest_mark m) ≡ true
lowest m = grind (arith, nat_tests)

abbrev mark_in : CoveredMark × Unit {0} → Mark
mark_in entry = entry.0.mark

module _ (lock : LockId) where
  -- the first of these that is under the lock
  abbrev first_there : Keys → Option Mark
  first_there keys = option_map mark_in (find (λ entry. is_lock lock entry.0.cover) keys)

  answered : (other : LockId) (o : Ordering) → lock_cmp lock other ≡ o → is_lock lock other ≡ is_eq o
  answered other o is = ap is_eq is

  head_is : (entry : CoveredMark × Unit {0}) (keys : Keys) (t : Bool) → is_lock lock entry.0.cover ≡ t → first_there (entry ∷ keys) ≡ (if t then Some entry.0.mark else first_there keys)
  head_is entry keys t is = ap (λ t. option_map mark_in (if t then Some entry else find (λ entry. is_lock lock entry.0.cover) keys)) is ∙ go t
    where
      go : (t : Bool) → option_map mark_in (if t then Some entry else find (λ entry. is_lock lock entry.0.cover) keys) ≡ (if t then Some entry.0.mark else first_there keys)
      go true = refl
      go false = refl

  -- ---- in order of the covers

  higher : (a b : CoveredMark) → lock_cmp lock a.cover ≡ Less → covered_mark_cmp a b ≡ Less → lock_cmp lock b.cover ≡ Less
  higher a b low above = go (lock_cmp a.cover b.cover) refl above
    where
      go : (o : Ordering) → lock_cmp a.cover b.cover ≡ o → ordering_then o (mark_cmp a.mark b.mark) ≡ Less → lock_cmp lock b.cover ≡ Less
      go Less is e = lock_total.trans lock a.cover b.cover low is
      go Equal is e = ap (lock_cmp lock) (found_lock a.cover b.cover (ap is_eq is)) ∙ low
      go Greater is e = cc e

  none_higher : (low : CoveredMark) (keys : Keys) → lock_cmp lock low.cover ≡ Less → AllByRecursion (λ key. covered_mark_cmp low key ≡ Less) (keys_of keys) → first_there keys ≡ None
  none_higher low [] less all = refl
  none_higher low (entry ∷ keys) less all = head_is entry keys false (answered entry.0.cover Less (higher low entry.0 less all.0)) ∙ none_higher low keys less all.1

  from_here : (entry : CoveredMark × Unit {0}) (keys : Keys) (o : Ordering) → lock_cmp lock entry.0.cover ≡ o
      → first_mark_of lock (entry ∷ keys) ≡ mark_under lock (if is_le (ordering_then o (mark_cmp lowest_mark entry.0.mark)) then Some entry else first_from covered_mark_cmp keys (covered_mark lock lowest_mark))
  from_here entry keys o is = ap (λ o. mark_under lock (if is_le (ordering_then o (mark_cmp lowest_mark entry.0.mark)) then Some entry else first_from covered_mark_cmp keys (covered_mark lock lowest_mark))) is

  pub first-sorted : (keys : Keys) → IsStrictlySortedBy covered_mark_cmp (keys_of keys) → first_mark_of lock keys ≡ first_there keys
  unfolding IsStrictlySortedBy
  first-sorted [] sorted = refl
  first-sorted (entry ∷ keys) sorted = by_answer (lock_cmp lock entry.0.cover)
      (λ is. from_here entry keys Less is ∙ ap (λ t. if t then Some entry.0.mark else None) (answered entry.0.cover Less is)
      ∙ sym (head_is entry keys false (answered entry.0.cover Less is) ∙ none_higher entry.0 keys is sorted.0))
      (λ is. from_here entry keys Equal is ∙ ap (λ t. mark_under lock (if t then Some entry else first_from covered_mark_cmp keys (covered_mark lock lowest_mark))) (lowest entry.0.mark)
      ∙ ap (λ t. if t then Some entry.0.mark else None) (answered entry.0.cover Equal is)
      ∙ sym (head_is entry keys true (answered entry.0.cover Equal is)))
      (λ is. from_here entry keys Greater is ∙ first-sorted keys sorted.1 ∙ sym (head_is entry keys false (answered entry.0.cover Greater is)))

  -- ---- one more key

  placed : (key : CoveredMark) (entry : CoveredMark × Unit {0}) (keys : Keys) (o : Ordering) → covered_mark_cmp key entry.0 ≡ o
      → first_there (insert_entry covered_mark_cmp (entry ∷ keys) key tt) ≡ first_there (match_ordering o ((key, tt) ∷ entry ∷ keys) ((entry.0, tt) ∷ keys) (entry ∷ insert_entry covered_mark_cmp keys key tt))
  placed key entry keys o is = ap (λ o. first_there (match_ordering o ((key, tt) ∷ entry ∷ keys) ((entry.0, tt) ∷ keys) (entry ∷ insert_entry covered_mark_cmp keys key tt))) is

  -- of another lock
  past : (key : CoveredMark) (keys : Keys) → is_lock lock key.cover ≡ false → first_there (insert_entry covered_mark_cmp keys key tt) ≡ first_there keys
  past key [] other = head_is (key, tt) [] false other
  past key (entry ∷ keys) other = go (covered_mark_cmp key entry.0) (past key keys other)
    where
      go : (o : Ordering) → first_there (insert_entry covered_mark_cmp keys key tt) ≡ first_there keys
          → first_there (match_ordering o ((key, tt) ∷ entry ∷ keys) ((entry.0, tt) ∷ keys) (entry ∷ insert_entry covered_mark_cmp keys key tt)) ≡ first_there (entry ∷ keys)
      go Less rest = head_is (key, tt) (entry ∷ keys) false other
      go Equal rest = refl
      go Greater rest = head_is entry (insert_entry covered_mark_cmp keys key tt) (is_lock lock entry.0.cover) refl
          ∙ ap (λ rest. if is_lock lock entry.0.cover then Some entry.0.mark else rest) rest ∙ sym (head_is entry keys (is_lock lock entry.0.cover) refl)

  itself : is_lock lock lock ≡ true
  itself = answered lock Equal (tied_itself lock_total lock)

  -- of this lock
  first_in : (mark : Mark) (keys : Keys) → IsStrictlySortedBy covered_mark_cmp (keys_of keys) → first_there (insert_entry covered_mark_cmp keys (covered_mark lock mark) tt) ≡ Some (lesser mark (first_there keys))
  unfolding IsStrictlySortedBy
  first_in mark [] sorted = head_is (covered_mark lock mark, tt) [] true itself
  first_in mark (entry ∷ keys) sorted = by_answer (lock_cmp lock entry.0.cover)
      (λ is. placed (covered_mark lock mark) entry keys Less (ap (λ o. ordering_then o (mark_cmp mark entry.0.mark)) is) ∙ head_is (covered_mark lock mark, tt) (entry ∷ keys) true itself
      ∙ ap (λ o. Some (lesser mark o)) (sym (head_is entry keys false (answered entry.0.cover Less is) ∙ none_higher entry.0 keys is sorted.0)))
      (λ is. same (answered entry.0.cover Equal is) (mark_cmp mark entry.0.mark) refl (ap (λ o. ordering_then o (mark_cmp mark entry.0.mark)) is))
      (λ is. placed (covered_mark lock mark) entry keys Greater (ap (λ o. ordering_then o (mark_cmp mark entry.0.mark)) is)
      ∙ head_is entry (insert_entry covered_mark_cmp keys (covered_mark lock mark) tt) false (answered entry.0.cover Greater is)
      ∙ first_in mark keys sorted.1 ∙ ap (λ o. Some (lesser mark o)) (sym (head_is entry keys false (answered entry.0.cover Greater is))))
    where
      same : is_lock lock entry.0.cover ≡ true → (o : Ordering) → mark_cmp mark entry.0.mark ≡ o → covered_mark_cmp (covered_mark lock mark) entry.0 ≡ mark_cmp mark entry.0.mark
          → first_there (insert_entry covered_mark_cmp (entry ∷ keys) (covered_mark lock mark) tt) ≡ Some (lesser mark (first_there (entry ∷ keys)))
      same here Less is by = placed (covered_mark lock mark) entry keys Less (by ∙ is) ∙ head_is (covered_mark lock mark, tt) (entry ∷ keys) true itself
          ∙ sym (ap (λ o. Some (lesser mark o)) (head_is entry keys true here) ∙ ap (λ o. Some (match_ordering o mark entry.0.mark entry.0.mark)) is)
      same here Equal is by = placed (covered_mark lock mark) entry keys Equal (by ∙ is) ∙ head_is (entry.0, tt) keys true here
          ∙ sym (ap (λ o. Some (lesser mark o)) (head_is entry keys true here) ∙ ap (λ o. Some (match_ordering o mark entry.0.mark entry.0.mark)) is)
      same here Greater is by = placed (covered_mark lock mark) entry keys Greater (by ∙ is) ∙ head_is entry (insert_entry covered_mark_cmp keys (covered_mark lock mark) tt) true here
          ∙ sym (ap (λ o. Some (lesser mark o)) (head_is entry keys true here) ∙ ap (λ o. Some (match_ordering o mark entry.0.mark entry.0.mark)) is)

  -- ---- of the states

  first_keyed : (states : States) → first_there (keyed covered_mark_cmp (covered_mark_key is_idle) states) ≡ least (passing_marks (is_idle_under lock) states)
  first_keyed [] = refl
  first_keyed (entry ∷ states) = go (is_idle entry.1) (state_mark entry) (is_lock lock entry.1.cover) refl (first_keyed states)
    where
      keys : Keys
      keys = keyed covered_mark_cmp (covered_mark_key is_idle) states

      go : (t : Bool) (m : Option Mark) (u : Bool) → is_lock lock entry.1.cover ≡ u → first_there keys ≡ least (passing_marks (is_idle_under lock) states)
          → first_there (with_key covered_mark_cmp (option_map (covered_mark entry.1.cover) (if t then m else None)) (keyed covered_mark_cmp (covered_mark_key is_idle) states))
          ≡ least (cons_option (if t && is_lock lock entry.1.cover then m else None) (passing_marks (is_idle_under lock) states))
      go false m u is rest = rest
      go true None true is rest = rest ∙ ap (λ v. least (cons_option (if v then None else None) (passing_marks (is_idle_under lock) states))) (sym is)
      go true None false is rest = rest ∙ ap (λ v. least (cons_option (if v then None else None) (passing_marks (is_idle_under lock) states))) (sym is)
      go true (Some m) false is rest = past (covered_mark entry.1.cover m) (keyed covered_mark_cmp (covered_mark_key is_idle) states) is ∙ rest
          ∙ ap (λ v. least (cons_option (if v then Some m else None) (passing_marks (is_idle_under lock) states))) (sym is)
      go true (Some m) true is rest =
          ap (λ cover. first_there (insert_entry covered_mark_cmp (keyed covered_mark_cmp (covered_mark_key is_idle) states) (covered_mark cover m) tt)) (found_lock lock entry.1.cover is)
          ∙ first_in m (keyed covered_mark_cmp (covered_mark_key is_idle) states) (keyed_sorted covered_marks (covered_mark_key is_idle) states)
          ∙ ap (λ o. Some (lesser m o)) rest
          ∙ ap (λ v. least (cons_option (if v then Some m else None) (passing_marks (is_idle_under lock) states))) (sym is)

  pub first_mark_of-keyed : (states : States) → first_mark_of lock (keyed covered_mark_cmp (covered_mark_key is_idle) states) ≡ least (passing_marks (is_idle_under lock) states)
  first_mark_of-keyed states = first-sorted (keyed covered_mark_cmp (covered_mark_key is_idle) states) (keyed_sorted covered_marks (covered_mark_key is_idle) states) ∙ first_keyed states
