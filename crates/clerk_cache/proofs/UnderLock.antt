-- The first sector under a lock, in order of the covers, is the first in order of the sectors.
use Rattle.std.proofs.Common.{◌≡◌, ℕ, zero, suc, Bool, true, false, ◌&&◌, if◌then◌else◌, find, List, [], ◌∷◌, Option, Some, None, refl, sym, ap, ◌∙◌, arith}
use Rattle.std.proofs.lemmas.Bool.Decides.{nat_tests}
use Rattle.std.proofs.lemmas.Cmp.{tied_itself}
use Rattle.std.specs.List.{AllByRecursion}
use Rattle.std.specs.List.Sorted.{IsStrictlySortedBy}
use Rattle.std.specs.Map.{keys_of}
use Rattle.std.specs.BTreeMap.{insert_entry}
use Rattle.std.specs.Option.{option_map}
use Rattle.std.specs.Ordering.{nat_cmp, match_ordering, ordering_then, is_eq, is_le}
use Rattle.std.specs.declared.cmp.Ordering.{Ordering}
use Rattle.std.specs.declared.cmp.Ordering.TheVariants.{Less, Equal, Greater}
use Rattle.frang_base.specs.declared.lock.LockId.{LockId}
use Rattle.lock_definitions.specs.Order.{is_lock, lock_cmp}
use Rattle.lock_definitions.proofs.LockOrder.{lock_total, found_lock}
use Rattle.ordered_map.specs.Entries.{first_from}
use Rattle.sector_bytes.specs.SectorMaps.{Ascend}
use Rattle.sector_bytes.proofs.MapLaws.{by_answer, AllAbove}
use Rattle.clerk_cache.specs.declared.covered.Covered.{Covered}
use Rattle.clerk_cache.specs.declared.state.SectorState.{SectorState}
use Rattle.clerk_cache.specs.Kept.{is_state_under}
use Rattle.clerk_cache.specs.Keys.{with_key, keyed}
use Rattle.clerk_cache.specs.Covers.{cover_cmp, cover_key, sector_under, first_of}
use Rattle.clerk_cache.proofs.CoverOrder.{covers}
use Rattle.clerk_cache.proofs.Keying.{keyed_sorted}

abbrev Covers : Type 0
Covers = List (Covered × Unit {0})

module _ (lock : LockId) where
  -- the first of these that is under the lock
  abbrev first_there : Covers → Option ℕ
  first_there keys = option_map (λ (entry : Covered × Unit {0}). entry.0.sector) (find (λ entry. is_lock lock entry.0.cover) keys)

  answered : (other : LockId) (o : Ordering) → lock_cmp lock other ≡ o → is_lock lock other ≡ is_eq o
  answered other o is = ap is_eq is

  -- ---- in order of the covers

  -- what lies above what lies above the lock isn't under it
  higher : (a b : Covered) → lock_cmp lock a.cover ≡ Less → cover_cmp a b ≡ Less → lock_cmp lock b.cover ≡ Less
  higher a b low above = go (lock_cmp a.cover b.cover) refl above
    where
      go : (o : Ordering) → lock_cmp a.cover b.cover ≡ o → ordering_then o (nat_cmp a.sector b.sector) ≡ Less → lock_cmp lock b.cover ≡ Less
      go Less is e = lock_total.trans lock a.cover b.cover low is
      go Equal is e = ap (lock_cmp lock) (found_lock a.cover b.cover (ap is_eq is)) ∙ low
      go Greater is e = cc e

  none_higher : (low : Covered) (keys : Covers) → lock_cmp lock low.cover ≡ Less → AllByRecursion (λ key. cover_cmp low key ≡ Less) (keys_of keys) → first_there keys ≡ None
  none_higher low [] less all = refl
  none_higher low (entry ∷ keys) less all =
      ap (λ t. option_map (λ (entry : Covered × Unit {0}). entry.0.sector) (if t then Some entry else find (λ entry. is_lock lock entry.0.cover) keys)) (answered entry.0.cover Less (higher low entry.0 less all.0))
      ∙ none_higher low keys less all.1

  lowest : (n : ℕ) → is_le (nat_cmp 0 n) ≡ true
  lowest zero = refl
  lowest (suc n) = grind (arith, nat_tests)

  pub first_of-sorted : (keys : Covers) → IsStrictlySortedBy cover_cmp (keys_of keys) → first_of lock keys ≡ first_there keys
  unfolding IsStrictlySortedBy
  first_of-sorted [] sorted = refl
  first_of-sorted (entry ∷ keys) sorted = by_answer (lock_cmp lock entry.0.cover)
      (λ is.
      ap (λ o. sector_under lock (if is_le (ordering_then o (nat_cmp 0 entry.0.sector)) then Some entry else first_from cover_cmp keys (record { cover = lock; sector = 0 }))) is
      ∙ ap (λ t. if t then Some entry.0.sector else None) (answered entry.0.cover Less is)
      ∙ sym (ap (λ t. option_map (λ (entry : Covered × Unit {0}). entry.0.sector) (if t then Some entry else find (λ entry. is_lock lock entry.0.cover) keys)) (answered entry.0.cover Less is)
      ∙ none_higher entry.0 keys is sorted.0))
      (λ is.
      ap (λ o. sector_under lock (if is_le (ordering_then o (nat_cmp 0 entry.0.sector)) then Some entry else first_from cover_cmp keys (record { cover = lock; sector = 0 }))) is
      ∙ ap (λ t. sector_under lock (if t then Some entry else first_from cover_cmp keys (record { cover = lock; sector = 0 }))) (lowest entry.0.sector)
      ∙ ap (λ t. if t then Some entry.0.sector else None) (answered entry.0.cover Equal is)
      ∙ sym (ap (λ t. option_map (λ (entry : Covered × Unit {0}). entry.0.sector) (if t then Some entry else find (λ entry. is_lock lock entry.0.cover) keys)) (answered entry.0.cover Equal is)))
      (λ is.
      ap (λ o. sector_under lock (if is_le (ordering_then o (nat_cmp 0 entry.0.sector)) then Some entry else first_from cover_cmp keys (record { cover = lock; sector = 0 }))) is
      ∙ first_of-sorted keys sorted.1
      ∙ sym (ap (λ t. option_map (λ (entry : Covered × Unit {0}). entry.0.sector) (if t then Some entry else find (λ entry. is_lock lock entry.0.cover) keys)) (answered entry.0.cover Greater is)))

  -- ---- a cover that goes in

  -- one of another lock changes nothing
  past : (key : Covered) (keys : Covers) → is_lock lock key.cover ≡ false → first_there (insert_entry cover_cmp keys key tt) ≡ first_there keys
  past key [] other = ap (λ t. option_map (λ (entry : Covered × Unit {0}). entry.0.sector) (if t then Some (key, tt) else None)) other
  past key (entry ∷ keys) other = go (cover_cmp key entry.0) (past key keys other)
    where
      go : (o : Ordering) → first_there (insert_entry cover_cmp keys key tt) ≡ first_there keys
          → first_there (match_ordering o ((key, tt) ∷ entry ∷ keys) ((entry.0, tt) ∷ keys) (entry ∷ insert_entry cover_cmp keys key tt)) ≡ first_there (entry ∷ keys)
      go Less rest = ap (λ t. option_map (λ (entry : Covered × Unit {0}). entry.0.sector) (if t then Some (key, tt) else find (λ entry. is_lock lock entry.0.cover) (entry ∷ keys))) other
      go Equal rest = here (is_lock lock entry.0.cover)
        where
          here : (t : Bool) → option_map (λ (entry : Covered × Unit {0}). entry.0.sector) (if t then Some (entry.0, tt) else find (λ entry. is_lock lock entry.0.cover) keys) ≡ option_map (λ (entry : Covered × Unit {0}). entry.0.sector) (if t then Some entry else find (λ entry. is_lock lock entry.0.cover) keys)
          here true = refl
          here false = refl
      go Greater rest = here (is_lock lock entry.0.cover)
        where
          here : (t : Bool) → option_map (λ (entry : Covered × Unit {0}). entry.0.sector) (if t then Some entry else find (λ entry. is_lock lock entry.0.cover) (insert_entry cover_cmp keys key tt)) ≡ option_map (λ (entry : Covered × Unit {0}). entry.0.sector) (if t then Some entry else find (λ entry. is_lock lock entry.0.cover) keys)
          here true = refl
          here false = rest

  -- one of this lock whose sector is below all others is the first
  first_in : (sector : ℕ) (keys : Covers) → AllByRecursion (λ key. nat_cmp sector key.sector ≡ Less) (keys_of keys) → first_there (insert_entry cover_cmp keys (record { cover = lock; sector = sector }) tt) ≡ Some sector
  first_in sector [] all = ap (λ t. option_map (λ (entry : Covered × Unit {0}). entry.0.sector) (if t then Some (record { cover = lock; sector = sector }, tt) else None)) itself
    where
      itself : is_lock lock lock ≡ true
      itself = answered lock Equal (tied_itself lock_total lock)
  first_in sector (entry ∷ keys) all = by_answer (lock_cmp lock entry.0.cover)
      (λ is. placed Less (ap (λ o. ordering_then o (nat_cmp sector entry.0.sector)) is) ∙ head)
      (λ is. placed Less (ap (λ o. ordering_then o (nat_cmp sector entry.0.sector)) is ∙ all.0) ∙ head)
      (λ is. placed Greater (ap (λ o. ordering_then o (nat_cmp sector entry.0.sector)) is)
      ∙ ap (λ t. option_map (λ (entry : Covered × Unit {0}). entry.0.sector) (if t then Some entry else find (λ entry. is_lock lock entry.0.cover) (insert_entry cover_cmp keys (record { cover = lock; sector = sector }) tt))) (answered entry.0.cover Greater is)
      ∙ first_in sector keys all.1)
    where
      placed : (o : Ordering) → cover_cmp (record { cover = lock; sector = sector }) entry.0 ≡ o
          → first_there (insert_entry cover_cmp (entry ∷ keys) (record { cover = lock; sector = sector }) tt)
          ≡ first_there (match_ordering o ((record { cover = lock; sector = sector }, tt) ∷ entry ∷ keys) ((entry.0, tt) ∷ keys) (entry ∷ insert_entry cover_cmp keys (record { cover = lock; sector = sector }) tt))
      placed o is = ap (λ p. first_there (match_ordering p ((record { cover = lock; sector = sector }, tt) ∷ entry ∷ keys) ((entry.0, tt) ∷ keys) (entry ∷ insert_entry cover_cmp keys (record { cover = lock; sector = sector }) tt))) is

      head : first_there ((record { cover = lock; sector = sector }, tt) ∷ entry ∷ keys) ≡ Some sector
      head = ap (λ t. option_map (λ (entry : Covered × Unit {0}). entry.0.sector) (if t then Some (record { cover = lock; sector = sector }, tt) else find (λ entry. is_lock lock entry.0.cover) (entry ∷ keys))) (answered lock Equal (tied_itself lock_total lock))

  -- ---- of the states

  module _ (test : SectorState → Bool) where
    all_inserted : (low : ℕ) (key : Covered) (keys : Covers) → nat_cmp low key.sector ≡ Less → AllByRecursion (λ key. nat_cmp low key.sector ≡ Less) (keys_of keys)
        → AllByRecursion (λ key. nat_cmp low key.sector ≡ Less) (keys_of (insert_entry cover_cmp keys key tt))
    all_inserted low key [] here all = (here, tt)
    all_inserted low key (entry ∷ keys) here all = go (cover_cmp key entry.0) (all_inserted low key keys here all.1)
      where
        go : (o : Ordering) → AllByRecursion (λ key. nat_cmp low key.sector ≡ Less) (keys_of (insert_entry cover_cmp keys key tt))
            → AllByRecursion (λ key. nat_cmp low key.sector ≡ Less) (keys_of (match_ordering o ((key, tt) ∷ entry ∷ keys) ((entry.0, tt) ∷ keys) (entry ∷ insert_entry cover_cmp keys key tt)))
        go Less rest = (here, all)
        go Equal rest = all
        go Greater rest = (all.0, rest)

    keyed_above : (low : ℕ) (states : List (ℕ × SectorState)) → AllAbove low states → AllByRecursion (λ key. nat_cmp low key.sector ≡ Less) (keys_of (keyed cover_cmp (cover_key test) states))
    keyed_above low [] all = tt
    keyed_above low (entry ∷ states) all = go (test entry.1) (keyed_above low states all.1)
      where
        go : (t : Bool) → AllByRecursion (λ key. nat_cmp low key.sector ≡ Less) (keys_of (keyed cover_cmp (cover_key test) states))
            → AllByRecursion (λ key. nat_cmp low key.sector ≡ Less) (keys_of (with_key cover_cmp (if t then Some (record { cover = entry.1.cover; sector = entry.0 }) else None) (keyed cover_cmp (cover_key test) states)))
        go true rest = all_inserted low (record { cover = entry.1.cover; sector = entry.0 }) (keyed cover_cmp (cover_key test) states) all.0 rest
        go false rest = rest

    module _ (p : SectorState → Bool) (agree : (state : SectorState) → (is_state_under lock state && test state) ≡ p state) where
      first_keyed : (states : List (ℕ × SectorState)) → Ascend states → first_there (keyed cover_cmp (cover_key test) states) ≡ option_map (λ entry. entry.0) (find (λ entry. p entry.1) states)
      unfolding IsStrictlySortedBy
      first_keyed [] sorted = refl
      first_keyed (entry ∷ states) sorted =
          go (test entry.1) (is_lock lock entry.1.cover) refl (first_keyed states sorted.1)
          ∙ ap (λ t. option_map (λ entry. entry.0) (if t then Some entry else find (λ entry. p entry.1) states)) (agree entry.1)
        where
          go : (t u : Bool) → is_lock lock entry.1.cover ≡ u → first_there (keyed cover_cmp (cover_key test) states) ≡ option_map (λ entry. entry.0) (find (λ entry. p entry.1) states)
              → first_there (with_key cover_cmp (if t then Some (record { cover = entry.1.cover; sector = entry.0 }) else None) (keyed cover_cmp (cover_key test) states))
              ≡ option_map (λ entry. entry.0) (if is_lock lock entry.1.cover && t then Some entry else find (λ entry. p entry.1) states)
          go false true is rest = rest ∙ sym (ap (λ v. option_map (λ entry. entry.0) (if v && false then Some entry else find (λ entry. p entry.1) states)) is)
          go false false is rest = rest ∙ sym (ap (λ v. option_map (λ entry. entry.0) (if v && false then Some entry else find (λ entry. p entry.1) states)) is)
          go true false is rest = past (record { cover = entry.1.cover; sector = entry.0 }) (keyed cover_cmp (cover_key test) states) is ∙ rest
              ∙ sym (ap (λ v. option_map (λ entry. entry.0) (if v && true then Some entry else find (λ entry. p entry.1) states)) is)
          go true true is rest =
              ap (λ cover. first_there (insert_entry cover_cmp (keyed cover_cmp (cover_key test) states) (record { cover = cover; sector = entry.0 }) tt)) (found_lock lock entry.1.cover is)
              ∙ first_in entry.0 (keyed cover_cmp (cover_key test) states) (keyed_above entry.0 states sorted.0)
              ∙ sym (ap (λ v. option_map (λ entry. entry.0) (if v && true then Some entry else find (λ entry. p entry.1) states)) is)

      pub first_of-keyed : (states : List (ℕ × SectorState)) → Ascend states → first_of lock (keyed cover_cmp (cover_key test) states) ≡ option_map (λ entry. entry.0) (find (λ entry. p entry.1) states)
      first_of-keyed states sorted = first_of-sorted (keyed cover_cmp (cover_key test) states) (keyed_sorted covers (cover_key test) states) ∙ first_keyed states sorted
