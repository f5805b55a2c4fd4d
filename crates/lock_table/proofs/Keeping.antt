-- What is made of the entries of a lock table, where they change.
use Rattle.std.proofs.Common.{◌≡◌, ℕ, zero, suc, ◌+◌, ◌<◌, ◌≤◌, Bool, true, false, not, ◌||◌, if◌then◌else◌, is_some, List, [], ◌∷◌, length, map, get_or, Option, Some, None, unwrap_or, refl, sym, ap, ◌∙◌, inl, inr, ◌⊎◌, ◌==◌, ◌&&◌, set, arith}
use Rattle.std.specs.List.{range_with_len}
use Rattle.std.specs.List.Sorted.{IsStrictlySortedBy}
use Rattle.std.specs.Map.{lookup, remove_entry, keys_of}
use Rattle.std.specs.BTreeMap.{insert_entry}
use Rattle.std.proofs.lemmas.Bool.{cases_eq, false≢true}
use Rattle.std.proofs.lemmas.List.{get_or_past, get_or-set_same, get_or-set_other, length-set}
use Rattle.std.proofs.lemmas.List.FromFn.{fill_by_all, get_or-map-range_with_len, length-map-range_with_len}
use Rattle.std.specs.List.{AllByRecursion}
use Rattle.frang_base.specs.declared.lock.LockId.{LockId}
use Rattle.sorted_entries.proofs.Spots.{nothing_removed}
use Rattle.lock_definitions.specs.Order.{lock_cmp, is_lock}
use Rattle.frang_base.specs.declared.lock.Mode.{Mode}
use Rattle.frang_base.specs.declared.lock.Mode.TheVariants.{Shared, Sole}
use Rattle.lock_definitions.specs.Servers.{any_server}
use Rattle.lock_definitions.specs.Locks.{no_claim, is_wished_in}
use Rattle.lock_definitions.specs.Calls.{asked_of}
use Rattle.lock_definitions.proofs.LockOrder.{locks}
use Rattle.lock_definitions.proofs.ServerTests.{passing_below, some_below}
use Rattle.lock_definitions.proofs.Wants.{none_wished}
use Rattle.lock_table.specs.Asked.{Claimed, Asked, servers, no_asked, claim_by, is_unclaimed, unclaimed, is_wished_beside, asked_by, with_made}
use Rattle.lock_table.specs.Kept.{Entries, chosen, claimed_at, asked_lists, is_needed, is_reserved, placed, replaced, tidied, ended, ended_all, IsSameBeside, AreListed, settled, renewed, renewed_all}
use Rattle.lock_table.proofs.Chosen.{made_of, lookup-chosen, chosen-insert, chosen-remove, chosen-filter, chosen-map, rechosen, all_found, same_made, sorted-chosen}
use Rattle.lock_table.proofs.Claiming.{unclaimed_unasked, claim_by-unclaimed, claim_by-is_unclaimed, claim_by-ended, claim_by-beside, asked_beside}

-- lists by server
pub by_server : {X : Type 0} (f g : ℕ → X) → ((t : ℕ) → t < 16 → f t ≡ g t) → map f servers ≡ map g servers
unfolding servers
by_server {X} f g same = along 0 16 same
  where
    along : (a n : ℕ) → ((i : ℕ) → i < a + n → f i ≡ g i) → map f (range_with_len a n) ≡ map g (range_with_len a n)
    along a zero each = refl
    along a (suc n) each = λ i. each a (omega arith) i ∷ along (a + 1) n (λ t below. each t (omega arith)) i

pub at_server : {X : Type 0} (f : ℕ → X) (d : X) (t : ℕ) → t < 16 → get_or (map f servers) t d ≡ f t
unfolding servers
at_server f d t below = get_or-map-range_with_len f 0 16 t t d below (omega arith)

pub past_servers : {X : Type 0} (f : ℕ → X) (d : X) (t : ℕ) → 16 ≤ t → get_or (map f servers) t d ≡ d
unfolding servers
past_servers f d t past = get_or_past (map f (range_with_len 0 16)) t d (omega (arith, length-map-range_with_len f 0 16))

pub length-servers : {X : Type 0} (f : ℕ → X) → length (map f servers) ≡ 16
unfolding servers
length-servers f = length-map-range_with_len f 0 16

module _ {W : Type 0} (of : Claimed → Option W) (nothing : (claims : Claimed) → is_unclaimed claims ≡ true → of claims ≡ None) (empty : of unclaimed ≡ None) where
  -- what a lock's claims are made to is found at the lock
  pub listed : (lock : LockId) (entries : Entries) → IsStrictlySortedBy lock_cmp (keys_of entries) → lookup (is_lock lock) (chosen of entries) ≡ of (claimed_at entries lock)
  listed lock entries sorted = lookup-chosen of lock entries sorted ∙ go (lookup (is_lock lock) entries)
    where
      go : (o : Option Claimed) → made_of of o ≡ of (unwrap_or o unclaimed)
      go None = sym empty
      go (Some claims) = refl

  pub chosen-placed : (lock : LockId) (entries : Entries) → IsStrictlySortedBy lock_cmp (keys_of entries) → chosen of (placed entries lock) ≡ chosen of entries
  chosen-placed lock entries sorted = go (lookup (is_lock lock) entries) refl
    where
      go : (o : Option Claimed) → lookup (is_lock lock) entries ≡ o → chosen of (if is_some o then entries else insert_entry lock_cmp entries lock unclaimed) ≡ chosen of entries
      go (Some claims) is = refl
      go None is = chosen-insert of lock unclaimed entries sorted ∙ ap (with_made (chosen of entries) lock) empty ∙ nothing_removed locks.total lock (chosen of entries) (lookup-chosen of lock entries sorted ∙ ap (made_of of) is)

  pub chosen-replaced : (lock : LockId) (claims : Claimed) (reserved : Option LockId) (entries : Entries) → IsStrictlySortedBy lock_cmp (keys_of entries) → chosen of (replaced entries lock claims reserved) ≡ with_made (chosen of entries) lock (of claims)
  chosen-replaced lock claims reserved entries sorted = go (is_unclaimed claims) (is_reserved reserved lock) refl
    where
      go : (a b : Bool) → is_unclaimed claims ≡ a → chosen of (if not a || b then insert_entry lock_cmp entries lock claims else remove_entry (is_lock lock) entries) ≡ with_made (chosen of entries) lock (of claims)
      go false b is = chosen-insert of lock claims entries sorted
      go true true is = chosen-insert of lock claims entries sorted
      go true false is = chosen-remove of lock entries sorted ∙ sym (ap (with_made (chosen of entries) lock) (nothing claims is))

  pub chosen-tidied : (lock : LockId) (reserved : Option LockId) (entries : Entries) → IsStrictlySortedBy lock_cmp (keys_of entries) → chosen of (tidied entries lock reserved) ≡ chosen of entries
  chosen-tidied lock reserved entries sorted = go (is_unclaimed (claimed_at entries lock)) (is_reserved reserved lock) refl
    where
      go : (a b : Bool) → is_unclaimed (claimed_at entries lock) ≡ a → chosen of (if not a || b then entries else remove_entry (is_lock lock) entries) ≡ chosen of entries
      go false b is = refl
      go true true is = refl
      go true false is = chosen-remove of lock entries sorted ∙ nothing_removed locks.total lock (chosen of entries) (listed lock entries sorted ∙ nothing (claimed_at entries lock) is)

  -- an entry that isn't needed makes nothing
  unneeded : (reserved : Option LockId) (entry : LockId × Claimed) → is_needed reserved entry ≡ false → of entry.1 ≡ None
  unneeded reserved entry is = nothing entry.1 (go (is_unclaimed entry.1) (is_reserved reserved entry.0) is)
    where
      go : (a b : Bool) → (not a || b) ≡ false → a ≡ true
      go true b e = refl
      go false b e = sym e

  pub chosen-ended : (dead : ℕ) (reserved : Option LockId) (entries : Entries) → chosen of (ended_all entries dead reserved) ≡ chosen (λ claims. of (ended dead claims)) entries
  chosen-ended dead reserved entries = chosen-filter of (is_needed reserved) (unneeded reserved) (map (λ entry. (entry.0, ended dead entry.1)) entries) ∙ chosen-map of (ended dead) entries

-- ---- what the servers are asked for

pub unasked : (server : ℕ) (claims : Claimed) → is_unclaimed claims ≡ true → asked_by server claims ≡ None
unasked server claims none = unclaimed_unasked server claims (claim_by-is_unclaimed server claims none)

pub unasked_empty : (server : ℕ) → asked_by server unclaimed ≡ None
unasked_empty server = unclaimed_unasked server unclaimed (claim_by-unclaimed server)

pub asked_list : (entries : Entries) (server : ℕ) → server < 16 → get_or (asked_lists entries) server [] ≡ chosen (asked_by server) entries
asked_list entries server below = at_server (λ t. chosen (asked_by t) entries) [] server below

pub length-asked : (entries : Entries) (lists : List Asked) → lists ≡ asked_lists entries → length lists ≡ 16
length-asked entries lists same = ap length same ∙ length-servers (λ t. chosen (asked_by t) entries)

pub are_listed : (entries : Entries) → IsStrictlySortedBy lock_cmp (keys_of entries) → (lists : List Asked) → lists ≡ asked_lists entries → (lock : LockId) (claims : Claimed) → claimed_at entries lock ≡ claims → AreListed lists lock claims
are_listed entries sorted lists same lock claims is server below =
    let list = ap (λ ls. get_or ls server []) same ∙ asked_list entries server below in
    let found = listed (asked_by server) (unasked server) (unasked_empty server) lock entries sorted ∙ ap (asked_by server) is in
    record {
      found = ap (lookup (is_lock lock)) list ∙ found;
      same = ap (λ l. with_made l lock (asked_by server claims)) list ∙ ap (with_made (chosen (asked_by server) entries) lock) (sym found) ∙ same_made lock (chosen (asked_by server) entries) (sorted-chosen (asked_by server) entries sorted) ∙ sym list;
    }

-- where one server's wishes stay, only what it is asked for itself may change
pub settled_own : (lists : List Asked) (server : ℕ) (lock : LockId) (before now : Claimed) → length lists ≡ 16 → server < 16 → AreListed lists lock before → IsSameBeside server before now
    → (claim_by server now).wishes_shared ≡ (claim_by server before).wishes_shared → (claim_by server now).wishes_sole ≡ (claim_by server before).wishes_sole
    → set lists server (with_made (get_or lists server []) lock (asked_by server now)) ≡ settled lists lock now
unfolding servers
settled_own lists server lock before now long inside are beside shared sole = fill_by_all (λ t. with_made (get_or lists t []) lock (asked_by t now)) _ 16 [] (length-set lists server _ ∙ long) (λ t below. go t below (cases_eq t server))
  where
    go : (t : ℕ) → t < 16 → (t ≡ server) ⊎ (t ≡ server → ⊥) → get_or (set lists server (with_made (get_or lists server []) lock (asked_by server now))) t [] ≡ with_made (get_or lists t []) lock (asked_by t now)
    go t below (inl same) = ap (λ n. get_or (set lists server (with_made (get_or lists server []) lock (asked_by server now))) n []) same ∙ get_or-set_same lists server _ [] (omega (arith, long))
        ∙ sym (ap (λ n. with_made (get_or lists n []) lock (asked_by n now)) same)
    go t below (inr apart) = get_or-set_other lists server t _ [] apart ∙ sym (ap (with_made (get_or lists t []) lock) (asked_beside server before now beside shared sole t apart) ∙ (are t below).same)

pub asked-placed : (lock : LockId) (entries : Entries) → IsStrictlySortedBy lock_cmp (keys_of entries) → asked_lists (placed entries lock) ≡ asked_lists entries
asked-placed lock entries sorted = by_server _ _ (λ t below. chosen-placed (asked_by t) (unasked t) (unasked_empty t) lock entries sorted)

pub asked-tidied : (lock : LockId) (reserved : Option LockId) (entries : Entries) → IsStrictlySortedBy lock_cmp (keys_of entries) → asked_lists (tidied entries lock reserved) ≡ asked_lists entries
asked-tidied lock reserved entries sorted = by_server _ _ (λ t below. chosen-tidied (asked_by t) (unasked t) (unasked_empty t) lock reserved entries sorted)

pub asked-replaced : (lock : LockId) (claims : Claimed) (reserved : Option LockId) (entries : Entries) → IsStrictlySortedBy lock_cmp (keys_of entries) → settled (asked_lists entries) lock claims ≡ asked_lists (replaced entries lock claims reserved)
asked-replaced lock claims reserved entries sorted = by_server _ _ (λ t below.
    ap (λ list. with_made list lock (asked_by t claims)) (asked_list entries t below) ∙ sym (chosen-replaced (asked_by t) (unasked t) (unasked_empty t) lock claims reserved entries sorted))

-- who wasn't asked for a lock isn't where claims end
module _ (dead : ℕ) (claims : Claimed) where
  wish_before : (mode : Mode) (other : ℕ) → is_wished_in (claim_by other (ended dead claims)) mode ≡ true → is_wished_in (claim_by other claims) mode ≡ true
  wish_before mode other wished = go (cases_eq other dead)
    where
      go : (other ≡ dead) ⊎ (other ≡ dead → ⊥) → is_wished_in (claim_by other claims) mode ≡ true
      go (inl same) = absurd (false≢true (sym (none_wished mode) ∙ ap (λ claim. is_wished_in claim mode) (sym (claim_by-ended dead claims)) ∙ ap (λ t. is_wished_in (claim_by t (ended dead claims)) mode) (sym same) ∙ wished))
      go (inr apart) = ap (λ claim. is_wished_in claim mode) (sym (claim_by-beside dead claims no_claim other apart)) ∙ wished

  wished_before : (server : ℕ) (mode : Mode) → is_wished_beside server mode (ended dead claims) ≡ true → is_wished_beside server mode claims ≡ true
  unfolding any_server
  wished_before server mode wished =
      let found = passing_below (λ other. not (other == server) && is_wished_in (claim_by other (ended dead claims)) mode) 16 wished in
      some_below (λ other. not (other == server) && is_wished_in (claim_by other claims) mode) 16 found.0 found.1 (both (not (found.0 == server)) _ _ found.2 (wish_before mode found.0))
    where
      both : (a b c : Bool) → (a && b) ≡ true → (b ≡ true → c ≡ true) → (a && c) ≡ true
      both true b c e f = f e
      both false b c e f = absurd (false≢true e)

  pub unasked_before : (server : ℕ) → asked_by server claims ≡ None → asked_by server (ended dead claims) ≡ None
  unasked_before server none = go (cases_eq server dead)
    where
      fewer : (held : Option Mode) (a b c d : Bool) → (c ≡ true → a ≡ true) → (d ≡ true → b ≡ true) → asked_of held a b ≡ None → asked_of held c d ≡ None
      fewer None a b c d f g e = refl
      fewer (Some Sole) true b c d f g e = cc
      fewer (Some Sole) false true c d f g e = cc
      fewer (Some Sole) false false true d f g e = absurd (false≢true (f refl))
      fewer (Some Sole) false false false true f g e = absurd (false≢true (g refl))
      fewer (Some Sole) false false false false f g e = refl
      fewer (Some Shared) a true c d f g e = cc
      fewer (Some Shared) a false c true f g e = absurd (false≢true (g refl))
      fewer (Some Shared) a false c false f g e = refl

      go : (server ≡ dead) ⊎ (server ≡ dead → ⊥) → asked_by server (ended dead claims) ≡ None
      go (inl same) = unclaimed_unasked server (ended dead claims) (ap (λ t. claim_by t (ended dead claims)) same ∙ claim_by-ended dead claims)
      go (inr apart) = ap (λ claim. asked_of claim.held (is_wished_beside server Shared (ended dead claims)) (is_wished_beside server Sole (ended dead claims))) (claim_by-beside dead claims no_claim server apart)
          ∙ fewer (claim_by server claims).held (is_wished_beside server Shared claims) (is_wished_beside server Sole claims) _ _ (wished_before server Shared) (wished_before server Sole) none

pub asked-ended : (dead : ℕ) (reserved : Option LockId) (entries : Entries) → IsStrictlySortedBy lock_cmp (keys_of entries) → IsStrictlySortedBy lock_cmp (keys_of (ended_all entries dead reserved)) → renewed_all (asked_lists entries) (ended_all entries dead reserved) ≡ asked_lists (ended_all entries dead reserved)
asked-ended dead reserved entries sorted after = by_server _ _ (λ t below.
    ap (renewed t Left) (asked_list entries t below)
    ∙ rechosen (asked_by t) (λ claims. asked_by t (ended dead claims)) (λ lock. asked_by t (claimed_at Left lock)) (λ claims none. unasked_before dead claims t none) entries (each t entries (all_found entries sorted))
    ∙ sym (chosen-ended (asked_by t) (unasked t) (unasked_empty t) dead reserved entries))
  where
    Left : Entries
    Left = ended_all entries dead reserved

    at : (t : ℕ) (lock : LockId) (claims : Claimed) → lookup (is_lock lock) entries ≡ Some claims → asked_by t (claimed_at Left lock) ≡ asked_by t (ended dead claims)
    at t lock claims found = sym (listed (asked_by t) (unasked t) (unasked_empty t) lock Left after)
        ∙ ap (lookup (is_lock lock)) (chosen-ended (asked_by t) (unasked t) (unasked_empty t) dead reserved entries)
        ∙ lookup-chosen (λ c. asked_by t (ended dead c)) lock entries sorted ∙ ap (made_of (λ c. asked_by t (ended dead c))) found

    each : (t : ℕ) (some : Entries) → AllByRecursion (λ entry. lookup (is_lock entry.0) entries ≡ Some entry.1) some → AllByRecursion (λ entry. asked_by t (claimed_at Left entry.0) ≡ asked_by t (ended dead entry.1)) some
    each t [] all = tt
    each t (entry ∷ some) all = (at t entry.0 entry.1 all.0, each t some all.1)

-- nobody is asked for anything where there are no entries
pub asked-none : no_asked ≡ asked_lists []
unfolding servers no_asked
asked-none = refl
