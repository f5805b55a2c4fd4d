-- The locks of the entries of a lock table, as the definitions of locks see them.
use Rattle.std.proofs.Common.{◌≡◌, ℕ, ◌<◌, ◌≤◌, ◌==◌, Bool, true, false, not, ◌&&◌, ◌||◌, if◌then◌else◌, is_some, IsSome, List, [], ◌∷◌, map, set, get_or, Option, Some, None, unwrap_or, refl, sym, ap, ◌∙◌, subst, inl, inr, ◌⊎◌, arith}
use Rattle.std.specs.List.{AllByRecursion, filter_map}
use Rattle.std.specs.Option.{option_map}
use Rattle.std.specs.List.Sorted.{IsStrictlySortedBy}
use Rattle.std.specs.Map.{lookup, remove_entry, keys_of}
use Rattle.std.specs.BTreeMap.{insert_entry}
use Rattle.std.proofs.lemmas.Bool.{cases_eq, cases_lt, false≢true, or_right}
use Rattle.std.proofs.lemmas.List.{get_or-set_same, get_or-set_other, length-set}
use Rattle.std.proofs.lemmas.List.FromFn.{fill_by_all}
use Rattle.std.proofs.lemmas.Map.{lookup-remove_entry}
use Rattle.std.proofs.lemmas.Map.Keys.{IsDistinct-from_sorted}
use Rattle.frang_base.specs.declared.lock.LockId.{LockId}
use Rattle.frang_base.specs.declared.lock.Mode.{Mode}
use Rattle.frang_base.specs.declared.lock.Mode.TheVariants.{Shared, Sole}
use Rattle.sorted_entries.proofs.Sorted.{lookup-insert_entry}
use Rattle.lock_definitions.specs.declared.claim.Claim.{Claim}
use Rattle.lock_definitions.specs.declared.claim.LogHold.{LogHold}
use Rattle.lock_definitions.specs.Order.{lock_cmp, is_lock}
use Rattle.lock_definitions.specs.Locks.{Claims, Locks, no_claim, is_no_claim, claim_in, with_claim, claims_of, claim_of, held, is_wished_in, no_clerks, no_logs, no_locks}
use Rattle.lock_definitions.specs.Calls.{clashes, holders, changed, asked_of, is_wished_by_other, asked_for, revokes, want_answer, hold_not_by, cleared}
use Rattle.lock_definitions.specs.Holders.{is_unheld}
use Rattle.lock_definitions.proofs.ClaimLists.{nothing_claimed}
use Rattle.lock_definitions.proofs.LockOrder.{lock_total, is_lock_equiv}
use Rattle.lock_definitions.specs.declared.claim.Wanted.{Wanted}
use Rattle.lock_definitions.specs.declared.claim.Wanted.TheVariants.{Granted, Wait}
use Rattle.lock_definitions.proofs.Answers.{granted_without_bits, waits_with_bits}
use Rattle.lock_table.specs.Asked.{Claimed, Asked, servers, claim_by, is_unclaimed, unclaimed, is_held_by_none, holders_beside, is_wished_beside, asked_by, with_made}
use Rattle.lock_table.specs.Kept.{Entries, chosen, claimed_at, some_claim, claimed_by, clerks_of, asked_lists, is_needed, is_reserved, placed, replaced, freed, unreserved, ended, ended_all}
use Rattle.lock_table.specs.Table.{locks_of}
use Rattle.lock_table.proofs.Chosen.{chosen-alike, rechosen, all_found, same_made, sorted-chosen, chosen-none}
use Rattle.lock_table.proofs.Claiming.{any_server-same, server_bits-same, unlisted_unasked, claimed_by-none, claim_by-unclaimed, claim_by-is_unclaimed, claim_by-ended, claim_by-beside, not_some}
use Rattle.lock_table.proofs.Keeping.{by_server, at_server, past_servers, length-servers, listed, chosen-placed, chosen-replaced, chosen-tidied, chosen-ended}

-- ---- one server's claims

unlisted : (server : ℕ) (claims : Claimed) → is_unclaimed claims ≡ true → claimed_by server claims ≡ None
unlisted server claims none = claimed_by-none server claims (claim_by-is_unclaimed server claims none)

unlisted_empty : (server : ℕ) → claimed_by server unclaimed ≡ None
unlisted_empty server = claimed_by-none server unclaimed (claim_by-unclaimed server)

-- a claim is read off its list
claim_again : (claim : Claim) → unwrap_or (some_claim claim) no_claim ≡ claim
claim_again claim = go (is_no_claim claim) refl
  where
    go : (b : Bool) → is_no_claim claim ≡ b → unwrap_or (if b then None else Some claim) no_claim ≡ claim
    go true is = sym (nothing_claimed claim is)
    go false is = refl

-- a claim is put in its list
claim_put : (claims : Claims) (lock : LockId) (claim : Claim) → with_made claims lock (some_claim claim) ≡ with_claim claims lock claim
claim_put claims lock claim = go (is_no_claim claim)
  where
    go : (b : Bool) → with_made claims lock (if b then None else Some claim) ≡ (if b then remove_entry (is_lock lock) claims else insert_entry lock_cmp claims lock claim)
    go true = refl
    go false = refl

-- one server's element of a list by server
pub set_server : {X : Type 0} (f g : ℕ → X) (s : ℕ) (x : X) → g s ≡ x → ((t : ℕ) → (t ≡ s → ⊥) → g t ≡ f t) → map g servers ≡ set (map f servers) s x
unfolding servers
set_server {X} f g s x own others = sym (fill_by_all g (set (map f servers) s x) 16 x (length-set (map f servers) s x ∙ length-servers f) (λ t below. go t below (cases_eq t s)))
  where
    go : (t : ℕ) → t < 16 → (t ≡ s) ⊎ (t ≡ s → ⊥) → get_or (set (map f servers) s x) t x ≡ g t
    go t below (inl same) = ap (λ n. get_or (set (map f servers) s x) n x) same ∙ get_or-set_same (map f servers) s x x (omega (arith, length-servers f)) ∙ sym own ∙ ap g (sym same)
    go t below (inr apart) = get_or-set_other (map f servers) s t x x apart ∙ at_server f x t below ∙ sym (others t apart)

module _ (entries : Entries) (sorted : IsStrictlySortedBy lock_cmp (keys_of entries)) (logs : List (Option LogHold)) where
  claims_are : (t : ℕ) → t < 16 → claims_of (locks_of entries logs) t ≡ chosen (claimed_by t) entries
  claims_are t below = at_server (λ s. chosen (claimed_by s) entries) [] t below

  found_claim : (t : ℕ) (lock : LockId) → lookup (is_lock lock) (chosen (claimed_by t) entries) ≡ claimed_by t (claimed_at entries lock)
  found_claim t lock = listed (claimed_by t) (unlisted t) (unlisted_empty t) lock entries sorted

  pub claim_of_is : (t : ℕ) → t < 16 → (lock : LockId) → claim_of (locks_of entries logs) t lock ≡ claim_by t (claimed_at entries lock)
  claim_of_is t below lock = ap (λ claims. claim_in claims lock) (claims_are t below) ∙ ap (λ o. unwrap_or o no_claim) (found_claim t lock) ∙ claim_again (claim_by t (claimed_at entries lock))

  claims_past_all : (t : ℕ) → 16 ≤ t → claims_of (locks_of entries logs) t ≡ []
  claims_past_all t past = past_servers (λ s. chosen (claimed_by s) entries) [] t past

  pub claim_of_past : (t : ℕ) → 16 ≤ t → (lock : LockId) → claim_of (locks_of entries logs) t lock ≡ no_claim
  claim_of_past t past lock = ap (λ claims. claim_in claims lock) (claims_past_all t past)

  pub claim_is : (t : ℕ) (lock : LockId) (claim : Claim) → claim ≡ claim_by t (claimed_at entries lock) → (16 ≤ t → claim ≡ no_claim) → claim ≡ claim_of (locks_of entries logs) t lock
  claim_is t lock claim is past_is = go (cases_lt t 16)
    where
      go : (t < 16) ⊎ (16 ≤ t) → claim ≡ claim_of (locks_of entries logs) t lock
      go (inl below) = is ∙ sym (claim_of_is t below lock)
      go (inr past) = past_is past ∙ sym (claim_of_past t past lock)

  -- who holds a lock is one of the servers, and the lock has an entry
  pub held_place : (t : ℕ) (lock : LockId) → IsSome (held (locks_of entries logs) t lock) → (t < 16) × IsSome (lookup (is_lock lock) entries)
  held_place t lock some = go (cases_lt t 16)
    where
      there : t < 16 → (o : Option Claimed) → lookup (is_lock lock) entries ≡ o → IsSome o
      there below (Some claims) is = refl
      there below None is = absurd (not_some _ (ap (λ claim. claim.held) (claim_of_is t below lock ∙ ap (λ o. claim_by t (unwrap_or o unclaimed)) is ∙ claim_by-unclaimed t)) some)

      go : (t < 16) ⊎ (16 ≤ t) → (t < 16) × IsSome (lookup (is_lock lock) entries)
      go (inl below) = (below, there below (lookup (is_lock lock) entries) refl)
      go (inr past) = absurd (not_some _ (ap (λ claim. claim.held) (claim_of_past t past lock)) some)

  -- ---- what is answered

  pub holders_are : (server : ℕ) (lock : LockId) (mode : Mode) → holders_beside server mode (claimed_at entries lock) ≡ holders (locks_of entries logs) server lock mode
  holders_are server lock mode = server_bits-same _ _ (λ other below. ap (λ claim. not (other == server) && clashes mode claim.held) (sym (claim_of_is other below lock)))

  pub unheld_is : (lock : LockId) → is_held_by_none (claimed_at entries lock) ≡ is_unheld (locks_of entries logs) lock
  unheld_is lock = ap not (any_server-same _ _ (λ server below. ap (λ claim. is_some claim.held) (sym (claim_of_is server below lock))))

  wished_are : (server : ℕ) (lock : LockId) (mode : Mode) → is_wished_by_other (locks_of entries logs) server lock mode ≡ is_wished_beside server mode (claimed_at entries lock)
  wished_are server lock mode = any_server-same _ _ (λ other below. ap (λ claim. not (other == server) && is_wished_in claim mode) (claim_of_is other below lock))

  pub asked_for_is : (t : ℕ) → t < 16 → (lock : LockId) → asked_for (locks_of entries logs) t lock ≡ asked_by t (claimed_at entries lock)
  asked_for_is t below lock = λ i. asked_of (claim_of_is t below lock i).held (wished_are t lock Shared i) (wished_are t lock Sole i)

  -- what is asked for of these claims
  abbrev Revoked : ℕ → Claims → Asked
  Revoked t claims = filter_map (λ entry. option_map (λ asked. (entry.0, asked)) (asked_for (locks_of entries logs) t entry.0)) claims

  pub revokes_are : (t : ℕ) → get_or (asked_lists entries) t [] ≡ revokes (locks_of entries logs) t
  revokes_are t = go (cases_lt t 16)
    where
      again : t < 16 → (some : Entries) → AllByRecursion (λ entry. lookup (is_lock entry.0) entries ≡ Some entry.1) some → AllByRecursion (λ entry. asked_for (locks_of entries logs) t entry.0 ≡ asked_by t entry.1) some
      again below [] all = tt
      again below (entry ∷ some) all = (asked_for_is t below entry.0 ∙ ap (λ o. asked_by t (unwrap_or o unclaimed)) all.0, again below some all.1)

      go : (t < 16) ⊎ (16 ≤ t) → get_or (asked_lists entries) t [] ≡ revokes (locks_of entries logs) t
      go (inl below) = at_server (λ s. chosen (asked_by s) entries) [] t below
          ∙ sym (rechosen (claimed_by t) (asked_by t) (asked_for (locks_of entries logs) t) (unlisted_unasked t) entries (again below entries (all_found entries sorted)))
          ∙ ap (Revoked t) (sym (claims_are t below))
      go (inr past) = past_servers (λ s. chosen (asked_by s) entries) [] t past ∙ ap (Revoked t) (sym (claims_past_all t past))

  -- ---- what is left

  pub placed_same : (lock : LockId) → locks_of (placed entries lock) logs ≡ locks_of entries logs
  placed_same lock = ap (λ clerks. record { clerks = clerks; logs = logs }) (by_server _ _ (λ t below. chosen-placed (claimed_by t) (unlisted t) (unlisted_empty t) lock entries sorted))

  pub freed_same : (lock reserved : Option LockId) → locks_of (freed entries lock reserved) logs ≡ locks_of entries logs
  freed_same None reserved = refl
  freed_same (Some lock) reserved = ap (λ clerks. record { clerks = clerks; logs = logs }) (by_server _ _ (λ t below. chosen-tidied (claimed_by t) (unlisted t) (unlisted_empty t) lock reserved entries sorted))

  pub changed_is : (reserved : Option LockId) (s : ℕ) (lock : LockId) (before : Claimed) (claim : Claim) (change : Claim → Claim) → s < 16 → lookup (is_lock lock) entries ≡ Some before → claim_by s (set before s claim) ≡ claim → claim ≡ change (claim_by s before)
      → locks_of (replaced entries lock (set before s claim) reserved) logs ≡ changed (locks_of entries logs) s lock change
  changed_is reserved s lock before claim change inside found own is = ap (λ clerks. record { clerks = clerks; logs = logs }) (set_server (λ t. chosen (claimed_by t) entries) (λ t. chosen (claimed_by t) (replaced entries lock (set before s claim) reserved)) s _ at_own at_others)
    where
      before_is : claimed_at entries lock ≡ before
      before_is = ap (λ o. unwrap_or o unclaimed) found

      changed_claim : claim ≡ change (claim_of (locks_of entries logs) s lock)
      changed_claim = is ∙ ap (λ claims. change (claim_by s claims)) (sym before_is) ∙ ap change (sym (claim_of_is s inside lock))

      left : (t : ℕ) → chosen (claimed_by t) (replaced entries lock (set before s claim) reserved) ≡ with_made (chosen (claimed_by t) entries) lock (claimed_by t (set before s claim))
      left t = chosen-replaced (claimed_by t) (unlisted t) (unlisted_empty t) lock (set before s claim) reserved entries sorted

      at_own : chosen (claimed_by s) (replaced entries lock (set before s claim) reserved) ≡ with_claim (claims_of (locks_of entries logs) s) lock (change (claim_of (locks_of entries logs) s lock))
      at_own = left s ∙ ap (λ c. with_made (chosen (claimed_by s) entries) lock (some_claim c)) own ∙ claim_put (chosen (claimed_by s) entries) lock claim
          ∙ ap (λ claims. with_claim claims lock claim) (sym (claims_are s inside)) ∙ ap (with_claim (claims_of (locks_of entries logs) s) lock) changed_claim

      at_others : (t : ℕ) → (t ≡ s → ⊥) → chosen (claimed_by t) (replaced entries lock (set before s claim) reserved) ≡ chosen (claimed_by t) entries
      at_others t apart = left t ∙ ap (λ c. with_made (chosen (claimed_by t) entries) lock (some_claim c)) (claim_by-beside s before claim t apart ∙ ap (claim_by t) (sym before_is))
          ∙ ap (with_made (chosen (claimed_by t) entries) lock) (sym (found_claim t lock)) ∙ same_made lock (chosen (claimed_by t) entries) (sorted-chosen (claimed_by t) entries sorted)

  pub cleared_is : (dead : ℕ) (reserved : Option LockId) (left : List (Option LogHold)) → left ≡ set (map (hold_not_by dead) logs) dead None → locks_of (ended_all entries dead reserved) left ≡ cleared (locks_of entries logs) dead
  cleared_is dead reserved left logs_are = λ i. record { clerks = clerks_are i; logs = logs_are i }
    where
      ending : (t : ℕ) → chosen (claimed_by t) (ended_all entries dead reserved) ≡ chosen (λ claims. claimed_by t (ended dead claims)) entries
      ending t = chosen-ended (claimed_by t) (unlisted t) (unlisted_empty t) dead reserved entries

      clerks_are : clerks_of (ended_all entries dead reserved) ≡ set (clerks_of entries) dead []
      clerks_are = set_server (λ t. chosen (claimed_by t) entries) (λ t. chosen (claimed_by t) (ended_all entries dead reserved)) dead []
          (ending dead ∙ chosen-none (λ claims. claimed_by dead (ended dead claims)) (λ claims. claimed_by-none dead (ended dead claims) (claim_by-ended dead claims)) entries)
          (λ t apart. ending t ∙ chosen-alike (λ claims. claimed_by t (ended dead claims)) (claimed_by t) (λ claims. ap some_claim (claim_by-beside dead claims no_claim t apart)) entries)

-- a want's answer, by the bits of those who wait
pub answer_is : (state : Locks) (server : ℕ) (lock : LockId) (mode : Mode) (bits : ℕ) (answer : Wanted) → bits ≡ holders state server lock mode → (bits ≡ 0 → answer ≡ Granted) → ((bits ≡ 0 → ⊥) → answer ≡ Wait bits) → answer ≡ want_answer state server lock mode
answer_is state server lock mode bits answer is granted waits = go (cases_eq bits 0)
  where
    go : (bits ≡ 0) ⊎ (bits ≡ 0 → ⊥) → answer ≡ want_answer state server lock mode
    go (inl none) = granted none ∙ sym (granted_without_bits state server lock mode (sym is ∙ none))
    go (inr some) = waits some ∙ ap Wait is ∙ sym (waits_with_bits state server lock mode (λ none. some (is ∙ none)))

-- nothing is held, wished or taken where there are no entries
pub none_are : locks_of [] no_logs ≡ no_locks
unfolding servers no_clerks
none_are = refl

-- ---- the place of the reserved lock

module _ (entries : Entries) (sorted : IsStrictlySortedBy lock_cmp (keys_of entries)) where
  placed_lookup : (lock q : LockId) (o : Option Claimed) → lookup (is_lock lock) entries ≡ o → IsSome (lookup (is_lock q) entries) → IsSome (lookup (is_lock q) (if is_some o then entries else insert_entry lock_cmp entries lock unclaimed))
  placed_lookup lock q (Some claims) is some = some
  placed_lookup lock q None is some = inserted (is_lock q lock) refl
    where
      inserted : (b : Bool) → is_lock q lock ≡ b → IsSome (lookup (is_lock q) (insert_entry lock_cmp entries lock unclaimed))
      inserted true here = subst IsSome (sym (lookup-insert_entry lock_total lock unclaimed q entries ∙ ap (λ b. if b then Some unclaimed else lookup (is_lock q) entries) here)) refl
      inserted false away = subst IsSome (sym (lookup-insert_entry lock_total lock unclaimed q entries ∙ ap (λ b. if b then Some unclaimed else lookup (is_lock q) entries) away)) some

  pub placed_keeps : (lock q : LockId) → IsSome (lookup (is_lock q) entries) → IsSome (lookup (is_lock q) (placed entries lock))
  placed_keeps lock q some = placed_lookup lock q (lookup (is_lock lock) entries) refl some

  pub inserted_keeps : (lock q : LockId) (claims : Claimed) → IsSome (lookup (is_lock q) entries) → IsSome (lookup (is_lock q) (insert_entry lock_cmp entries lock claims))
  inserted_keeps lock q claims some = go (is_lock q lock) refl
    where
      go : (b : Bool) → is_lock q lock ≡ b → IsSome (lookup (is_lock q) (insert_entry lock_cmp entries lock claims))
      go true here = subst IsSome (sym (lookup-insert_entry lock_total lock claims q entries ∙ ap (λ b. if b then Some claims else lookup (is_lock q) entries) here)) refl
      go false away = subst IsSome (sym (lookup-insert_entry lock_total lock claims q entries ∙ ap (λ b. if b then Some claims else lookup (is_lock q) entries) away)) some

  -- what isn't reserved goes, and the reserved one stays
  removed_keeps : (lock q : LockId) → is_lock q lock ≡ false → IsSome (lookup (is_lock q) entries) → IsSome (lookup (is_lock q) (remove_entry (is_lock lock) entries))
  removed_keeps lock q away some = subst IsSome
      (sym (lookup-remove_entry is_lock_equiv (is_lock lock) (λ x y at. is_lock_equiv.congr lock x y at) q entries (IsDistinct-from_sorted lock_cmp _ sorted) ∙ ap (λ b. if b then None else lookup (is_lock q) entries) (is_lock_equiv.symm lock q ∙ away))) some

  needed_keeps : (reserved : Option LockId) (lock q : LockId) (claims : Claimed) → reserved ≡ Some q → IsSome (lookup (is_lock q) entries) → (b : Bool) → is_needed reserved (lock, claims) ≡ b → (others : Entries) → IsSome (lookup (is_lock q) others)
      → IsSome (lookup (is_lock q) (if b then others else remove_entry (is_lock lock) entries))
  needed_keeps reserved lock q claims is some true needed others kept = kept
  needed_keeps reserved lock q claims is some false needed others kept = removed_keeps lock q (away (is_unclaimed claims) (is_lock q lock) (ap (λ r. not (is_unclaimed claims) || is_reserved r lock) (sym is) ∙ needed)) some
    where
      away : (a b : Bool) → (not a || b) ≡ false → b ≡ false
      away true b e = e
      away false b e = absurd (false≢true (sym e))

  pub replaced_keeps : (reserved : Option LockId) (lock q : LockId) (claims : Claimed) → reserved ≡ Some q → IsSome (lookup (is_lock q) entries) → IsSome (lookup (is_lock q) (replaced entries lock claims reserved))
  replaced_keeps reserved lock q claims is some = needed_keeps reserved lock q claims is some (is_needed reserved (lock, claims)) refl (insert_entry lock_cmp entries lock claims) (inserted_keeps lock q claims some)

  pub freed_keeps : (lock reserved : Option LockId) (q : LockId) → reserved ≡ Some q → IsSome (lookup (is_lock q) entries) → IsSome (lookup (is_lock q) (freed entries lock reserved))
  freed_keeps None reserved q is some = some
  freed_keeps (Some lock) reserved q is some = needed_keeps reserved lock q (claimed_at entries lock) is some (is_needed reserved (lock, claimed_at entries lock)) refl entries some

-- the lock of an entry that is put stays
pub kept_reserved : (entries : Entries) (lock : LockId) (claims : Claimed) → replaced entries lock claims (Some lock) ≡ insert_entry lock_cmp entries lock claims
kept_reserved entries lock claims = ap (λ b. if b then insert_entry lock_cmp entries lock claims else remove_entry (is_lock lock) entries) (go (is_unclaimed claims) (is_lock lock lock) (is_lock_equiv.refl lock))
  where
    go : (a b : Bool) → b ≡ true → (not a || b) ≡ true
    go true b e = e
    go false b e = refl

pub unreserved_keeps : (reserved : Option LockId) (lock q : LockId) → unreserved reserved lock ≡ Some q → reserved ≡ Some q
unreserved_keeps reserved lock q is = go (is_reserved reserved lock) is
  where
    go : (b : Bool) → (if b then None else reserved) ≡ Some q → reserved ≡ Some q
    go true e = cc
    go false e = e

pub ended_keeps : (dead : ℕ) (reserved : Option LockId) (q : LockId) → reserved ≡ Some q → (entries : Entries) → IsSome (lookup (is_lock q) entries) → IsSome (lookup (is_lock q) (ended_all entries dead reserved))
ended_keeps dead reserved q is [] some = some
ended_keeps dead reserved q is (entry ∷ entries) some = go (is_lock q entry.0) refl some (is_needed reserved (entry.0, ended dead entry.1)) refl (ended_keeps dead reserved q is entries)
  where
    Left : Entries
    Left = ended_all entries dead reserved

    needed : is_lock q entry.0 ≡ true → is_needed reserved (entry.0, ended dead entry.1) ≡ true
    needed here = or_right (not (is_unclaimed (ended dead entry.1))) (is_reserved reserved entry.0) (ap (λ r. is_reserved r entry.0) is ∙ here)

    go : (b : Bool) → is_lock q entry.0 ≡ b → IsSome (if b then Some entry.1 else lookup (is_lock q) entries) → (n : Bool) → is_needed reserved (entry.0, ended dead entry.1) ≡ n → (IsSome (lookup (is_lock q) entries) → IsSome (lookup (is_lock q) Left))
        → IsSome (lookup (is_lock q) (if n then (entry.0, ended dead entry.1) ∷ Left else Left))
    go true here some true n rest = subst IsSome (sym (ap (λ b. if b then Some (ended dead entry.1) else lookup (is_lock q) Left) here)) refl
    go true here some false n rest = absurd (false≢true (sym n ∙ needed here))
    go false away some true n rest = subst IsSome (sym (ap (λ b. if b then Some (ended dead entry.1) else lookup (is_lock q) Left) away)) (rest some)
    go false away some false n rest = rest some
