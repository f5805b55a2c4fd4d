-- What becomes of the claims of the servers where a table that is the same, and notes no wish that conflicts with no holder, takes the place of another.
use Rattle.std.proofs.Common.{◌≡◌, ℕ, ◌+◌, Bool, true, false, not, ◌&&◌, ◌||◌, if◌then◌else◌, is_some, IsSome, IfSome, [], ◌∷◌, Option, Some, None, unwrap_or, refl, sym, ap, ◌∙◌, add-one}
use Rattle.std.specs.List.{AllByRecursion, cons_option}
use Rattle.std.specs.List.Sorted.{IsStrictlySortedBy}
use Rattle.std.specs.Map.{lookup, remove_entry, keys_of}
use Rattle.std.specs.BTreeMap.{insert_entry}
use Rattle.std.specs.Option.{option_map}
use Rattle.std.specs.declared.cmp.Ordering.TheVariants.{Less}
use Rattle.std.proofs.lemmas.Bool.{false≢true}
use Rattle.std.proofs.lemmas.List.FromFn.{fill_by_all}
use Rattle.std.proofs.lemmas.Map.Views.{IfSome-lookup_from_All}
use Rattle.frang_base.specs.declared.lock.LockId.{LockId}
use Rattle.frang_base.specs.declared.lock.Mode.{Mode}
use Rattle.frang_base.specs.declared.lock.Mode.TheVariants.{Shared, Sole}
use Rattle.lock_definitions.specs.declared.claim.Claim.{Claim}
use Rattle.lock_definitions.specs.Order.{lock_cmp, is_lock}
use Rattle.lock_definitions.specs.Locks.{Claims, Locks, no_claim, is_no_claim, claim_in, with_claim, claims_of, claim_of, held, is_wished, log_hold, AreClaims, AreLocks}
use Rattle.lock_definitions.specs.Calls.{is_free}
use Rattle.lock_definitions.specs.Same.{SameLocks, AllWishesWait}
use Rattle.lock_definitions.proofs.LockOrder.{found_lock, locks}
use Rattle.lock_table.specs.Asked.{servers, with_made}
use Rattle.lock_table.specs.Kept.{some_claim}
use Rattle.known_locks.specs.Beside.{again, renewed, renewed_all, place_behind}
use Rattle.known_locks.proofs.Walking.{next}
use Rattle.known_locks.proofs.SameEntries.{same_entries}

-- ---- one lock

-- a lock that is known needs no room
pub room_of_known : {V : Type 0} (o : Option V) → IsSome o → ◌≡◌ {A = ℕ} (if is_some o then 0 else 1) 0
room_of_known (Some v) some = refl
room_of_known None some = cc some

pub put_is_made : (claims : Claims) (lock : LockId) (claim : Claim) → with_claim claims lock claim ≡ with_made claims lock (some_claim claim)
put_is_made claims lock claim = go (is_no_claim claim)
  where
    go : (b : Bool) → (if b then remove_entry (is_lock lock) claims else insert_entry lock_cmp claims lock claim) ≡ with_made claims lock (if b then None else Some claim)
    go true = refl
    go false = refl

pub behind_is_next : (i : ℕ) (claim : Claim) → place_behind i claim ≡ next i (some_claim claim)
behind_is_next i claim = go (is_no_claim claim)
  where
    go : (b : Bool) → (if b then i else i + 1) ≡ next i (if b then None else Some claim)
    go true = refl
    go false = add-one i

-- ---- one server

module _ (now : LockId → Option Claim) (q : LockId) where
  -- of a lock that is listed it is said what is said now
  lookup-renewed : (claims : Claims) → lookup (is_lock q) (renewed now claims) ≡ (if is_some (lookup (is_lock q) claims) then now q else None)
  lookup-renewed [] = refl
  lookup-renewed (entry ∷ claims) = go (is_lock q entry.0) refl (now entry.0) refl (lookup-renewed claims)
    where
      nothing : (b : Bool) → now q ≡ None → (if b then now q else None) ≡ now q
      nothing true none = refl
      nothing false none = sym none

      go : (b : Bool) → is_lock q entry.0 ≡ b → (o : Option Claim) → now entry.0 ≡ o → lookup (is_lock q) (renewed now claims) ≡ (if is_some (lookup (is_lock q) claims) then now q else None)
          → lookup (is_lock q) (cons_option (option_map (λ a. (entry.0, a)) o) (renewed now claims)) ≡ (if is_some (if b then Some entry.1 else lookup (is_lock q) claims) then now q else None)
      go true same (Some a) is rest = ap (λ b. if b then Some a else lookup (is_lock q) (renewed now claims)) same ∙ sym is ∙ ap now (found_lock q entry.0 same)
      go true same None is rest = rest ∙ nothing (is_some (lookup (is_lock q) claims)) (ap now (sym (found_lock q entry.0 same)) ∙ is)
      go false apart (Some a) is rest = ap (λ b. if b then Some a else lookup (is_lock q) (renewed now claims)) apart ∙ rest
      go false apart None is rest = rest

all_renewed : (P : LockId → Type 0) (now : LockId → Option Claim) (claims : Claims) → AllByRecursion P (keys_of claims) → AllByRecursion P (keys_of (renewed now claims))
all_renewed P now [] all = tt
all_renewed P now (entry ∷ claims) all = go (now entry.0) (all_renewed P now claims all.1)
  where
    go : (o : Option Claim) → AllByRecursion P (keys_of (renewed now claims)) → AllByRecursion P (keys_of (cons_option (option_map (λ a. (entry.0, a)) o) (renewed now claims)))
    go None rest = rest
    go (Some a) rest = (all.0, rest)

sorted-renewed : (now : LockId → Option Claim) (claims : Claims) → IsStrictlySortedBy lock_cmp (keys_of claims) → IsStrictlySortedBy lock_cmp (keys_of (renewed now claims))
unfolding IsStrictlySortedBy
sorted-renewed now [] sorted = tt
sorted-renewed now (entry ∷ claims) sorted = go (now entry.0) (sorted-renewed now claims sorted.1)
  where
    go : (o : Option Claim) → IsStrictlySortedBy lock_cmp (keys_of (renewed now claims)) → IsStrictlySortedBy lock_cmp (keys_of (cons_option (option_map (λ a. (entry.0, a)) o) (renewed now claims)))
    go None rest = rest
    go (Some a) rest = (all_renewed (λ y. lock_cmp entry.0 y ≡ Less) now claims sorted.0, rest)

-- what is listed of a lock is its claim, where there is one
listed_claim : (claims : Claims) → AreClaims claims → (q : LockId) → lookup (is_lock q) claims ≡ some_claim (claim_in claims q)
listed_claim claims are q = go (lookup (is_lock q) claims) (IfSome-lookup_from_All (λ c. is_no_claim c ≡ false) (is_lock q) claims are.claimed)
  where
    go : (o : Option Claim) → IfSome o (λ c. is_no_claim c ≡ false) → o ≡ some_claim (unwrap_or o no_claim)
    go None is = refl
    go (Some c) is = sym (ap (λ b. if b then None else Some c) is)

-- ---- all servers

module _ (old new : Locks) (were : AreLocks old) (are : AreLocks new) (same : SameLocks old new) (wait : AllWishesWait new) where
  -- who had no claim has none
  none_new : (t : ℕ) (q : LockId) → claim_of old t q ≡ no_claim → is_no_claim (claim_of new t q) ≡ true
  none_new t q none = by (held new t q) (sym (same.held t q) ∙ ap (λ c. c.held) none) (is_wished new t q Shared) refl (is_wished new t q Sole) refl
    where
      unwished : (mode : Mode) → is_wished old t q mode ≡ false → is_wished new t q mode ≡ true → ⊥
      unwished mode is_not is = false≢true (sym (ap (λ w. w && not (is_free old t q mode)) is_not) ∙ same.wishes t q mode ∙ (λ i. is i && not (wait t q mode is i)))

      by : (h : Option Mode) → h ≡ None → (s : Bool) → is_wished new t q Shared ≡ s → (x : Bool) → is_wished new t q Sole ≡ x → not (is_some h || s || x) ≡ true
      by None e false is_s false is_x = refl
      by None e true is_s x is_x = absurd (unwished Shared (ap (λ c. c.wishes_shared) none) is_s)
      by None e false is_s true is_x = absurd (unwished Sole (ap (λ c. c.wishes_sole) none) is_x)
      by (Some mode) e s is_s x is_x = cc e

  renewed_claims : (t : ℕ) → renewed (again new t) (claims_of old t) ≡ claims_of new t
  renewed_claims t = same_entries locks (renewed (again new t) (claims_of old t)) (claims_of new t) (sorted-renewed (again new t) (claims_of old t) (were.claims t).ordered) (are.claims t).ordered
      (λ q. lookup-renewed (again new t) q (claims_of old t) ∙ go q (lookup (is_lock q) (claims_of old t)) refl ∙ sym (listed_claim (claims_of new t) (are.claims t) q))
    where
      go : (q : LockId) (o : Option Claim) → lookup (is_lock q) (claims_of old t) ≡ o → (if is_some o then again new t q else None) ≡ again new t q
      go q (Some c) is = refl
      go q None is = sym (ap (λ b. if b then None else Some (claim_of new t q)) (none_new t q (ap (λ o. unwrap_or o no_claim) is)))

  pub renewed_same : renewed_all new old.clerks ≡ new.clerks
  unfolding servers
  renewed_same = sym (fill_by_all (λ t. renewed (again new t) (claims_of old t)) new.clerks 16 [] are.servers (λ t below. sym (renewed_claims t)))

  pub logs_same : old.logs ≡ new.logs
  logs_same = fill_by_all (log_hold new) old.logs 256 None were.logs (λ dead below. same.logs dead) ∙ sym (fill_by_all (log_hold new) new.logs 256 None are.logs (λ dead below. refl))
