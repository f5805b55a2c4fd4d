-- Each call of a lock table leaves the state of a lock table, and only a want gives a server a lock.
use Rattle.std.proofs.Common.{◌≡◌, ℕ, ◌<◌, ◌≤◌, ◌==◌, Bool, true, false, ◌&&◌, if◌then◌else◌, is_some, List, [], ◌∷◌, length, map, set, Option, Some, None, sym, ap, ◌∙◌, subst, inl, inr, ◌⊎◌, arith}
use Rattle.std.specs.List.Sorted.{IsStrictlySortedBy}
use Rattle.std.proofs.lemmas.Bool.{cases_eq, cases_lt, false≢true, or_parts, and_from}
use Rattle.std.proofs.lemmas.Bool.Decides.{nat_tests}
use Rattle.std.proofs.lemmas.List.{get_or-set_same, get_or-set_other, set_past, get_or-replicate, length-set, length-map, length-replicate}
use Rattle.frang_base.specs.declared.lock.LockId.{LockId}
use Rattle.frang_base.specs.declared.lock.Mode.{Mode}
use Rattle.lock_definitions.specs.declared.claim.Claim.{Claim}
use Rattle.lock_definitions.specs.declared.claim.LogHold.{LogHold}
use Rattle.lock_definitions.specs.Order.{is_lock}
use Rattle.lock_definitions.specs.Locks.{Claims, Locks, claim_in, claims_of, claim_of, held, no_clerks, no_logs, no_locks, AreCompatible, AreClaims, AreLocks}
use Rattle.lock_definitions.specs.Calls.{answered, want_answer, changed, given_up, shared, wanted, released, downgraded, log_taken_by, hold_of, taken, hold_extended, extended, hold_not_by, cleared}
use Rattle.lock_definitions.specs.Runs.{LockCall, after_call, after_calls, is_want, asks}
use Rattle.lock_definitions.specs.Runs.LockCall.{Want, Release, Downgrade, TakeLog, Extend, Clear}
use Rattle.lock_definitions.proofs.LockOrder.{is_lock_equiv}
use Rattle.lock_definitions.proofs.Changes.{claims_past, claim_of-changed, own_claim, past_claims, AreClaims-changed, IsChanged}
use Rattle.lock_definitions.proofs.Compatibility.{AreCompatible-no_more, AreCompatible-wanted, released_no_more, downgraded_no_more, cleared_no_more}

-- no claims are claims
pub AreClaims-none : AreClaims []
unfolding IsStrictlySortedBy
AreClaims-none = record { ordered = tt; claimed = λ k d below. absurd (omega arith) }

-- ---- the fresh state

no_claims : (server : ℕ) → claims_of no_locks server ≡ []
unfolding no_clerks no_logs
no_claims server = go (cases_lt server 16)
  where
    go : (server < 16) ⊎ (16 ≤ server) → claims_of no_locks server ≡ []
    go (inl below) = get_or-replicate 16 server [] [] below
    go (inr above) = claims_past no_locks server (omega (arith, length-replicate {A = Claims} 16 []))

pub AreLocks-no_locks : AreLocks no_locks
unfolding no_clerks no_logs
AreLocks-no_locks = record {
  servers = length-replicate {A = Claims} 16 [];
  logs = length-replicate {A = Option LogHold} 256 None;
  claims = λ server. subst AreClaims (sym (no_claims server)) AreClaims-none;
  compatible = λ a b lock apart sole. ap (λ claims. (claim_in claims lock).held) (no_claims b);
}

-- ---- each call

module _ (locks : Locks) (are : AreLocks locks) where
  AreLocks-changed : (s : ℕ) (lock : LockId) (change : Claim → Claim) → AreCompatible (changed locks s lock change) → AreLocks (changed locks s lock change)
  AreLocks-changed s lock change compatible = record {
    servers = length-set locks.clerks s _ ∙ are.servers;
    logs = are.logs;
    claims = AreClaims-changed locks s lock change are.claims;
    compatible = compatible;
  }

  pub AreLocks-wanted : (s : ℕ) (lock : LockId) (mode : Mode) → AreLocks (wanted locks s lock mode)
  AreLocks-wanted s lock mode = AreLocks-changed s lock (answered (want_answer locks s lock mode) mode) (AreCompatible-wanted locks are s lock mode)

  pub AreLocks-released : (s : ℕ) (lock : LockId) → AreLocks (released locks s lock)
  AreLocks-released s lock = AreLocks-changed s lock given_up (AreCompatible-no_more _ locks (released_no_more locks s lock (are.claims s)) are.compatible)

  pub AreLocks-downgraded : (s : ℕ) (lock : LockId) → AreLocks (downgraded locks s lock)
  AreLocks-downgraded s lock = AreLocks-changed s lock shared (AreCompatible-no_more _ locks (downgraded_no_more locks s lock (are.claims s)) are.compatible)

  AreLocks-logs : (logs : List (Option LogHold)) → length logs ≡ length locks.logs → AreLocks (record locks { logs = logs })
  AreLocks-logs logs same = record { servers = are.servers; logs = same ∙ are.logs; claims = are.claims; compatible = are.compatible }

  pub AreLocks-taken : (dead by now expiry : ℕ) → AreLocks (taken locks dead by now expiry)
  AreLocks-taken dead by now expiry = go (is_some (log_taken_by locks dead by now))
    where
      go : (b : Bool) → AreLocks (if b then locks else record locks { logs = set locks.logs dead (Some (hold_of by expiry)) })
      go true = are
      go false = AreLocks-logs _ (length-set locks.logs dead _)

  pub AreLocks-extended : (by expiry : ℕ) → AreLocks (extended locks by expiry)
  AreLocks-extended by expiry = AreLocks-logs _ (length-map locks.logs (hold_extended by expiry))

  pub AreLocks-cleared : (dead : ℕ) → AreLocks (cleared locks dead)
  AreLocks-cleared dead = record {
    servers = length-set locks.clerks dead [] ∙ are.servers;
    logs = length-set (map (hold_not_by dead) locks.logs) dead None ∙ length-map locks.logs (hold_not_by dead) ∙ are.logs;
    claims = λ t. claims t (cases_eq t dead) (cases_lt dead (length locks.clerks));
    compatible = AreCompatible-no_more _ locks (cleared_no_more locks dead) are.compatible;
  }
    where
      claims : (t : ℕ) → (t ≡ dead) ⊎ (t ≡ dead → ⊥) → (dead < length locks.clerks) ⊎ (length locks.clerks ≤ dead) → AreClaims (claims_of (cleared locks dead) t)
      claims t (inl same) (inl inside) = subst (λ n. AreClaims (claims_of (cleared locks dead) n)) (sym same) (subst AreClaims (sym (get_or-set_same locks.clerks dead [] [] inside)) AreClaims-none)
      claims t (inl same) (inr past) = subst AreClaims (sym (ap (λ clerks. claims_of (record locks { clerks = clerks }) t) (set_past locks.clerks dead [] past))) (are.claims t)
      claims t (inr apart) b = subst AreClaims (sym (get_or-set_other locks.clerks dead t [] [] apart)) (are.claims t)

  pub AreLocks-after_call : (call : LockCall) → AreLocks (after_call locks call)
  AreLocks-after_call (Want server lock mode) = AreLocks-wanted server lock mode
  AreLocks-after_call (Release server lock) = AreLocks-released server lock
  AreLocks-after_call (Downgrade server lock) = AreLocks-downgraded server lock
  AreLocks-after_call (TakeLog dead by now expiry) = AreLocks-taken dead by now expiry
  AreLocks-after_call (Extend by expiry) = AreLocks-extended by expiry
  AreLocks-after_call (Clear dead) = AreLocks-cleared dead

  -- ---- who asks for nothing gets nothing

  unasked_want : (asker : ℕ) (asked : LockId) (mode : Mode) (t : ℕ) (q : LockId) → is_want t q (Want asker asked mode) ≡ false → held locks t q ≡ None → held (wanted locks asker asked mode) t q ≡ None
  unasked_want asker asked mode t q unasked none = go (claim_of-changed locks asker asked (answered (want_answer locks asker asked mode) mode) (are.claims asker) t q)
    where
      asks_so : (t ≡ asker) → q ≡ asked → (asker == t && is_lock q asked) ≡ true
      asks_so same here = and_from (asker == t) (is_lock q asked) (grind (arith, nat_tests)) (ap (λ l. is_lock l asked) here ∙ is_lock_equiv.refl asked)

      go : IsChanged locks asker asked (answered (want_answer locks asker asked mode) mode) t q ⊎ (claim_of (wanted locks asker asked mode) t q ≡ claim_of locks t q) → held (wanted locks asker asked mode) t q ≡ None
      go (inl at) = absurd (false≢true (sym unasked ∙ asks_so at.same_server at.same_lock))
      go (inr same) = ap (λ c. c.held) same ∙ none

  pub unasked_call : (call : LockCall) (t : ℕ) (q : LockId) → is_want t q call ≡ false → held locks t q ≡ None → held (after_call locks call) t q ≡ None
  unasked_call (Want asker asked mode) t q unasked none = unasked_want asker asked mode t q unasked none
  unasked_call (Release server lock) t q unasked none = (released_no_more locks server lock (are.claims server) t q).none none
  unasked_call (Downgrade server lock) t q unasked none = (downgraded_no_more locks server lock (are.claims server) t q).none none
  unasked_call (TakeLog dead by now expiry) t q unasked none = go (is_some (log_taken_by locks dead by now))
    where
      go : (b : Bool) → held (if b then locks else record locks { logs = set locks.logs dead (Some (hold_of by expiry)) }) t q ≡ None
      go true = none
      go false = none
  unasked_call (Extend by expiry) t q unasked none = none
  unasked_call (Clear dead) t q unasked none = (cleared_no_more locks dead t q).none none

  -- who gives up a lock doesn't hold it
  pub held-released : (server : ℕ) (lock : LockId) → held (released locks server lock) server lock ≡ None
  held-released server lock = go (cases_lt server (length locks.clerks))
    where
      go : (server < length locks.clerks) ⊎ (length locks.clerks ≤ server) → held (released locks server lock) server lock ≡ None
      go (inl inside) = ap (λ c. c.held) (own_claim locks server lock given_up (are.claims server) inside)
      go (inr past) = ap (λ claims. (claim_in claims lock).held) (past_claims locks server lock given_up past server ∙ claims_past locks server past)

-- ---- any calls

pub AreLocks-after_calls : (locks : Locks) → AreLocks locks → (calls : List LockCall) → AreLocks (after_calls locks calls)
AreLocks-after_calls locks are [] = are
AreLocks-after_calls locks are (call ∷ calls) = AreLocks-after_calls (after_call locks call) (AreLocks-after_call locks are call) calls

pub unasked_calls : (locks : Locks) → AreLocks locks → (calls : List LockCall) (t : ℕ) (q : LockId) → asks t q calls ≡ false → held locks t q ≡ None → held (after_calls locks calls) t q ≡ None
unasked_calls locks are [] t q unasked none = none
unasked_calls locks are (call ∷ calls) t q unasked none = unasked_calls (after_call locks call) (AreLocks-after_call locks are call) calls t q (or_parts (is_want t q call) (asks t q calls) unasked).1
    (unasked_call locks are call t q (or_parts (is_want t q call) (asks t q calls) unasked).0 none)
