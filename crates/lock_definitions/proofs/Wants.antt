-- What a want leaves of the claim that it is about, and what a clearing leaves of a server.
use Rattle.std.proofs.Common.{◌≡◌, ℕ, ◌<◌, ◌≤◌, ◌==◌, Bool, true, false, not, ◌&&◌, if◌then◌else◌, List, [], length, map, set, get_or, Option, Some, None, refl, sym, ap, ◌∙◌, inl, inr, ◌⊎◌, arith}
use Rattle.std.proofs.lemmas.Bool.{cases_lt, false≢true}
use Rattle.std.proofs.lemmas.Bool.Decides.{nat_tests}
use Rattle.std.proofs.lemmas.List.{get_or-set_same, get_or-set_other, set_past, get_or_past, length-map, get_or-map}
use Rattle.frang_base.specs.declared.lock.LockId.{LockId}
use Rattle.frang_base.specs.declared.lock.Mode.{Mode}
use Rattle.frang_base.specs.declared.lock.Mode.TheVariants.{Shared, Sole}
use Rattle.lock_definitions.specs.declared.claim.Claim.{Claim}
use Rattle.lock_definitions.specs.declared.claim.LogHold.{LogHold}
use Rattle.lock_definitions.specs.declared.claim.Wanted.TheVariants.{Granted, Wait}
use Rattle.lock_definitions.specs.Locks.{Locks, claims_of, claim_of, held, is_wished_in, is_wished, no_claim, log_hold, AreLocks}
use Rattle.lock_definitions.specs.Calls.{serves, clashes, conflicts, want_answer, answered, holding, granted, wishing, wanted, hold_not_by, cleared}
use Rattle.lock_definitions.proofs.Changes.{claims_past, own_claim}
use Rattle.lock_definitions.proofs.Answers.{granted_exactly}

-- no claim wishes for anything
pub none_wished : (mode : Mode) → is_wished_in no_claim mode ≡ false
none_wished Shared = refl
none_wished Sole = refl

-- ---- claims

granted_serves : (mode : Mode) (claim : Claim) → (serves (granted mode claim).held mode ≡ true) × (is_wished_in (granted mode claim) mode ≡ false)
granted_serves mode claim = by mode (serves claim.held Sole)
  where
    by : (m : Mode) (b : Bool) → (serves (if b then holding Sole claim else holding m claim).held m ≡ true) × (is_wished_in (if b then holding Sole claim else holding m claim) m ≡ false)
    by Shared true = (refl, refl)
    by Shared false = (refl, refl)
    by Sole true = (refl, refl)
    by Sole false = (refl, refl)

wishing_notes : (mode : Mode) (claim : Claim) → (is_wished_in (wishing mode claim) mode ≡ true) × ((wishing mode claim).held ≡ claim.held)
wishing_notes Shared claim = (refl, refl)
wishing_notes Sole claim = (refl, refl)

served_stays : (mode : Mode) (claim : Claim) → serves claim.held mode ≡ true → (granted mode claim).held ≡ claim.held
served_stays mode claim served = by mode claim.held served refl
  where
    by : (m : Mode) (h : Option Mode) → serves h m ≡ true → claim.held ≡ h → (granted m claim).held ≡ claim.held
    by m None e is = absurd (false≢true e)
    by m (Some Sole) e is = ap (λ o. (if serves o Sole then holding Sole claim else holding m claim).held) is ∙ sym is
    by Shared (Some Shared) e is = ap (λ o. (if serves o Sole then holding Sole claim else holding Shared claim).held) is ∙ sym is
    by Sole (Some Shared) e is = absurd (false≢true e)

-- ---- wants

module _ (locks : Locks) (are : AreLocks locks) (s : ℕ) (lock : LockId) (mode : Mode) where
  -- the own claim after a want
  left_by_want : s < 16 → claim_of (wanted locks s lock mode) s lock ≡ answered (want_answer locks s lock mode) mode (claim_of locks s lock)
  left_by_want inside = own_claim locks s lock (answered (want_answer locks s lock mode) mode) (are.claims s) (omega (arith, are.servers))

  pub grant_serves : s < 16 → want_answer locks s lock mode ≡ Granted → (serves (held (wanted locks s lock mode) s lock) mode ≡ true) × (is_wished (wanted locks s lock mode) s lock mode ≡ false)
  grant_serves inside answer =
      let left = left_by_want inside ∙ ap (λ a. answered a mode (claim_of locks s lock)) answer in
      (ap (λ c. serves c.held mode) left ∙ (granted_serves mode (claim_of locks s lock)).0, ap (λ c. is_wished_in c mode) left ∙ (granted_serves mode (claim_of locks s lock)).1)

  pub wait_notes : s < 16 → (others : ℕ) → want_answer locks s lock mode ≡ Wait others → (is_wished (wanted locks s lock mode) s lock mode ≡ true) × (held (wanted locks s lock mode) s lock ≡ held locks s lock)
  wait_notes inside others answer =
      let left = left_by_want inside ∙ ap (λ a. answered a mode (claim_of locks s lock)) answer in
      (ap (λ c. is_wished_in c mode) left ∙ (wishing_notes mode (claim_of locks s lock)).0, ap (λ c. c.held) left ∙ (wishing_notes mode (claim_of locks s lock)).1)

  -- a hold that serves the want leaves no holder that conflicts
  unopposed : serves (held locks s lock) mode ≡ true → (other : ℕ) → conflicts locks s lock mode other ≡ false
  unopposed served other = go (other == s) refl
    where
      apart : (other == s) ≡ false → other ≡ s → ⊥
      apart is same = grind (arith, nat_tests)

      none_clashes : (m : Mode) (h : Option Mode) → h ≡ None → clashes m h ≡ false
      none_clashes m h none = ap (clashes m) none

      by : (m : Mode) (own theirs : Option Mode) → held locks s lock ≡ own → held locks other lock ≡ theirs → serves own m ≡ true → (other ≡ s → ⊥) → clashes m theirs ≡ false
      by m None theirs own_is theirs_is e away = absurd (false≢true e)
      by m (Some Sole) theirs own_is theirs_is e away = none_clashes m theirs (sym theirs_is ∙ are.compatible s other lock away own_is)
      by Sole (Some Shared) theirs own_is theirs_is e away = absurd (false≢true e)
      by Shared (Some Shared) None own_is theirs_is e away = refl
      by Shared (Some Shared) (Some Shared) own_is theirs_is e away = refl
      by Shared (Some Shared) (Some Sole) own_is theirs_is e away = cc (are.compatible other s lock (λ same. away (sym same)) theirs_is, own_is)

      go : (b : Bool) → (other == s) ≡ b → (not b && clashes mode (held locks other lock)) ≡ false
      go true is = refl
      go false is = by mode (held locks s lock) (held locks other lock) refl refl served (apart is)

  pub own_hold_serves : s < 16 → serves (held locks s lock) mode ≡ true → (want_answer locks s lock mode ≡ Granted) × (held (wanted locks s lock mode) s lock ≡ held locks s lock)
  own_hold_serves inside served =
      let answer = (granted_exactly locks are s lock mode).1 (unopposed served) in
      (answer, ap (λ c. c.held) (left_by_want inside ∙ ap (λ a. answered a mode (claim_of locks s lock)) answer) ∙ served_stays mode (claim_of locks s lock) served)

-- ---- a cleared server

pub no_claims_left : (locks : Locks) → AreLocks locks → (dead : ℕ) → claims_of (cleared locks dead) dead ≡ []
no_claims_left locks are dead = go (cases_lt dead (length locks.clerks))
  where
    go : (dead < length locks.clerks) ⊎ (length locks.clerks ≤ dead) → claims_of (cleared locks dead) dead ≡ []
    go (inl inside) = get_or-set_same locks.clerks dead [] [] inside
    go (inr past) = ap (λ clerks. get_or clerks dead []) (set_past locks.clerks dead [] past) ∙ claims_past locks dead past

module _ (locks : Locks) (dead : ℕ) where
  not_by_dead : (hold : Option LogHold) (h : LogHold) → hold_not_by dead hold ≡ Some h → h.by.0 ≡ dead → ⊥
  not_by_dead None h e same = cc
  not_by_dead (Some hold) h e same = go (hold.by.0 == dead) refl e
    where
      differ : (hold.by.0 == dead) ≡ false → hold.by.0 ≡ dead → ⊥
      differ is equal = grind (arith, nat_tests)

      go : (b : Bool) → (hold.by.0 == dead) ≡ b → (if b then None else Some hold) ≡ Some h → ⊥
      go true is found = cc
      go false is found = differ is (ap (λ o. taker o) found ∙ same)
        where
          taker : Option LogHold → ℕ
          taker None = 0
          taker (Some x) = x.by.0

  -- a log that is still taken is another's, and is not the dead server's own
  pub no_logs_left : (log : ℕ) (h : LogHold) → log_hold (cleared locks dead) log ≡ Some h → (h.by.0 ≡ dead → ⊥) × (log ≡ dead → ⊥)
  no_logs_left log h taken = (by, own)
    where
      Kept : List (Option LogHold)
      Kept = map (hold_not_by dead) locks.logs

      own : log ≡ dead → ⊥
      own same = go (cases_lt dead (length Kept))
        where
          go : (dead < length Kept) ⊎ (length Kept ≤ dead) → ⊥
          go (inl inside) = cc (sym (ap (λ n. get_or (set Kept dead None) n None) same ∙ get_or-set_same Kept dead None None inside) ∙ taken)
          go (inr past) = cc (sym (ap (λ n. get_or (set Kept dead None) n None) same ∙ ap (λ logs. get_or logs dead None) (set_past Kept dead None past) ∙ get_or_past Kept dead None past) ∙ taken)

      by : h.by.0 ≡ dead → ⊥
      by same = at (cases_lt log (length locks.logs))
        where
          left : log_hold (cleared locks dead) log ≡ get_or Kept log None
          left = get_or-set_other Kept dead log None None own

          at : (log < length locks.logs) ⊎ (length locks.logs ≤ log) → ⊥
          at (inl inside) = not_by_dead (get_or locks.logs log None) h (sym (get_or-map (hold_not_by dead) locks.logs log None None inside) ∙ sym left ∙ taken) same
          at (inr past) = cc (sym (left ∙ get_or_past Kept log None (omega (arith, length-map locks.logs (hold_not_by dead)))) ∙ taken)
