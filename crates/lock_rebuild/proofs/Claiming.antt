-- What a change of a server's claim on a lock makes of what each server holds and wishes of each lock.
use Rattle.std.proofs.Common.{◌≡◌, ℕ, ◌<◌, ◌==◌, Bool, true, false, if◌then◌else◌, [], Option, Some, None, refl, sym, ap, ◌∙◌, arith}
use Rattle.std.proofs.lemmas.Bool.Decides.{nat_tests}
use Rattle.frang_base.specs.declared.lock.LockId.{LockId}
use Rattle.frang_base.specs.declared.lock.Mode.{Mode}
use Rattle.lock_definitions.specs.declared.claim.Claim.{Claim}
use Rattle.lock_definitions.specs.declared.claim.Wanted.TheVariants.{Granted, Wait}
use Rattle.lock_definitions.specs.Order.{is_lock}
use Rattle.lock_definitions.specs.Locks.{Locks, claim_in, with_claim, claims_of, claim_of, held, is_wished, is_wished_in, AreLocks}
use Rattle.lock_definitions.specs.Calls.{answered, changed, granted, wishing, wanted, want_answer, is_free, holders}
use Rattle.std.proofs.lemmas.List.{get_or-set_same}
use Rattle.lock_definitions.proofs.Changes.{other_claims}
use Rattle.lock_definitions.proofs.ClaimLists.{claim_in-with_claim}
use Rattle.lock_definitions.proofs.LockOrder.{found_lock, is_lock_equiv}
use Rattle.lock_rebuild.specs.Lists.{stronger}
use Rattle.lock_rebuild.proofs.Modes.{stronger_none, granted_stronger, held_wishing, granted_unwished}

-- what a server holds of a lock by this alone
abbrev pub part : ℕ → LockId → Mode → ℕ → LockId → Option Mode
part s lock mode t q = if s == t then (if is_lock q lock then Some mode else None) else None

module _ (locks : Locks) (are : AreLocks locks) (s : ℕ) (inside : s < 16) (lock : LockId) (change : Claim → Claim) where
  pub claim_after : (t : ℕ) (q : LockId) → claim_of (changed locks s lock change) t q ≡ (if s == t then (if is_lock q lock then change (claim_of locks s lock) else claim_of locks t q) else claim_of locks t q)
  claim_after t q = go (s == t) refl
    where
      same : (s == t) ≡ true → s ≡ t
      same is = grind (arith, nat_tests)

      apart : (s == t) ≡ false → t ≡ s → ⊥
      apart is e = grind (arith, nat_tests)

      own : s ≡ t → claim_of (changed locks s lock change) t q ≡ (if is_lock q lock then change (claim_of locks s lock) else claim_of locks t q)
      own e = ap (λ n. claim_of (changed locks s lock change) n q) (sym e)
          ∙ ap (λ claims. claim_in claims q) (get_or-set_same locks.clerks s (with_claim (claims_of locks s) lock (change (claim_of locks s lock))) [] (omega (arith, inside, are.servers)))
          ∙ claim_in-with_claim (claims_of locks s) (are.claims s) lock q (change (claim_of locks s lock))
          ∙ ap (λ b. if b then change (claim_of locks s lock) else claim_of locks s q) (is_lock_equiv.symm lock q)
          ∙ ap (λ n. if is_lock q lock then change (claim_of locks s lock) else claim_of locks n q) e

      go : (b : Bool) → (s == t) ≡ b → claim_of (changed locks s lock change) t q ≡ (if b then (if is_lock q lock then change (claim_of locks s lock) else claim_of locks t q) else claim_of locks t q)
      go true is = own (same is)
      go false is = ap (λ claims. claim_in claims q) (other_claims locks s lock change t (apart is))

  -- a fact of the changed claim that follows from the claim as it was is one of all claims
  pub after : {A : Type 0} (f : Claim → A) (g : A → A) (t : ℕ) (q : LockId) → f (change (claim_of locks s lock)) ≡ g (f (claim_of locks s lock))
      → f (claim_of (changed locks s lock change) t q) ≡ (if s == t then (if is_lock q lock then g (f (claim_of locks t q)) else f (claim_of locks t q)) else f (claim_of locks t q))
  after f g t q is = ap f (claim_after t q) ∙ go (s == t) refl (is_lock q lock) refl
    where
      same : (s == t) ≡ true → s ≡ t
      same e = grind (arith, nat_tests)

      go : (b : Bool) → (s == t) ≡ b → (c : Bool) → is_lock q lock ≡ c
          → f (if b then (if c then change (claim_of locks s lock) else claim_of locks t q) else claim_of locks t q) ≡ (if b then (if c then g (f (claim_of locks t q)) else f (claim_of locks t q)) else f (claim_of locks t q))
      go false e c d = refl
      go true e false d = refl
      go true e true d = is ∙ ap (λ n. g (f (claim_of locks n lock))) (same e) ∙ ap (λ l. g (f (claim_of locks t l))) (found_lock q lock d)

module _ (locks : Locks) (are : AreLocks locks) (s : ℕ) (inside : s < 16) (lock : LockId) (mode : Mode) where
  -- a want that is granted adds the mode
  pub held_granted : is_free locks s lock mode ≡ true → (t : ℕ) (q : LockId) → held (wanted locks s lock mode) t q ≡ stronger (held locks t q) (part s lock mode t q)
  held_granted free t q =
      ap (λ b. held (changed locks s lock (answered (if b then Granted else Wait (holders locks s lock mode)) mode)) t q) free
      ∙ after locks are s inside lock (granted mode) (λ c. c.held) (λ h. stronger h (Some mode)) t q (granted_stronger mode (claim_of locks s lock))
      ∙ go (s == t) (is_lock q lock)
    where
      go : (b c : Bool) → (if b then (if c then stronger (held locks t q) (Some mode) else held locks t q) else held locks t q) ≡ stronger (held locks t q) (if b then (if c then Some mode else None) else None)
      go true true = refl
      go true false = sym (stronger_none (held locks t q))
      go false c = sym (stronger_none (held locks t q))

  -- a want that waits leaves what is held
  pub held_waiting : is_free locks s lock mode ≡ false → (t : ℕ) (q : LockId) → held (wanted locks s lock mode) t q ≡ held locks t q
  held_waiting taken t q =
      ap (λ b. held (changed locks s lock (answered (if b then Granted else Wait (holders locks s lock mode)) mode)) t q) taken
      ∙ after locks are s inside lock (wishing mode) (λ c. c.held) (λ h. h) t q (held_wishing mode (claim_of locks s lock))
      ∙ go (s == t) (is_lock q lock)
    where
      go : (b c : Bool) → (if b then (if c then held locks t q else held locks t q) else held locks t q) ≡ held locks t q
      go true true = refl
      go true false = refl
      go false c = refl

  -- a want that is granted leaves who wished nothing without a wish
  pub unwished_granted : is_free locks s lock mode ≡ true → (t : ℕ) (q : LockId) (w : Mode) → is_wished locks t q w ≡ false → is_wished (wanted locks s lock mode) t q w ≡ false
  unwished_granted free t q w none =
      ap (λ b. is_wished (changed locks s lock (answered (if b then Granted else Wait (holders locks s lock mode)) mode)) t q w) free
      ∙ ap (λ c. is_wished_in c w) (claim_after locks are s inside lock (granted mode) t q)
      ∙ go (s == t) refl (is_lock q lock) refl
    where
      same : (s == t) ≡ true → t ≡ s
      same e = grind (arith, nat_tests)

      go : (b : Bool) → (s == t) ≡ b → (c : Bool) → is_lock q lock ≡ c → is_wished_in (if b then (if c then granted mode (claim_of locks s lock) else claim_of locks t q) else claim_of locks t q) w ≡ false
      go true e true d = granted_unwished mode w (claim_of locks s lock) (sym (ap (λ n. is_wished locks n q w) (same e) ∙ ap (λ l. is_wished locks s l w) (sym (found_lock q lock d))) ∙ none)
      go true e false d = none
      go false e c d = none

  -- a want that waits leaves the wishes for other locks
  pub wishes_beside : (t : ℕ) (q : LockId) (w : Mode) → is_lock q lock ≡ false → is_wished (wanted locks s lock mode) t q w ≡ is_wished locks t q w
  wishes_beside t q w differ =
      ap (λ c. is_wished_in c w) (claim_after locks are s inside lock (answered (want_answer locks s lock mode) mode) t q)
      ∙ ap (λ c. is_wished_in (if s == t then (if c then answered (want_answer locks s lock mode) mode (claim_of locks s lock) else claim_of locks t q) else claim_of locks t q) w) differ
      ∙ go (s == t)
    where
      go : (b : Bool) → is_wished_in (if b then claim_of locks t q else claim_of locks t q) w ≡ is_wished locks t q w
      go true = refl
      go false = refl
