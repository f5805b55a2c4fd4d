-- What a change of one server's claim on one lock does to all claims of a state.
use Rattle.std.proofs.Common.{◌≡◌, ℕ, ◌<◌, ◌≤◌, Bool, true, false, if◌then◌else◌, [], length, refl, sym, ap, ◌∙◌, subst, inl, inr, ◌⊎◌}
use Rattle.std.proofs.lemmas.Bool.{cases_eq, cases_lt}
use Rattle.std.proofs.lemmas.List.{get_or-set_same, get_or-set_other, set_past, get_or_past}
use Rattle.frang_base.specs.declared.lock.LockId.{LockId}
use Rattle.lock_definitions.specs.declared.claim.Claim.{Claim}
use Rattle.lock_definitions.specs.Order.{is_lock}
use Rattle.lock_definitions.specs.Locks.{Locks, claim_in, with_claim, claims_of, claim_of, AreClaims}
use Rattle.lock_definitions.specs.Calls.{changed}
use Rattle.lock_definitions.proofs.LockOrder.{found_lock, is_lock_equiv}
use Rattle.lock_definitions.proofs.ClaimLists.{claim_in-with_claim, AreClaims-with_claim}

-- servers that aren't listed have no claims
pub claims_past : (locks : Locks) (s : ℕ) → length locks.clerks ≤ s → claims_of locks s ≡ []
claims_past locks s past = get_or_past locks.clerks s [] past

module _ (locks : Locks) (s : ℕ) (lock : LockId) (change : Claim → Claim) where
  own_claims : s < length locks.clerks → claims_of (changed locks s lock change) s ≡ with_claim (claims_of locks s) lock (change (claim_of locks s lock))
  own_claims inside = get_or-set_same locks.clerks s _ [] inside

  pub other_claims : (t : ℕ) → (t ≡ s → ⊥) → claims_of (changed locks s lock change) t ≡ claims_of locks t
  other_claims t apart = get_or-set_other locks.clerks s t _ [] apart

  pub past_claims : length locks.clerks ≤ s → (t : ℕ) → claims_of (changed locks s lock change) t ≡ claims_of locks t
  past_claims past t = ap (λ clerks. claims_of (record locks { clerks = clerks }) t) (set_past locks.clerks s _ past)

  pub own_claim : AreClaims (claims_of locks s) → s < length locks.clerks → claim_of (changed locks s lock change) s lock ≡ change (claim_of locks s lock)
  own_claim are inside = ap (λ claims. claim_in claims lock) (own_claims inside) ∙ claim_in-with_claim (claims_of locks s) are lock lock (change (claim_of locks s lock))
      ∙ ap (λ b. if b then change (claim_of locks s lock) else claim_of locks s lock) (is_lock_equiv.refl lock)

  -- each server's claims are claims again
  pub AreClaims-changed : ((t : ℕ) → AreClaims (claims_of locks t)) → (t : ℕ) → AreClaims (claims_of (changed locks s lock change) t)
  AreClaims-changed are t = go (cases_eq t s) (cases_lt s (length locks.clerks))
    where
      go : (t ≡ s) ⊎ (t ≡ s → ⊥) → (s < length locks.clerks) ⊎ (length locks.clerks ≤ s) → AreClaims (claims_of (changed locks s lock change) t)
      go (inl same) (inl inside) = subst (λ n. AreClaims (claims_of (changed locks s lock change) n)) (sym same) (subst AreClaims (sym (own_claims inside)) (AreClaims-with_claim (claims_of locks s) (are s) lock (change (claim_of locks s lock))))
      go (inl same) (inr past) = subst AreClaims (sym (past_claims past t)) (are t)
      go (inr apart) b = subst AreClaims (sym (other_claims t apart)) (are t)

  -- the changed claim
  pub record IsChanged (t : ℕ) (q : LockId) : Type 0 where
    pub same_server : t ≡ s
    pub inside : s < length locks.clerks
    pub same_lock : q ≡ lock
    pub claim : claim_of (changed locks s lock change) t q ≡ change (claim_of locks s lock)

  -- a claim is as it was, or is the changed one
  pub claim_of-changed : AreClaims (claims_of locks s) → (t : ℕ) (q : LockId) → IsChanged t q ⊎ (claim_of (changed locks s lock change) t q ≡ claim_of locks t q)
  claim_of-changed are t q = go (cases_eq t s) (cases_lt s (length locks.clerks))
    where
      own : s < length locks.clerks → claim_of (changed locks s lock change) s q ≡ (if is_lock lock q then change (claim_of locks s lock) else claim_of locks s q)
      own inside = ap (λ claims. claim_in claims q) (own_claims inside) ∙ claim_in-with_claim (claims_of locks s) are lock q (change (claim_of locks s lock))

      here : (b : Bool) → is_lock lock q ≡ b → t ≡ s → s < length locks.clerks → claim_of (changed locks s lock change) s q ≡ (if b then change (claim_of locks s lock) else claim_of locks s q)
          → IsChanged t q ⊎ (claim_of (changed locks s lock change) t q ≡ claim_of locks t q)
      here true found same inside is = inl (record { same_server = same; inside = inside; same_lock = found_lock lock q found; claim = ap (λ n. claim_of (changed locks s lock change) n q) same ∙ is })
      here false missed same inside is = inr (ap (λ n. claim_of (changed locks s lock change) n q) same ∙ is ∙ ap (λ n. claim_of locks n q) (sym same))

      go : (t ≡ s) ⊎ (t ≡ s → ⊥) → (s < length locks.clerks) ⊎ (length locks.clerks ≤ s) → IsChanged t q ⊎ (claim_of (changed locks s lock change) t q ≡ claim_of locks t q)
      go (inl same) (inl inside) = here (is_lock lock q) refl same inside (own inside)
      go (inl same) (inr past) = inr (ap (λ claims. claim_in claims q) (past_claims past t))
      go (inr apart) b = inr (ap (λ claims. claim_in claims q) (other_claims t apart))
