-- What a change of one claim does to a server's claims.
use Rattle.std.proofs.Common.{◌≡◌, Bool, true, false, not, ◌||◌, if◌then◌else◌, is_some, Option, Some, None, unwrap_or, refl, sym, ap, ◌∙◌}
use Rattle.std.specs.Map.{lookup, remove_entry}
use Rattle.std.specs.BTreeMap.{insert_entry}
use Rattle.std.proofs.lemmas.Map.{lookup-remove_entry}
use Rattle.std.proofs.lemmas.Map.Keys.{IsDistinct-from_sorted}
use Rattle.std.proofs.lemmas.Map.Views.{All-values-insert_entry, All-map-remove_entry}
use Rattle.frang_base.specs.declared.lock.LockId.{LockId}
use Rattle.frang_base.specs.declared.lock.Mode.{Mode}
use Rattle.lock_definitions.specs.declared.claim.Claim.{Claim}
use Rattle.lock_definitions.specs.Order.{lock_cmp, is_lock}
use Rattle.lock_definitions.specs.Locks.{Claims, no_claim, is_no_claim, claim_in, with_claim, AreClaims}
use Rattle.lock_definitions.proofs.LockOrder.{lock_total, is_lock_equiv}
use Rattle.sorted_entries.proofs.Sorted.{sorted-insert_entry, sorted-remove_entry, lookup-insert_entry}

pub nothing_claimed : (claim : Claim) → is_no_claim claim ≡ true → claim ≡ no_claim
nothing_claimed claim none = by claim.held claim.wishes_shared claim.wishes_sole none
  where
    by : (held : Option Mode) (wishes_shared wishes_sole : Bool) → not (is_some held || wishes_shared || wishes_sole) ≡ true → record { held = held; wishes_shared = wishes_shared; wishes_sole = wishes_sole } ≡ no_claim
    by None false false none = refl
    by None false true none = cc
    by None true wishes_sole none = cc
    by (Some mode) wishes_shared wishes_sole none = cc

pub claim_in-with_claim : (claims : Claims) → AreClaims claims → (lock q : LockId) (claim : Claim) → claim_in (with_claim claims lock claim) q ≡ (if is_lock lock q then claim else claim_in claims q)
claim_in-with_claim claims are lock q claim = go (is_no_claim claim) refl
  where
    removed : (b : Bool) → claim ≡ no_claim → unwrap_or (if b then None else lookup (is_lock q) claims) no_claim ≡ (if b then claim else claim_in claims q)
    removed true none = sym none
    removed false none = refl

    inserted : (b : Bool) → unwrap_or (if b then Some claim else lookup (is_lock q) claims) no_claim ≡ (if b then claim else claim_in claims q)
    inserted true = refl
    inserted false = refl

    go : (b : Bool) → is_no_claim claim ≡ b → claim_in (if b then remove_entry (is_lock lock) claims else insert_entry lock_cmp claims lock claim) q ≡ (if is_lock lock q then claim else claim_in claims q)
    go true none =
        ap (λ o. unwrap_or o no_claim) (lookup-remove_entry is_lock_equiv (is_lock lock) (λ x y at. is_lock_equiv.congr lock x y at) q claims (IsDistinct-from_sorted lock_cmp _ are.ordered))
        ∙ removed (is_lock lock q) (nothing_claimed claim none)
    go false some =
        ap (λ o. unwrap_or o no_claim) (lookup-insert_entry lock_total lock claim q claims) ∙ inserted (is_lock q lock)
        ∙ ap (λ b. if b then claim else claim_in claims q) (is_lock_equiv.symm q lock)

pub AreClaims-with_claim : (claims : Claims) → AreClaims claims → (lock : LockId) (claim : Claim) → AreClaims (with_claim claims lock claim)
AreClaims-with_claim claims are lock claim = go (is_no_claim claim) refl
  where
    go : (b : Bool) → is_no_claim claim ≡ b → AreClaims (if b then remove_entry (is_lock lock) claims else insert_entry lock_cmp claims lock claim)
    go true none = record {
      ordered = sorted-remove_entry lock_cmp (is_lock lock) claims are.ordered;
      claimed = All-map-remove_entry (is_lock lock) (λ entry. entry.1) (λ c. is_no_claim c ≡ false) claims are.claimed;
    }
    go false some = record {
      ordered = sorted-insert_entry lock_total lock claim claims are.ordered;
      claimed = All-values-insert_entry lock_cmp lock claim (λ c. is_no_claim c ≡ false) claims are.claimed some;
    }
