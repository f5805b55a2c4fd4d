-- What is listed as held is made of the claims.
use Rattle.std.proofs.Common.{◌≡◌, Option, Some, None, unwrap_or, refl, ◌∙◌}
use Rattle.std.specs.Map.{lookup}
use Rattle.lock_definitions.specs.declared.claim.Claim.{Claim}
use Rattle.lock_definitions.specs.Order.{is_lock}
use Rattle.lock_definitions.specs.Locks.{no_claim, claims_of}
use Rattle.lock_table.proofs.Chosen.{made_of, lookup-chosen, sorted-chosen}
use Rattle.known_locks.proofs.laws.parties_list_what_they_hold.Goals as goal

pub returns : goal.returns
returns c = record {
  held = λ locks are party lock. lookup-chosen (λ (claim : Claim). claim.held) lock (claims_of locks party) (are.claims party).ordered ∙ none_or (lookup (is_lock lock) (claims_of locks party));
  ordered = λ locks are party. sorted-chosen (λ (claim : Claim). claim.held) (claims_of locks party) (are.claims party).ordered;
}
  where
    none_or : (o : Option Claim) → made_of (λ (claim : Claim). claim.held) o ≡ (unwrap_or o no_claim).held
    none_or None = refl
    none_or (Some claim) = refl
