-- What the map finds is the claim.
use Rattle.std.proofs.Common.{◌≡◌, ap, ◌∙◌, rules}
use Rattle.std.specs.Map.{lookup}
use Rattle.std.specs.BTreeMap.{is_at}
use Rattle.lock_definitions.specs.Order.{is_lock, lock_cmp}
use Rattle.frang_base.specs.declared.lock.LockId.{LockId}
use Rattle.frang_base.specs.contracts.lock.LockIdOrd.TheImpl.{cmp-value}
use Rattle.known_locks.proofs.clerk.Clerk.find.Goals as goal

-- the map compares locks so
compared : (a b : LockId) → cmp-value.it a b ≡ lock_cmp a b
compared a b = search rules

pub returns : goal.returns
returns c =
    c.copied.ensures ∙ c.get.ensures ∙ (λ i. lookup (is_at (λ other. compared c.args.lock other i)) c.self.inside.claims.entries)
    ∙ ap (λ clerk. lookup (is_lock c.args.lock) clerk.claims) c.self.view_is
