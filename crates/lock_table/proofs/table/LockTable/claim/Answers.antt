-- A claim is found among those on its lock.
use Rattle.std.proofs.Common.{ap, ◌∙◌}
use Rattle.lock_definitions.specs.Locks.{claim_of}
use Rattle.lock_table.proofs.Viewing.{claim_is}
use Rattle.lock_table.proofs.table.LockTable.claim.Goals as goal

pub returns-clause-claim : goal.returns-clause-claim
returns-clause-claim c =
    claim_is c.self.inside.claims.entries c.self.invariant.ordered c.self.inside.logs c.args.server.0 c.args.lock c.claim.result c.claim.ensures.claim c.claim.ensures.past
    ∙ ap (λ table. claim_of table.locks c.args.server.0 c.args.lock) c.self.view_is
