-- What the claims on the lock say is what is asked for.
use Rattle.std.proofs.Common.{sym, ap, ◌∙◌}
use Rattle.lock_definitions.specs.Calls.{asked_for}
use Rattle.lock_table.proofs.Viewing.{asked_for_is}
use Rattle.lock_table.proofs.table.LockTable.asked_for.Goals as goal

pub returns : goal.returns
returns c =
    c.asked_for.ensures ∙ sym (asked_for_is c.self.inside.claims.entries c.self.invariant.ordered c.self.inside.logs c.args.server.0 c.requires c.args.lock)
    ∙ ap (λ table. asked_for table.locks c.args.server.0 c.args.lock) c.self.view_is
