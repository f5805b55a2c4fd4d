-- The list that lies ready is what is asked for.
use Rattle.std.proofs.Common.{ap, ◌∙◌}
use Rattle.lock_definitions.specs.Calls.{revokes}
use Rattle.lock_table.proofs.Viewing.{revokes_are}
use Rattle.lock_table.proofs.table.LockTable.asked.Goals as goal

pub returns : goal.returns
returns c = c.asked.ensures ∙ revokes_are c.self.inside.claims.entries c.self.invariant.ordered c.self.inside.logs c.args.server.0 ∙ ap (λ table. revokes table.locks c.args.server.0) c.self.view_is
