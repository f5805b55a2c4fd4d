-- The first that lies ready is the first of what is asked for.
use Rattle.std.proofs.Common.{ap, ◌∙◌}
use Rattle.std.specs.List.{slice_get}
use Rattle.lock_definitions.specs.Calls.{revokes}
use Rattle.lock_table.proofs.Viewing.{revokes_are}
use Rattle.lock_table.proofs.table.LockTable.first_asked.Goals as goal

pub returns : goal.returns
returns c =
    c.first_asked.ensures ∙ ap (λ asked. slice_get asked 0) (revokes_are c.self.inside.claims.entries c.self.invariant.ordered c.self.inside.logs c.args.server.0)
    ∙ ap (λ table. slice_get (revokes table.locks c.args.server.0) 0) c.self.view_is
