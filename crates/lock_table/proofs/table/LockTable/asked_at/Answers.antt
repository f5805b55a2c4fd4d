-- What lies ready at a place is what is asked for there.
use Rattle.std.proofs.Common.{ap, ◌∙◌}
use Rattle.std.specs.List.{slice_get}
use Rattle.lock_definitions.specs.Calls.{revokes}
use Rattle.lock_table.proofs.Viewing.{revokes_are}
use Rattle.lock_table.proofs.table.LockTable.asked_at.Goals as goal

pub returns : goal.returns
returns c =
    c.asked_at.ensures ∙ ap (λ asked. slice_get asked c.args.place) (revokes_are c.self.inside.claims.entries c.self.invariant.ordered c.self.inside.logs c.args.server.0)
    ∙ ap (λ table. slice_get (revokes table.locks c.args.server.0) c.args.place) c.self.view_is
