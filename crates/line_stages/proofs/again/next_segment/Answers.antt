-- By the locks of the set.
use Rattle.std.proofs.Common.{ap, ◌∙◌}
use Rattle.set_definitions.specs.Sets.{LockSet, next_segment}
use Rattle.line_stages.proofs.again.next_segment.Goals as goal

pub returns : goal.returns
returns c =
    let locks = c.args.table.now.locks in
    c.next_segment.ensures
    ∙ ap (λ number. next_segment c.args.segments locks number c.as_slice.result.now) c.id.ensures
    ∙ ap (λ (set : LockSet). next_segment c.args.segments locks c.args.server.now.id set) c.as_slice.ensures.locks
