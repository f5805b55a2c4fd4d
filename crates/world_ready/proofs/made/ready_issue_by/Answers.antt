-- Nothing of one that is neither a server nor the host.
use Rattle.std.proofs.Common.{sym, ◌∙◌}
use Rattle.world_state.specs.States.{core_at}
use Rattle.world_ready.proofs.OwnReady.{issues_nothing}
use Rattle.world_ready.proofs.made.ready_issue_by.Goals as goal

pub returns-else-eq-clause-made : goal.returns-else-eq-clause-made
returns-else-eq-clause-made c =
    issues_nothing (core_at c.args.world.now) c.args.world.now c.args.by.0 (sym c.is_server.ensures ∙ c.if-is_server.false) c.args.sector.0 (sym c.eq.ensures ∙ c.if-eq.false)
