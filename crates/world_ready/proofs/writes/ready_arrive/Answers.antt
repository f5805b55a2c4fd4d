-- A write in flight, with room for what becomes of it.
use Rattle.std.proofs.Common.{sym, subst, ◌∙◌}
use Rattle.core_definitions.specs.Cores.{Core}
use Rattle.core_definitions.specs.Events.{Arrive}
use Rattle.hall_runs.specs.Asking.{Asks}
use Rattle.world_state.specs.States.{core_at}
use Rattle.world_ready.proofs.WriteReady.{arrives, arrives_not}
use Rattle.world_ready.proofs.writes.ready_arrive.Goals as goal

pub returns-then-not-may_arrive-clause-made : goal.returns-then-not-may_arrive-clause-made
returns-then-not-may_arrive-clause-made c = arrives_not (core_at c.args.world.now) c.args.world.now c.args.ticket (sym c.may_arrive.ensures ∙ c.if-not-may_arrive.true)

pub returns-clause-made : goal.returns-clause-made
returns-clause-made c =
    arrives (core_at c.args.world.now) c.ready_arrive.new.self c.args.ticket c.put_call.result (sym c.may_arrive.ensures ∙ c.if-not-may_arrive.false) c.in_ok-ready_arrive.ensures.ok
    (subst (λ (d : Core). Asks d (Arrive c.args.ticket.0) c.put_call.result) c.in_ok-ready_arrive.ensures.core c.put_call.ensures)
