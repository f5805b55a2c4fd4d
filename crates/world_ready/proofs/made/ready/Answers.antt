-- Nothing where it is over, and else what the event needs.
use Rattle.std.proofs.Common.{sym, ◌∙◌}
use Rattle.hall_runs.specs.Asking.{event_of}
use Rattle.world_state.specs.States.{core_at}
use Rattle.world_ready.specs.Making.{IsMade, Makes}
use Rattle.world_ready.proofs.AllReady.{makes, over_makes_nothing}
use Rattle.world_ready.proofs.Results.{if_ok}
use Rattle.world_ready.proofs.made.ready.Goals as goal

pub returns-then-is_over-clause-made : goal.returns-then-is_over-clause-made
returns-then-is_over-clause-made c = over_makes_nothing c.args.world.now c.args.tree.now (event_of c.args.event.now) (sym c.is_over.ensures.over ∙ c.if-is_over.true)

pub returns-clause-made : goal.returns-clause-made
returns-clause-made c =
    let old = c.args.world.now in
    let new = c.ready_going.new.world in
    let tree = c.ready_going.new.tree in
    let event = event_of c.args.event.now in
    if_ok (IsMade (core_at old) new tree event) (Makes new tree event) c.ready_going.result (makes old new tree event c.ready_going.ensures.core (sym c.is_over.ensures.over ∙ c.if-is_over.false)) c.ready_going.ensures.made
