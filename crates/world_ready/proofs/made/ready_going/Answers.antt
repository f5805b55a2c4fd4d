-- As it is made ready for the event, whatever the host has read.
use Rattle.std.proofs.Common.{sym, subst}
use Rattle.hall_runs.specs.Asking.{event_of}
use Rattle.hall_runs.specs.declared.event.Event.{Event}
use Rattle.world_state.specs.States.{core_at}
use Rattle.world_ready.specs.Making.{IsMade}
use Rattle.world_ready.proofs.made.ready_going.Goals as goal

pub returns-in-Give-clause-made : goal.returns-in-Give-clause-made
returns-in-Give-clause-made c =
    let s = c.args.world.now in
    let Is : Event → Type 0 = λ event. IsMade (core_at s) s c.args.tree.now (event_of event) c.ready_give.result in
    subst Is (sym c.in-Give.is) (c.ready_give.ensures c.args.tree.now)

pub returns-in-Renew-clause-made : goal.returns-in-Renew-clause-made
returns-in-Renew-clause-made c =
    let s = c.args.world.now in
    let Is : Event → Type 0 = λ event. IsMade (core_at s) s c.args.tree.now (event_of event) c.ready_renew.result in
    subst Is (sym c.in-Renew.is) (c.ready_renew.ensures c.args.tree.now)

pub returns-in-Close-clause-made : goal.returns-in-Close-clause-made
returns-in-Close-clause-made c =
    let s = c.args.world.now in
    let Is : Event → Type 0 = λ event. IsMade (core_at s) s c.args.tree.now (event_of event) c.ready_close.result in
    subst Is (sym c.in-Close.is) (c.ready_close.ensures c.args.tree.now)
