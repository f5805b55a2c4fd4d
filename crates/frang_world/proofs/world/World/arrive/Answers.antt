-- The write that is ready arrives.
use Rattle.std.proofs.Common.{◌≡◌, subst, ap, ◌∙◌}
use Rattle.core_definitions.specs.Calls.{call_of}
use Rattle.core_definitions.specs.Cores.{Core}
use Rattle.core_definitions.specs.Events as core
use Rattle.petal_disk.specs.Flights.{Flights}
use Rattle.petal_disk.specs.Flying.{puts}
use Rattle.world_state.specs.Arrivals.{Arrives}
use Rattle.world_next.specs.Over.{core_over}
use Rattle.frang_world.specs.States.{State, core_of}
use Rattle.frang_world.proofs.Arriving.{arrives_over, arrives_stay, outcome_over}
use Rattle.frang_world.proofs.Fitting.{arrival_ready}
use Rattle.frang_world.proofs.Keeping.{kept_beside}
use Rattle.frang_world.proofs.world.World.arrive.Goals as goal

pub arrive-requires-clause-flies : goal.arrive-requires-clause-flies
arrive-requires-clause-flies g c = (arrival_ready c.self.inside.world c.self.inside.tree c.self.inside.ready c.args.self.now c.args.ticket.0 c.self.view_is c.requires c.self.invariant.fits).flies

pub arrive-requires-clause-room : goal.arrive-requires-clause-room
arrive-requires-clause-room g c = (arrival_ready c.self.inside.world c.self.inside.tree c.self.inside.ready c.args.self.now c.args.ticket.0 c.self.view_is c.requires c.self.invariant.fits).room

pub invariant_of-self : goal.invariant_of-self
invariant_of-self g c =
    kept_beside c.self.inside.world c.arrive.new.self c.self.inside.tree (arrives_stay c.self.inside.world c.arrive.new.self c.args.ticket.0 c.arrive.result c.arrive.ensures.core) c.self.invariant c.put_ready.new.ready
    c.put_ready.ensures

pub returns-clause-outcome : goal.returns-clause-outcome
returns-clause-outcome g c = λ put asked.
    let P : Flights → Type 0 = λ flights. flights.writes ≡ puts flights.flying in
    outcome_over c.self.inside.world c.self.inside.tree (g.O.Outside.state c.args.out.now) (g.O.Outside.state c.arrive.new.out) c.args.ticket c.arrive.result c.a_write_is_the_cores.ensures.asked
    (subst P c.flights.ensures c.count-count.ensures.puts) c.arrive.ensures.outcome put
    (ap (λ (s : State). call_of (core_of s) (core.Arrive c.args.ticket.0)) c.self.view_is ∙ asked)

pub returns-clause-core : goal.returns-clause-core
returns-clause-core g c =
    let s = c.self.inside.world in
    let tree = c.self.inside.tree in
    let now : Core = core_over c.arrive.new.self tree in
    let P : State → Type 0 = λ s. Arrives (core_of s) now c.args.ticket.0 c.arrive.result in
    subst P c.self.view_is (arrives_over s c.arrive.new.self tree c.args.ticket.0 c.arrive.result c.arrive.ensures.core)
