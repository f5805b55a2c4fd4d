-- An arrival makes of the core what the event makes of it, by how the outside answered.
use Rattle.std.proofs.Common.{◌≡◌, subst}
use Rattle.core_definitions.specs.Calls.{MakePut, call_of}
use Rattle.core_definitions.specs.Events.{Arrive}
use Rattle.frang_world.specs.States.{core_of}
use Rattle.hall_world.proofs.Standing.{lands}
use Rattle.hall_world.proofs.machine.HallWorldMachine.arrive.Goals as goal

pub returns-clause-arrives : goal.returns-clause-arrives
returns-clause-arrives g c =
    λ r put at asks. (
      c.arrive.ensures.outcome put (subst (λ k. call_of k (Arrive c.args.ticket.0) ≡ MakePut c.args.ticket.0 put) at asks),
      lands (core_of c.args.self.now.world) (core_of c.arrive.new.self) c.args.ticket.0 c.arrive.result r at c.arrive.ensures.core,
    )
