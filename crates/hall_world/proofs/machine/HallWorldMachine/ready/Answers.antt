-- What an event asks of the core it asks at each moment whose core it is.
use Rattle.std.proofs.Common.{sym, subst}
use Rattle.frang_hall.specs.Machines.{AsksSo}
use Rattle.frang_world.specs.States.{core_of}
use Rattle.hall_world.proofs.Standing.{asks_so, has, same}
use Rattle.hall_world.proofs.machine.HallWorldMachine.ready.Goals as goal

pub returns-in-Ok-clause-same : goal.returns-in-Ok-clause-same
returns-in-Ok-clause-same c = same (core_of c.args.self.now.world) (core_of c.ready.new.self) c.ready.ensures.core

pub returns-in-Ok-clause-ready : goal.returns-in-Ok-clause-ready
returns-in-Ok-clause-ready c = (
  subst (λ k. AsksSo (has k) c.args.event.now c.in-Ok.call) (sym c.ready.ensures.core)
      (asks_so (core_of c.args.self.now.world) c.args.event.now c.in-Ok.call c.in-Ok.ensures.can c.in-Ok.ensures.asks),
  c.in-Ok.ensures.ready,
)

pub returns-in-Err-NoMemory-clause-same : goal.returns-in-Err-NoMemory-clause-same
returns-in-Err-NoMemory-clause-same c = same (core_of c.args.self.now.world) (core_of c.ready.new.self) c.ready.ensures.core
