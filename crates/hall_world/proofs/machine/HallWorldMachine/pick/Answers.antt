-- What the world picks is enabled at each moment whose core it is.
use Rattle.frang_world.specs.States.{core_of}
use Rattle.hall_world.proofs.Standing.{none_listed, same, some_listed}
use Rattle.hall_world.proofs.machine.HallWorldMachine.pick.Goals as goal

pub returns-clause-same : goal.returns-clause-same
returns-clause-same c = same (core_of c.args.self.now.world) (core_of c.next.new.self) c.next.ensures.core

pub returns-clause-some : goal.returns-clause-some
returns-clause-some c = some_listed (core_of c.next.new.self) c.next.result c.next.ensures.some

pub returns-clause-none : goal.returns-clause-none
returns-clause-none c = λ none. none_listed (core_of c.next.new.self) (c.next.ensures.none none)
