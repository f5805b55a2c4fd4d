-- As the world lets it pass.
use Rattle.frang_world.specs.States.{core_of}
use Rattle.hall_world.proofs.Standing.{enters}
use Rattle.hall_world.proofs.machine.HallWorldMachine.enter.Goals as goal

pub returns : goal.returns
returns c = enters (core_of c.args.self.now.world) (core_of c.enter.new.self) c.args.server c.enter.ensures.enters
