-- A step makes of the core what the event makes of it; nothing of what it is told answers an arrival.
use Rattle.frang_world.specs.States.{core_of}
use Rattle.hall_world.proofs.Standing.{no_arrival, no_step, steps}
use Rattle.hall_world.proofs.machine.HallWorldMachine.step.Goals as goal

pub returns-in-Arrive : goal.returns-in-Arrive
returns-in-Arrive c = no_step (core_of c.args.self.now.world) (core_of c.args.self.now.world) c.args.event.now c.in-Arrive.field-0 c.args.heard.now c.in-Arrive.is

pub step-requires-clause-other : goal.step-requires-clause-other
step-requires-clause-other c = no_arrival c.args.event.now c.in_default.not-Arrive

pub returns-in_default : goal.returns-in_default
returns-in_default c = steps (core_of c.args.self.now.world) (core_of c.step.new.self) c.args.event.now c.args.heard.now c.step.ensures.core
