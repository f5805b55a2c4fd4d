-- What the world picks is enabled, and at its place, at each moment whose core it is.
use Rattle.frang_world.specs.States.{core_of}
use Rattle.hall_world.proofs.Standing.{none_listed, same, some_drawn, some_listed}
use Rattle.hall_world.proofs.machine.HallWorldMachine.pick_drawn.Goals as goal

pub returns-clause-same : goal.returns-clause-same
returns-clause-same c = same (core_of c.args.self.now.world) (core_of c.next_drawn.new.self) c.next_drawn.ensures.core

pub returns-clause-some : goal.returns-clause-some
returns-clause-some c = some_listed (core_of c.next_drawn.new.self) c.next_drawn.result c.next_drawn.ensures.some

pub returns-clause-drawn : goal.returns-clause-drawn
returns-clause-drawn c = some_drawn (core_of c.next_drawn.new.self) c.args.draw c.next_drawn.result c.next_drawn.ensures.drawn

pub returns-clause-none : goal.returns-clause-none
returns-clause-none c = λ none. none_listed (core_of c.next_drawn.new.self) (c.next_drawn.ensures.none none)
