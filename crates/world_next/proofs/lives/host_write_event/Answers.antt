-- A write that may be issued, or none.
use Rattle.core_definitions.specs.Scripts.{host_party}
use Rattle.world_next.specs.Over.{core_over}
use Rattle.world_next.proofs.Living.{issues, issues_nothing}
use Rattle.world_next.proofs.lives.host_write_event.Goals as goal

pub returns-in-Some : goal.returns-in-Some
returns-in-Some c = λ tree. issues (core_over c.args.world.now tree) host_party c.in-Some.sector.0 c.in-Some.ensures

pub returns-in-None : goal.returns-in-None
returns-in-None c = λ tree. issues_nothing (core_over c.args.world.now tree) host_party c.in-None.ensures
