-- By what the slots of the host's recovery say.
use Rattle.std.proofs.Common.{ap, ◌∙◌}
use Rattle.core_definitions.specs.Cores.{Core}
use Rattle.core_definitions.specs.Scripts.{host_party}
use Rattle.world_state.specs.States.{core_at}
use Rattle.core_definitions.specs.Events.{Issue}
use Rattle.world_ready.specs.Making.{IsMadeOf}
use Rattle.world_ready.proofs.AllReady.{made_of_over}
use Rattle.world_ready.proofs.Issues.{host_writes}
use Rattle.world_ready.proofs.Results.{if_ok}
use Rattle.world_ready.proofs.writes.ready_host_issue.Goals as goal

pub host_write-write-requires-clause-going : goal.host_write-write-requires-clause-going
host_write-write-requires-clause-going c = ap (λ (d : Core). d.over) c.in_ok-refresh_recovery.ensures.core ∙ c.requires.going

pub ready_write-requires : goal.ready_write-requires
ready_write-requires c = host_writes (core_at c.refresh_recovery.new.self) host_party c.args.sector.0 c.host_write-write.result c.host_write-write.ensures.may c.host_write-write.ensures.write

pub returns-clause-made : goal.returns-clause-made
returns-clause-made c =
    let old = core_at c.args.world.now in
    let new = c.ready_write.new.world in
    let mid = core_at c.refresh_recovery.new.self in
    let event = Issue host_party c.args.sector.0 in
    if_ok (IsMadeOf mid new event) (IsMadeOf old new event) c.ready_write.result (made_of_over old mid new event c.in_ok-refresh_recovery.ensures.core) c.ready_write.ensures.made
