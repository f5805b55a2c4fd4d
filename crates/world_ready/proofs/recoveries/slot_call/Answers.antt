-- The slot of the log that is recovered, and none where there is no recovery.
use Rattle.std.proofs.Common.{sym, ap, ◌∙◌}
use Rattle.std.specs.Option.{option_copied}
use Rattle.world_parties.specs.States.{State as Parties, recovery_in, servers_at}
use Rattle.world_state.specs.States.{core_at}
use Rattle.world_ready.proofs.RecoveryReady.{loads_nothing, loads_slot, worker_is_party}
use Rattle.world_ready.proofs.recoveries.slot_call.Goals as goal

pub recovery-requires : goal.recovery-requires
recovery-requires c = worker_is_party (core_at c.args.world.now) c.args.by.0 c.requires

pub returns-in-Some : goal.returns-in-Some
returns-in-Some c =
    loads_slot (core_at c.args.world.now) c.args.by c.args.slot c.sector_of.result c.in-Some.demon.now c.dead.result.0
    (ap (λ o. recovery_in (option_copied o)) (sym c.in-Some.is) ∙ c.recovery.ensures.core ∙ ap (λ (p : Parties). (servers_at p c.args.by.0).recovery) c.parties.ensures)
    c.dead.ensures c.sector_of.ensures

pub returns-in-None : goal.returns-in-None
returns-in-None c =
    loads_nothing (core_at c.args.world.now) c.args.by c.args.slot
    (ap (λ o. recovery_in (option_copied o)) (sym c.in-None.is) ∙ c.recovery.ensures.core ∙ ap (λ (p : Parties). (servers_at p c.args.by.0).recovery) c.parties.ensures)
