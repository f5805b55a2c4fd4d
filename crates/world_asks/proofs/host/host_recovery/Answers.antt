-- The host is the core's.
use Rattle.std.proofs.Common.{subst, sym, ap, ◌∙◌}
use Rattle.std.specs.Option.{option_copied}
use Rattle.core_definitions.specs.Scripts.{host_party}
use Rattle.world_parties.specs.States.{IsRecovery, State as Parties, recovering_by}
use Rattle.world_asks.proofs.PartyOf.{host_is}
use Rattle.world_asks.proofs.host.host_recovery.Goals as goal

pub returns-clause-host : goal.returns-clause-host
returns-clause-host c =
    let P : Parties → Type 0 = λ parties. IsRecovery parties.segments host_party (option_copied c.recovery.result) in
    host_is c.args.world.now (option_copied c.recovery.result) c.is_over-over.ensures.kept c.requires.going (c.recovery.ensures.is ∙ ap (λ (parties : Parties). recovering_by parties host_party) c.parties.ensures)
    (subst P c.parties.ensures c.recovery.ensures.fits)
