-- It is what the acknowledgement makes of its server.
use Rattle.std.proofs.Common.{IsSomeAnd, Option, sym, subst, ap, ◌∙◌}
use Rattle.core_definitions.specs.WriteEffects.{acknowledged}
use Rattle.flight_laws.specs.Flights.{purpose_of}
use Rattle.world_parties.specs.States.{Becomes, PartyKeeps}
use Rattle.world_parties.specs.declared.party.Party.{Party}
use Rattle.world_state.proofs.Acknowledging.{keeps_acknowledged, server_acknowledged}
use Rattle.world_state.proofs.arriving.acknowledge_at.Goals as goal

pub returns-clause-becomes : goal.returns-clause-becomes
returns-clause-becomes c =
    let flying = c.args.flying.now in
    let is = ap (λ (p : Party). p.server.server) c.forget_oldest.ensures ∙ c.acknowledged.ensures.server in
    let recovery = ap (λ (p : Party). p.recovery) c.forget_oldest.ensures in
    subst (Becomes c.args.parties.now c.put.new.self flying.put.server.0)
    (server_acknowledged c.take-party.result c.forget_oldest.new.party flying.put.sector.0 flying.put.bytes flying.purpose c.requires.own is recovery
    ∙ ap (acknowledged flying.put.sector.0 flying.put.bytes (purpose_of flying.purpose)) c.take-party.ensures.server)
    (c.put.ensures.becomes c.args.parties.now c.take-party.ensures.others)

pub returns-clause-keeps : goal.returns-clause-keeps
returns-clause-keeps c =
    let flying = c.args.flying.now in
    let is = ap (λ (p : Party). p.server.server) c.forget_oldest.ensures ∙ c.acknowledged.ensures.server in
    let recovery = ap (λ (p : Party). p.recovery) c.forget_oldest.ensures in
    let P : Option Party → Type 0 = λ o. IsSomeAnd o (λ party. PartyKeeps party c.forget_oldest.new.party) in
    c.put.ensures.keeps c.args.parties.now c.take-party.ensures.others
    (subst P (sym c.take-party.ensures.party)
    (keeps_acknowledged c.take-party.result c.forget_oldest.new.party flying.put.sector.0 flying.put.bytes flying.purpose c.requires.own is recovery
    (ap (λ (p : Party). p.server.flying) c.forget_oldest.ensures ∙ c.acknowledged.ensures.flying) (ap (λ (p : Party). p.plan) c.forget_oldest.ensures) (ap (λ (p : Party). p.oldest) c.forget_oldest.ensures)))
