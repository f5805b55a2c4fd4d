-- The stage that is read is the core's.
use Rattle.std.proofs.Common.{◌≡◌, IfSome, Option, Some, sym, subst}
use Rattle.core_definitions.specs.Cores.{stage}
use Rattle.line_stages.specs.Stages.{IsStage}
use Rattle.world_parties.specs.States.{State as Parties}
use Rattle.world_parties.specs.declared.party.Party.{Party}
use Rattle.world_state.specs.States.{core_at}
use Rattle.world_asks.proofs.LineStages.{stage_as_read}
use Rattle.world_asks.proofs.PartyOf.{IsGot}
use Rattle.world_asks.proofs.asking.stage_at.Goals as goal

pub returns : goal.returns
returns c =
    let s = c.args.world.now in
    let a = c.args.a.0 in
    let party = c.get-party.result.now in
    let P : Parties → Type 0 = λ parties. IsGot parties a party in
    let got : IsGot s.parties a party = subst P c.parties.ensures
    (record { server = c.get-party.ensures.server; number = c.get-party.ensures.id; recovery = c.get-party.ensures.recovery; fits = c.get-party.ensures.fits; there = c.get-party.ensures.party; flags = c.get-party.ensures.flags; plan = c.get-party.ensures.plan; oldest = c.get-party.ensures.oldest }) in
    let Is : Option Party → Type 0 = λ o. IfSome o (λ p. IsStage p.plan p.server.server c.stage_of.result (stage (core_at s) a)) in
    subst Is (sym got.there) (stage_as_read s a party c.locks.result.now got c.locks.ensures c.stage_of.result c.is_over-over.ensures.kept c.requires.fresh.plan c.stage_of.ensures.is)
