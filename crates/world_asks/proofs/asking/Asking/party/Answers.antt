-- The party that stands in its place.
use Rattle.std.proofs.Common.{subst}
use Rattle.world_parties.specs.States.{State as Parties}
use Rattle.world_asks.specs.Asking.{Asked, IsPartyOf}
use Rattle.world_asks.proofs.PartyOf.{IsGot, party_is}
use Rattle.world_asks.proofs.asking.Asking.party.Goals as goal

pub returns : goal.returns
returns c =
    let asked : Asked = record { world = c.self.inside.world.now; number = c.self.inside.a.0; stage = c.self.inside.stage } in
    let P : Parties → Type 0 = λ parties. IsGot parties asked.number c.get.result.now in
    let Q : Asked → Type 0 = λ known. IsPartyOf known c.get.result.now in
    subst Q c.self.view_is (party_is asked c.get.result.now c.self.invariant (subst P c.parties.ensures
    (record { server = c.get.ensures.server; number = c.get.ensures.id; recovery = c.get.ensures.recovery; fits = c.get.ensures.fits; there = c.get.ensures.party; flags = c.get.ensures.flags; plan = c.get.ensures.plan; oldest = c.get.ensures.oldest })))
