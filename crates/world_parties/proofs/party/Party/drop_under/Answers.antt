-- What was cached under the lock is gone, and what was kept with it.
use Rattle.std.proofs.Common.{List, ℕ, refl, sym, subst}
use Rattle.world_parties.specs.States.{AreAmong, PartyKeeps}
use Rattle.world_parties.proofs.Flagging.{cached_among, party_forgets}
use Rattle.world_parties.proofs.party.Party.drop_under.Goals as goal

pub returns-clause-keeps : goal.returns-clause-keeps
returns-clause-keeps c =
    let old = c.args.self.now in
    let server = c.drop_under.new.self in
    subst (PartyKeeps old) (sym c.forget.ensures)
    (party_forgets old _ (subst (λ (xs : List ℕ). AreAmong xs old.server.flying) (sym c.drop_under.ensures.flying) (cached_among server.server.cache old.server.flying)) refl refl refl)
