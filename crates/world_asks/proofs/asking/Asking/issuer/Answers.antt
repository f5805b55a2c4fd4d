-- The server is the core's.
use Rattle.std.proofs.Common.{sym, subst, ap, ◌∙◌}
use Rattle.std.specs.Option.{option_copied}
use Rattle.server_issues.specs.Issuing.{IsIssuing, Issuing}
use Rattle.world_state.specs.States.{State}
use Rattle.world_asks.specs.Asking.{core_of}
use Rattle.world_asks.proofs.IssuerOf.{issuing_is}
use Rattle.world_asks.proofs.asking.Asking.issuer.Goals as goal

pub returns-clause-issuing : goal.returns-clause-issuing
returns-clause-issuing c =
    let asked = c.args.self.now in
    let party = c.party-party.result.now in
    let P : Issuing → Type 0 = IsIssuing (core_of asked) in
    subst P (sym c.new.ensures)
    (issuing_is asked party (option_copied c.as_ref.result) c.locks.result.now c.flights.result.now c.now.result c.lacks_room-lacks.result c.oldest.result.now c.room_wanted.result.now c.party-party.ensures
    c.as_ref.ensures.value (c.locks.ensures ∙ ap (λ (w : State). w.locks.locks) c.world-world.ensures) (c.flights.ensures ∙ ap (λ (w : State). w.flights) c.world-world.ensures)
    (c.now.ensures ∙ ap (λ (w : State). w.tick) c.world-world.ensures) (c.lacks_room-lacks.ensures party c.party-party.ensures) (c.oldest.ensures party c.party-party.ensures) c.room_wanted.ensures)
