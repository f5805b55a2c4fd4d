-- The write is issued.
use Rattle.std.proofs.Common.{subst, sym}
use Rattle.core_definitions.specs.Servers.{Server}
use Rattle.core_definitions.specs.WriteEffects.{counted, ring_after}
use Rattle.flight_laws.specs.Flights.{purpose_of}
use Rattle.server_core.specs.Effects.{IsNext}
use Rattle.world_parties.specs.States.{State}
use Rattle.world_parties.proofs.Keeping.{keeps_in_place}
use Rattle.world_parties.proofs.Changing.{becomes, kept_same}
use Rattle.world_parties.proofs.Reading.{found_server}
use Rattle.world_parties.proofs.parties.Parties.issued.Goals as goal

pub issued-requires : goal.issued-requires
issued-requires c =
    let s : State = record { segments = c.self.inside.segments; parties = c.self.inside.list.items; host = c.self.inside.host; held = c.self.inside.held.items } in
    let P : Server → Type 0 = λ server. IsNext server.ring (purpose_of c.args.purpose) in
    subst P (sym (found_server s c.args.self.now c.args.a.0 c.from.result _ c.index_mut.result.now c.self.view_is c.self.invariant c.requires.server c.from.ensures c.index_mut.ensures.value)) c.requires.next

pub invariant_of-self : goal.invariant_of-self
invariant_of-self c =
    let s : State = record { segments = c.self.inside.segments; parties = c.self.inside.list.items; host = c.self.inside.host; held = c.self.inside.held.items } in
    kept_same s c.args.a.0 c.from.result _ c.index_mut.result.now c.issued.new.self c.self.invariant c.requires.server c.from.ensures c.index_mut.ensures.value c.issued.ensures.id c.issued.ensures.recovery

pub returns-clause-becomes : goal.returns-clause-becomes
returns-clause-becomes c =
    let s : State = record { segments = c.self.inside.segments; parties = c.self.inside.list.items; host = c.self.inside.host; held = c.self.inside.held.items } in
    becomes s c.args.self.now c.args.a.0 c.from.result _ c.index_mut.result.now c.issued.new.self (λ server. record server { ring = ring_after (purpose_of c.args.purpose) server.ring; arming = counted server.arming }) c.self.view_is c.self.invariant c.requires.server c.from.ensures c.index_mut.ensures.value (c.issued.ensures.server)

pub returns-clause-keeps : goal.returns-clause-keeps
returns-clause-keeps c =
    let s : State = record { segments = c.self.inside.segments; parties = c.self.inside.list.items; host = c.self.inside.host; held = c.self.inside.held.items } in
    keeps_in_place s c.args.self.now c.args.a.0 c.from.result _ c.index_mut.result.now c.issued.new.self c.self.view_is c.self.invariant c.requires.server c.from.ensures c.index_mut.ensures.value c.issued.ensures.keeps
