-- The server is doomed.
use Rattle.std.proofs.Common.{subst, sym, true, ◌≡◌}
use Rattle.core_definitions.specs.Servers.{Server}
use Rattle.core_definitions.specs.Servers as core
use Rattle.core_definitions.specs.Servers.{is_in_mount}
use Rattle.server_core.specs.Phases.{fate_of}
use Rattle.world_parties.specs.States.{State}
use Rattle.world_parties.proofs.Keeping.{keeps_in_place}
use Rattle.world_parties.proofs.Changing.{becomes, kept_same}
use Rattle.world_parties.proofs.Reading.{found_server}
use Rattle.world_parties.proofs.parties.Parties.doom.Goals as goal

pub doom-requires : goal.doom-requires
doom-requires c =
    let s : State = record { segments = c.self.inside.segments; parties = c.self.inside.list.items; host = c.self.inside.host; held = c.self.inside.held.items } in
    let P : Server → Type 0 = λ server. is_in_mount server.phase ≡ true in
    subst P (sym (found_server s c.args.self.now c.args.a.0 c.from.result _ c.index_mut.result.now c.self.view_is c.self.invariant c.requires.server c.from.ensures c.index_mut.ensures.value)) c.requires.mounted

pub invariant_of-self : goal.invariant_of-self
invariant_of-self c =
    let s : State = record { segments = c.self.inside.segments; parties = c.self.inside.list.items; host = c.self.inside.host; held = c.self.inside.held.items } in
    kept_same s c.args.a.0 c.from.result _ c.index_mut.result.now c.doom.new.self c.self.invariant c.requires.server c.from.ensures c.index_mut.ensures.value c.doom.ensures.id c.doom.ensures.recovery

pub returns-clause-becomes : goal.returns-clause-becomes
returns-clause-becomes c =
    let s : State = record { segments = c.self.inside.segments; parties = c.self.inside.list.items; host = c.self.inside.host; held = c.self.inside.held.items } in
    becomes s c.args.self.now c.args.a.0 c.from.result _ c.index_mut.result.now c.doom.new.self (λ server. record server { phase = core.Doomed (fate_of c.args.fate) }) c.self.view_is c.self.invariant c.requires.server c.from.ensures c.index_mut.ensures.value (c.doom.ensures.server)

pub returns-clause-keeps : goal.returns-clause-keeps
returns-clause-keeps c =
    let s : State = record { segments = c.self.inside.segments; parties = c.self.inside.list.items; host = c.self.inside.host; held = c.self.inside.held.items } in
    keeps_in_place s c.args.self.now c.args.a.0 c.from.result _ c.index_mut.result.now c.doom.new.self c.self.view_is c.self.invariant c.requires.server c.from.ensures c.index_mut.ensures.value c.doom.ensures.keeps
