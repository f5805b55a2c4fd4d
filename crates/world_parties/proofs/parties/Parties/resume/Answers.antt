-- The server goes on.
use Rattle.std.proofs.Common.{subst, sym, true, ◌≡◌}
use Rattle.core_definitions.specs.Servers.{Server}
use Rattle.core_definitions.specs.Servers.{is_in_mount}
use Rattle.core_definitions.specs.WriteEffects.{up_again}
use Rattle.world_parties.specs.States.{State}
use Rattle.world_parties.proofs.Keeping.{keeps_in_place}
use Rattle.world_parties.proofs.Changing.{becomes, kept_without}
use Rattle.world_parties.proofs.Reading.{found_server}
use Rattle.world_parties.proofs.parties.Parties.resume.Goals as goal

pub resume-requires-clause-mounted : goal.resume-requires-clause-mounted
resume-requires-clause-mounted c =
    let s : State = record { segments = c.self.inside.segments; parties = c.self.inside.list.items; host = c.self.inside.host; held = c.self.inside.held.items } in
    let P : Server → Type 0 = λ server. is_in_mount server.phase ≡ true in
    subst P (sym (found_server s c.args.self.now c.args.a.0 c.from.result _ c.index_mut.result.now c.self.view_is c.self.invariant c.requires.server c.from.ensures c.index_mut.ensures.value)) c.requires.mounted

pub invariant_of-self : goal.invariant_of-self
invariant_of-self c =
    let s : State = record { segments = c.self.inside.segments; parties = c.self.inside.list.items; host = c.self.inside.host; held = c.self.inside.held.items } in
    kept_without s c.args.a.0 c.from.result _ c.index_mut.result.now c.resume.new.self c.self.invariant c.requires.server c.from.ensures c.index_mut.ensures.value c.resume.ensures.id c.resume.ensures.recovery

pub returns-clause-becomes : goal.returns-clause-becomes
returns-clause-becomes c setting lasts =
    let s : State = record { segments = c.self.inside.segments; parties = c.self.inside.list.items; host = c.self.inside.host; held = c.self.inside.held.items } in
    becomes s c.args.self.now c.args.a.0 c.from.result _ c.index_mut.result.now c.resume.new.self (up_again setting c.args.now) c.self.view_is c.self.invariant c.requires.server c.from.ensures c.index_mut.ensures.value (c.resume.ensures.server setting lasts)

pub returns-clause-keeps : goal.returns-clause-keeps
returns-clause-keeps c =
    let s : State = record { segments = c.self.inside.segments; parties = c.self.inside.list.items; host = c.self.inside.host; held = c.self.inside.held.items } in
    keeps_in_place s c.args.self.now c.args.a.0 c.from.result _ c.index_mut.result.now c.resume.new.self c.self.view_is c.self.invariant c.requires.server c.from.ensures c.index_mut.ensures.value c.resume.ensures.keeps
