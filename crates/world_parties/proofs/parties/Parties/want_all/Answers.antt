-- The server wants everything written.
use Rattle.core_definitions.specs.Servers.{wanting_all}
use Rattle.world_parties.specs.States.{State}
use Rattle.world_parties.proofs.Keeping.{keeps_in_place}
use Rattle.world_parties.proofs.Changing.{becomes, kept_same}
use Rattle.world_parties.proofs.parties.Parties.want_all.Goals as goal

pub invariant_of-self : goal.invariant_of-self
invariant_of-self c =
    let s : State = record { segments = c.self.inside.segments; parties = c.self.inside.list.items; host = c.self.inside.host; held = c.self.inside.held.items } in
    kept_same s c.args.a.0 c.from.result _ c.index_mut.result.now c.want_all.new.self c.self.invariant c.requires c.from.ensures c.index_mut.ensures.value c.want_all.ensures.id c.want_all.ensures.recovery

pub returns-clause-becomes : goal.returns-clause-becomes
returns-clause-becomes c =
    let s : State = record { segments = c.self.inside.segments; parties = c.self.inside.list.items; host = c.self.inside.host; held = c.self.inside.held.items } in
    becomes s c.args.self.now c.args.a.0 c.from.result _ c.index_mut.result.now c.want_all.new.self (wanting_all) c.self.view_is c.self.invariant c.requires c.from.ensures c.index_mut.ensures.value (c.want_all.ensures.server)

pub returns-clause-keeps : goal.returns-clause-keeps
returns-clause-keeps c =
    let s : State = record { segments = c.self.inside.segments; parties = c.self.inside.list.items; host = c.self.inside.host; held = c.self.inside.held.items } in
    keeps_in_place s c.args.self.now c.args.a.0 c.from.result _ c.index_mut.result.now c.want_all.new.self c.self.view_is c.self.invariant c.requires c.from.ensures c.index_mut.ensures.value c.want_all.ensures.keeps
