-- The call counts for the server.
use Rattle.core_definitions.specs.LineEffects.{failed_by}
use Rattle.world_parties.specs.States.{State}
use Rattle.world_parties.proofs.Keeping.{keeps_in_place}
use Rattle.world_parties.proofs.Changing.{becomes, kept_same}
use Rattle.world_parties.proofs.parties.Parties.fail.Goals as goal

pub invariant_of-self : goal.invariant_of-self
invariant_of-self c =
    let s : State = record { segments = c.self.inside.segments; parties = c.self.inside.list.items; host = c.self.inside.host; held = c.self.inside.held.items } in
    kept_same s c.args.a.0 c.from.result _ c.index_mut.result.now c.fail.new.self c.self.invariant c.requires c.from.ensures c.index_mut.ensures.value c.fail.ensures.id c.fail.ensures.recovery

pub returns-clause-becomes : goal.returns-clause-becomes
returns-clause-becomes c =
    let s : State = record { segments = c.self.inside.segments; parties = c.self.inside.list.items; host = c.self.inside.host; held = c.self.inside.held.items } in
    becomes s c.args.self.now c.args.a.0 c.from.result _ c.index_mut.result.now c.fail.new.self (failed_by) c.self.view_is c.self.invariant c.requires c.from.ensures c.index_mut.ensures.value (c.fail.ensures.server)

pub returns-clause-keeps : goal.returns-clause-keeps
returns-clause-keeps c =
    let s : State = record { segments = c.self.inside.segments; parties = c.self.inside.list.items; host = c.self.inside.host; held = c.self.inside.held.items } in
    keeps_in_place s c.args.self.now c.args.a.0 c.from.result _ c.index_mut.result.now c.fail.new.self c.self.view_is c.self.invariant c.requires c.from.ensures c.index_mut.ensures.value c.fail.ensures.keeps
