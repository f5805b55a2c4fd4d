-- The line is under way.
use Rattle.std.proofs.Common.{Some}
use Rattle.world_parties.specs.States.{State}
use Rattle.world_parties.proofs.Keeping.{keeps_in_place}
use Rattle.world_parties.proofs.Changing.{becomes, kept_same}
use Rattle.world_parties.proofs.parties.Parties.begin.Goals as goal

pub invariant_of-self : goal.invariant_of-self
invariant_of-self c =
    let s : State = record { segments = c.self.inside.segments; parties = c.self.inside.list.items; host = c.self.inside.host; held = c.self.inside.held.items } in
    kept_same s c.args.a.0 c.from.result _ c.index_mut.result.now c.begin.new.self c.self.invariant c.requires c.from.ensures c.index_mut.ensures.value c.begin.ensures.id c.begin.ensures.recovery

pub returns-clause-becomes : goal.returns-clause-becomes
returns-clause-becomes c =
    let s : State = record { segments = c.self.inside.segments; parties = c.self.inside.list.items; host = c.self.inside.host; held = c.self.inside.held.items } in
    becomes s c.args.self.now c.args.a.0 c.from.result _ c.index_mut.result.now c.begin.new.self (λ server. record server { under = Some c.args.under.under }) c.self.view_is c.self.invariant c.requires c.from.ensures c.index_mut.ensures.value (c.begin.ensures.server)

pub returns-clause-keeps : goal.returns-clause-keeps
returns-clause-keeps c =
    let s : State = record { segments = c.self.inside.segments; parties = c.self.inside.list.items; host = c.self.inside.host; held = c.self.inside.held.items } in
    keeps_in_place s c.args.self.now c.args.a.0 c.from.result _ c.index_mut.result.now c.begin.new.self c.self.view_is c.self.invariant c.requires c.from.ensures c.index_mut.ensures.value c.begin.ensures.keeps
