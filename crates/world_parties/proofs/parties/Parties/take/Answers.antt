-- One that was never mounted stands in the place.
use Rattle.std.proofs.Common.{sym, ap, ◌∙◌}
use Rattle.world_parties.specs.States.{State}
use Rattle.world_parties.specs.declared.party.Party.{Party}
use Rattle.world_parties.proofs.Changing.{kept_without}
use Rattle.world_parties.proofs.Keeping.{found_place, set_puts}
use Rattle.world_parties.proofs.Reading.{found_fits, found_number, found_recovery, found_server}
use Rattle.world_parties.proofs.parties.Parties.take.Goals as goal

pub invariant_of-self : goal.invariant_of-self
invariant_of-self c =
    let s : State = record { segments = c.self.inside.segments; parties = c.self.inside.list.items; host = c.self.inside.host; held = c.self.inside.held.items } in
    let new = c.replace.new.dest in
    let number = found_number s c.args.a.0 c.from.result _ c.index_mut.result.now c.self.invariant c.requires c.from.ensures c.index_mut.ensures.value in
    kept_without s c.args.a.0 c.from.result _ c.index_mut.result.now new c.self.invariant c.requires c.from.ensures c.index_mut.ensures.value
    (ap (λ (p : Party). p.server.id) c.replace.ensures.after ∙ c.first_party.ensures.id ∙ sym number) (ap (λ (p : Party). p.recovery) c.replace.ensures.after ∙ c.first_party.ensures.recovery)

pub returns-clause-party : goal.returns-clause-party
returns-clause-party c =
    let s : State = record { segments = c.self.inside.segments; parties = c.self.inside.list.items; host = c.self.inside.host; held = c.self.inside.held.items } in
    found_place s c.args.self.now c.args.a.0 c.from.result _ c.replace.result c.self.view_is c.self.invariant c.requires c.from.ensures (c.replace.ensures.value ∙ c.index_mut.ensures.value)

pub returns-clause-server : goal.returns-clause-server
returns-clause-server c =
    let s : State = record { segments = c.self.inside.segments; parties = c.self.inside.list.items; host = c.self.inside.host; held = c.self.inside.held.items } in
    found_server s c.args.self.now c.args.a.0 c.from.result _ c.replace.result c.self.view_is c.self.invariant c.requires c.from.ensures (c.replace.ensures.value ∙ c.index_mut.ensures.value)

pub returns-clause-id : goal.returns-clause-id
returns-clause-id c =
    let s : State = record { segments = c.self.inside.segments; parties = c.self.inside.list.items; host = c.self.inside.host; held = c.self.inside.held.items } in
    found_number s c.args.a.0 c.from.result _ c.replace.result c.self.invariant c.requires c.from.ensures (c.replace.ensures.value ∙ c.index_mut.ensures.value)

pub returns-clause-recovery : goal.returns-clause-recovery
returns-clause-recovery c =
    let s : State = record { segments = c.self.inside.segments; parties = c.self.inside.list.items; host = c.self.inside.host; held = c.self.inside.held.items } in
    found_recovery s c.args.self.now c.args.a.0 c.from.result _ c.replace.result c.self.view_is c.self.invariant c.requires c.from.ensures (c.replace.ensures.value ∙ c.index_mut.ensures.value)

pub returns-clause-fits : goal.returns-clause-fits
returns-clause-fits c =
    let s : State = record { segments = c.self.inside.segments; parties = c.self.inside.list.items; host = c.self.inside.host; held = c.self.inside.held.items } in
    found_fits s c.args.self.now c.args.a.0 c.from.result _ c.replace.result c.self.view_is c.self.invariant c.requires c.from.ensures (c.replace.ensures.value ∙ c.index_mut.ensures.value)

pub returns-clause-others : goal.returns-clause-others
returns-clause-others c =
    let s : State = record { segments = c.self.inside.segments; parties = c.self.inside.list.items; host = c.self.inside.host; held = c.self.inside.held.items } in
    (set_puts s c.args.self.now c.args.a.0 c.from.result c.replace.new.dest c.self.view_is c.self.invariant c.requires c.from.ensures).others
