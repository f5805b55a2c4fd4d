-- The server of a number stands in its place.
use Rattle.world_parties.specs.States.{State}
use Rattle.world_parties.proofs.Reading.{found_fits, found_number, found_recovery}
use Rattle.world_parties.proofs.parties.Parties.get.Goals as goal

pub returns-clause-id : goal.returns-clause-id
returns-clause-id c =
    let s : State = record { segments = c.self.inside.segments; parties = c.self.inside.list.items; host = c.self.inside.host; held = c.self.inside.held.items } in
    found_number s c.args.a.0 c.from.result _ c.index.result.now c.self.invariant c.requires c.from.ensures c.index.ensures

pub returns-clause-recovery : goal.returns-clause-recovery
returns-clause-recovery c =
    let s : State = record { segments = c.self.inside.segments; parties = c.self.inside.list.items; host = c.self.inside.host; held = c.self.inside.held.items } in
    found_recovery s c.args.self.now c.args.a.0 c.from.result _ c.index.result.now c.self.view_is c.self.invariant c.requires c.from.ensures c.index.ensures

pub returns-clause-fits : goal.returns-clause-fits
returns-clause-fits c =
    let s : State = record { segments = c.self.inside.segments; parties = c.self.inside.list.items; host = c.self.inside.host; held = c.self.inside.held.items } in
    found_fits s c.args.self.now c.args.a.0 c.from.result _ c.index.result.now c.self.view_is c.self.invariant c.requires c.from.ensures c.index.ensures
