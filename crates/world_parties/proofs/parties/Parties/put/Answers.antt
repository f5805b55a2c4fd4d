-- The party stands in its place.
use Rattle.world_parties.specs.States.{State}
use Rattle.world_parties.proofs.Changing.{kept_placed}
use Rattle.world_parties.proofs.Keeping.{back_keeps_all, put_back, put_becomes, set_puts}
use Rattle.world_parties.proofs.parties.Parties.put.Goals as goal

pub invariant_of-self : goal.invariant_of-self
invariant_of-self c =
    let s : State = record { segments = c.self.inside.segments; parties = c.self.inside.list.items; host = c.self.inside.host; held = c.self.inside.held.items } in
    kept_placed s c.args.self.now c.args.a.0 c.from.result c.args.party c.self.view_is c.self.invariant c.requires.server c.from.ensures c.requires.id c.requires.fits

pub returns-clause-put : goal.returns-clause-put
returns-clause-put c before out =
    let s : State = record { segments = c.self.inside.segments; parties = c.self.inside.list.items; host = c.self.inside.host; held = c.self.inside.held.items } in
    put_back before c.args.self.now _ c.args.a.0 c.args.party out (set_puts s c.args.self.now c.args.a.0 c.from.result c.args.party c.self.view_is c.self.invariant c.requires.server c.from.ensures)

pub returns-clause-becomes : goal.returns-clause-becomes
returns-clause-becomes c before out = put_becomes before _ c.args.a.0 c.args.party c.requires.server (returns-clause-put c before out)

pub returns-clause-keeps : goal.returns-clause-keeps
returns-clause-keeps c before out keeps = back_keeps_all before _ c.args.a.0 c.args.party c.requires.server (returns-clause-put c before out) keeps
