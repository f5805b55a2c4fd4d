-- The flag is set, or is gone; the server is the same.
use Rattle.std.proofs.Common.{List, sym, ap, ◌∙◌, subst}
use Rattle.frang_base.specs.Functions.{member}
use Rattle.world_parties.specs.States.{AreAmong, State}
use Rattle.world_parties.proofs.Changing.{becomes, becomes_same, kept_same}
use Rattle.world_parties.proofs.Keeping.{View, flagged_in_place, found_at, keeps_in_place, set_puts}
use Rattle.world_parties.proofs.Flagging.{but_among, but_gone, party_unflagged, set_among, unset}
use Rattle.world_parties.proofs.parties.Parties.set_flies.Goals as goal

pub invariant_of-self : goal.invariant_of-self
invariant_of-self c =
    let s : State = record { segments = c.self.inside.segments; parties = c.self.inside.list.items; host = c.self.inside.host; held = c.self.inside.held.items } in
    kept_same s c.args.a.0 c.from.result _ c.index_mut.result.now c.set_flies.new.self c.self.invariant c.requires c.from.ensures c.index_mut.ensures.value c.set_flies.ensures.id c.set_flies.ensures.recovery

pub returns-clause-same : goal.returns-clause-same
returns-clause-same c =
    let s : State = record { segments = c.self.inside.segments; parties = c.self.inside.list.items; host = c.self.inside.host; held = c.self.inside.held.items } in
    becomes_same c.args.self.now _ c.args.a.0
    (becomes s c.args.self.now c.args.a.0 c.from.result _ c.index_mut.result.now c.set_flies.new.self (λ server. server) c.self.view_is c.self.invariant c.requires c.from.ensures c.index_mut.ensures.value c.set_flies.ensures.server)

pub returns-clause-keeps : goal.returns-clause-keeps
returns-clause-keeps c =
    let s : State = record { segments = c.self.inside.segments; parties = c.self.inside.list.items; host = c.self.inside.host; held = c.self.inside.held.items } in
    flagged_in_place s c.args.self.now c.args.a.0 c.from.result c.args.sector.0 _ c.index_mut.result.now c.set_flies.new.self c.self.view_is c.self.invariant c.requires c.from.ensures c.index_mut.ensures.value
    (set_among c.index_mut.result.now c.set_flies.new.self c.args.sector.0 c.args.flies c.set_flies.ensures.flags) c.set_flies.ensures.server c.set_flies.ensures.recovery c.set_flies.ensures.plan c.set_flies.ensures.oldest

pub returns-clause-gone : goal.returns-clause-gone
returns-clause-gone c off =
    let s : State = record { segments = c.self.inside.segments; parties = c.self.inside.list.items; host = c.self.inside.host; held = c.self.inside.held.items } in
    let old = c.index_mut.result.now in
    let new = c.set_flies.new.self in
    let flags = unset old new c.args.sector.0 c.args.flies c.set_flies.ensures.flags off in (
      keeps_in_place s c.args.self.now c.args.a.0 c.from.result _ c.index_mut.result.now new c.self.view_is c.self.invariant c.requires c.from.ensures c.index_mut.ensures.value
          (party_unflagged old new (subst (λ (xs : List _). AreAmong xs old.server.flying) (sym flags) (but_among c.args.sector.0 old.server.flying)) c.set_flies.ensures.server c.set_flies.ensures.recovery c.set_flies.ensures.plan c.set_flies.ensures.oldest),
      ap (λ (v : View). member c.args.sector.0 v.flags) (found_at (record s { parties = _ }) c.args.a.0 new c.requires (set_puts s c.args.self.now c.args.a.0 c.from.result new c.self.view_is c.self.invariant c.requires c.from.ensures).at)
          ∙ ap (member c.args.sector.0) flags ∙ but_gone c.args.sector.0 old.server.flying,
    )
