-- The server is dead.
use Rattle.core_definitions.specs.WriteEffects.{died_with}
use Rattle.server_core.specs.Phases.{fate_of}
use Rattle.world_parties.specs.States.{State}
use Rattle.world_parties.proofs.Keeping.{bare_at, keeps_in_place, set_puts}
use Rattle.world_parties.proofs.Changing.{becomes, kept_without}
use Rattle.world_parties.proofs.parties.Parties.die.Goals as goal

pub invariant_of-self : goal.invariant_of-self
invariant_of-self c =
    let s : State = record { segments = c.self.inside.segments; parties = c.self.inside.list.items; host = c.self.inside.host; held = c.self.inside.held.items } in
    kept_without s c.args.a.0 c.from.result _ c.index_mut.result.now c.die.new.self c.self.invariant c.requires c.from.ensures c.index_mut.ensures.value c.die.ensures.id c.die.ensures.recovery

pub returns-clause-becomes : goal.returns-clause-becomes
returns-clause-becomes c =
    let s : State = record { segments = c.self.inside.segments; parties = c.self.inside.list.items; host = c.self.inside.host; held = c.self.inside.held.items } in
    becomes s c.args.self.now c.args.a.0 c.from.result _ c.index_mut.result.now c.die.new.self (died_with (fate_of c.args.fate)) c.self.view_is c.self.invariant c.requires c.from.ensures c.index_mut.ensures.value (c.die.ensures.server)

pub returns-clause-keeps : goal.returns-clause-keeps
returns-clause-keeps c =
    let s : State = record { segments = c.self.inside.segments; parties = c.self.inside.list.items; host = c.self.inside.host; held = c.self.inside.held.items } in
    keeps_in_place s c.args.self.now c.args.a.0 c.from.result _ c.index_mut.result.now c.die.new.self c.self.view_is c.self.invariant c.requires c.from.ensures c.index_mut.ensures.value c.die.ensures.keeps

pub returns-clause-bare : goal.returns-clause-bare
returns-clause-bare c =
    let s : State = record { segments = c.self.inside.segments; parties = c.self.inside.list.items; host = c.self.inside.host; held = c.self.inside.held.items } in
    bare_at (record s { parties = _ }) c.args.a.0 c.die.new.self c.requires (set_puts s c.args.self.now c.args.a.0 c.from.result c.die.new.self c.self.view_is c.self.invariant c.requires c.from.ensures).at
    c.die.ensures.flags c.die.ensures.recovery c.die.ensures.plan c.die.ensures.oldest
