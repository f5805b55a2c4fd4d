-- What was cached under the lock is gone.
use Rattle.std.proofs.Common.{false, subst, sym, ◌≡◌}
use Rattle.core_definitions.specs.Servers.{Server}
use Rattle.cache_definitions.specs.Caches.{any_cached, dropped, is_dirty_under}
use Rattle.world_parties.specs.States.{State}
use Rattle.world_parties.proofs.Keeping.{keeps_in_place}
use Rattle.world_parties.proofs.Changing.{becomes, kept_same}
use Rattle.world_parties.proofs.Reading.{found_server}
use Rattle.world_parties.proofs.parties.Parties.drop_under.Goals as goal

pub drop_under-requires : goal.drop_under-requires
drop_under-requires c =
    let s : State = record { segments = c.self.inside.segments; parties = c.self.inside.list.items; host = c.self.inside.host; held = c.self.inside.held.items } in
    let P : Server → Type 0 = λ server. any_cached (is_dirty_under c.args.lock) server.cache ≡ false in
    subst P (sym (found_server s c.args.self.now c.args.a.0 c.from.result _ c.index_mut.result.now c.self.view_is c.self.invariant c.requires.server c.from.ensures c.index_mut.ensures.value)) c.requires.clean

pub invariant_of-self : goal.invariant_of-self
invariant_of-self c =
    let s : State = record { segments = c.self.inside.segments; parties = c.self.inside.list.items; host = c.self.inside.host; held = c.self.inside.held.items } in
    kept_same s c.args.a.0 c.from.result _ c.index_mut.result.now c.drop_under.new.self c.self.invariant c.requires.server c.from.ensures c.index_mut.ensures.value c.drop_under.ensures.id c.drop_under.ensures.recovery

pub returns-clause-becomes : goal.returns-clause-becomes
returns-clause-becomes c =
    let s : State = record { segments = c.self.inside.segments; parties = c.self.inside.list.items; host = c.self.inside.host; held = c.self.inside.held.items } in
    becomes s c.args.self.now c.args.a.0 c.from.result _ c.index_mut.result.now c.drop_under.new.self (λ server. record server { cache = dropped server.cache c.args.lock }) c.self.view_is c.self.invariant c.requires.server c.from.ensures c.index_mut.ensures.value (c.drop_under.ensures.server)

pub returns-clause-keeps : goal.returns-clause-keeps
returns-clause-keeps c =
    let s : State = record { segments = c.self.inside.segments; parties = c.self.inside.list.items; host = c.self.inside.host; held = c.self.inside.held.items } in
    keeps_in_place s c.args.self.now c.args.a.0 c.from.result _ c.index_mut.result.now c.drop_under.new.self c.self.view_is c.self.invariant c.requires.server c.from.ensures c.index_mut.ensures.value c.drop_under.ensures.keeps
