-- The core is the same, and there is room for a sector that isn't dirty.
use Rattle.std.proofs.Common.{◌≡◌, false, sym, ap, ◌∙◌}
use Rattle.std.proofs.lemmas.Bool.{ltb-true}
use Rattle.frang_base.specs.declared.limits.TheConstants.{SERVERS}
use Rattle.cache_definitions.specs.Caches.{is_dirty_at}
use Rattle.core_definitions.specs.Servers.{Server}
use Rattle.world_parties.specs.States.{State as Parties, servers_at}
use Rattle.world_state.specs.States.{core_at}
use Rattle.world_ready.proofs.FetchReady.{fetches_sector}
use Rattle.world_ready.proofs.fetches.ready_sector.Goals as goal

pub get-requires : goal.get-requires
get-requires c = ltb-true c.args.a.0 SERVERS c.requires.can.server

pub ready_fetch-requires : goal.ready_fetch-requires
ready_fetch-requires c = ltb-true c.args.a.0 SERVERS c.requires.can.server

pub returns-clause-made : goal.returns-clause-made
returns-clause-made c =
    let s = c.args.world.now in
    let clean : is_dirty_at ((core_at s).servers c.args.a.0).cache c.args.sector.0 ≡ false =
    ap (λ (p : Parties). is_dirty_at (servers_at p c.args.a.0).cache c.args.sector.0) (sym c.parties.ensures) ∙ ap (λ (server : Server). is_dirty_at server.cache c.args.sector.0) (sym c.get.ensures.server)
    ∙ sym c.is_dirty.ensures ∙ c.if-is_dirty.false in
    fetches_sector (core_at s) c.ready_fetch.new.self c.args.a c.args.sector c.args.cover c.requires.can c.requires.on c.requires.cover clean c.in_ok-ready_fetch.ensures.ok
