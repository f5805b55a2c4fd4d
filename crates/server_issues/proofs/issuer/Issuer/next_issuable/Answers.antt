-- Where none of each kind may be issued, none may.
use Rattle.std.proofs.Common.{◌<◌, subst}
use Rattle.frang_base.specs.declared.limits.TheConstants.{SERVERS}
use Rattle.sector_bytes.specs.SectorMaps.{Ascend}
use Rattle.core_definitions.specs.Cores.{writes}
use Rattle.core_definitions.specs.WriteGuards.{is_issuable}
use Rattle.server_issues.specs.Issuing.{Issuing}
use Rattle.server_issues.specs.Nexts.{IsOneAmong, is_log_at, is_place_at, is_rescue_at}
use Rattle.server_issues.proofs.Nexts.{none_at_all, of_kinds}
use Rattle.server_issues.proofs.issuer.Issuer.next_issuable.Goals as goal

pub returns : goal.returns
returns c = λ core is.
    let i = c.args.self.now in
    let few : i.server.id < SERVERS = subst (λ (j : Issuing). j.server.id < SERVERS) c.self.view_is c.self.invariant.0 in
    let sorted : Ascend i.server.server.cache = subst (λ (j : Issuing). Ascend j.server.server.cache) c.self.view_is (subst (λ cache. Ascend cache.entries) c.cache.ensures c.cover-cover.ensures.ordered) in
    of_kinds (is_log_at i core) (is_place_at i core) (is_rescue_at i) (λ s. is_issuable core i.server.id s (writes core i.server.id)) (none_at_all core i is few sorted) c.next_of_recovery.result
    (subst (IsOneAmong (is_log_at i core) (λ s. is_issuable core i.server.id s (writes core i.server.id))) c.in_default.is (c.next_of_log.ensures core is))
    (subst (IsOneAmong (is_place_at i core) (λ s. is_issuable core i.server.id s (writes core i.server.id))) c.in_default-next_in_place.is (c.next_in_place.ensures core is))
    (c.next_of_recovery.ensures core is)
