-- None is due, or all that are cached were gone through.
use Rattle.std.proofs.Common.{◌≡◌, ◌<◌, Option, None, sym, subst}
use Rattle.frang_base.specs.declared.limits.TheConstants.{SERVERS}
use Rattle.frang_base.specs.declared.sector.Sector.{Sector}
use Rattle.sector_bytes.specs.SectorMaps.{Ascend}
use Rattle.core_definitions.specs.Cores.{stage, writes}
use Rattle.core_definitions.specs.Lines.{Stage}
use Rattle.core_definitions.specs.WriteGuards.{is_issuable}
use Rattle.server_writes.specs.Wants.{IsOneOf, IsRoomFor, is_due}
use Rattle.server_issues.specs.Issuing.{Issuing}
use Rattle.server_issues.specs.Nexts.{is_cached_at, is_place_at}
use Rattle.server_issues.proofs.Nexts.{cached_there, none_due, weaker}
use Rattle.server_issues.proofs.issuer.Issuer.next_in_place.Goals as goal

-- what is told of the next write in place is told of what is seen
module _ (i : Issuing) (at : Option Stage) where
  abbrev Room : Issuing → Type 0
  Room j = IsRoomFor j.server.server at j.room

  abbrev Due : Issuing → Option Sector → Type 0
  Due j r = IsOneOf (is_due j.locks j.server.id j.server.server at j.server.flying) j.server.server.cache r

  told : (inside : Issuing) (r : Option Sector) → inside ≡ i → r ≡ None → Room i → (Room inside → Due inside r) → Due i None
  told inside r same none room tells = subst (λ j. Due j None) same (subst (Due inside) none (tells (subst Room (sym same) room)))

pub returns-in_default : goal.returns-in_default
returns-in_default c = λ core is.
    let i = c.args.self.now in
    let few : i.server.id < SERVERS = subst (λ (j : Issuing). j.server.id < SERVERS) c.self.view_is c.self.invariant.0 in
    let sorted : Ascend i.server.server.cache = subst (λ (j : Issuing). Ascend j.server.server.cache) c.self.view_is (subst (λ cache. Ascend cache.entries) c.cache.ensures c.cover-cover.ensures.ordered) in
    let at = stage core i.server.id in
    none_due core i is few sorted (told i at _ c.next_place_write.result c.self.view_is c.in_default.is is.room (c.next_place_write.ensures at))

pub returns-else-is_issuable : goal.returns-else-is_issuable
returns-else-is_issuable c = λ core is.
    let i = c.args.self.now in
    let few : i.server.id < SERVERS = subst (λ (j : Issuing). j.server.id < SERVERS) c.self.view_is c.self.invariant.0 in
    weaker (is_cached_at i) (is_place_at i core) (λ s. is_issuable core i.server.id s (writes core i.server.id)) (cached_there core i is few) c.any_cached.result (c.any_cached.ensures core is)
