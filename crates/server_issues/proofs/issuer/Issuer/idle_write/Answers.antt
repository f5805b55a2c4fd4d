-- The write of the log counts first, then one in place, then one of its recovery.
use Rattle.std.proofs.Common.{◌≡◌, ◌<◌, ℕ, Option, sym, ap, ◌∙◌, subst}
use Rattle.std.specs.Option.{option_copied, option_map}
use Rattle.frang_base.specs.declared.limits.TheConstants.{SERVERS}
use Rattle.sector_bytes.specs.SectorMaps.{Ascend}
use Rattle.log_slots.specs.Reading.{log_rules}
use Rattle.core_definitions.specs.Cores.{stage}
use Rattle.core_definitions.specs.Lines.{Stage}
use Rattle.core_definitions.specs.Writes.{lacks_room}
use Rattle.server_writes.specs.Lists.{entry_at, entry_of}
use Rattle.server_writes.specs.declared.writes.PlaceWrite.{PlaceWrite}
use Rattle.server_issues.specs.Issuing.{Issuing}
use Rattle.server_issues.proofs.Issued.{by_log, by_none, by_place, by_rescue}
use Rattle.server_issues.proofs.issuer.Issuer.idle_write.Goals as goal

pub returns-then-is_some : goal.returns-then-is_some
returns-then-is_some c = λ core is flies works.
    let i = c.args.self.now in
    let few : i.server.id < SERVERS = subst (λ (j : Issuing). j.server.id < SERVERS) c.self.view_is c.self.invariant.0 in
    by_log core i c.args.sector.0 is few works flies c.log_number.result (c.log_number.ensures (stage core i.server.id) is.waits) (sym c.is_some.ensures ∙ c.if-is_some.true) _ c.log_write.ensures

-- what is told of the write in place is told of what is seen
module _ (i : Issuing) (at : Option Stage) (s : ℕ) (one : Option PlaceWrite) where
  abbrev Waits : Issuing → Type 0
  Waits j = lacks_room log_rules j.server.server.ring at ≡ j.waits

  abbrev Told : Issuing → Type 0
  Told j = option_map (entry_of j.server.id) one ≡ entry_at j.locks j.server.id j.server.server at s

  told : (inside : Issuing) → inside ≡ i → Waits i → (Waits inside → Told inside) → Told i
  told inside same waits tells = subst Told same (tells (subst Waits (sym same) waits))

pub returns-in-Some : goal.returns-in-Some
returns-in-Some c = λ core is flies works.
    let i = c.args.self.now in
    let few : i.server.id < SERVERS = subst (λ (j : Issuing). j.server.id < SERVERS) c.self.view_is c.self.invariant.0 in
    let sorted : Ascend i.server.server.cache = subst (λ (j : Issuing). Ascend j.server.server.cache) c.self.view_is (subst (λ cache. Ascend cache.entries) c.cache.ensures c.cover-cover.ensures.ordered) in
    let at = stage core i.server.id in
    let tells = told i at c.args.sector.0 c.place_write.result _ c.self.view_is is.waits (c.place_write.ensures at) in
    by_place core i c.args.sector.0 is few sorted c.log_number.result (c.log_number.ensures at is.waits) (sym c.is_some.ensures ∙ c.if-is_some.false) works flies c.in-Some.write
    (ap (option_map (entry_of i.server.id)) (sym c.in-Some.is) ∙ tells) _ c.placed.ensures

pub returns-in-Some-recovery : goal.returns-in-Some-recovery
returns-in-Some-recovery c = λ core is flies works.
    let i = c.args.self.now in
    let few : i.server.id < SERVERS = subst (λ (j : Issuing). j.server.id < SERVERS) c.self.view_is c.self.invariant.0 in
    let sorted : Ascend i.server.server.cache = subst (λ (j : Issuing). Ascend j.server.server.cache) c.self.view_is (subst (λ cache. Ascend cache.entries) c.cache.ensures c.cover-cover.ensures.ordered) in
    let at = stage core i.server.id in
    let tells = told i at c.args.sector.0 c.place_write.result _ c.self.view_is is.waits (c.place_write.ensures at) in
    by_rescue core i c.args.sector.0 is few sorted c.log_number.result (c.log_number.ensures at is.waits) (sym c.is_some.ensures ∙ c.if-is_some.false) works flies
    (ap (option_map (entry_of i.server.id)) (sym c.in_default.is) ∙ tells) c.in-Some-recovery.demon.now
    (ap (λ (j : Issuing). j.recovery) (sym c.self.view_is) ∙ ap option_copied c.in-Some-recovery.is) _ c.rescue_write.ensures

pub returns-in-None : goal.returns-in-None
returns-in-None c = λ core is flies works.
    let i = c.args.self.now in
    let few : i.server.id < SERVERS = subst (λ (j : Issuing). j.server.id < SERVERS) c.self.view_is c.self.invariant.0 in
    let sorted : Ascend i.server.server.cache = subst (λ (j : Issuing). Ascend j.server.server.cache) c.self.view_is (subst (λ cache. Ascend cache.entries) c.cache.ensures c.cover-cover.ensures.ordered) in
    let at = stage core i.server.id in
    let tells = told i at c.args.sector.0 c.place_write.result _ c.self.view_is is.waits (c.place_write.ensures at) in
    by_none core i c.args.sector.0 is few sorted c.log_number.result (c.log_number.ensures at is.waits) (sym c.is_some.ensures ∙ c.if-is_some.false) works flies
    (ap (option_map (entry_of i.server.id)) (sym c.in_default.is) ∙ tells) (ap (λ (j : Issuing). j.recovery) (sym c.self.view_is) ∙ ap option_copied c.in-None.is)
