-- What a server may fetch: a sector that its line needs has a cover, and one that it doesn't need is a slot of the log of a server that is off.
use Rattle.std.proofs.Common.{ℕ, ◌≡◌, ◌<◌, ⊎_elim, true, ◌&&◌, ◌||◌, not, Option, Some, None, is_some, map, refl, sym, ap, subst, ◌∙◌, arith}
use Rattle.std.specs.Map.{keys_of}
use Rattle.std.proofs.lemmas.Bool.{and_parts, or_cases}
use Rattle.disk_definitions.proofs.Listed.{among_filtered, below_among}
use Rattle.disk_definitions.specs.Regions.{sector_of}
use Rattle.disk_definitions.specs.declared.region.Region.TheVariants as region
use Rattle.frang_base.specs.Functions.{member}
use Rattle.frang_base.specs.declared.limits.TheConstants.{LOG_SECTORS}
use Rattle.frang_base.specs.declared.lock.LockId.{LockId}
use Rattle.tree_definitions.specs.Numbers.{below}
use Rattle.tree_definitions.specs.Transcript.{is_mount}
use Rattle.core_definitions.specs.Cores.{Core, stage}
use Rattle.core_definitions.specs.LineEffects.{cover_needed}
use Rattle.core_definitions.specs.LineGuards.{is_needed, is_unread, needed_by, slots_under}
use Rattle.core_definitions.specs.Lines.{Stage, Asking, Fetching, Moving, Stopping, Growing, Clearing, Finishing, Under}
use Rattle.core_definitions.specs.Logs.{is_slot_read, unread}
use Rattle.core_definitions.specs.Servers.{asks, is_off, is_up}
use Rattle.core_definitions.specs.Settings.{disk_logs}
use Rattle.server_core.specs.Effects.{IsSlot}
use Rattle.core_laws.proofs.Keys.{key_value, member_in}
use Rattle.core_laws.proofs.Membership.{FromMap, from_map}

-- ---- a sector that the line needs

pub covered : (at : Option Stage) (sector : ℕ) → member sector (needed_by at) ≡ true → is_some (cover_needed at sector) ≡ true
covered None sector needed = absurd (cc)
covered (Some (Asking need)) sector needed = absurd (cc)
covered (Some (Fetching needs)) sector needed = key_value needs sector (member_in sector (keys_of needs) needed)
covered (Some Moving) sector needed = absurd (cc)
covered (Some Stopping) sector needed = absurd (cc)
covered (Some (Growing needs seen)) sector needed = absurd (cc)
covered (Some (Clearing block)) sector needed = absurd (cc)
covered (Some (Finishing outcome)) sector needed = absurd (cc)

pub covered_is_staged : (at : Option Stage) (sector : ℕ) {cover : LockId} → cover_needed at sector ≡ Some cover → is_some at ≡ true
covered_is_staged None sector is = absurd (cc)
covered_is_staged (Some at) sector is = refl

-- ---- a slot

pub slot_is : (a slot : ℕ) → slot < LOG_SECTORS → IsSlot a (sector_of (region.Log a slot))
slot_is a slot small = record { first = omega arith; last = omega arith }

slot_among : (a sector : ℕ) (under : Under) → member sector (slots_under disk_logs a (Some under)) ≡ true → IsSlot a sector
slot_among a sector under is =
    let f : FromMap (λ slot. sector_of (region.Log a slot)) (unread disk_logs under.slots) sector =
    from_map (λ slot. sector_of (region.Log a slot)) (unread disk_logs under.slots) sector (member_in sector (map (λ slot. sector_of (region.Log a slot)) (unread disk_logs under.slots)) is) in
    subst (IsSlot a) f.is (slot_is a f.from (below_among LOG_SECTORS f.from (among_filtered (λ slot. not (is_slot_read under.slots slot)) (below LOG_SECTORS) f.from f.there).0))

pub slot_under : (a sector : ℕ) (under : Option Under) → member sector (slots_under disk_logs a under) ≡ true → IsSlot a sector
slot_under a sector None is = absurd (cc)
slot_under a sector (Some under) is = slot_among a sector under is

-- ---- either

module _ (c : Core) (a sector : ℕ) (lacks : (is_needed c a (stage c a) sector || is_unread c a sector) ≡ true) (none : cover_needed (stage c a) sector ≡ None) where
  pub is_left_unread : is_unread c a sector ≡ true
  is_left_unread =
      ⊎_elim
      (λ needed. absurd (let some : is_some (cover_needed (stage c a) sector) ≡ true = covered (stage c a) sector (and_parts (is_up (c.servers a).phase) (member sector (needed_by (stage c a))) needed).1 in cc))
      (λ unread. unread) (or_cases (is_needed c a (stage c a) sector) (is_unread c a sector) lacks)

  parts : ((is_off (c.servers a).phase && asks is_mount (c.servers a)) ≡ true) × (member sector (slots_under c.setting.logs a (c.servers a).under) ≡ true)
  parts = and_parts (is_off (c.servers a).phase && asks is_mount (c.servers a)) (member sector (slots_under c.setting.logs a (c.servers a).under)) is_left_unread

  pub unread_is_off : is_off (c.servers a).phase ≡ true
  unread_is_off = (and_parts (is_off (c.servers a).phase) (asks is_mount (c.servers a)) parts.0).0

  pub unread_is_slot : c.setting.logs ≡ disk_logs → IsSlot a sector
  unread_is_slot logs = slot_under a sector (c.servers a).under (ap (λ l. member sector (slots_under l a (c.servers a).under)) (sym logs) ∙ parts.1)
