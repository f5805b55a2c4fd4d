-- Which write of a sector the host may issue: one of its recovery.
use Rattle.std.proofs.Common.{◌≡◌, ℕ, ◌+◌, ◌-◌, ◌<◌, ◌≤◌, Bool, true, false, not, ◌&&◌, if◌then◌else◌, Option, None, is_some, nat_le, refl, sym, ap, ◌∙◌, arith}
use Rattle.std.proofs.lemmas.Bool.{le-leb, ltb-true}
use Rattle.std.specs.Option.{option_map, option_or, unwrap_or}
use Rattle.sector_bytes.specs.SectorMaps.{value_at}
use Rattle.petal_disk.specs.Flying.{InFlight}
use Rattle.ring_definitions.specs.Rings.{ring_at}
use Rattle.log_slots.specs.Reading.{log_rules}
use Rattle.core_definitions.specs.Cores.{Core, stage, stamp_of, writes}
use Rattle.core_definitions.specs.Flights.{is_flying}
use Rattle.core_definitions.specs.Lines.{Stage}
use Rattle.core_definitions.specs.Rings.{next_write}
use Rattle.core_definitions.specs.Scripts.{host_party}
use Rattle.core_definitions.specs.Servers.{Server}
use Rattle.core_definitions.specs.Settings.{LogRules}
use Rattle.core_definitions.specs.WriteGuards.{is_at_last, is_issuable, may_issue}
use Rattle.core_definitions.specs.Writes.{Write, log_wanted_to, log_write, place_writes, rescue_writes}
use Rattle.recovery_demon.specs.Recovering.{Recovering}
use Rattle.server_issues.specs.Doubled.{last_at}
use Rattle.server_issues.specs.Issuing.{IsHost, issuable_write}
use Rattle.server_issues.specs.Nexts.{is_rescue_of}
use Rattle.server_issues.proofs.Issued.{busy, by_parts, free_passes, rescue_settled, some_passes}
use Rattle.server_issues.proofs.Nexts.{rescued_none}
use Rattle.server_issues.proofs.Overlay.{the_log_counts_first}

module _ (c : Core) (recovery : Option Recovering) (flights : InFlight) (is : IsHost c recovery flights) (s : ℕ) where
  abbrev at : Option Stage
  at = stage c host_party

  abbrev over : LogRules → Server → Option Write
  over logs server = option_or (value_at (log_write logs host_party (log_wanted_to logs c.locks host_party server at) (next_write server.ring)) s)
      (option_or (last_at (place_writes logs c.locks host_party server at) s) (last_at (rescue_writes logs c.setting.segments server.recovery) s))

  abbrev pub rescued : Option Write
  rescued = last_at (rescue_writes log_rules c.setting.segments (option_map (λ r. r.recovery) recovery)) s

  found : value_at (writes c host_party) s ≡ rescued
  found = the_log_counts_first c.setting c.locks host_party (c.servers host_party) (stage c host_party) s ∙ (λ j. over (is.logs j) (is.server j))

  early : nat_le c.now (stamp_of c host_party) ≡ true
  early = le-leb c.now (c.now + c.setting.lease_ticks - c.setting.margin_ticks) (outlasts c.now c.setting.lease_ticks c.setting.margin_ticks (ltb-true c.setting.margin_ticks c.setting.lease_ticks c.setting.lease_outlasts))
    where
      outlasts : (n l m : ℕ) → m < l → n ≤ n + l - m
      outlasts n l m less = omega (arith, less)

  parts : is_issuable c host_party s (writes c host_party) ≡ by_parts true true true (is_flying c.flights s) log_rules (ring_at 0) rescued
  parts = λ j. by_parts true (early j) (not (is.server j).failed) (is_flying c.flights s) (is.logs j) (is.server j).ring (found j)

  -- it isn't armed
  pub same_may : may_issue c host_party s (writes c host_party) ≡ is_issuable c host_party s (writes c host_party)
  same_may = ap (λ (server : Server). is_issuable c host_party s (writes c host_party) && not (is_at_last server.arming)) is.server ∙ alone (is_issuable c host_party s (writes c host_party))
    where
      alone : (b : Bool) → (b && true) ≡ b
      alone true = refl
      alone false = refl

  pub stops_busy : is_flying c.flights s ≡ true → is_issuable c host_party s (writes c host_party) ≡ false
  stops_busy flies = parts ∙ ap (λ f. by_parts true true true f log_rules (ring_at 0) rescued) flies ∙ busy true true true log_rules (ring_at 0) rescued

  free : is_flying c.flights s ≡ false → is_issuable c host_party s (writes c host_party) ≡ by_parts true true true false log_rules (ring_at 0) rescued
  free flies = parts ∙ ap (λ f. by_parts true true true f log_rules (ring_at 0) rescued) flies

  pub none_busy : is_flying c.flights s ≡ true → None ≡ issuable_write c host_party s
  none_busy flies = sym (ap (λ b. if b then value_at (writes c host_party) s else None) (stops_busy flies))

  pub by_rescue : is_flying c.flights s ≡ false → rescued ≡ issuable_write c host_party s
  by_rescue flies =
      sym ((λ j. if free flies j then found j else None) ∙ free_passes (ring_at 0) rescued ∙ rescue_settled (ring_at 0) c.setting.segments (option_map (λ r. r.recovery) recovery) s)

  pub some_may : is_some (issuable_write c host_party s) ≡ may_issue c host_party s (writes c host_party)
  some_may = (λ j. is_some (if parts j then found j else None)) ∙ some_passes true true true (is_flying c.flights s) log_rules (ring_at 0) rescued ∙ sym parts ∙ sym same_may

  -- where its recovery wants no write of the sector it may issue none
  pub none_wanted : unwrap_or (option_map (λ r. is_rescue_of r s) recovery) false ≡ false → may_issue c host_party s (writes c host_party) ≡ false
  none_wanted off = same_may ∙ by_flying (is_flying c.flights s) refl
    where
      by_flying : (b : Bool) → is_flying c.flights s ≡ b → is_issuable c host_party s (writes c host_party) ≡ false
      by_flying true flies = stops_busy flies
      by_flying false flies = free flies ∙ ap (by_parts true true true false log_rules (ring_at 0)) (rescued_none c recovery s is.recovery flies off)
