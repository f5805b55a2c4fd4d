-- What is issued, who issues, and of which core that is.
use Rattle.std.specs.Prelude.{◌≡◌, ℕ, ◌==◌, ◌&&◌, Bool, true, false, if◌then◌else◌, is_some, nat_le, IfSome, Option, Some, None, List}
use Rattle.std.specs.Option.{option_and_then, option_map}
use Rattle.frang_base.specs.Functions.{member}
use Rattle.frang_base.specs.declared.limits.TheConstants.{MARGIN_TICKS}
use Rattle.frang_base.specs.declared.sector.Sector.{Sector}
use Rattle.lock_definitions.specs.Locks.{Locks}
use Rattle.sector_bytes.specs.Blocks.{Block}
use Rattle.sector_bytes.specs.SectorMaps.{value_at}
use Rattle.petal_disk.specs.Flying.{InFlight}
use Rattle.flight_laws.specs.Flights.{flights_of, purpose_of}
use Rattle.log_slots.specs.Reading.{log_rules}
use Rattle.core_definitions.specs.Cores.{Core, stage, writes}
use Rattle.core_definitions.specs.Flights.{OfLog, is_flying}
use Rattle.core_definitions.specs.Lines.{Stage}
use Rattle.core_definitions.specs.Logs.{log_sector}
use Rattle.core_definitions.specs.Rings.{next_write}
use Rattle.core_definitions.specs.Scripts.{host_party}
use Rattle.core_definitions.specs.Servers.{Server, first_server}
use Rattle.core_definitions.specs.WriteGuards.{is_issuable}
use Rattle.core_definitions.specs.Writes.{Write, lacks_room, log_wanted_to}
use Rattle.recovery_demon.specs.Recovering.{Recovering}
use Rattle.server_core.specs.States.{State}
use Rattle.server_writes.specs.Wants.{IsRoomFor}
use Rattle.server_issues.specs.declared.writes.WantedWrite.{WantedWrite}

-- ---- what is issued

-- the write of the core that it is
abbrev pub write_of : WantedWrite → Write
write_of write = record { behalf = write.behalf.0; block = write.block; purpose = purpose_of write.purpose; mark = write.mark }

-- of a log the write of this number and block
abbrev pub log_entry : ℕ → ℕ × Block → Write
log_entry number next = record { behalf = number; block = next.1; purpose = OfLog next.0; mark = None }

-- the number of the log's write at a sector, where one is wanted there
abbrev pub wanted_number : Locks → ℕ → Server → Option Stage → ℕ → Option ℕ
wanted_number locks number server stage sector =
    option_and_then (λ next. if nat_le next.0 (log_wanted_to log_rules locks number server stage) && (log_sector log_rules number next.0 == sector) then Some next.0 else None) (next_write server.ring)

-- the write of a sector, where it is issuable
abbrev pub issuable_write : Core → ℕ → ℕ → Option Write
issuable_write c a sector = if is_issuable c a sector (writes c a) then value_at (writes c a) sector else None

-- a sector that passes; none where none does
abbrev pub IsOneThat : (ℕ → Bool) → Option Sector → Type 0
IsOneThat passes None = (sector : ℕ) → passes sector ≡ false
IsOneThat passes (Some sector) = passes sector.0 ≡ true

-- ---- who issues

-- a server, its recovery, the locks, the writes in flight and the tick; whether its line waits for room in its log, and which sectors have to be clean before there is
pub record Issuing : Type 0 where
  pub server : State
  pub recovery : Option Recovering
  pub locks : Locks
  pub flights : InFlight
  pub tick : ℕ
  pub waits : Bool
  pub room : List ℕ

-- its server as that of the core
abbrev pub server_of : Issuing → Server
server_of i = record i.server.server { recovery = option_map (λ r. r.recovery) i.recovery }

-- ---- of which core it is

-- a recovery on its disk, whose issued writes are in flight
pub record IsRecoveryOf (c : Core) (r : Recovering) : Type 0 where
  pub segments : c.setting.segments ≡ r.segments
  pub issued : (sector : ℕ) → is_some (value_at r.issued sector) ≡ true → is_flying c.flights sector ≡ true

-- the server of its number, its locks, flights and clock; what the line of the server waits for; and of a sector with the flag that a write of it is in flight, one is
pub record IsIssuing (c : Core) (i : Issuing) : Type 0 where
  pub server : c.servers i.server.id ≡ server_of i
  pub locks : c.locks ≡ i.locks
  pub flights : c.flights ≡ flights_of i.flights
  pub tick : c.now ≡ i.tick
  pub logs : c.setting.logs ≡ log_rules
  pub margin : c.setting.margin_ticks ≡ MARGIN_TICKS
  pub recovery : IfSome i.recovery (IsRecoveryOf c)
  pub waits : lacks_room log_rules i.server.server.ring (stage c i.server.id) ≡ i.waits
  pub room : IsRoomFor i.server.server (stage c i.server.id) i.room
  pub flagged : (sector : ℕ) → member sector i.server.flying ≡ true → is_flying c.flights sector ≡ true

-- the host, of which only the recovery counts
pub record IsHost (c : Core) (rescue : Option Recovering) (flying : InFlight) : Type 0 where
  pub server : c.servers host_party ≡ record first_server { recovery = option_map (λ r. r.recovery) rescue }
  pub flights : c.flights ≡ flights_of flying
  pub logs : c.setting.logs ≡ log_rules
  pub recovery : IfSome rescue (IsRecoveryOf c)
