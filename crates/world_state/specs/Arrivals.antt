-- What a write that arrives makes of the core and of the parties.
use Rattle.std.specs.Prelude.{◌≡◌, ◌<◌, ◌==◌, ℕ, Bool, false, if◌then◌else◌, Option, None}
use Rattle.frang_base.specs.Functions.{member, put}
use Rattle.frang_base.specs.declared.limits.TheConstants.{SERVERS}
use Rattle.sector_bytes.specs.SectorMaps.{value_at}
use Rattle.petal_disk.specs.declared.flying.Flying.{Flying}
use Rattle.petal_disk.specs.declared.flying.Purpose.{Purpose}
use Rattle.petal_disk.specs.declared.flying.Purpose.TheVariants.{OfLog, InPlace, OfRecovery}
use Rattle.petal_disk.specs.declared.ticket.Arrived.{Arrived}
use Rattle.petal_disk.specs.declared.ticket.Arrived.TheVariants.{Written, Late, Failed, NoMemory}
use Rattle.flight_laws.specs.Flights.{purpose_of}
use Rattle.core_definitions.specs.Cores.{Core}
use Rattle.core_definitions.specs.Events as heard
use Rattle.core_definitions.specs.LineEffects.{failed_by}
use Rattle.core_definitions.specs.LineGuards.{is_server}
use Rattle.core_definitions.specs.Scripts.{host_party}
use Rattle.core_definitions.specs.Servers.{Server}
use Rattle.core_definitions.specs.WriteEffects.{acknowledged, arrived}
use Rattle.world_parties.specs.States.{Keeps, State as Parties, Stays, flags_at, issued_at, servers_at}

-- ---- the core

-- by how it arrived; of one that failed, whichever block its sector has
abbrev pub Arrives : Core → Core → ℕ → Arrived → Type 0
Arrives old new ticket Written = new ≡ arrived old ticket heard.Written
Arrives old new ticket (Late stamp now) = new ≡ arrived old ticket heard.Late
Arrives old new ticket Failed = (took : Bool) → new ≡ arrived old ticket (heard.PutFailed took)
Arrives old new ticket NoMemory = new ≡ old

-- ---- the parties

-- nothing that is kept of a party says that a write of this sector by it is in flight
pub record IsForgotten (parties : Parties) (by sector : ℕ) : Type 0 where
  pub flag : by < SERVERS → member sector (flags_at parties by) ≡ false
  pub issued : value_at (issued_at parties by) sector ≡ None

-- the servers are these from then on, and nothing is kept of the write any more
pub record Leaves (old new : Parties) (flying : Flying) (after : ℕ → Server) : Type 0 where
  pub servers : servers_at new ≡ after
  pub stays : Stays old new
  pub keeps : Keeps old new
  pub forgotten : IsForgotten new flying.put.server.0 flying.put.sector.0

-- once a write was taken, one of the present mount is acknowledged
abbrev pub acknowledged_at : Parties → Flying → ℕ → Server
acknowledged_at parties flying =
    put (servers_at parties) flying.put.server.0 (acknowledged flying.put.sector.0 flying.put.bytes (purpose_of flying.purpose) (servers_at parties flying.put.server.0))

abbrev pub servers_taken : Parties → Flying → ℕ → Server
servers_taken parties flying = if flying.present then acknowledged_at parties flying else servers_at parties

-- what a log's oldest records name isn't kept any more then
abbrev pub oldest_left : {X : Type 0} → Purpose → Option X → Option X
oldest_left (OfLog number) oldest = None
oldest_left (InPlace cover) oldest = oldest
oldest_left OfRecovery oldest = oldest

-- one that failed counts for a server
abbrev pub servers_failed : Parties → ℕ → ℕ → Server
servers_failed parties by = if is_server by then put (servers_at parties) by (failed_by (servers_at parties by)) else servers_at parties

-- by how it arrived
abbrev pub Lands : Parties → Parties → Flying → Arrived → Type 0
Lands old new flying Written = Leaves old new flying (servers_taken old flying)
Lands old new flying (Late stamp now) = Leaves old new flying (servers_at old)
Lands old new flying Failed = Leaves old new flying (servers_failed old flying.put.server.0)
Lands old new flying NoMemory = new ≡ old

-- a write that failed was the host's, which ends the core
abbrev pub ends_core : Arrived → ℕ → Bool
ends_core Failed by = by == host_party
ends_core Written by = false
ends_core (Late stamp now) by = false
ends_core NoMemory by = false
