-- The writes in flight on behalf of dead servers, over every run over the logs of a disk.
use Rattle.std.specs.Prelude.{◌≡◌, ◌⊎◌, ℕ, true, false, IsTrue, Some, List}
use Rattle.std.specs.List.{Contains}
use Rattle.frang_base.specs.declared.script.Line.{Line}
use Rattle.lock_definitions.specs.declared.claim.LogHold.{LogHold}
use Rattle.lock_definitions.specs.Lease.{IsInTime}
use Rattle.lock_definitions.specs.Locks.{log_hold}
use Rattle.sector_bytes.specs.Sectors.{Sectors}
use Rattle.core_definitions.specs.Cores.{Core}
use Rattle.core_definitions.specs.Flights.{Flight, OfRecovery}
use Rattle.core_definitions.specs.Recoveries.{Recovery, is_written}
use Rattle.core_definitions.specs.Runs.{State, Run, first_state}
use Rattle.core_definitions.specs.Servers.{Server, is_dead}
use Rattle.core_definitions.specs.Settings.{setting_of}

-- the server has a recovery of this log
pub record RecoversLog (server : Server) (dead : ℕ) : Type 0 where
  pub recovery : Recovery
  pub is : server.recovery ≡ Some recovery
  pub of : recovery.dead ≡ dead

-- the write is by the holder of the log on whose behalf it is, who recovers it, or is Dead since
pub record IsByHolder (c : Core) (flight : Flight) : Type 0 where
  pub hold : LogHold
  pub taken : log_hold c.locks flight.behalf ≡ Some hold
  pub by : hold.by.0 ≡ flight.server
  pub since : RecoversLog (c.servers flight.server) flight.behalf ⊎ IsTrue (is_dead (c.servers flight.server).phase)

-- over every run each write of a recovery that is in time is
abbrev pub RescuesAreByHolders : Type 0
RescuesAreByHolders =
    (script : List Line) (segments run : ℕ) (disk : Sectors) (s : State) → Run (first_state (setting_of script segments run) disk) s → (one : ℕ × Flight) →
    Contains s.core.flights one → one.1.purpose ≡ OfRecovery → IsInTime one.1.stamp s.core.now → IsByHolder s.core one.1

-- the recovery of its server is of the log on whose behalf it is, and it isn't acknowledged for it
pub record IsUnwritten (server : Server) (flight : Flight) : Type 0 where
  pub recovers : RecoversLog server flight.behalf
  pub unwritten : is_written recovers.recovery flight.sector ≡ false

-- over every run each of the present mount is
abbrev pub RescuesAreUnwritten : Type 0
RescuesAreUnwritten =
    (script : List Line) (segments run : ℕ) (disk : Sectors) (s : State) → Run (first_state (setting_of script segments run) disk) s → (one : ℕ × Flight) →
    Contains s.core.flights one → one.1.purpose ≡ OfRecovery → one.1.present ≡ true → IsUnwritten (s.core.servers one.1.server) one.1
