-- Only sectors in regions of the disk are written, as far as the core itself says it.
use Rattle.std.specs.Prelude.{◌≡◌, ◌≤◌, ℕ, IsTrue, Some, None, [], ◌∷◌, List}
use Rattle.std.specs.List.{All}
use Rattle.frang_base.specs.declared.limits.TheConstants.{SEGMENTS_MAX}
use Rattle.frang_base.specs.declared.op.Op.TheVariants as op
use Rattle.frang_base.specs.declared.op.What.TheVariants as what
use Rattle.frang_base.specs.declared.script.Line.{Line}
use Rattle.disk_definitions.specs.FreshDisk.{fresh_param}
use Rattle.disk_definitions.specs.Params.{param_fits}
use Rattle.disk_definitions.specs.Regions.{region_of}
use Rattle.sector_bytes.specs.Blocks.{zero_block}
use Rattle.sector_bytes.specs.SectorMaps.{value_at}
use Rattle.sector_bytes.specs.Sectors.{Sectors}
use Rattle.core_definitions.specs.Flights.{Flight, InPlace, OfLog, OfRecovery, Purpose}
use Rattle.core_definitions.specs.Opening.{fresh_puts, fresh_start, moment_of}
use Rattle.core_definitions.specs.Runs.{State, Run, first_state}
use Rattle.core_definitions.specs.Settings.{setting_of}
use Rattle.run_laws.specs.Writing.{IsOfDisk, PutsOnDisk, StaysOnDisk}

-- ---- of every run

-- one of its server's log or of a recovery; a write in place is of what a line made dirty
abbrev pub IsOfLogs : Purpose → Type 0
IsOfLogs (OfLog number) = Unit {0}
IsOfLogs (InPlace cover) = ⊥
IsOfLogs OfRecovery = Unit {0}

-- over every run over the logs of a disk each write in flight of a log or of a recovery is of a sector of the disk
abbrev pub LogsAndRecoveriesStayOnDisk : Type 0
LogsAndRecoveriesStayOnDisk =
    (script : List Line) (segments run : ℕ) (disk : Sectors) (s : State) → segments ≤ SEGMENTS_MAX → Run (first_state (setting_of script segments run) disk) s → (ticket : ℕ) (flight : Flight) →
    value_at s.core.flights ticket ≡ Some flight → IsOfLogs flight.purpose → IsOfDisk segments flight.sector

-- ---- of every run whose lines make only sectors of the disk dirty

-- each write in flight is of a sector of the disk
abbrev pub WritesStayOnDisk : Type 0
WritesStayOnDisk =
    (script : List Line) (segments run : ℕ) (disk : Sectors) (s : State) → segments ≤ SEGMENTS_MAX → (goes : Run (first_state (setting_of script segments run) disk) s) →
    StaysOnDisk (first_state (setting_of script segments run) disk) s goes → (ticket : ℕ) (flight : Flight) → value_at s.core.flights ticket ≡ Some flight → IsOfDisk segments flight.sector

-- each put of its record is of a sector of the disk
abbrev pub PutsStayOnDisk : Type 0
PutsStayOnDisk =
    (script : List Line) (segments run : ℕ) (disk : Sectors) (s : State) → segments ≤ SEGMENTS_MAX → (goes : Run (first_state (setting_of script segments run) disk) s) →
    StaysOnDisk (first_state (setting_of script segments run) disk) s goes → All (PutsOnDisk segments) s.record_

-- and a sector in no region is as it was at first, whichever puts failed
abbrev pub OthersStay : Type 0
OthersStay =
    (script : List Line) (segments run : ℕ) (disk : Sectors) (s : State) → segments ≤ SEGMENTS_MAX → (goes : Run (first_state (setting_of script segments run) disk) s) →
    StaysOnDisk (first_state (setting_of script segments run) disk) s goes → (sector : ℕ) → region_of segments sector ≡ None → s.disk sector ≡ disk sector

-- ---- on a fresh disk

-- the puts of its opening are of sectors of the disk
abbrev pub FreshPutsAreOnDisk : Type 0
FreshPutsAreOnDisk = (segments : ℕ) → IsTrue (param_fits (fresh_param segments)) → All (λ put. IsOfDisk segments put.0) (fresh_puts segments)

-- so over a run from it a sector in no region is zero
abbrev pub OthersAreZero : Type 0
OthersAreZero =
    (script : List Line) (segments : ℕ) (s : State) → IsTrue (param_fits (fresh_param segments)) → (goes : Run (moment_of (fresh_start script segments)) s) →
    StaysOnDisk (moment_of (fresh_start script segments)) s goes → (sector : ℕ) → region_of segments sector ≡ None → s.disk sector ≡ zero_block

-- ---- that such runs are

-- a script of one line, a mount at server 0
abbrev pub mount_line : Line
mount_line = record { number = 1; who = record { 0 = 0 }; what = what.Server op.Mount }

abbrev pub mounting : State
mounting = moment_of (fresh_start (mount_line ∷ []) 1)

-- a run over a fresh disk in which that line passes the gate and begins
pub record Begins : Type 0 where
  pub moment : State
  pub goes : Run mounting moment
  pub stays : StaysOnDisk mounting moment goes
