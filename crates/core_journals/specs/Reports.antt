-- What a recovery reads and reports of a log, over every run over the logs of a disk: the log as it stood when the recovery began.
use Rattle.std.specs.Prelude.{◌≡◌, ℕ, IsTrue, Some, List, [], ◌∷◌}
use Rattle.frang_base.specs.declared.script.Line.{Line}
use Rattle.frang_base.specs.declared.said.Said.TheVariants as said
use Rattle.disk_definitions.specs.Logs.{log_records}
use Rattle.disk_definitions.specs.Replay.{greatest_of, slots_of}
use Rattle.sector_bytes.specs.Blocks.{Block}
use Rattle.sector_bytes.specs.SectorMaps.{value_at}
use Rattle.sector_bytes.specs.Sectors.{Sectors}
use Rattle.core_definitions.specs.Effects.{Says, deeds_of, id_of}
use Rattle.core_definitions.specs.EndGuards.{CanRecover}
use Rattle.core_definitions.specs.Events.{Finish, Heard}
use Rattle.core_definitions.specs.Guards.{Can}
use Rattle.core_definitions.specs.Logs.{is_read}
use Rattle.core_definitions.specs.Recoveries.{Recovery, redos}
use Rattle.core_definitions.specs.Runs.{State, Step, Run, first_state}
use Rattle.core_definitions.specs.Settings.{Setting, setting_of}
use Rattle.core_definitions.specs.WriteGuards.{is_worker}
use Rattle.core_facts.specs.Rescues.{RecoversLog}

-- a server that is Up, or the host, has the log of this server under recovery
pub record IsAtWork (s : State) (by dead : ℕ) : Type 0 where
  pub works : IsTrue (is_worker s.core by)
  pub recovers : RecoversLog (s.core.servers by) dead

-- from one moment to another it has, all along
pub data Recovering (by dead : ℕ) : State → State → Type 0 where
  At : {s : State} → IsAtWork s by dead → Recovering by dead s s
  Goes : {s v w : State} → Recovering by dead s v → Step v w → IsAtWork w by dead → Recovering by dead s w

-- a recovery that is at work began: it could, and one step later it was at work, and has been since
pub record Began (first s : State) (by dead : ℕ) : Type 0 where
  pub before : State
  pub since : State
  pub reached : Run first before
  pub can : CanRecover before.core dead by
  pub step : Step before since
  pub works : Recovering by dead since s

-- over every run each that is at work did
abbrev pub RecoveriesBegan : Type 0
RecoveriesBegan =
    (setting : Setting) (disk : Sectors) (s : State) → Run (first_state setting disk) s → (by dead : ℕ) → IsAtWork s by dead → Began (first_state setting disk) s by dead

-- what it has read is the log as it stood when it began
abbrev pub RecoveriesReadTheLogAsItStood : Type 0
RecoveriesReadTheLogAsItStood =
    (script : List Line) (segments run : ℕ) (disk : Sectors) (s : State) (by dead : ℕ) → (began : Began (first_state (setting_of script segments run) disk) s by dead) →
    (recovery : Recovery) →
    (s.core.servers by).recovery ≡ Some recovery → (slot : ℕ) (block : Block) → value_at recovery.slots slot ≡ Some block → block ≡ slots_of began.since.disk dead slot

-- so where it ends, its records are those that the log had, and it reports the greatest operation among these
abbrev pub RecoveriesReportTheLogAsItStood : Type 0
RecoveriesReportTheLogAsItStood =
    (script : List Line) (segments run : ℕ) (disk : Sectors) (s : State) (by dead : ℕ) → (began : Began (first_state (setting_of script segments run) disk) s by dead) →
    (heard : Heard) →
    Can s.core (Finish by) → deeds_of s.core (Finish by) heard ≡ Says (said.Recovered (id_of dead) (record { 0 = greatest_of began.since.disk dead })) ∷ []

-- and it replays these records
abbrev pub RecoveriesReplayTheLogAsItStood : Type 0
RecoveriesReplayTheLogAsItStood =
    (script : List Line) (segments run : ℕ) (disk : Sectors) (s : State) (by dead : ℕ) → (began : Began (first_state (setting_of script segments run) disk) s by dead) →
    (recovery : Recovery) →
    (s.core.servers by).recovery ≡ Some recovery → IsTrue (is_read s.core.setting.logs recovery.slots) →
    redos s.core.setting.logs recovery ≡ log_records (slots_of began.since.disk dead)
