-- What stands of the logs goes on at each step with the journals that the laws of steps name; and so does the room that keeps their numbers small.
use Rattle.std.specs.Prelude.{◌<◌, ◌≤◌, ◌+◌, ◌*◌, ◌^◌, ◌≡◌, ℕ, IsTrue, List, Ok}
use Rattle.frang_base.specs.declared.limits.TheConstants.{LOG_SECTORS, LOG_WINDOW, SECTOR_BYTES}
use Rattle.frang_base.specs.declared.script.Line.{Line}
use Rattle.script_definitions.specs.ScriptText.{script_of}
use Rattle.sector_bytes.specs.Bytes.{zeros}
use Rattle.sector_bytes.specs.Sectors.{Sectors}
use Rattle.disk_definitions.specs.Replay.{slots_of}
use Rattle.core_definitions.specs.LineGuards.{is_server}
use Rattle.core_definitions.specs.Opening.{IsStart, Start, moment_of}
use Rattle.core_definitions.specs.Runs.{State as RunMoment, Run, Step, first_state}
use Rattle.core_definitions.specs.Settings.{setting_of}
use Rattle.core_journals.specs.Logs.{HasFitRecords}
use Rattle.core_lives.specs.Room.{HasRoom, lines_left, reach_of}
use Rattle.core_world.specs.Beside.{AreOpen}
use Rattle.core_world.specs.Journals.{AreZero, Journal}
use Rattle.core_world.specs.Steps.{IsReached}
use Rattle.core_readings.specs.Logs.{AreLogs}
use Rattle.core_log_steps.specs.Journals.{HaveSameLogs, journals_next}

-- ---- room

-- with as many numbers as a ring has room for, for each line of its server that isn't answered, a log ends far below where its numbers end
abbrev pub HasLogRoom : RunMoment → ℕ → Type 0
HasLogRoom s a = reach_of (s.core.servers a) (slots_of s.disk a) + LOG_WINDOW * lines_left s.core.setting.script s.core.answered a ≤ 2 ^ 61

-- that is more than the laws of steps ask for
abbrev pub LogRoomIsRoom : Type 0
LogRoomIsRoom = (s : RunMoment) (a : ℕ) → HasLogRoom s a → HasRoom s a

-- at the first moment of a run of a script that was read there is room in a log that is zero
abbrev pub FirstMomentsHaveLogRoom : Type 0
FirstMomentsHaveLogRoom =
    (bytes : List ℕ) (script : List Line) (segments number : ℕ) (disk : Sectors) (a : ℕ) → script_of bytes ≡ Ok script → ((slot : ℕ) → slot < LOG_SECTORS → slots_of disk a slot ≡ zeros SECTOR_BYTES) →
    HasLogRoom (first_state (setting_of script segments number) disk) a

-- ---- what stands at a moment

-- each log as its journal has it, and room in each
pub record AreStanding (s : RunMoment) (journal : ℕ → Journal) : Type 0 where
  pub logs : AreLogs s journal
  pub room : (a : ℕ) → IsTrue (is_server a) → HasLogRoom s a

-- what isn't of the core alone: the record of each line that is planned to its end may stand in a log
abbrev pub AreFit : RunMoment → Type 0
AreFit s = (a : ℕ) → IsTrue (is_server a) → HasFitRecords s a

-- where each log stands that of a dead server whose lease isn't over has nothing of a seal
abbrev pub StandingLogsAreOpen : Type 0
StandingLogsAreOpen = (s : RunMoment) (journal : ℕ → Journal) → AreStanding s journal → AreOpen s.core.servers s.core.now s.disk journal

-- ---- from step to step

-- at each step of a run it goes on with the journals that are named, wherever operations end in them
abbrev pub LogsGoOnBeside : Type 0
LogsGoOnBeside =
    (s v : RunMoment) (step : Step s v) (journal further : ℕ → Journal) → IsReached s → AreFit s → AreStanding s journal → HaveSameLogs further (journals_next s v step journal) →
    AreStanding v further

-- ---- over a run

-- the journals that are named, step by step
pub data Along : RunMoment → (ℕ → Journal) → RunMoment → (ℕ → Journal) → Type 0 where
  Stays : {s : RunMoment} {journal : ℕ → Journal} → Along s journal s journal
  Goes : {s v w : RunMoment} {journal further last : ℕ → Journal} (step : Step s v) → AreFit s → HaveSameLogs further (journals_next s v step journal) → Along v further w last → Along s journal w last

-- so it goes on over the whole run
abbrev pub LogsStandAlong : Type 0
LogsStandAlong = (s v : RunMoment) (journal further : ℕ → Journal) → IsReached s → AreStanding s journal → Along s journal v further → IsReached v × AreStanding v further

-- and whatever the run is there are such journals, where at each moment on the way the records of planned lines may stand in logs
abbrev pub RunsHaveJournals : Type 0
RunsHaveJournals =
    (s v : RunMoment) (journal : ℕ → Journal) → Run s v → ((u : RunMoment) → Run s u → Run u v → AreFit u) → (further : ℕ → Journal) × Along s journal v further

-- where the logs of the servers are zero it stands at the first moment, whatever the journals, since no server is mounted
abbrev pub LogsStandAtFirst : Type 0
LogsStandAtFirst =
    (bytes : List ℕ) (script : List Line) (segments number : ℕ) (disk : Sectors) (journal : ℕ → Journal) → script_of bytes ≡ Ok script → AreZero disk →
    AreStanding (first_state (setting_of script segments number) disk) journal

-- so it does behind an opening, whose logs are zero
abbrev pub LogsStandBehindOpenings : Type 0
LogsStandBehindOpenings =
    (start : Start) → IsStart start → (bytes : List ℕ) → script_of bytes ≡ Ok start.script → (journal : ℕ → Journal) → AreZero start.disk × AreStanding (moment_of start) journal
