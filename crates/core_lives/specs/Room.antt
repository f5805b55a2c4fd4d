-- How far logs may still come: a budget of numbers for each line that isn't answered, which each step that is shown here keeps.
use Rattle.std.specs.Prelude.{◌≡◌, ◌≤◌, ◌<◌, ◌+◌, ◌*◌, ◌^◌, ◌==◌, ℕ, Bool, not, ◌&&◌, if◌then◌else◌, IsTrue, List, Ok, filter, length}
use Rattle.frang_base.specs.declared.limits.TheConstants.{LOG_IN_FLIGHT_MAX}
use Rattle.frang_base.specs.declared.script.Line.{Line}
use Rattle.script_definitions.specs.ScriptText.{script_of}
use Rattle.sector_bytes.specs.Sectors.{Sectors}
use Rattle.disk_definitions.specs.Logs.{Slots, log_end}
use Rattle.disk_definitions.specs.Replay.{slots_of}
use Rattle.ring_definitions.specs.Rings.{last}
use Rattle.core_definitions.specs.LineGuards.{is_server}
use Rattle.core_definitions.specs.Runs.{State as RunMoment, Step, first_state}
use Rattle.core_definitions.specs.Scripts.{Marks}
use Rattle.core_definitions.specs.Servers.{Server, is_off}
use Rattle.core_definitions.specs.Settings.{setting_of}
use Rattle.sector_world.specs.World.{World}
use Rattle.core_world.specs.Journals.{AreZero, Journal}
use Rattle.core_world.specs.Steps.{IsReached, IsWorldOf}
use Rattle.core_lives.specs.Cleared.{is_shown}

-- a line of this server that isn't answered
abbrev pub is_open_line : ℕ → Marks → Line → Bool
is_open_line a answered line = line.who.0 == a && not (answered line.number)

-- how many there are
abbrev pub lines_left : List Line → Marks → ℕ → ℕ
lines_left script answered a = length (filter (is_open_line a answered) script)

-- how far its log comes without another line: off it is at rest, and else a seal may come behind its ring
abbrev pub reach_of : Server → Slots → ℕ
reach_of server slots = if is_off server.phase then log_end slots else last server.ring + LOG_IN_FLIGHT_MAX

-- with a hundred numbers for each line of its server that isn't answered, of which a mount takes those of a seal
abbrev pub HasRoom : RunMoment → ℕ → Type 0
HasRoom s a = reach_of (s.core.servers a) (slots_of s.disk a) + 100 * lines_left s.core.setting.script s.core.answered a ≤ 2 ^ 61

-- so a log at rest ends far below where its numbers end
abbrev pub RoomIsEnough : Type 0
RoomIsEnough = (s : RunMoment) (a : ℕ) → HasRoom s a → IsTrue (is_off (s.core.servers a).phase) → log_end (slots_of s.disk a) < 2 ^ 62

-- at the first moment of a run of a script that was read, over zero logs of its servers, each of them has room
abbrev pub FirstMomentsHaveRoom : Type 0
FirstMomentsHaveRoom =
    (bytes : List ℕ) (script : List Line) (segments number : ℕ) (disk : Sectors) (a : ℕ) → script_of bytes ≡ Ok script →
    AreZero disk → IsTrue (is_server a) → HasRoom (first_state (setting_of script segments number) disk) a

-- and the steps that are shown here keep it
abbrev pub StepsKeepRoom : Type 0
StepsKeepRoom =
    (s v : RunMoment) (w : World) (journal : ℕ → Journal) (step : Step s v) → IsTrue (is_shown s v step) → IsReached s → IsWorldOf s w journal → (a : ℕ) → IsTrue (is_server a) →
    HasRoom s a → HasRoom v a
