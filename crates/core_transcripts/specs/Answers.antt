-- Which lines are answered, and when: what holds of the record of every run.
use Rattle.std.specs.Prelude.{◌≡◌, ℕ, ◌<◌, ◌==◌, false, IsTrue, Option, Some, None, Ok, List, ◌++◌, filter, map}
use Rattle.std.specs.List.{Contains, filter_map}
use Rattle.frang_base.specs.declared.said.Said.{Said}
use Rattle.frang_base.specs.declared.said.Said.TheVariants as said
use Rattle.frang_base.specs.declared.script.Line.{Line}
use Rattle.script_definitions.specs.ScriptText.{script_of}
use Rattle.sector_bytes.specs.Sectors.{Sectors}
use Rattle.tree_definitions.specs.Transcript.{lines_for, next_line}
use Rattle.core_definitions.specs.Settings.{Setting}
use Rattle.core_definitions.specs.Lines.{Under}
use Rattle.core_definitions.specs.Scripts.{host_party}
use Rattle.core_definitions.specs.Cores.{next_of}
use Rattle.core_definitions.specs.LineGuards.{is_server}
use Rattle.core_definitions.specs.Effects.{Deed, Made, Says}
use Rattle.core_definitions.specs.Runs.{State, Run, first_state, saids_of}
use Rattle.core_laws.specs.Laws.{AreOnce}

-- ---- scripts

abbrev pub numbers_of : List Line → List ℕ
numbers_of lines = map (λ line. line.number) lines

-- no two lines of the script have the same number
abbrev pub HaveOwnNumbers : List Line → Type 0
HaveOwnNumbers script = AreOnce (numbers_of script)

-- so it is with every script that was read
abbrev pub ReadScriptsHaveOwnNumbers : Type 0
ReadScriptsHaveOwnNumbers = (bytes : List ℕ) (script : List Line) → script_of bytes ≡ Ok script → HaveOwnNumbers script

-- ---- answers

-- of an answer who gave it, a server or the host, and the number of its line
abbrev pub answer_said : Said → Option (ℕ × ℕ)
answer_said (said.Answer server line reply) = Some (server.0, line)
answer_said _ = None

abbrev pub answer_of : Deed → Option (ℕ × ℕ)
answer_of (Made put taken) = None
answer_of (Says line) = answer_said line

-- the answers of a record, the first one first
abbrev pub answers_in : List Deed → List (ℕ × ℕ)
answers_in deeds = filter_map answer_of deeds

-- the numbers of the lines that are answered
abbrev pub answered_lines : List (ℕ × ℕ) → List ℕ
answered_lines answers = map (λ answer. answer.1) answers

-- of those that a server or the host has answered
abbrev pub answered_by : ℕ → List (ℕ × ℕ) → List ℕ
answered_by who answers = answered_lines (filter (λ answer. answer.0 == who) answers)

-- ---- over every run of a script whose lines have their own numbers

-- no line is answered twice
abbrev pub LinesAreAnsweredOnce : Type 0
LinesAreAnsweredOnce =
    (setting : Setting) (disk : Sectors) (s : State) → HaveOwnNumbers setting.script → Run (first_state setting disk) s →
    AreOnce (answered_lines (answers_in s.record_))

-- what each server and the host have answered are their first lines, in the order of the script
abbrev pub AnswersFollowTheScript : Type 0
AnswersFollowTheScript =
    (setting : Setting) (disk : Sectors) (s : State) → HaveOwnNumbers setting.script → Run (first_state setting disk) s → (who : ℕ) →
    (rest : List ℕ) × (numbers_of (lines_for who setting.script) ≡ answered_by who (answers_in s.record_) ++ rest)

-- and the next line of each is that by the lines said: the one behind as many as it has answered
abbrev pub NextLinesAreByTheRecord : Type 0
NextLinesAreByTheRecord =
    (setting : Setting) (disk : Sectors) (s : State) → HaveOwnNumbers setting.script → Run (first_state setting disk) s → (who : ℕ) →
    next_of s.core who ≡ next_line who setting.script (saids_of s.record_)

-- where a line is answered, so is each of the host's before it
abbrev pub LinesWaitForTheHost : Type 0
LinesWaitForTheHost =
    (setting : Setting) (disk : Sectors) (s : State) → HaveOwnNumbers setting.script → Run (first_state setting disk) s → (number : ℕ) (host : Line) →
    Contains (answered_lines (answers_in s.record_)) number → Contains setting.script host → host.who.0 ≡ host_party → host.number < number →
    Contains (answered_lines (answers_in s.record_)) host.number

-- where a line of the host is answered, so is each before it
abbrev pub HostLinesWait : Type 0
HostLinesWait =
    (setting : Setting) (disk : Sectors) (s : State) → HaveOwnNumbers setting.script → Run (first_state setting disk) s → (host line : Line) →
    Contains setting.script host → host.who.0 ≡ host_party → Contains (answered_lines (answers_in s.record_)) host.number → Contains setting.script line → line.number < host.number →
    Contains (answered_lines (answers_in s.record_)) line.number

-- the lines under way at two servers have different numbers
abbrev pub LinesAreUnderWayOnce : Type 0
LinesAreUnderWayOnce =
    (setting : Setting) (disk : Sectors) (s : State) → HaveOwnNumbers setting.script → Run (first_state setting disk) s →
    (a b : ℕ) (one other : Under) → IsTrue (is_server a) → IsTrue (is_server b) →
    (s.core.servers a).under ≡ Some one → (s.core.servers b).under ≡ Some other → one.line.number ≡ other.line.number → a ≡ b

-- and each is the next line of its server, so that it isn't answered yet
abbrev pub LinesUnderWayAreNext : Type 0
LinesUnderWayAreNext =
    (setting : Setting) (disk : Sectors) (s : State) → HaveOwnNumbers setting.script → Run (first_state setting disk) s → (a : ℕ) (under : Under) → IsTrue (is_server a) →
    (s.core.servers a).under ≡ Some under → (next_of s.core a ≡ Some under.line) × (s.core.answered under.line.number ≡ false)

-- ---- and of one where two lines have one number

-- the premise is needed: over some run of some script a line is answered twice
abbrev pub OwnNumbersAreNeeded : Type 0
OwnNumbersAreNeeded = ((setting : Setting) (disk : Sectors) (s : State) → Run (first_state setting disk) s → AreOnce (answered_lines (answers_in s.record_))) → ⊥
