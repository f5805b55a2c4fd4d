-- Runs in which nothing stops a server: no line of the script makes one die or stall, and no call fails.
use Rattle.std.specs.Prelude.{◌≡◌, ◌||◌, ℕ, Bool, true, false, not, IsTrue, List, [], ◌∷◌}
use Rattle.std.specs.List.{list_all}
use Rattle.frang_base.specs.declared.op.Op.{Op}
use Rattle.frang_base.specs.declared.script.Line.{Line}
use Rattle.frang_outside.specs.declared.act.Taken.TheVariants as taken
use Rattle.sector_bytes.specs.Sectors.{Sectors}
use Rattle.tree_definitions.specs.Touched.{is_stall}
use Rattle.tree_definitions.specs.Transcript.{calls_death, is_crash}
use Rattle.core_definitions.specs.Effects.{Deed, Made, Says}
use Rattle.core_definitions.specs.Faults.{failed_calls}
use Rattle.core_definitions.specs.Lines.{operation_of}
use Rattle.core_definitions.specs.Runs.{State, Run, first_state}
use Rattle.core_definitions.specs.Servers.{asked_by, is_off, is_up}
use Rattle.core_definitions.specs.Settings.{Setting}

-- ---- scripts

-- a server dies, now or later, or stalls
abbrev pub stops : Op → Bool
stops operation = is_crash operation || (calls_death operation || is_stall operation)

-- the line asks that; a line of the host doesn't
abbrev pub is_stopping : Line → Bool
is_stopping line = asked_by stops (operation_of line.what)

-- no line does
abbrev pub is_calm : List Line → Bool
is_calm script = list_all (λ line. not (is_stopping line)) script

-- ---- runs

-- no get or put fails, of whichever party
abbrev pub NoCallFails : (s v : State) → Run s v → Type 0
NoCallFails s v run = (party : ℕ) → failed_calls s v run party ≡ 0

abbrev pub is_late : Deed → Bool
is_late (Made put taken.Written) = false
is_late (Made put taken.Late) = true
is_late (Says line) = false

abbrev pub AreInTime : List Deed → Type 0
AreInTime [] = Unit {0}
AreInTime (deed ∷ deeds) = IsTrue (not (is_late deed)) × AreInTime deeds

-- ---- the laws

-- over every run of a calm script in which no call fails
abbrev pub NobodyStops : Type 0
NobodyStops =
    (setting : Setting) (disk : Sectors) (s : State) (run : Run (first_state setting disk) s) → IsTrue (is_calm setting.script) → NoCallFails (first_state setting disk) s run →
    (a : ℕ) → IsTrue (is_off (s.core.servers a).phase || is_up (s.core.servers a).phase)

abbrev pub NoPutComesLate : Type 0
NoPutComesLate =
    (setting : Setting) (disk : Sectors) (s : State) (run : Run (first_state setting disk) s) → IsTrue (is_calm setting.script) → NoCallFails (first_state setting disk) s run →
    AreInTime s.record_
