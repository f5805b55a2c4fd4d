-- When it is over, by the lines said and by the calls of the host that failed; and what it means that nothing may happen.
use Rattle.std.specs.Prelude.{◌≡◌, ◌≤◌, ◌||◌, ◌==◌, IsTrue, []}
use Rattle.frang_base.specs.declared.limits.TheConstants.{LAST_TICK}
use Rattle.sector_bytes.specs.Sectors.{Sectors}
use Rattle.tree_definitions.specs.Transcript.{is_over}
use Rattle.core_definitions.specs.Scripts.{host_party}
use Rattle.core_definitions.specs.Settings.{Setting}
use Rattle.core_definitions.specs.Enabled.{enabled}
use Rattle.core_definitions.specs.Guards.{has_line_at_gate}
use Rattle.core_definitions.specs.Runs.{State, Run, first_state, saids_of}
use Rattle.core_transcripts.specs.Faults.{has_failed}
use Rattle.core_transcripts.specs.Transcripts.{IsNumbered}

-- over every run it is over exactly where a halt was answered, the end was said or a call of the host failed
abbrev pub EndIsTold : Type 0
EndIsTold =
    (setting : Setting) (disk : Sectors) (s : State) (run : Run (first_state setting disk) s) → IsNumbered setting.script →
    s.core.over ≡ (is_over setting.script (saids_of s.record_) || has_failed (first_state setting disk) s run host_party)

-- over every run the clock comes to its last moment at most
abbrev pub ClockEnds : Type 0
ClockEnds = (setting : Setting) (disk : Sectors) (s : State) → Run (first_state setting disk) s → s.core.now ≤ LAST_TICK

-- over every run, where nothing may happen, one of these was so, a line is kept by the gate, or the clock is at its last moment
abbrev pub NothingToDoIsTold : Type 0
NothingToDoIsTold =
    (setting : Setting) (disk : Sectors) (s : State) (run : Run (first_state setting disk) s) → IsNumbered setting.script → enabled s.core ≡ [] →
    IsTrue (is_over setting.script (saids_of s.record_) || has_failed (first_state setting disk) s run host_party || has_line_at_gate s.core || s.core.now == LAST_TICK)
