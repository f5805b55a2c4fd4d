-- A script that was read, and the lines said in its runs.
use Rattle.std.specs.Prelude.{◌≡◌, ◌≤◌, ◌↔◌, ℕ, IsTrue, Ok, List}
use Rattle.frang_base.specs.declared.script.Line.{Line}
use Rattle.script_definitions.specs.ScriptText.{script_of}
use Rattle.sector_bytes.specs.Sectors.{Sectors}
use Rattle.tree_definitions.specs.History.{Opening}
use Rattle.tree_definitions.specs.Transcript.{Faults}
use Rattle.core_definitions.specs.Settings.{Setting}
use Rattle.core_definitions.specs.Runs.{State, Run, first_state, saids_of}
use Rattle.core_definitions.specs.Faults.{failed_calls}
use Rattle.core_transcripts.specs.Answers.{HaveOwnNumbers}
use Rattle.core_transcripts.specs.Faults.{TellFaults, run_faults}
use Rattle.core_transcripts.specs.Transcripts.{IsNumbered, IsTranscriptButTree, are_apart}
use Rattle.core_transcripts.specs.Within.{IsFaultyTranscript}

-- every script that was read meets what is asked of the scripts of runs
abbrev pub ReadScriptsAreNumbered : Type 0
ReadScriptsAreNumbered = (bytes : List ℕ) (script : List Line) → script_of bytes ≡ Ok script → IsNumbered script

-- no two lines of a script have one number exactly where its lines have their own
abbrev pub ApartIsOwn : Type 0
ApartIsOwn = (script : List Line) → IsTrue (are_apart script) ↔ HaveOwnNumbers script

-- over every run of a script that was read the lines said are a transcript of it, but for which lines of the tree they are
abbrev pub RunsOfReadScriptsSayTranscripts : Type 0
RunsOfReadScriptsSayTranscripts =
    (bytes : List ℕ) (setting : Setting) (disk : Sectors) (s : State) (run : Run (first_state setting disk) s) (faults : Faults) (opening : Opening) →
    script_of bytes ≡ Ok setting.script → TellFaults faults (first_state setting disk) s run → IsTranscriptButTree setting.script opening faults (saids_of s.record_)

-- and by the run's own faults they are within what the counts rose by, where each rose at least by the failed calls of its server
abbrev pub RunsOfReadScriptsAreWithinTheirFaults : Type 0
RunsOfReadScriptsAreWithinTheirFaults =
    (bytes : List ℕ) (setting : Setting) (disk : Sectors) (s : State) (run : Run (first_state setting disk) s) (opening : Opening) (rise : ℕ → ℕ) →
    script_of bytes ≡ Ok setting.script → ((server : ℕ) → failed_calls (first_state setting disk) s run server ≤ rise server) →
    IsFaultyTranscript setting.script opening rise (run_faults (first_state setting disk) s run) (saids_of s.record_)
