-- That the lines said in a run are within the calls of each server that fail in it.
use Rattle.std.specs.Prelude.{ℕ, ◌<◌, ◌≤◌, List}
use Rattle.frang_base.specs.declared.said.Said.{Said}
use Rattle.frang_base.specs.declared.script.Line.{Line}
use Rattle.sector_bytes.specs.Sectors.{Sectors}
use Rattle.tree_definitions.specs.History.{Opening}
use Rattle.tree_definitions.specs.Transcript.{AreFaultsOf, AreWithinFaults, Faults}
use Rattle.core_definitions.specs.Settings.{Setting}
use Rattle.core_definitions.specs.Runs.{State, Run, first_state, saids_of}
use Rattle.core_definitions.specs.Faults.{failed_calls}
use Rattle.core_transcripts.specs.Faults.{run_faults}
use Rattle.core_transcripts.specs.Transcripts.{IsNumbered, IsTranscriptButTree}

-- lines said with faults: only counts that rose tell of one, the lines are a transcript but for which lines of the tree they are, and within what the counts rose
pub record IsFaultyTranscript (script : List Line) (opening : Opening) (rise : ℕ → ℕ) (faults : Faults) (saids : List Said) : Type 0 where
  pub counted : AreFaultsOf (λ server. 0 < rise server) faults
  pub transcript : IsTranscriptButTree script opening faults saids
  pub within : AreWithinFaults script rise saids

-- over every run the lines said are so, by the run's own faults, where each count rose at least by the failed calls of its server
abbrev pub RunsAreWithinTheirFaults : Type 0
RunsAreWithinTheirFaults =
    (setting : Setting) (disk : Sectors) (s : State) (run : Run (first_state setting disk) s) (opening : Opening) (rise : ℕ → ℕ) → IsNumbered setting.script →
    ((server : ℕ) → failed_calls (first_state setting disk) s run server ≤ rise server) →
    IsFaultyTranscript setting.script opening rise (run_faults (first_state setting disk) s run) (saids_of s.record_)
