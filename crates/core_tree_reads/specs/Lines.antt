-- The lines of the tree that are said are those of the tree for which the disk stands, and the lines said in a run are a well-formed transcript, these included.
use Rattle.std.specs.Prelude.{◌≡◌, ◌≤◌, ℕ, true, IsTrue, Ok, List, filter, length, take}
use Rattle.std.specs.List.{list_any}
use Rattle.script_definitions.specs.ScriptText.{script_of}
use Rattle.sector_bytes.specs.Sectors.{Sectors}
use Rattle.tree_definitions.specs.History.{Opening}
use Rattle.tree_definitions.specs.Live.{live_history}
use Rattle.tree_definitions.specs.Removal.{tree_of}
use Rattle.tree_definitions.specs.Transcript.{Faults, IsTranscript, is_end, is_node}
use Rattle.tree_definitions.specs.Tree.{FileTree}
use Rattle.tree_definitions.specs.TreeLines as trees
use Rattle.disk_definitions.specs.Standing.{StandsFor}
use Rattle.core_definitions.specs.Settings.{Setting}
use Rattle.core_definitions.specs.Runs.{State, Run, first_state, saids_of}
use Rattle.core_transcripts.specs.Answers.{HaveOwnNumbers}
use Rattle.core_transcripts.specs.Faults.{TellFaults}
use Rattle.core_transcripts.specs.Transcripts.{IsNumbered}
use Rattle.core_tree_reads.specs.AtRest.{has_read}

-- the lines of the tree that are said are the first of this tree's, and with the end all are
pub record AreLinesOfTree (tree : FileTree) (s : State) : Type 0 where
  pub lines : filter is_node (saids_of s.record_) ≡ take s.core.shown (trees.tree_lines tree)
  pub within : s.core.shown ≤ length (trees.tree_lines tree)
  pub all : list_any is_end (saids_of s.record_) ≡ true → filter is_node (saids_of s.record_) ≡ trees.tree_lines tree

-- the disk stands for the tree, with as many segments as the core counts
pub record StandsAsSet (setting : Setting) (disk : Sectors) (tree : FileTree) : Type 0 where
  pub stands : StandsFor disk tree
  pub segments : tree.segments ≡ setting.segments

-- so it is over every run, where the disk as it stands then stands for the tree
abbrev pub LinesSaidAreTheTrees : Type 0
LinesSaidAreTheTrees =
    (setting : Setting) (disk : Sectors) (s : State) (tree : FileTree) → HaveOwnNumbers setting.script → Run (first_state setting disk) s → StandsAsSet setting s.disk tree → AreLinesOfTree tree s

-- ---- transcripts

-- once the host has begun to read the tree, the disk stands for the tree to which the history leads that the lines said tell
abbrev pub StandsAsTold : Setting → Opening → State → Type 0
StandsAsTold setting opening s = IsTrue (has_read s.core) → StandsAsSet setting s.disk (tree_of opening (live_history setting.script opening.run (saids_of s.record_)))

-- then the lines said are a well-formed transcript of the script, the lines of the tree included: over every run of a script whose lines have numbers of their own and whose host's lines ask
-- what a host is asked, and whatever faults tell of each call that fails. It is asked of the last moment alone, since neither the disk nor that history changes from then on
abbrev pub RunsSayWholeTranscripts : Type 0
RunsSayWholeTranscripts =
    (setting : Setting) (disk : Sectors) (s : State) (run : Run (first_state setting disk) s) (faults : Faults) (opening : Opening) → IsNumbered setting.script →
    TellFaults faults (first_state setting disk) s run → StandsAsTold setting opening s → IsTranscript setting.script opening faults (saids_of s.record_)

-- so of every script that was read
abbrev pub RunsOfReadScriptsSayWholeTranscripts : Type 0
RunsOfReadScriptsSayWholeTranscripts =
    (bytes : List ℕ) (setting : Setting) (disk : Sectors) (s : State) (run : Run (first_state setting disk) s) (faults : Faults) (opening : Opening) → script_of bytes ≡ Ok setting.script →
    TellFaults faults (first_state setting disk) s run → StandsAsTold setting opening s → IsTranscript setting.script opening faults (saids_of s.record_)
