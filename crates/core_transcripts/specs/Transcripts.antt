-- The lines said in a run of the core as a transcript of its script: each clause of a well-formed one, but which lines the tree has.
--
-- A script's lines have numbers of their own, and the host's ask what a host is asked; so a reader of scripts leaves them. The faults are any that tell
-- of each call that fails in the run, as those of the run itself do. Nothing is asked of the disk.
use Rattle.std.specs.Prelude.{◌==◌, Bool, true, false, not, ◌&&◌, ◌||◌, IsTrue, List, [], ◌∷◌, ◌++◌}
use Rattle.std.specs.List.{list_any, list_all}
use Rattle.frang_base.specs.declared.op.What.{What}
use Rattle.frang_base.specs.declared.op.What.TheVariants.{Server, Host}
use Rattle.frang_base.specs.declared.said.Said.{Said}
use Rattle.frang_base.specs.declared.said.Said.TheVariants as said
use Rattle.frang_base.specs.declared.script.Line.{Line}
use Rattle.sector_bytes.specs.Sectors.{Sectors}
use Rattle.tree_definitions.specs.History.{Opening}
use Rattle.tree_definitions.specs.Transcript.{Faults, MaySay, all_settled, are_answered, is_over}
use Rattle.core_definitions.specs.Scripts.{host_party}
use Rattle.core_definitions.specs.Settings.{Setting}
use Rattle.core_definitions.specs.Runs.{State, Run, first_state, saids_of}
use Rattle.core_transcripts.specs.Faults.{TellFaults}

-- ---- scripts

-- no two of these lines have one number
abbrev pub are_apart : List Line → Bool
are_apart [] = true
are_apart (line ∷ lines) = not (list_any (λ other. other.number == line.number) lines) && are_apart lines

-- a host's line asks what a host is asked
abbrev pub is_host_what : What → Bool
is_host_what (Host asked) = true
is_host_what (Server operation) = false

abbrev pub is_hosted : Line → Bool
is_hosted line = not (line.who.0 == host_party) || is_host_what line.what

pub record IsNumbered (script : List Line) : Type 0 where
  pub apart : IsTrue (are_apart script)
  pub hosted : IsTrue (list_all is_hosted script)

-- ---- transcripts

-- each of these lines may be said after those before it, by this rule
abbrev pub EachMay : (List Said → Said → Type 0) → List Said → List Said → Type 0
EachMay rule before [] = Unit {0}
EachMay rule before (x ∷ xs) = rule before x × EachMay rule (before ++ x ∷ []) xs

-- when the lines of the tree come, and the end: every line is answered, no server is stalled or dead, and nothing is over
abbrev pub MayEnd : List Line → Faults → List Said → Type 0
MayEnd script faults before = IsTrue (not (is_over script before) && are_answered script before && all_settled script faults before)

-- what may be said after these lines, but for which line of the tree it is
abbrev pub MaySayButTree : List Line → Opening → Faults → List Said → Said → Type 0
MaySayButTree script opening faults before (said.Node path kind size links) = MayEnd script faults before
MaySayButTree script opening faults before said.End = MayEnd script faults before
MaySayButTree script opening faults before line = MaySay script opening faults before line

abbrev pub IsTranscriptButTree : List Line → Opening → Faults → List Said → Type 0
IsTranscriptButTree script opening faults saids = EachMay (MaySayButTree script opening faults) [] saids

-- over every run the lines said are a transcript of the script, but for which lines of the tree they are
abbrev pub RunsSayTranscripts : Type 0
RunsSayTranscripts =
    (setting : Setting) (disk : Sectors) (s : State) (run : Run (first_state setting disk) s) (faults : Faults) (opening : Opening) → IsNumbered setting.script →
    TellFaults faults (first_state setting disk) s run → IsTranscriptButTree setting.script opening faults (saids_of s.record_)
