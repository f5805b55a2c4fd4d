-- A fresh disk is one over which runs begin.
use Rattle.std.specs.Prelude.{◌≡◌, ◌≢◌, ◌<◌, ◌+◌, ℕ, IsTrue, List, [], ◌∷◌, Ok, length}
use Rattle.frang_base.specs.declared.limits.TheConstants.{RUN_VERSIONS_MAX, SECTOR_BYTES}
use Rattle.frang_base.specs.declared.script.Line.{Line}
use Rattle.tree_definitions.specs.History.{fresh_opening}
use Rattle.script_definitions.specs.ScriptText.{script_of}
use Rattle.sector_bytes.specs.Bytes.{zeros}
use Rattle.line_histories.specs.Trees.{AreTimes}
use Rattle.disk_definitions.specs.FreshDisk.{fresh_param}
use Rattle.disk_definitions.specs.Params.{param_fits}
use Rattle.disk_definitions.specs.Replay.{slots_of}
use Rattle.core_definitions.specs.Opening.{fresh_start, moment_of}
use Rattle.core_world.specs.Journals.{AreZero, Journal}
use Rattle.headline_definitions.specs.Beginning.{IsOpening}
use Rattle.core_openings.specs.Openings.{BeginsARun, opened_first}

-- it is the disk of an opening, with zero logs of the servers, and a run of this script begins over it
pub record BeginsOnFresh (script : List Line) (segments : ℕ) (journal : ℕ → Journal) (when : ℕ → ℕ) (numbers : List ℕ) : Type 0 where
  pub is : IsOpening (fresh_opening segments) (fresh_start script segments).disk
  pub zero : AreZero (fresh_start script segments).disk
  pub run : BeginsARun (moment_of (fresh_start script segments)) (opened_first (fresh_opening segments) (fresh_start script segments).disk is) journal when (fresh_opening segments).tree numbers

-- a fresh disk of any size
abbrev pub FreshDisksBeginRuns : Type 0
FreshDisksBeginRuns =
    (bytes : List ℕ) (script : List Line) (segments : ℕ) (journal : ℕ → Journal) (when : ℕ → ℕ) (numbers : List ℕ) → script_of bytes ≡ Ok script → IsTrue (param_fits (fresh_param segments)) →
    AreTimes when → 1 + length numbers < RUN_VERSIONS_MAX → BeginsOnFresh script segments journal when numbers

-- of one segment, without lines, at time 0, where operations may have the numbers 1 and 2
abbrev pub SmallRunsBegin : Type 0
SmallRunsBegin = (journal : ℕ → Journal) → BeginsOnFresh [] 1 journal (λ n. 0) (1 ∷ 2 ∷ [])

-- not each number has a zero log there: where one of number 256 would lie stands the first bitmap
abbrev pub BitmapsAreNoLogs : Type 0
BitmapsAreNoLogs = slots_of (fresh_start [] 1).disk 256 0 ≢ zeros SECTOR_BYTES
