-- The first moment of a run over the disk of an opening: what the laws of first moments ask is so.
use Rattle.std.specs.Prelude.{◌≡◌, ◌<◌, ◌+◌, ℕ, IsTrue, List, Ok, length}
use Rattle.frang_base.specs.declared.limits.TheConstants.{RUN_VERSIONS_MAX}
use Rattle.frang_base.specs.declared.script.Line.{Line}
use Rattle.tree_definitions.specs.History.{Opening}
use Rattle.tree_definitions.specs.Tree.{FileTree}
use Rattle.script_definitions.specs.ScriptText.{script_of}
use Rattle.sector_bytes.specs.Sectors.{Sectors}
use Rattle.sector_world.specs.Kinds.{Good}
use Rattle.sector_world.specs.World.{World}
use Rattle.line_histories.specs.Trees.{AreTimes}
use Rattle.core_definitions.specs.LineGuards.{is_server}
use Rattle.core_definitions.specs.Runs.{State as RunMoment, first_state}
use Rattle.core_definitions.specs.Settings.{setting_of}
use Rattle.core_world.specs.Events.{first_world}
use Rattle.core_world.specs.Journals.{AreZero, Journal}
use Rattle.core_world.specs.Steps.{IsWorldOf}
use Rattle.core_lives.specs.Room.{HasRoom}
use Rattle.core_commits.specs.Moments.{IsOfARun}
use Rattle.headline_definitions.specs.Beginning.{IsOpening}
use Rattle.opening_laws.specs.FirstDisks.{opened_files, opened_home, opened_logged}

-- on the disk of an opening the logs of the servers are zero
abbrev pub OpeningsHaveZeroLogs : Type 0
OpeningsHaveZeroLogs = (opening : Opening) (disk : Sectors) → IsOpening opening disk → AreZero disk

-- the first moment of a run of this script over such a disk
abbrev pub opened_moment : List Line → Opening → Sectors → RunMoment
opened_moment script opening disk = first_state (setting_of script opening.tree.segments opening.run) disk

-- its world: sectors have versions, are of files and have covers as the disk has them, by the naming under which it stands for its tree
abbrev pub opened_first : (opening : Opening) (disk : Sectors) → IsOpening opening disk → World
opened_first opening disk is =
    first_world disk (opened_logged opening.tree.segments disk) (opened_files opening.tree.segments disk) (opened_home opening.tree.segments is.stands.naming)

-- what the laws of first moments say
pub record BeginsARun (s : RunMoment) (w : World) (journal : ℕ → Journal) (when : ℕ → ℕ) (first_tree : FileTree) (numbers : List ℕ) : Type 0 where
  pub world : IsWorldOf s w journal
  pub good : Good w
  pub room : (a : ℕ) → IsTrue (is_server a) → HasRoom s a
  pub run : IsOfARun s w journal when first_tree numbers

-- so it is of each script that was read, with any times, and with so few numbers that the versions of a run are enough
abbrev pub OpeningsBeginRuns : Type 0
OpeningsBeginRuns =
    (bytes : List ℕ) (script : List Line) (opening : Opening) (disk : Sectors) (is : IsOpening opening disk) (journal : ℕ → Journal) (when : ℕ → ℕ) (numbers : List ℕ) → script_of bytes ≡ Ok script →
    AreTimes when → 1 + length numbers < RUN_VERSIONS_MAX → BeginsARun (opened_moment script opening disk) (opened_first opening disk is) journal when opening.tree numbers
