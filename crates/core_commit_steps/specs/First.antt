-- All of it stands beside the first moment of a run.
use Rattle.std.specs.Prelude.{◌≡◌, ◌<◌, ℕ, Bool, true, List, [], Ok}
use Rattle.frang_base.specs.declared.lock.LockId.{LockId}
use Rattle.frang_base.specs.declared.script.Line.{Line}
use Rattle.script_definitions.specs.ScriptText.{script_of}
use Rattle.sector_bytes.specs.Sectors.{Sectors}
use Rattle.tree_definitions.specs.Tree.{FileTree}
use Rattle.line_histories.specs.Following.{Follows}
use Rattle.line_histories.specs.Standing.{StandsNumbered}
use Rattle.line_histories.specs.Trees.{AreTimes}
use Rattle.core_definitions.specs.Runs.{first_state}
use Rattle.core_definitions.specs.Settings.{setting_of}
use Rattle.core_facts.specs.Blocks.{IsWholeDisk}
use Rattle.core_world.specs.Events.{first_world}
use Rattle.core_world.specs.Journals.{AreZero, Journal}
use Rattle.core_line_steps.specs.Numbers.{IsAskedWell}
use Rattle.core_commit_steps.specs.Moments.{StandsBeside}

-- of a script that was read, whose lines may be asked, over a disk on which the logs of the sixteen servers are zero and whose sectors with versions stand for a tree and say covers, kinds and free sectors; runs are numbered from one
abbrev pub FirstMomentsStand : Type 0
FirstMomentsStand =
    (bytes : List ℕ) (script : List Line) (segments run : ℕ) (disk : Sectors) (logged of_files : ℕ → Bool) (home : ℕ → LockId) (journal : ℕ → Journal) (when : ℕ → ℕ) (first_tree : FileTree) (numbers : List ℕ) →
    script_of bytes ≡ Ok script → IsWholeDisk disk → AreZero disk → AreTimes when →
    StandsNumbered segments (first_world disk logged of_files home).opening (record { tree = first_tree; numbers = numbers }) →
    Follows segments (first_world disk logged of_files home).opening home logged (first_world disk logged of_files home).first [] → logged 0 ≡ true → 0 < run →
    IsAskedWell (setting_of script segments run) when first_tree numbers →
    StandsBeside (first_state (setting_of script segments run) disk) (first_world disk logged of_files home) journal when first_tree numbers
