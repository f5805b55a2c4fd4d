-- What a moment gives at which all stands beside: its servers are those of the laws of lines; and once the host has begun to read the tree, the disk stands for the tree of the history that the lines said tell.
use Rattle.std.specs.Prelude.{◌≡◌, ℕ, IsTrue, List, length}
use Rattle.frang_base.specs.declared.limits.TheConstants.{SECTOR_BYTES}
use Rattle.tree_definitions.specs.History.{Opening}
use Rattle.tree_definitions.specs.Live.{live_history}
use Rattle.tree_definitions.specs.Removal.{tree_from, tree_of}
use Rattle.tree_definitions.specs.Tree.{FileTree}
use Rattle.disk_definitions.specs.Standing.{StandsFor}
use Rattle.sector_world.specs.World.{World, block_at}
use Rattle.core_definitions.specs.Runs.{State as RunMoment, saids_of}
use Rattle.core_world.specs.Journals.{Journal}
use Rattle.core_tree_reads.specs.AtRest.{has_read}
use Rattle.core_tree_reads.specs.Lines.{StandsAsTold}
use Rattle.rest_laws.specs.Done.{AreLinesOf}
use Rattle.core_runs.specs.Kept.{Further, IsKeptAlong}

-- what the laws of what servers did ask
abbrev pub KeptAreOfLines : Further → Type 0
KeptAreOfLines Beside =
    (s : RunMoment) (w : World) (journal : ℕ → Journal) (when : ℕ → ℕ) (first_tree : FileTree) (numbers : List ℕ) → (kept : IsKeptAlong Beside s w journal when first_tree numbers) →
    AreLinesOf s.core.setting.segments when first_tree numbers w kept.told.happened

-- where the host has begun to read, the world's disk stands for that tree
abbrev pub DisksReadStand : Further → Type 0
DisksReadStand Beside =
    (s : RunMoment) (w : World) (journal : ℕ → Journal) (when : ℕ → ℕ) (first_tree : FileTree) (numbers : List ℕ) → IsKeptAlong Beside s w journal when first_tree numbers →
    IsTrue (has_read s.core) → StandsFor (block_at w) (tree_from first_tree (live_history s.core.setting.script s.core.setting.run (saids_of s.record_)))

-- and where all sectors have their size, and the tree has as many segments as the core counts, so does the disk itself: that is what the lines of the tree ask for which are said then
abbrev pub TreesStandAsTold : Further → Type 0
TreesStandAsTold Beside =
    (s : RunMoment) (w : World) (journal : ℕ → Journal) (when : ℕ → ℕ) (opening : Opening) (numbers : List ℕ) → IsKeptAlong Beside s w journal when opening.tree numbers →
    opening.run ≡ s.core.setting.run → ((sector : ℕ) → length (s.disk sector) ≡ SECTOR_BYTES) →
    (tree_of opening (live_history s.core.setting.script opening.run (saids_of s.record_))).segments ≡ s.core.setting.segments → StandsAsTold s.core.setting opening s
