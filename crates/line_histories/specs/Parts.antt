-- The parts of files, which are their sectors counted from the first, through a finished line.
use Rattle.std.specs.Prelude.{◌≡◌, ◌<◌, ◌⊎◌, ℕ, ◌*◌, true, is_some, Some}
use Rattle.frang_base.specs.declared.limits.TheConstants.{KIND_FILE, SECTOR_BYTES}
use Rattle.frang_base.specs.declared.op.Op.{Op}
use Rattle.tree_definitions.specs.Perform.{perform, resolved}
use Rattle.tree_definitions.specs.Removal.{step_writes}
use Rattle.tree_definitions.specs.Tree.{FileTree, node_at}
use Rattle.tree_definitions.specs.WellFormed.{IsNew}
use Rattle.disk_definitions.specs.Naming.{Naming}
use Rattle.disk_definitions.specs.Standing.{IsReached}
use Rattle.disk_definitions.specs.Store.{Store, StoredNode}
use Rattle.disk_definitions.specs.Edits.{edited_all}
use Rattle.disk_definitions.specs.Ask.{Sector, run}
use Rattle.disk_definitions.specs.Meets.{IsOfTree, IsHandOf}
use Rattle.disk_definitions.specs.Plans.{Hand, Finish}
use Rattle.disk_definitions.specs.Plans.Plan.{Finishes}
use Rattle.plan_laws.specs.FilesPlanned.{HasFiles}
use Rattle.disk_definitions.specs.Lines.{plan_of_line}
use Rattle.line_histories.specs.Files.{file_sector, IsWritten}

-- a part of the file of this birth lies in a sector, by the store of a disk with a naming
pub record LiesIn (store : Store) (tree : FileTree) (naming : Naming) (node part : ℕ) (sector : Sector) : Type 0 where
  pub there : is_some (node_at tree node) ≡ true
  pub stored : StoredNode
  pub is : store.inode (naming.inode node) ≡ Some stored
  pub kind : stored.kind ≡ KIND_FILE
  pub below : SECTOR_BYTES * part < stored.size
  pub here : file_sector stored part ≡ sector

-- a line that is finished over the disk of a tree whose nodes are reached, with segments of it at hand, a new number and whatever naming afterwards
pub record IsFinished (operation : Op) (hand : Hand) (store : Store) (tree : FileTree) (naming after : Naming) (birth when ever_directories : ℕ) (finish : Finish) : Type 0 where
  pub of : IsOfTree store tree naming
  pub reached : IsReached (node_at tree)
  pub at_hand : IsHandOf hand store tree.segments
  pub new : IsNew tree birth
  pub files : HasFiles store tree ever_directories
  pub comes : run (plan_of_line hand birth when operation) store ≡ Finishes finish
  pub leads : IsOfTree (edited_all store finish.edits) (perform tree operation birth when ever_directories).tree after

-- a part of a file lies in a sector that is written, or it lay there before, and its file keeps its inode
abbrev pub LinesKeepParts : Type 0
LinesKeepParts =
    (operation : Op) (hand : Hand) (store : Store) (tree : FileTree) (naming after : Naming) (birth when ever_directories : ℕ) (finish : Finish) →
    IsFinished operation hand store tree naming after birth when ever_directories finish →
    (node part : ℕ) (sector : Sector) → LiesIn (edited_all store finish.edits) (perform tree operation birth when ever_directories).tree after node part sector →
    IsWritten finish.edits sector ⊎ (LiesIn store tree naming node part sector × (naming.inode node ≡ after.inode node))

-- where it lies in a sector that is written, the line meets it
abbrev pub LinesWriteWhatTheyMeet : Type 0
LinesWriteWhatTheyMeet =
    (operation : Op) (hand : Hand) (store : Store) (tree : FileTree) (naming after : Naming) (birth when ever_directories : ℕ) (finish : Finish) →
    IsFinished operation hand store tree naming after birth when ever_directories finish →
    (node part : ℕ) (sector : Sector) → LiesIn (edited_all store finish.edits) (perform tree operation birth when ever_directories).tree after node part sector →
    IsWritten finish.edits sector → step_writes tree (resolved tree operation).step finish.reply node part ≡ true
