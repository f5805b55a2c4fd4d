-- What cells that come into doubt leave of the bytes of files.
use Rattle.std.specs.Prelude.{◌≡◌, ◌≤◌, ◌<◌, ℕ, ◌+◌, ◌*◌, true, false, Some, List}
use Rattle.std.specs.List.{Contains}
use Rattle.frang_base.specs.declared.limits.TheConstants.{SECTOR_BYTES}
use Rattle.tree_definitions.specs.declared.cells.Cell.TheVariants.{Byte}
use Rattle.tree_definitions.specs.History.{CellRun, Settled, after_all, doubted}
use Rattle.tree_definitions.specs.Removal.{doubtful, is_doubtful}
use Rattle.tree_definitions.specs.Tree.{FileTree, node_at}
use Rattle.disk_definitions.specs.Naming.{cell_in}

-- a run of cells has this cell of the file of this birth
pub record Covers (run : CellRun) (birth at : ℕ) : Type 0 where
  pub of : run.birth ≡ birth
  pub from : run.from ≤ at
  pub to : at < run.from + run.count

-- the cell is this byte
abbrev pub IsByte : FileTree → (birth at byte : ℕ) → Type 0
IsByte tree birth at byte = cell_in (node_at tree birth) at ≡ Some (Byte byte)

-- a cell that is a byte once runs came into doubt was this byte before, and none of them has it
pub record WasByte (tree : FileTree) (runs : List CellRun) (birth at byte : ℕ) : Type 0 where
  pub before : IsByte tree birth at byte
  pub apart : (run : CellRun) → Contains runs run → Covers run birth at → ⊥

abbrev pub DoubtKeepsOtherBytes : Type 0
DoubtKeepsOtherBytes = (tree : FileTree) (runs : List CellRun) (birth at byte : ℕ) → IsByte (doubted tree runs) birth at byte → WasByte tree runs birth at byte

-- a part of a file in doubt for a server at the end of a list has no byte once the cells that are then in doubt came into doubt
abbrev pub PartsInDoubtHaveNoBytes : Type 0
PartsInDoubtHaveNoBytes =
    (server : ℕ) (opening : FileTree) (list : List Settled) (birth part at byte : ℕ) → SECTOR_BYTES * part ≤ at → at < SECTOR_BYTES * (part + 1) →
    is_doubtful server birth part false opening list ≡ true → IsByte (doubted (after_all opening list) (doubtful server opening list)) birth at byte → ⊥
