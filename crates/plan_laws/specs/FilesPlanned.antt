-- A plan of looks or of file bytes meets what its operation does to the tree.
use Rattle.std.specs.Prelude.{◌≡◌, ℕ, List}
use Rattle.frang_base.specs.declared.op.Op.{Op}
use Rattle.frang_base.specs.declared.op.Op.TheVariants as op
use Rattle.tree_definitions.specs.Tree.{FileTree, node_at}
use Rattle.tree_definitions.specs.Apply.{apply}
use Rattle.tree_definitions.specs.WellFormed.{IsNew, IsWellFormed}
use Rattle.disk_definitions.specs.Store.{Store}
use Rattle.disk_definitions.specs.Naming.{Naming}
use Rattle.disk_definitions.specs.ChangeLaws.{FilesFit}
use Rattle.disk_definitions.specs.Ask.{run}
use Rattle.disk_definitions.specs.Plans.{Hand}
use Rattle.disk_definitions.specs.PlanOf.{plan_of}
use Rattle.disk_definitions.specs.Meets.{IsOfTree, IsHandOf, directory_blocks_in}
use Rattle.plan_laws.specs.Keeping.{PlanKeeps}
use Rattle.plan_laws.specs.NamesPlanned.{IsPlanned}

abbrev pub StatIsPlanned : Type 0
StatIsPlanned = (path : List (List ℕ)) → IsPlanned (op.Stat path)

abbrev pub ListIsPlanned : Type 0
ListIsPlanned = (path : List (List ℕ)) → IsPlanned (op.List path)

abbrev pub ReadlinkIsPlanned : Type 0
ReadlinkIsPlanned = (path : List (List ℕ)) → IsPlanned (op.Readlink path)

abbrev pub TimeIsPlanned : Type 0
TimeIsPlanned = (path : List (List ℕ)) → IsPlanned (op.Time path)

-- of a read the bytes are those of the cells, a doubtful cell allowing any
abbrev pub ReadIsPlanned : Type 0
ReadIsPlanned = (path : List (List ℕ)) (off len : ℕ) → IsPlanned (op.Read path off len)

-- what the plans that change file bytes go by beside: no file is longer than its blocks reach, and so many small blocks are or were a directory's
pub record HasFiles (store : Store) (tree : FileTree) (ever_directories : ℕ) : Type 0 where
  pub fit : FilesFit (node_at tree)
  pub directories : ever_directories ≡ directory_blocks_in store tree.segments

-- over the disk of a tree of such files the plan of this operation meets what it does to the tree
abbrev pub IsPlannedForFiles : Op → Type 0
IsPlannedForFiles operation =
    (hand : Hand) (store : Store) (tree : FileTree) (naming : Naming) (birth when ever_directories : ℕ) → IsOfTree store tree naming →
    IsHandOf hand store tree.segments → IsNew tree birth → HasFiles store tree ever_directories →
    PlanKeeps hand store tree naming (apply tree operation birth when ever_directories) (run (plan_of hand birth when operation) store)

abbrev pub TruncateIsPlanned : Type 0
TruncateIsPlanned = (path : List (List ℕ)) (len : ℕ) → IsPlannedForFiles (op.Truncate path len)

abbrev pub WriteIsPlanned : Type 0
WriteIsPlanned = (path : List (List ℕ)) (off : ℕ) (bytes : List ℕ) → IsPlannedForFiles (op.Write path off bytes)

abbrev pub FillIsPlanned : Type 0
FillIsPlanned = (path : List (List ℕ)) (off len byte : ℕ) → IsPlannedForFiles (op.Fill path off len byte)

-- an operation makes no file longer than its blocks reach
abbrev pub FilesStayFit : Type 0
FilesStayFit =
    (tree : FileTree) (operation : Op) (birth when ever_directories : ℕ) → IsWellFormed tree → FilesFit (node_at tree) →
    FilesFit (node_at (apply tree operation birth when ever_directories).tree)
