-- A plan meets what its operation does to the tree.
use Rattle.std.specs.Prelude.{ℕ, List}
use Rattle.frang_base.specs.declared.op.Op.{Op}
use Rattle.frang_base.specs.declared.op.Op.TheVariants as op
use Rattle.tree_definitions.specs.Tree.{FileTree}
use Rattle.tree_definitions.specs.Apply.{apply}
use Rattle.tree_definitions.specs.WellFormed.{IsNew}
use Rattle.disk_definitions.specs.Store.{Store}
use Rattle.disk_definitions.specs.Naming.{Naming}
use Rattle.disk_definitions.specs.Ask.{run}
use Rattle.disk_definitions.specs.Plans.{Hand}
use Rattle.disk_definitions.specs.PlanOf.{plan_of}
use Rattle.disk_definitions.specs.Meets.{IsOfTree, IsHandOf}
use Rattle.plan_laws.specs.Keeping.{PlanKeeps}

-- over the disk of a tree, with segments of it at hand, the plan of this operation at a new birth meets what it does to the tree: it answers alike,
-- and its edits lead to a disk of the new tree, each node that stays in its inode; `ever_directories` is the number of small blocks that are or were a directory's, which `write` and
-- `fill` alone go by
abbrev pub IsPlanned : Op → Type 0
IsPlanned operation =
    (hand : Hand) (store : Store) (tree : FileTree) (naming : Naming) (birth when ever_directories : ℕ) → IsOfTree store tree naming →
    IsHandOf hand store tree.segments → IsNew tree birth →
    PlanKeeps hand store tree naming (apply tree operation birth when ever_directories) (run (plan_of hand birth when operation) store)

abbrev pub CreateIsPlanned : Type 0
CreateIsPlanned = (path : List (List ℕ)) → IsPlanned (op.Create path)

abbrev pub MkdirIsPlanned : Type 0
MkdirIsPlanned = (path : List (List ℕ)) → IsPlanned (op.Mkdir path)

abbrev pub SymlinkIsPlanned : Type 0
SymlinkIsPlanned = (path : List (List ℕ)) (target : List ℕ) → IsPlanned (op.Symlink path target)

abbrev pub UnlinkIsPlanned : Type 0
UnlinkIsPlanned = (path : List (List ℕ)) → IsPlanned (op.Unlink path)

abbrev pub RmdirIsPlanned : Type 0
RmdirIsPlanned = (path : List (List ℕ)) → IsPlanned (op.Rmdir path)

abbrev pub LinkIsPlanned : Type 0
LinkIsPlanned = (path to : List (List ℕ)) → IsPlanned (op.Link path to)

abbrev pub RenameIsPlanned : Type 0
RenameIsPlanned = (path to : List (List ℕ)) → IsPlanned (op.Rename path to)
