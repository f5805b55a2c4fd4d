-- What a line is planned to do is what the tree performs.
use Rattle.std.specs.Prelude.{ℕ}
use Rattle.frang_base.specs.declared.op.Op.{Op}
use Rattle.tree_definitions.specs.Tree.{FileTree}
use Rattle.tree_definitions.specs.Perform.{Step, Goes, Stops, perform}
use Rattle.tree_definitions.specs.WellFormed.{IsNew}
use Rattle.disk_definitions.specs.Store.{Store}
use Rattle.disk_definitions.specs.Naming.{Naming}
use Rattle.disk_definitions.specs.Allowed.{IsAllowed}
use Rattle.disk_definitions.specs.Ask.{run}
use Rattle.disk_definitions.specs.Plans.{Hand}
use Rattle.disk_definitions.specs.Meets.{IsOfTree, IsHandOf}
use Rattle.plan_laws.specs.FilesPlanned.{HasFiles}
use Rattle.plan_laws.specs.Keeping.{PlanKeeps}
use Rattle.disk_definitions.specs.Lines.{resolved, plan_of_line}

-- what a line comes to may be asked of a plan
abbrev pub StepIsAllowed : Step → Type 0
StepIsAllowed (Goes operation) = IsAllowed operation
StepIsAllowed (Stops reply) = Unit {0}

-- over whatever disk, what is allowed comes to what is allowed: names that come from targets are names
abbrev pub LinesStayAllowed : Type 0
LinesStayAllowed = (operation : Op) (store : Store) → IsAllowed operation → StepIsAllowed (run (resolved operation) store).step

-- over the disk of a tree of files that fit into their blocks the plan of a line meets what its operation does to the tree, links followed, and each node
-- that stays keeps its inode
abbrev pub LinesArePlannedAsTheTreePerforms : Type 0
LinesArePlannedAsTheTreePerforms =
    (operation : Op) (hand : Hand) (store : Store) (tree : FileTree) (naming : Naming) (birth when ever_directories : ℕ) → IsOfTree store tree naming →
    IsHandOf hand store tree.segments → IsNew tree birth → HasFiles store tree ever_directories →
    PlanKeeps hand store tree naming (perform tree operation birth when ever_directories) (run (plan_of_line hand birth when operation) store)
