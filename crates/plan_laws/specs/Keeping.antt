-- A plan meets what its operation does to the tree, and each node that stays keeps its inode.
use Rattle.std.specs.Prelude.{◌≡◌, ℕ, true, false, is_some}
use Rattle.tree_definitions.specs.Tree.{FileTree, node_at}
use Rattle.tree_definitions.specs.Apply.{Applied}
use Rattle.disk_definitions.specs.Store.{Store}
use Rattle.disk_definitions.specs.Naming.{Naming}
use Rattle.disk_definitions.specs.Plans.{Hand, Plan, Finish, must_clear}
use Rattle.disk_definitions.specs.Plans.Plan.{Lacks, Clears, Finishes}
use Rattle.disk_definitions.specs.Meets.{FinishMeets}

-- a node of both trees has the same inode by both namings
abbrev pub KeepsInodes : FileTree → FileTree → Naming → Naming → Type 0
KeepsInodes tree to naming after = (node : ℕ) → is_some (node_at tree node) ≡ true → is_some (node_at to node) ≡ true → after.inode node ≡ naming.inode node

-- a finished plan meets its operation by a naming that keeps the inodes of the nodes that stay
pub record FinishKeeps (store : Store) (tree : FileTree) (naming : Naming) (applied : Applied) (finish : Finish) : Type 0 where
  pub meets : FinishMeets store applied finish
  pub inodes : KeepsInodes tree applied.tree naming meets.naming

-- a plan: it lacks segments only where not all are held, and clears only a block that was never a directory's and isn't known to be zero
abbrev pub PlanKeeps : Hand → Store → FileTree → Naming → Applied → Plan → Type 0
PlanKeeps hand store tree naming applied Lacks = hand.all ≡ false
PlanKeeps hand store tree naming applied (Clears block locks) = must_clear hand block ≡ true
PlanKeeps hand store tree naming applied (Finishes finish) = FinishKeeps store tree naming applied finish
