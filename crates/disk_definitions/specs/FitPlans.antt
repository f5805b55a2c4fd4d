-- The edits of a plan may be made on the disk, and the blocks that become a directory's are known to be clear.
use Rattle.std.specs.Prelude.{◌≡◌, ◌<◌, ◌*◌, ◌^◌, ◌⊎◌, ℕ, true, Some}
use Rattle.frang_base.specs.declared.limits.TheConstants.{BLOCK_ENTRIES, SEGMENT_INODES}
use Rattle.frang_base.specs.declared.op.Op.{Op}
use Rattle.tree_definitions.specs.Tree.{FileTree}
use Rattle.disk_definitions.specs.Store.{Store, StoredNode, StoredEntry}
use Rattle.disk_definitions.specs.Standing.{IsMetadata}
use Rattle.disk_definitions.specs.Naming.{Naming}
use Rattle.disk_definitions.specs.Edits.{edited_all}
use Rattle.disk_definitions.specs.Ask.{run}
use Rattle.disk_definitions.specs.Plans.{Hand, Plan, Finish}
use Rattle.disk_definitions.specs.Plans.Plan.{Lacks, Clears, Finishes}
use Rattle.disk_definitions.specs.PlanOf.{plan_of}
use Rattle.disk_definitions.specs.Meets.{IsOfTree, IsHandOf}
use Rattle.disk_definitions.specs.FitEdits.{IsFitNode, IsFitEntry, AreFit}
use Rattle.disk_definitions.specs.Allowed.{IsAllowed}

-- what a disk of so many segments says in its inodes and in the places of its directories may stand there
pub record IsFitStore (segments : ℕ) (store : Store) : Type 0 where
  pub nodes : (inode : ℕ) (node : StoredNode) → store.inode inode ≡ Some node → (inode < SEGMENT_INODES * segments) × IsFitNode node
  pub entries : (block slot : ℕ) (entry : StoredEntry) → slot < BLOCK_ENTRIES → IsMetadata (store.use_of block) → store.place block slot ≡ Some entry →
      IsFitEntry entry

-- each edit is fit, and a block that becomes a directory's was one already, or its sectors are cached as zero
pub record IsFitFinish (hand : Hand) (segments : ℕ) (store : Store) (finish : Finish) : Type 0 where
  pub edits : AreFit segments (edited_all store finish.edits) finish.edits
  pub clear : (block : ℕ) → IsMetadata ((edited_all store finish.edits).use_of block) → IsMetadata (store.use_of block) ⊎ (hand.zeroed block ≡ true)

abbrev pub PlanIsFit : Hand → ℕ → Store → Plan → Type 0
PlanIsFit hand segments store Lacks = Unit {0}
PlanIsFit hand segments store (Clears block locks) = Unit {0}
PlanIsFit hand segments store (Finishes finish) = IsFitFinish hand segments store finish

-- so it is of the plan of an operation over the disk of a tree
abbrev pub HasFitPlan : Op → Type 0
HasFitPlan operation =
    (hand : Hand) (store : Store) (tree : FileTree) (naming : Naming) (birth when : ℕ) → IsOfTree store tree naming → IsHandOf hand store tree.segments →
    IsFitStore tree.segments store → birth < 2 ^ 64 → when < 2 ^ 64 → IsAllowed operation →
    PlanIsFit hand tree.segments store (run (plan_of hand birth when operation) store)
