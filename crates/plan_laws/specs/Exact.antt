-- Where a plan lacks segments, has a block cleared, or says that there is no space.
use Rattle.std.specs.Prelude.{◌≡◌, ◌↔◌, ◌⊎◌, ℕ, true, false, Some, None, List}
use Rattle.frang_base.specs.declared.op.Op.{Op}
use Rattle.tree_definitions.specs.Tree.{FileTree}
use Rattle.disk_definitions.specs.Store.{Store}
use Rattle.disk_definitions.specs.Naming.{Naming}
use Rattle.disk_definitions.specs.Held.{Segments}
use Rattle.disk_definitions.specs.Picks.{picked_inode, picked_directory, picked_large, picked_many}
use Rattle.disk_definitions.specs.Ask.{run}
use Rattle.disk_definitions.specs.Plans.{Hand, Lock, Plan, Finish, must_clear, says_full}
use Rattle.disk_definitions.specs.Plans.Plan.{Lacks, Clears, Finishes}
use Rattle.disk_definitions.specs.PlanOf.{plan_of}
use Rattle.disk_definitions.specs.Meets.{IsOfTree}
use Rattle.plan_laws.specs.Wants.{Wants, wants}

-- an allocation finds nothing in the held segments
abbrev pub FindsNothing : Segments → Wants → Type 0
FindsNothing held wanted =
    ((wanted.inode ≡ true) × (picked_inode held ≡ None))
    ⊎ (((wanted.grows ≡ true) × (picked_directory held ≡ None))
    ⊎ (((wanted.large ≡ true) × (picked_large held ≡ None))
    ⊎ (picked_many held wanted.small ≡ None)))

-- what holds of the plan of each operation over the disk of a tree, whatever is held
abbrev pub OfEachPlan : (Hand → FileTree → Op → Plan → Type 0) → Type 0
OfEachPlan Holds = (operation : Op) (hand : Hand) (store : Store) (tree : FileTree) (naming : Naming) (birth when : ℕ) → IsOfTree store tree naming →
    Holds hand tree operation (run (plan_of hand birth when operation) store)

-- it lacks segments exactly where not all are held and an allocation finds nothing in them
abbrev pub LacksExactly : Type 0
LacksExactly =
    OfEachPlan (λ hand tree operation plan. (plan ≡ Lacks)
    ↔ ((hand.all ≡ false) × (wanted : Wants) × (wants tree operation ≡ Some wanted) × FindsNothing hand.held wanted))

-- it has a block cleared exactly where a directory grows, each allocation finds something, and that block is found for the directory and isn't known to be clear
abbrev pub ClearsExactly : Type 0
ClearsExactly = OfEachPlan (λ hand tree operation plan. (block : ℕ) →
    ((locks : List Lock) × (plan ≡ Clears block locks))
    ↔ ((wanted : Wants) × (wants tree operation ≡ Some wanted) × (wanted.grows ≡ true) × (FindsNothing hand.held wanted → ⊥) × (picked_directory hand.held ≡ Some block) × (must_clear hand block ≡ true)))

-- it says that there is no space exactly where all segments are held and an allocation finds nothing in them
abbrev pub SaysFullExactly : Type 0
SaysFullExactly = OfEachPlan (λ hand tree operation plan.
    ((finish : Finish) × (plan ≡ Finishes finish) × (says_full finish.reply ≡ true))
    ↔ ((hand.all ≡ true) × (wanted : Wants) × (wants tree operation ≡ Some wanted) × FindsNothing hand.held wanted))
