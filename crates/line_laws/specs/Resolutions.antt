-- Where a path leads over sectors, and what an operation comes to there: as in the tree whose picture they are, with inodes for births.
use Rattle.std.specs.Prelude.{◌≡◌, ℕ, Bool, List, map}
use Rattle.std.specs.Option.{option_map}
use Rattle.frang_base.specs.declared.op.Op.{Op}
use Rattle.tree_definitions.specs.Tree.{FileTree}
use Rattle.tree_definitions.specs.Resolve as trees
use Rattle.tree_definitions.specs.Perform as performs
use Rattle.disk_definitions.specs.Store.{Store}
use Rattle.disk_definitions.specs.Naming.{Naming}
use Rattle.disk_definitions.specs.Ask.{run}
use Rattle.disk_definitions.specs.Meets.{IsOfTree}
use Rattle.disk_definitions.specs.Resolving.{PathEnd, Leads, Refused, Resolution, resolve}
use Rattle.disk_definitions.specs.Lines.{resolved}

-- the same path, with the kind of the node that is there; or the same refusal
abbrev pub end_by : Naming → trees.WalkEnd → PathEnd
end_by naming (trees.At path found) = Leads path (option_map naming.kind found)
end_by naming (trees.Refused reply) = Refused reply

-- the inodes of the same directories and links, in the same order
abbrev pub resolution_by : Naming → trees.Resolution → Resolution
resolution_by naming walk = record { end = end_by naming walk.end; trail = map naming.inode walk.trail }

-- over the disk of a tree a path leads where it leads in the tree, through the same directories and links, refusals too
abbrev pub ResolutionsLeadAsTheTreeDoes : Type 0
ResolutionsLeadAsTheTreeDoes =
    (store : Store) (tree : FileTree) (naming : Naming) (last : Bool) (path : List (List ℕ)) → IsOfTree store tree naming →
    run (resolve last path) store ≡ resolution_by naming (trees.resolve tree last path)

-- the same step, with the inodes of the same trail
abbrev pub resolved_by : Naming → performs.Resolved → performs.Resolved
resolved_by naming walked = record { step = walked.step; trail = map naming.inode walked.trail }

-- over the disk of a tree an operation comes to what it comes to in the tree
abbrev pub LinesComeToWhatTheTreeHas : Type 0
LinesComeToWhatTheTreeHas =
    (operation : Op) (store : Store) (tree : FileTree) (naming : Naming) → IsOfTree store tree naming → run (resolved operation) store ≡ resolved_by naming (performs.resolved tree operation)
