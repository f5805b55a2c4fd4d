-- What an entry of a history does to a tree, by the steps that do it again.
use Rattle.std.specs.Prelude.{◌≡◌, ℕ, Bool, true, if◌then◌else◌, Option, Some, None, List}
use Rattle.std.specs.List.{list_all}
use Rattle.frang_base.specs.declared.op.Op.{Op}
use Rattle.frang_base.specs.declared.op.Op.TheVariants as op
use Rattle.frang_base.specs.declared.reply.Reply.{Reply}
use Rattle.frang_base.specs.declared.reply.Reply.TheVariants as reply
use Rattle.frang_base.specs.Name.{is_target}
use Rattle.tree_definitions.specs.declared.history.Item.{Item}
use Rattle.tree_definitions.specs.declared.history.Item.TheVariants.{Did, Recovered}
use Rattle.tree_definitions.specs.Tree.{FileTree}
use Rattle.tree_definitions.specs.Place.{place}
use Rattle.tree_definitions.specs.Apply.{Applied, apply, is_path_op}
use Rattle.tree_definitions.specs.Perform.{Step, Goes, Stops}
use Rattle.tree_definitions.specs.History.{agrees, file_at, told_blocks}
use Rattle.file_tree.specs.Shown.{shown_at}

-- after a read of a path
abbrev pub after_reading : FileTree → List (List ℕ) → ℕ → ℕ → Reply → FileTree
after_reading tree path off len (reply.Shown bytes) = shown_at tree (file_at tree (place tree path)) off len bytes
after_reading tree path off len _ = tree

-- the tree after what is applied, where its reply is its answer
abbrev pub done_by : Applied → Reply → Option FileTree
done_by a r = if agrees a.answer r then Some a.tree else None

-- after an operation that is done again: one that is answered otherwise leaves the tree
abbrev pub after_redo : FileTree → Op → ℕ → ℕ → Reply → FileTree
after_redo tree o number when r = let a = apply tree o number when (told_blocks tree r) in if agrees a.answer r then a.tree else tree

-- what an operation comes to, done again
abbrev pub after_step_redo : FileTree → Step → ℕ → ℕ → Reply → FileTree
after_step_redo tree (Goes (op.Read path off len)) number when r = after_reading tree path off len r
after_step_redo tree (Goes o) number when r = after_redo tree o number when r
after_step_redo tree (Stops q) number when r = tree

-- an operation whose target, where it has one, is in the grammar of scripts
abbrev pub is_within : Op → Bool
is_within (op.Symlink path target) = is_target target
is_within _ = true

-- an operation over paths whose target is in that grammar, or the refusal of a walk
abbrev pub IsPathStep : Step → Type 0
IsPathStep (Goes o) = (is_path_op o ≡ true) × (is_within o ≡ true)
IsPathStep (Stops reply) = Unit {0}

-- an item that is a recovery, or an entry of such an operation
abbrev pub item_within : Item → Bool
item_within (Did e) = is_within e.op
item_within (Recovered server keeps) = true

-- a history of them
abbrev pub all_within : List Item → Bool
all_within items = list_all item_within items
