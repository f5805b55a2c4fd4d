-- What operations do to the number of nodes, to the blocks of directories and to the shape.
use Rattle.std.specs.Prelude.{◌≡◌, ◌⊎◌, ◌≤◌, ℕ, ◌+◌, Bool, true, false, Some, length}
use Rattle.frang_base.specs.declared.op.Op.{Op}
use Rattle.frang_base.specs.declared.op.Op.TheVariants as op
use Rattle.frang_base.specs.declared.reply.Reply.TheVariants as reply
use Rattle.tree_definitions.specs.declared.history.Entry.{Entry}
use Rattle.tree_definitions.specs.declared.node.Node.TheVariants.{Dir}
use Rattle.tree_definitions.specs.Entries.{Entries}
use Rattle.tree_definitions.specs.Tree.{FileTree, node_at}
use Rattle.tree_definitions.specs.Apply.{Plain, apply, is_path_op}
use Rattle.tree_definitions.specs.History.{tree_after}
use Rattle.tree_definitions.specs.Touched.{touches, changes, shape_of}
use Rattle.tree_laws.specs.Refusals.{is_look}
use Rattle.tree_definitions.specs.WellFormed.{IsWellFormed, IsNew, BirthsAscend}

-- an operation that makes a node
abbrev pub makes_node : Op → Bool
makes_node (op.Create path) = true
makes_node (op.Mkdir path) = true
makes_node (op.Symlink path target) = true
makes_node _ = false

-- an operation that may free one
abbrev pub may_free : Op → Bool
may_free (op.Unlink path) = true
may_free (op.Rmdir path) = true
may_free (op.Rename path to) = true
may_free _ = false

-- what makes a node and is answered `ok` makes one
abbrev pub MakesOneNode : Type 0
MakesOneNode = (tree : FileTree) (o : Op) (birth when m : ℕ) → IsWellFormed tree → IsNew tree birth → makes_node o ≡ true → (apply tree o birth when m).answer ≡ Plain reply.Ok → length (apply tree o birth when m).tree.nodes ≡ length tree.nodes + 1

-- what may free a node frees at most one
abbrev pub FreesAtMostOneNode : Type 0
FreesAtMostOneNode = (tree : FileTree) (o : Op) (birth when m : ℕ) → IsWellFormed tree → may_free o ≡ true → (length (apply tree o birth when m).tree.nodes ≡ length tree.nodes) ⊎ (length (apply tree o birth when m).tree.nodes + 1 ≡ length tree.nodes)

-- no other operation changes the number of nodes
abbrev pub KeepsTheNodes : Type 0
KeepsTheNodes = (tree : FileTree) (o : Op) (birth when m : ℕ) → IsWellFormed tree → makes_node o ≡ false → may_free o ≡ false → length (apply tree o birth when m).tree.nodes ≡ length tree.nodes

-- the blocks of a directory never become fewer while it lives
abbrev pub BlocksNeverFall : Type 0
BlocksNeverFall = (tree : FileTree) (o : Op) (birth when m : ℕ) → IsWellFormed tree → IsNew tree birth → (dir : ℕ) (before now : Entries) (blocks grown : ℕ)
    → node_at tree dir ≡ Some (Dir before blocks) → node_at (apply tree o birth when m).tree dir ≡ Some (Dir now grown) → blocks ≤ grown

-- a look changes no node
abbrev pub LooksChangeNothing : Type 0
LooksChangeNothing = (tree : FileTree) (e : Entry) (birth : ℕ) → is_look e.op ≡ true → changes tree e birth ≡ false

-- a look leaves the shape, also a read that turns doubtful cells into bytes
abbrev pub LooksLeaveTheShape : Type 0
LooksLeaveTheShape = (tree : FileTree) (e : Entry) → BirthsAscend tree → is_look e.op ≡ true → shape_of (tree_after tree e) ≡ shape_of tree

-- an operation without a path touches nothing
abbrev pub NoPathTouchesNothing : Type 0
NoPathTouchesNothing = (tree : FileTree) (e : Entry) (birth : ℕ) → is_path_op e.op ≡ false → touches tree e birth ≡ false
