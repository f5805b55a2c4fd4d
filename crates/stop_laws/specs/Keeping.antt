-- Lines over stores that have the bytes of a tree's files.
use Rattle.std.specs.Prelude.{◌≡◌, ◌≤◌, ℕ, true, false}
use Rattle.frang_base.specs.declared.op.Op.{Op}
use Rattle.frang_base.specs.declared.reply.Reply.{Reply}
use Rattle.tree_definitions.specs.declared.history.Entry.{Entry}
use Rattle.tree_definitions.specs.Apply.{is_path_op}
use Rattle.tree_definitions.specs.History.{is_answer, leaves_tree, told_blocks, tree_after}
use Rattle.tree_definitions.specs.Perform.{perform}
use Rattle.tree_definitions.specs.Touched.{shape_of}
use Rattle.tree_definitions.specs.Tree.{FileTree, count_of, dir_blocks}
use Rattle.tree_definitions.specs.WellFormed.{IsNew, IsWellFormed}
use Rattle.disk_definitions.specs.Naming.{Naming, file_byte}
use Rattle.disk_definitions.specs.Store.{Store}
use Rattle.disk_definitions.specs.Edits.{edited_all}
use Rattle.disk_definitions.specs.Ask.{run}
use Rattle.disk_definitions.specs.Meets.{Answers, IsOfTree, IsHandOf}
use Rattle.disk_definitions.specs.Plans.{Finish, Hand}
use Rattle.disk_definitions.specs.Plans.Plan.{Finishes}
use Rattle.plan_laws.specs.FilesPlanned.{HasFiles}
use Rattle.disk_definitions.specs.Lines.{plan_of_line}
use Rattle.byte_trees.specs.Sharp.{NamesNoOthers}

-- an operation does the same with the number of directories' blocks that its reply tells, or where it tells none with that of the tree, as with a greater
abbrev pub ToldNumbersDoTheSame : Type 0
ToldNumbersDoTheSame =
    (tree : FileTree) (operation : Op) (birth when ever_directories : ℕ) (said : Reply) → count_of dir_blocks tree ≤ ever_directories →
    Answers (perform tree operation birth when ever_directories).answer said →
    perform tree operation birth when (told_blocks tree said) ≡ perform tree operation birth when ever_directories

-- The line of an entry finishes over a store that says the shape of a tree and has its bytes, and of which at least as many blocks are or were a directory's
-- as the tree has.
pub record FinishesOver (hand : Hand) (store : Store) (tree : FileTree) (naming : Naming) (ever_directories : ℕ) (e : Entry) (finish : Finish) : Type 0 where
  pub well_formed : IsWellFormed tree
  pub shape : IsOfTree store (shape_of tree) naming
  pub bytes : NamesNoOthers tree (file_byte store naming)
  pub at_hand : IsHandOf hand store tree.segments
  pub new : IsNew tree e.number.0
  pub files : HasFiles store tree ever_directories
  pub comes : run (plan_of_line hand e.number.0 e.when e.op) store ≡ Finishes finish
  pub said : e.reply ≡ finish.reply
  pub path : is_path_op e.op ≡ true
  pub acts : leaves_tree e.op e.reply ≡ false
  pub few : count_of dir_blocks tree ≤ ever_directories

-- the reply is the answer, and the edited store has the bytes of the tree after the entry
pub record KeepsBytes (store : Store) (tree : FileTree) (ever_directories : ℕ) (e : Entry) (finish : Finish) : Type 0 where
  pub answer : is_answer tree e ≡ true
  pub naming : Naming
  pub shape : IsOfTree (edited_all store finish.edits) (shape_of (perform tree e.op e.number.0 e.when ever_directories).tree) naming
  pub bytes : NamesNoOthers (tree_after tree e) (file_byte (edited_all store finish.edits) naming)

abbrev pub LinesKeepBytes : Type 0
LinesKeepBytes =
    (hand : Hand) (store : Store) (tree : FileTree) (naming : Naming) (ever_directories : ℕ) (e : Entry) (finish : Finish) →
    FinishesOver hand store tree naming ever_directories e finish → KeepsBytes store tree ever_directories e finish
