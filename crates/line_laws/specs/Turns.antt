-- Lines one after another, each planned over the disk that the ones before it leave.
use Rattle.std.specs.Prelude.{◌≡◌, ◌<◌, ◌^◌, ◌+◌, ◌*◌, ℕ, Bool, List, [], ◌∷◌, length}
use Rattle.frang_base.specs.declared.limits.TheConstants.{RUN_VERSIONS_MAX}
use Rattle.frang_base.specs.declared.op.Op.{Op}
use Rattle.tree_definitions.specs.Apply.{Applied}
use Rattle.tree_definitions.specs.Perform.{perform}
use Rattle.tree_definitions.specs.Tree.{FileTree}
use Rattle.tree_definitions.specs.WellFormed.{IsNew}
use Rattle.sector_bytes.specs.Sectors.{Sectors}
use Rattle.disk_definitions.specs.Store.{store_of}
use Rattle.disk_definitions.specs.Held.{Segments}
use Rattle.disk_definitions.specs.Allowed.{IsAllowed}
use Rattle.disk_definitions.specs.Ask.{meet}
use Rattle.disk_definitions.specs.Ask.Met.{Has}
use Rattle.disk_definitions.specs.Meets.{Answers, directory_blocks_in}
use Rattle.disk_definitions.specs.OnDisk.{AreOfDisk, StandsBelow}
use Rattle.disk_definitions.specs.Plans.{Finish}
use Rattle.disk_definitions.specs.Plans.Plan.{Finishes}
use Rattle.disk_definitions.specs.Written.{Cached, at_hand, hand_of}
use Rattle.disk_definitions.specs.Lines.{plan_of_line}
use Rattle.line_laws.specs.Onward.{left_by}

-- an operation with the birth of its new node and a time, what is at hand of the disk when it is planned, and what it comes to
pub record Turn : Type 0 where
  pub operation : Op
  pub birth : ℕ
  pub when : ℕ
  pub cached : Cached
  pub held : Segments
  pub all : Bool
  pub finish : Finish

-- it may be asked, it is planned with what is at hand of this disk of this tree, and needs no more
pub record Finishing (sectors : Sectors) (tree : FileTree) (turn : Turn) : Type 0 where
  pub allowed : IsAllowed turn.operation
  pub of_disk : AreOfDisk turn.cached turn.held turn.all tree.segments sectors
  pub new : IsNew tree turn.birth
  pub birth : turn.birth < 2 ^ 64
  pub time : turn.when < 2 ^ 64
  pub met : meet (plan_of_line (hand_of turn.cached turn.held turn.all) turn.birth turn.when turn.operation) (at_hand turn.cached turn.held) ≡ Has (Finishes turn.finish)

-- the disk that it leaves
abbrev pub disk_left : Sectors → Turn → Sectors
disk_left sectors turn = left_by turn.cached turn.held sectors turn.finish

-- what the tree says of it
abbrev pub performed : Sectors → FileTree → Turn → Applied
performed sectors tree turn = perform tree turn.operation turn.birth turn.when (directory_blocks_in (store_of tree.segments sectors) tree.segments)

-- each finishes over what the ones before it leave
abbrev pub FinishInTurn : Sectors → FileTree → List Turn → Type 0
FinishInTurn sectors tree [] = Unit {0}
FinishInTurn sectors tree (turn ∷ turns) = Finishing sectors tree turn × FinishInTurn (disk_left sectors turn) (performed sectors tree turn).tree turns

-- each answers as the tree does
abbrev pub AnswerInTurn : Sectors → FileTree → List Turn → Type 0
AnswerInTurn sectors tree [] = Unit {0}
AnswerInTurn sectors tree (turn ∷ turns) =
    Answers (performed sectors tree turn).answer turn.finish.reply × AnswerInTurn (disk_left sectors turn) (performed sectors tree turn).tree turns

-- the disk after all of them, and the tree
abbrev pub disk_after_turns : Sectors → List Turn → Sectors
disk_after_turns sectors [] = sectors
disk_after_turns sectors (turn ∷ turns) = disk_after_turns (disk_left sectors turn) turns

abbrev pub tree_after_turns : Sectors → FileTree → List Turn → FileTree
tree_after_turns sectors tree [] = tree
tree_after_turns sectors tree (turn ∷ turns) = tree_after_turns (disk_left sectors turn) (performed sectors tree turn).tree turns

-- they answer as the tree does, and the disk after them stands for the tree after them, by the same parameters, with at most a version more for each
pub record GoOn (sectors : Sectors) (tree : FileTree) (below : StandsBelow sectors tree) (turns : List Turn) : Type 0 where
  pub answers : AnswerInTurn sectors tree turns
  pub after : StandsBelow (disk_after_turns sectors turns) (tree_after_turns sectors tree turns)
  pub param : after.stands.param ≡ below.stands.param
  pub most : after.most ≡ below.most + length turns

-- so do as many as versions are left
abbrev pub LinesGoOn : Type 0
LinesGoOn =
    (sectors : Sectors) (tree : FileTree) (turns : List Turn) (below : StandsBelow sectors tree) → below.most + length turns < RUN_VERSIONS_MAX * below.stands.param.run →
    FinishInTurn sectors tree turns → GoOn sectors tree below turns
