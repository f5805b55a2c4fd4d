-- Histories of lines are of one file tree.
use Rattle.std.specs.Prelude.{ℕ, ◌≡◌, Bool, true, Option, Some, List, [], ◌∷◌}
use Rattle.frang_base.specs.declared.lock.LockId.{LockId}
use Rattle.frang_base.specs.declared.op.Op.{Op}
use Rattle.tree_definitions.specs.Numbers.{below}
use Rattle.tree_definitions.specs.Tree.{FileTree}
use Rattle.sector_bytes.specs.Blocks.{Block}
use Rattle.sector_world.specs.Histories.{Commit, Item, logical, settled, Each}
use Rattle.sector_world.specs.Histories.Item.{Done}
use Rattle.sector_world.specs.Plans.{Outcome, Legal, IsByPlan, made_of}
use Rattle.sector_world.specs.World.{World, start}
use Rattle.sector_world.specs.Steps.{Event, Run}
use Rattle.sector_world.specs.Claims.{left}
use Rattle.sector_world.specs.Kinds.{Good}
use Rattle.sector_world.specs.Planned.{ArePlanned, IsLegal}
use Rattle.sector_world.specs.Trees.{MeetsTree, AreNew, Distinct, Answers, Stand, tree_of, first_disk}
use Rattle.line_histories.specs.LinePlans.{may_be_planned, sector_plan}
use Rattle.line_histories.specs.Following.{Follows, KindsFollow, KeepsKinds}
use Rattle.line_histories.specs.Trees.{performed, AreTimes, MayNumber, NumberedTree, performed_numbered, MayTake}
use Rattle.line_histories.specs.Standing.{StandsForShape, StandsNumbered}

-- the plan of lines meets the file tree: over sectors that stand for its shape it answers as the tree does, bytes aside, and leads to sectors that stand
-- for the shape of the tree after the operation
abbrev pub LinesMeetTheTree : Type 0
LinesMeetTheTree =
    (segments : ℕ) (when : ℕ → ℕ) → AreTimes when →
    MeetsTree NumberedTree (sector_plan segments when) (StandsNumbered segments) (performed_numbered when) MayTake

-- a history is of one file tree: the answers are the tree's, bytes aside, and the sectors stand for the shape of the tree after it
pub record IsOfOneTree (segments : ℕ) (when : ℕ → ℕ) (opening : ℕ → Block) (first : FileTree) (h : List Item) : Type 0 where
  pub answers : Answers (performed when) first h
  pub stands : StandsForShape segments (logical opening h) (tree_of (performed when) first h)

-- so is each that is legal and has new numbers, from sectors that stand for the shape of the first tree
abbrev pub HistoriesAreOfOneTree : Type 0
HistoriesAreOfOneTree =
    (segments : ℕ) (when : ℕ → ℕ) (opening : ℕ → Block) (first : FileTree) (numbers : List ℕ) (h : List Item) → AreTimes when →
    StandsNumbered segments opening (record { tree = first; numbers = numbers }) → Legal (sector_plan segments when) opening h → Distinct (MayNumber numbers) first h →
    IsOfOneTree segments when opening first h

-- so it is at each moment of servers that keeps what every event keeps: of the settled history, and of what recoveries of all logs would leave, whose
-- tree the replayed disk stands for
abbrev pub WorldsAreOfOneTree : Type 0
WorldsAreOfOneTree =
    (segments : ℕ) (when : ℕ → ℕ) (first : FileTree) (numbers : List ℕ) (w : World) → AreTimes when →
    StandsNumbered segments w.opening (record { tree = first; numbers = numbers }) → IsLegal (sector_plan segments when) w →
    Distinct (MayNumber numbers) first (settled w.history) → Good w →
    Stand FileTree (StandsForShape segments) (performed when) first w

-- and after every run of servers whose operations are planned over what they have cached, and have new numbers
abbrev pub RunsAreOfOneTree : Type 0
RunsAreOfOneTree =
    (segments : ℕ) (when : ℕ → ℕ) (servers : ℕ) (disk : ℕ → Block) (logged of_files : ℕ → Bool) (home : ℕ → LockId) (first : FileTree) (numbers : List ℕ)
    (events : List Event) (w : World) → AreTimes when →
    StandsNumbered segments (first_disk logged disk) (record { tree = first; numbers = numbers }) → Run (start servers disk logged of_files home) events w →
    ArePlanned (sector_plan segments when) (start servers disk logged of_files home) events →
    AreNew FileTree (MayNumber numbers) first (start servers disk logged of_files home) events →
    Stand FileTree (StandsForShape segments) (performed when) first w

-- with all segments at hand, each operation that may be planned and has a new number comes to an outcome
abbrev pub LinesComeToOutcomes : Type 0
LinesComeToOutcomes =
    (segments : ℕ) (when : ℕ → ℕ) (n : ℕ) (operation : Op) (tree : FileTree) (numbers : List ℕ) (disk : ℕ → Block) → StandsForShape segments disk tree →
    MayNumber numbers n tree → may_be_planned operation ≡ true → (o : Outcome) × (sector_plan segments when (below segments) n operation disk ≡ Some o)

-- ---- covers, kinds, free sectors and written ones

-- what they say of the first disk, they say along each legal history of lines with new numbers, which did to bytes what their plans say
abbrev pub AllFollow : Type 0
AllFollow =
    (segments : ℕ) (when : ℕ → ℕ) (opening : ℕ → Block) (first_tree : FileTree) (numbers : List ℕ) (h : List Item) (home : ℕ → LockId) (logged : ℕ → Bool)
    (first : ℕ → Option Block) → AreTimes when → StandsNumbered segments opening (record { tree = first_tree; numbers = numbers }) →
    Legal (sector_plan segments when) opening h → Distinct (MayNumber numbers) first_tree h → Each IsByPlan h → Follows segments opening home logged first [] →
    Follows segments opening home logged first h

-- so they do at each moment of servers: of the settled history, and of what recoveries of all logs would leave
abbrev pub AllFollowInWorlds : Type 0
AllFollowInWorlds =
    (segments : ℕ) (when : ℕ → ℕ) (first_tree : FileTree) (numbers : List ℕ) (w : World) → AreTimes when →
    StandsNumbered segments w.opening (record { tree = first_tree; numbers = numbers }) → IsLegal (sector_plan segments when) w →
    Distinct (MayNumber numbers) first_tree (settled w.history) → Good w → Follows segments w.opening w.home w.logged w.first [] →
    Follows segments w.opening w.home w.logged w.first (settled w.history) × Follows segments w.opening w.home w.logged w.first (left w w.servers)

-- behind a history that says the kinds of sectors, what a line changes has a version, and what it writes or frees as its plan says has none
abbrev pub LinesKeepKinds : Type 0
LinesKeepKinds =
    (segments : ℕ) (when : ℕ → ℕ) (opening : ℕ → Block) (first_tree : FileTree) (numbers : List ℕ) (h : List Item) (c : Commit) (logged : ℕ → Bool) → AreTimes when →
    StandsNumbered segments opening (record { tree = first_tree; numbers = numbers }) → Legal (sector_plan segments when) opening (Done c ∷ h) →
    Distinct (MayNumber numbers) first_tree (Done c ∷ h) → ((number : ℕ) → c.writes number ≡ made_of (c.makes number) (c.shown number)) →
    KindsFollow segments opening logged h → KeepsKinds logged h c
