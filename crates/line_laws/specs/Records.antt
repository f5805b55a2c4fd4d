-- There is a record exactly where the entry is one that a removal may lose: it changes the shape, or writes or cuts a file.
use Rattle.std.specs.Prelude.{◌≡◌, ◌<◌, ◌^◌, ◌↔◌, ℕ, Bool, false, [], filter}
use Rattle.frang_base.specs.declared.op.Op.{Op}
use Rattle.tree_definitions.specs.declared.history.Entry.{Entry}
use Rattle.tree_definitions.specs.Tree.{FileTree}
use Rattle.tree_definitions.specs.Perform.{Goes, resolved}
use Rattle.tree_definitions.specs.Removal.{is_recorded}
use Rattle.tree_definitions.specs.WellFormed.{IsNew}
use Rattle.sector_bytes.specs.Sectors.{Sectors}
use Rattle.disk_definitions.specs.Store.{Store, store_of}
use Rattle.disk_definitions.specs.Naming.{Naming}
use Rattle.disk_definitions.specs.Held.{Segments}
use Rattle.disk_definitions.specs.Allowed.{IsAllowed}
use Rattle.disk_definitions.specs.Ask.{run, meet}
use Rattle.disk_definitions.specs.Ask.Met.{Has}
use Rattle.disk_definitions.specs.Plans.{Hand, Finish}
use Rattle.disk_definitions.specs.Plans.Plan.{Finishes}
use Rattle.disk_definitions.specs.PlanOf.{plan_of}
use Rattle.disk_definitions.specs.Meets.{IsOfTree, IsHandOf}
use Rattle.disk_definitions.specs.Written.{Cached, at_hand, hand_of, sectors_at_hand, is_metadata, changes_of}
use Rattle.disk_definitions.specs.OnDisk.{AreOfDisk, StandsBelow}
use Rattle.disk_definitions.specs.Lines.{plan_of_line}

-- the entry of a finished plan: it has this number and time and the plan's reply, and it comes to the operation that was planned
pub record IsEntryOf (tree : FileTree) (birth when : ℕ) (operation : Op) (finish : Finish) (e : Entry) : Type 0 where
  pub number : e.number.0 ≡ birth
  pub time : e.when ≡ when
  pub reply : e.reply ≡ finish.reply
  pub comes : (resolved tree e.op).step ≡ Goes operation

-- over the disk of a tree a finished plan edits a sector with a version exactly where its entry is one that a removal may lose
abbrev pub RecordsAreShapes : Type 0
RecordsAreShapes =
    (hand : Hand) (store : Store) (tree : FileTree) (naming : Naming) (birth when : ℕ) (operation : Op) (finish : Finish) (e : Entry) → IsOfTree store tree naming →
    IsHandOf hand store tree.segments → IsNew tree birth → run (plan_of hand birth when operation) store ≡ Finishes finish → IsEntryOf tree birth when operation finish e →
    (filter is_metadata finish.edits ≡ []) ↔ (is_recorded tree e ≡ false)

-- and so its changes make a record exactly there
abbrev pub ChangesAreShapes : Type 0
ChangesAreShapes =
    (cached : Cached) (held : Segments) (all : Bool) (sectors : Sectors) (tree : FileTree) (birth when : ℕ) (operation : Op) (finish : Finish) (e : Entry) → IsAllowed operation →
    AreOfDisk cached held all tree.segments sectors → StandsBelow sectors tree → IsNew tree birth → birth < 2 ^ 64 → when < 2 ^ 64 →
    run (plan_of (hand_of cached held all) birth when operation) (store_of tree.segments sectors) ≡ Finishes finish → IsEntryOf tree birth when operation finish e →
    (changes_of sectors finish.edits ≡ []) ↔ (is_recorded tree e ≡ false)

-- with the sectors at hand, where the plan has all that it needs
abbrev pub ChangesAtHandAreShapes : Type 0
ChangesAtHandAreShapes =
    (cached : Cached) (held : Segments) (all : Bool) (sectors : Sectors) (tree : FileTree) (birth when : ℕ) (operation : Op) (finish : Finish) (e : Entry) → IsAllowed operation →
    AreOfDisk cached held all tree.segments sectors → StandsBelow sectors tree → IsNew tree birth → birth < 2 ^ 64 → when < 2 ^ 64 →
    meet (plan_of (hand_of cached held all) birth when operation) (at_hand cached held) ≡ Has (Finishes finish) → IsEntryOf tree birth when operation finish e →
    (changes_of (sectors_at_hand cached held) finish.edits ≡ []) ↔ (is_recorded tree e ≡ false)

-- the entry of a finished plan of a line: of this operation, whose paths may lead through links
pub record IsEntryOfLine (birth when : ℕ) (operation : Op) (finish : Finish) (e : Entry) : Type 0 where
  pub number : e.number.0 ≡ birth
  pub time : e.when ≡ when
  pub reply : e.reply ≡ finish.reply
  pub operates : e.op ≡ operation

-- so it is of the plan of a line
abbrev pub LinesRecordShapes : Type 0
LinesRecordShapes =
    (hand : Hand) (store : Store) (tree : FileTree) (naming : Naming) (birth when : ℕ) (operation : Op) (finish : Finish) (e : Entry) → IsOfTree store tree naming →
    IsHandOf hand store tree.segments → IsNew tree birth → run (plan_of_line hand birth when operation) store ≡ Finishes finish → IsEntryOfLine birth when operation finish e →
    (filter is_metadata finish.edits ≡ []) ↔ (is_recorded tree e ≡ false)

-- and of its changes
abbrev pub LineChangesAreShapes : Type 0
LineChangesAreShapes =
    (cached : Cached) (held : Segments) (all : Bool) (sectors : Sectors) (tree : FileTree) (birth when : ℕ) (operation : Op) (finish : Finish) (e : Entry) → IsAllowed operation →
    AreOfDisk cached held all tree.segments sectors → StandsBelow sectors tree → IsNew tree birth → birth < 2 ^ 64 → when < 2 ^ 64 →
    run (plan_of_line (hand_of cached held all) birth when operation) (store_of tree.segments sectors) ≡ Finishes finish → IsEntryOfLine birth when operation finish e →
    (changes_of sectors finish.edits ≡ []) ↔ (is_recorded tree e ≡ false)
