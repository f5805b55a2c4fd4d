-- Cells are known after a history that is told twice: a disk that has what is known of bytes has the bytes of the tree's files, a cell in doubt allowing any.
use Rattle.std.specs.Prelude.{◌≡◌, ◌≤◌, ◌<◌, ℕ, ◌+◌, ◌*◌, Bool, true, false, Option, List, [], ◌∷◌}
use Rattle.frang_base.specs.declared.limits.TheConstants.{SECTOR_BYTES}
use Rattle.frang_base.specs.declared.lock.LockId.{LockId}
use Rattle.tree_definitions.specs.Removal.{doubtful}
use Rattle.tree_definitions.specs.Touched.{shape_of}
use Rattle.tree_definitions.specs.Tree.{FileTree}
use Rattle.tree_definitions.specs.WellFormed.{IsWellFormed}
use Rattle.sector_bytes.specs.Blocks.{Block}
use Rattle.sector_world.specs.HistoryBytes.{Known}
use Rattle.sector_world.specs.Histories.{Each, Item, in_doubt, is_logged, settled}
use Rattle.sector_world.specs.Plans.{IsByPlan, Legal}
use Rattle.sector_world.specs.Claims.{left, replayed}
use Rattle.sector_world.specs.Kinds.{Good}
use Rattle.sector_world.specs.Planned.{IsLegal}
use Rattle.sector_world.specs.Trees.{Distinct}
use Rattle.sector_world.specs.World.{World}
use Rattle.disk_definitions.specs.Naming.{Naming}
use Rattle.disk_definitions.specs.Standing.{StandsFor}
use Rattle.disk_definitions.specs.Store.{store_of}
use Rattle.disk_definitions.specs.Meets.{IsOfTree}
use Rattle.line_histories.specs.LinePlans.{sector_plan}
use Rattle.line_histories.specs.Following.{Follows, store_after}
use Rattle.line_histories.specs.Standing.{StandsNumbered}
use Rattle.line_histories.specs.Trees.{AreTimes, MayNumber}
use Rattle.byte_trees.specs.Cells.{IsByte}
use Rattle.byte_trees.specs.Deeds.{Deed, Doubts, items, steps, tree_after}
use Rattle.stop_laws.specs.Along.{AllTold, HasShape, LiesAfter}
use Rattle.byte_trees.specs.Standing.{HasItsBytes}

-- the disk has what is known of the sectors of bytes after the history
abbrev pub HasWhatIsKnown : (ℕ → Bool) → (ℕ → Option Block) → List Item → (ℕ → Block) → Type 0
HasWhatIsKnown logged first h disk = (sector : ℕ) → is_logged logged h sector ≡ false → Known first sector (disk sector) h

-- each such disk has the bytes of the tree's files, by whatever naming of what the sectors with versions say
abbrev pub KnowsCells : (segments : ℕ) → (ℕ → Block) → (ℕ → Bool) → (ℕ → Option Block) → FileTree → List Deed → Type 0
KnowsCells segments opening logged first first_tree deeds =
    (naming : Naming) → IsOfTree (store_after segments opening (items deeds)) (shape_of (tree_after first_tree deeds)) naming →
    (disk : ℕ → Block) → HasWhatIsKnown logged first (items deeds) disk → HasItsBytes (store_of segments disk) (tree_after first_tree deeds) naming

-- what the end of a recovery of the server marks, on both sides: the sectors that are in doubt, and the cells
abbrev pub marked_by : FileTree → (server number : ℕ) → List Deed → Deed
marked_by first_tree server number deeds = Doubts (in_doubt server number (items deeds)) (doubtful server first_tree (steps deeds))

-- a legal history of lines with new numbers that is told twice
pub record IsToldTwice (segments : ℕ) (when : ℕ → ℕ) (opening : ℕ → Block) (first_tree : FileTree) (numbers : List ℕ) (home : ℕ → LockId) (logged : ℕ → Bool)
    (first : ℕ → Option Block) (server number : ℕ) (deeds : List Deed) : Type 0 where
  pub times : AreTimes when
  pub begins : StandsNumbered segments opening (record { tree = first_tree; numbers = numbers })
  pub legal : Legal (sector_plan segments when) opening (items deeds)
  pub distinct : Distinct (MayNumber numbers) first_tree (items deeds)
  pub by_plan : Each IsByPlan (items deeds)
  pub follows : Follows segments opening home logged first []
  pub told : AllTold segments when opening home first_tree server number deeds

-- once the recovery has acted no cell of a part that lies in a sector in doubt is a byte
abbrev pub MarkedPartsHaveNoBytes : Type 0
MarkedPartsHaveNoBytes =
    (segments : ℕ) (when : ℕ → ℕ) (opening : ℕ → Block) (first_tree : FileTree) (numbers : List ℕ) (home : ℕ → LockId) (logged : ℕ → Bool) (first : ℕ → Option Block)
    (server number : ℕ) (deeds : List Deed) → IsToldTwice segments when opening first_tree numbers home logged first server number deeds →
    (birth part sector : ℕ) → LiesAfter segments opening first_tree birth part sector deeds → in_doubt server number (items deeds) sector ≡ true →
    (at byte : ℕ) → SECTOR_BYTES * part ≤ at → at < SECTOR_BYTES * (part + 1) → IsByte (tree_after first_tree (marked_by first_tree server number deeds ∷ deeds)) birth at byte → ⊥

-- so cells that were known are known once it has acted, where the shape of the tree stays
abbrev pub MarksKeepCellsKnown : Type 0
MarksKeepCellsKnown =
    (segments : ℕ) (when : ℕ → ℕ) (opening : ℕ → Block) (first_tree : FileTree) (numbers : List ℕ) (home : ℕ → LockId) (logged : ℕ → Bool) (first : ℕ → Option Block)
    (server number : ℕ) (deeds : List Deed) → IsToldTwice segments when opening first_tree numbers home logged first server number deeds →
    HasShape when first_tree deeds → HasShape when first_tree (marked_by first_tree server number deeds ∷ deeds) →
    KnowsCells segments opening logged first first_tree deeds → KnowsCells segments opening logged first first_tree (marked_by first_tree server number deeds ∷ deeds)

-- and at each moment of servers whose operations are lines: where cells are known after what recoveries of all logs would leave, the disk with all logs
-- replayed stands for the tree of that. Sector 0 counts as one with a version
abbrev pub AStopLeavesKnownCells : Type 0
AStopLeavesKnownCells =
    (segments : ℕ) (when : ℕ → ℕ) (first_tree : FileTree) (numbers : List ℕ) (w : World) (deeds : List Deed) → AreTimes when →
    StandsNumbered segments w.opening (record { tree = first_tree; numbers = numbers }) → IsLegal (sector_plan segments when) w →
    Distinct (MayNumber numbers) first_tree (settled w.history) → Good w → Follows segments w.opening w.home w.logged w.first [] → w.logged 0 ≡ true →
    items deeds ≡ left w w.servers → IsWellFormed (tree_after first_tree deeds) → HasShape when first_tree deeds →
    KnowsCells segments w.opening w.logged w.first first_tree deeds → StandsFor (replayed w w.servers) (tree_after first_tree deeds)
