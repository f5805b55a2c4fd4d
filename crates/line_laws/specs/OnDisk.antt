-- What the plan of a line comes to over sectors and bitmaps of a disk that stands for a tree, links followed.
use Rattle.std.specs.Prelude.{◌≡◌, ◌<◌, ◌^◌, ℕ, Bool}
use Rattle.frang_base.specs.declared.op.Op.{Op}
use Rattle.tree_definitions.specs.Tree.{FileTree}
use Rattle.tree_definitions.specs.Perform.{perform}
use Rattle.tree_definitions.specs.WellFormed.{IsNew}
use Rattle.sector_bytes.specs.Sectors.{Sectors}
use Rattle.disk_definitions.specs.Store.{store_of}
use Rattle.disk_definitions.specs.Held.{Segments}
use Rattle.disk_definitions.specs.Ask.{looks, meet}
use Rattle.disk_definitions.specs.Meets.{directory_blocks_in}
use Rattle.disk_definitions.specs.Written.{Cached, at_hand, hand_of}
use Rattle.disk_definitions.specs.Missing.{first_missing}
use Rattle.disk_definitions.specs.Allowed.{IsAllowed}
use Rattle.disk_definitions.specs.OnDisk.{AreOfDisk, StandsBelow, MetStands}
use Rattle.disk_definitions.specs.Lines.{plan_of_line}

-- it needs a sector exactly where one that it looks at isn't at hand, and then the first of them; or it comes to what the tree performs, as a plan does
-- over paths without links; `ever_directories` is the number of the disk's small blocks that are or were a directory's
abbrev pub LineStandsWhenPlanned : Op → Type 0
LineStandsWhenPlanned operation =
    (cached : Cached) (held : Segments) (all : Bool) (sectors : Sectors) (tree : FileTree) (birth when ever_directories : ℕ) → IsAllowed operation →
    AreOfDisk cached held all tree.segments sectors → StandsBelow sectors tree →
    IsNew tree birth → birth < 2 ^ 64 → when < 2 ^ 64 → ever_directories ≡ directory_blocks_in (store_of tree.segments sectors) tree.segments →
    let plan = plan_of_line (hand_of cached held all) birth when operation in
    MetStands cached held all sectors (perform tree operation birth when ever_directories)
    (first_missing (at_hand cached held) (looks plan (store_of tree.segments sectors))) (meet plan (at_hand cached held))

abbrev pub LinesStandOnDisks : Type 0
LinesStandOnDisks = (operation : Op) → LineStandsWhenPlanned operation
