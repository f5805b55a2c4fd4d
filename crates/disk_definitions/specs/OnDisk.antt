-- What a plan comes to over sectors and bitmaps of a disk that stands for a tree.
use Rattle.std.specs.Prelude.{◌≡◌, ◌<◌, ◌*◌, ◌^◌, ◌⊎◌, ◌↔◌, ℕ, Bool, true, false, is_some, Option, Some, None, List, [], length}
use Rattle.frang_base.specs.declared.limits.TheConstants.{RUN_VERSIONS_MAX, SECTOR_BYTES}
use Rattle.frang_base.specs.declared.bitmap.Bitmap.{Bitmap}
use Rattle.frang_base.specs.declared.op.Op.{Op}
use Rattle.frang_base.specs.declared.change.Change.{Change}
use Rattle.tree_definitions.specs.Tree.{FileTree}
use Rattle.tree_definitions.specs.Apply.{Applied, apply}
use Rattle.tree_definitions.specs.WellFormed.{IsNew}
use Rattle.disk_definitions.specs.Records.{record_fits}
use Rattle.sector_bytes.specs.SectorMaps.{value_at}
use Rattle.sector_bytes.specs.Sectors.{Sectors}
use Rattle.disk_definitions.specs.Store.{store_of, segment_at}
use Rattle.disk_definitions.specs.Standing.{StandsFor, HasVersionsUpTo}
use Rattle.disk_definitions.specs.Held.{Segments, bitmap_of}
use Rattle.disk_definitions.specs.Ask.{Sector, Met, looks, meet}
use Rattle.disk_definitions.specs.Ask.Met.{Needs, Has}
use Rattle.disk_definitions.specs.Plans.{Plan, Finish, must_clear}
use Rattle.disk_definitions.specs.Plans.Plan.{Lacks, Clears, Finishes}
use Rattle.disk_definitions.specs.PlanOf.{plan_of}
use Rattle.disk_definitions.specs.Meets.{Answers, directory_blocks_in}
use Rattle.disk_definitions.specs.Written.{Cached, at_hand, hand_of, sectors_at_hand, changes_of, byte_writes, laid_over}
use Rattle.disk_definitions.specs.Missing.{first_missing}
use Rattle.disk_definitions.specs.Allowed.{IsAllowed}

-- the cached sectors and the held bitmaps are those of this disk of so many segments; all is true exactly where all of its segments are held
pub record AreOfDisk (cached : Cached) (held : Segments) (all : Bool) (segments : ℕ) (sectors : Sectors) : Type 0 where
  pub as_cached : (sector : ℕ) (block : List ℕ) → value_at cached sector ≡ Some block → block ≡ sectors sector
  pub as_held : (segment : ℕ) (bitmap : Bitmap) → bitmap_of held segment ≡ Some bitmap → (segment < segments) × (segment_at sectors segment ≡ Some bitmap)
  pub all_held : (all ≡ true) ↔ ((segment : ℕ) → segment < segments → is_some (bitmap_of held segment) ≡ true)

-- the disk stands for the tree, and each version that is bounded there is below its bound
pub record StandsBelow (sectors : Sectors) (tree : FileTree) : Type 0 where
  pub stands : StandsFor sectors tree
  pub most : ℕ
  pub below : most < RUN_VERSIONS_MAX * stands.param.run
  pub versions : HasVersionsUpTo most stands.param.segments sectors
  pub whole : (sector : ℕ) → length (sectors sector) ≡ SECTOR_BYTES

-- none, or those of a record
abbrev pub MakeARecord : List Change → Type 0
MakeARecord changes = (changes ≡ []) ⊎ (record_fits changes ≡ true)

-- a finished plan: the reply is the tree's answer, the changes make a record, and the disk with them and with the bytes stands for the tree after the operation
pub record FinishStands (cached : Cached) (held : Segments) (sectors : Sectors) (applied : Applied) (finish : Finish) : Type 0 where
  pub answer : Answers applied.answer finish.reply
  pub recorded : MakeARecord (changes_of (sectors_at_hand cached held) finish.edits)
  pub stands : StandsFor (laid_over sectors (changes_of (sectors_at_hand cached held) finish.edits) (byte_writes finish.edits)) applied.tree

-- what a plan that needs no sector comes to: it lacks segments where not all are held; or a block that was never a directory's and isn't cached as zero
-- is to be cleared; or it is finished
abbrev pub PlanStands : Cached → Segments → Bool → Sectors → Applied → Plan → Type 0
PlanStands cached held all sectors applied Lacks = all ≡ false
PlanStands cached held all sectors applied (Clears block locks) = must_clear (hand_of cached held all) block ≡ true
PlanStands cached held all sectors applied (Finishes finish) = FinishStands cached held sectors applied finish

-- it needs a sector exactly where one of those that it looks at isn't at hand, and then the first of them
abbrev pub MetStands : Cached → Segments → Bool → Sectors → Applied → Option Sector → Met Plan → Type 0
MetStands cached held all sectors applied missing (Needs sector) = missing ≡ Some sector
MetStands cached held all sectors applied missing (Has plan) = (missing ≡ None) × PlanStands cached held all sectors applied plan

-- so it is of the plan of an operation over a disk that stands for a tree; `ever_directories` is the number of its small blocks that are or were a directory's
abbrev pub StandsWhenPlanned : Op → Type 0
StandsWhenPlanned operation =
    (cached : Cached) (held : Segments) (all : Bool) (sectors : Sectors) (tree : FileTree) (birth when ever_directories : ℕ) → IsAllowed operation →
    AreOfDisk cached held all tree.segments sectors → StandsBelow sectors tree →
    IsNew tree birth → birth < 2 ^ 64 → when < 2 ^ 64 → ever_directories ≡ directory_blocks_in (store_of tree.segments sectors) tree.segments →
    let plan = plan_of (hand_of cached held all) birth when operation in
    MetStands cached held all sectors (apply tree operation birth when ever_directories)
    (first_missing (at_hand cached held) (looks plan (store_of tree.segments sectors))) (meet plan (at_hand cached held))
