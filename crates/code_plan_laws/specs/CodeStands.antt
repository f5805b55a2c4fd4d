-- What a plan in code comes to over sectors and bitmaps of a disk that stands for a tree.
use Rattle.std.specs.Prelude.{◌≡◌, ◌↔◌, ◌<◌, ◌-◌, ◌^◌, nat_lt, ℕ, Bool, true, false, Option, Some, None, List, map}
use Rattle.std.specs.List.{list_all, filter_map}
use Rattle.std.specs.Option.{option_map}
use Rattle.frang_base.specs.declared.change.Change.{Change}
use Rattle.frang_base.specs.declared.op.Op.{Op}
use Rattle.frang_base.specs.declared.reply.Reply.{Reply}
use Rattle.frang_base.specs.declared.sector.Sector.{Sector as CodeSector}
use Rattle.tree_definitions.specs.Tree.{FileTree}
use Rattle.tree_definitions.specs.Apply.{Applied, apply}
use Rattle.tree_definitions.specs.WellFormed.{IsNew}
use Rattle.meta_version.specs.declared.plan.Plan.{Plan as CodePlan}
use Rattle.meta_version.specs.declared.plan.Plan.TheVariants as plan
use Rattle.sector_bytes.specs.Sectors.{Sectors}
use Rattle.disk_definitions.specs.Store.{store_of}
use Rattle.disk_definitions.specs.Standing.{StandsFor, version_at}
use Rattle.disk_definitions.specs.Held.{Segments, AreSegments}
use Rattle.disk_definitions.specs.Picks.{picked_directory}
use Rattle.disk_definitions.specs.Ask.{Sector, looks, number_of}
use Rattle.disk_definitions.specs.Plans.{Finish, Finishes, must_clear}
use Rattle.disk_definitions.specs.PlanOf.{plan_of}
use Rattle.disk_definitions.specs.Meets.{Answers, directory_blocks_in}
use Rattle.disk_definitions.specs.Written.{hand_of, Cached, at_hand, laid_over, metadata_sector, sectors_at_hand}
use Rattle.disk_definitions.specs.Missing.{first_missing}
use Rattle.dir_lookup.specs.Reading.{Gives, reading}
use Rattle.dir_lookup.specs.Planned.{planned}
use Rattle.disk_definitions.specs.Allowed.{IsAllowed}
use Rattle.disk_definitions.specs.OnDisk.{AreOfDisk, StandsBelow, MakeARecord}
use Rattle.line_laws.specs.Laws.{HasPath}
use Rattle.plan_laws.specs.Wants.{Wants, wants}
use Rattle.plan_laws.specs.Exact.{FindsNothing}

-- a sector with its bytes, by the sector's number
abbrev pub write_of : CodeSector × List ℕ → ℕ × List ℕ
write_of w = (w.0.0, w.1)

-- done: the reply is the tree's answer, the changes make a record, and the disk with them and with the bytes stands for the tree after the operation
pub record DoneStands (disk : Sectors) (a : Applied) (reply : Reply) (changes : List Change) (bytes : List (CodeSector × List ℕ)) : Type 0 where
  pub answer : Answers a.answer reply
  pub recorded : MakeARecord changes
  pub stands : StandsFor (laid_over disk changes (map write_of bytes)) a.tree

-- the plan needs the first sector that is looked at and isn't at hand; or none is missing, and it lacks segments where not all are held, has a block
-- cleared that was never a directory's and isn't cached as zero, or is done
abbrev pub CodeStands : Cached → Segments → Bool → Sectors → Applied → Option Sector → CodePlan → Type 0
CodeStands cached held all disk a missing (plan.Need s) = option_map number_of missing ≡ Some s.0
CodeStands cached held all disk a missing plan.Segments = (missing ≡ None) × (all ≡ false)
CodeStands cached held all disk a missing (plan.Clear k) = (missing ≡ None) × (must_clear (hand_of cached held all) k ≡ true)
CodeStands cached held all disk a missing (plan.Done reply changes bytes freed) = (missing ≡ None) × DoneStands disk a reply changes bytes

-- so it is of this plan of an operation at a new birth and a time, over every disk that stands for a tree and of which the sectors and bitmaps are
abbrev pub StandsOverDisks : Op → ℕ → ℕ → Cached → Segments → Bool → CodePlan → Type 0
StandsOverDisks o birth when cached held all p = (disk : Sectors) (tree : FileTree) (m : ℕ) → IsAllowed o → AreOfDisk cached held all tree.segments disk → StandsBelow disk tree → IsNew tree birth →
    m ≡ directory_blocks_in (store_of tree.segments disk) tree.segments →
    CodeStands cached held all disk (apply tree o birth when m) (first_missing (at_hand cached held) (looks (plan_of (hand_of cached held all) birth when o) (store_of tree.segments disk))) p

-- the definitions' plan, as the code has it, is such a one
abbrev pub PlannedStands : Type 0
PlannedStands = (o : Op) (birth when : ℕ) (cached : Cached) (held : Segments) (all : Bool) → HasPath o → birth < 2 ^ 64 → when < 2 ^ 64 →
    StandsOverDisks o birth when cached held all (planned cached held (reading (plan_of (hand_of cached held all) birth when o) cached held))

-- ---- exactly where

-- what an operation takes of the disk, where the tree refuses it for nothing else and no sector is missing
abbrev pub TakesBy : FileTree → Op → Option Sector → (Wants → Type 0) → Type 0
TakesBy tree o missing Holds = (missing ≡ None) × (w : Wants) × (wants tree o ≡ Some w) × Holds w

-- it needs this sector exactly where it is the first that is looked at and isn't at hand; it lacks segments exactly where not all are held and an
-- allocation that the tree asks for finds nothing in them; it has block k cleared exactly where a directory must grow, each allocation finds something, and
-- that block is found, was never a directory's, and isn't cached as zero
pub record CodeIsExact (cached : Cached) (held : Segments) (all : Bool) (tree : FileTree) (o : Op) (missing : Option Sector) (p : CodePlan) : Type 0 where
  pub need : (s : CodeSector) → (p ≡ plan.Need s) ↔ (option_map number_of missing ≡ Some s.0)
  pub segments : (p ≡ plan.Segments) ↔ TakesBy tree o missing (λ w. (all ≡ false) × FindsNothing held w)
  pub clear : (k : ℕ) → (p ≡ plan.Clear k) ↔ TakesBy tree o missing (λ w. (w.grows ≡ true) × (FindsNothing held w → ⊥) × (picked_directory held ≡ Some k) × (must_clear (hand_of cached held all) k ≡ true))

-- so it is of this plan over every such disk
abbrev pub IsExactOverDisks : Op → ℕ → ℕ → Cached → Segments → Bool → CodePlan → Type 0
IsExactOverDisks o birth when cached held all p = (disk : Sectors) (tree : FileTree) → AreOfDisk cached held all tree.segments disk → StandsBelow disk tree →
    CodeIsExact cached held all tree o (first_missing (at_hand cached held) (looks (plan_of (hand_of cached held all) birth when o) (store_of tree.segments disk))) p

-- the definitions' plan, as the code has it, is such a one
abbrev pub PlannedIsExact : Type 0
PlannedIsExact = (o : Op) (birth when : ℕ) (cached : Cached) (held : Segments) (all : Bool) →
    IsExactOverDisks o birth when cached held all (planned cached held (reading (plan_of (hand_of cached held all) birth when o) cached held))

-- ---- versions

-- the sectors and bitmaps are those of some disk that stands for a tree without this birth, and the operation may be asked
pub record IsOverADisk (o : Op) (birth : ℕ) (cached : Cached) (held : Segments) (all : Bool) : Type 0 where
  pub disk : Sectors
  pub tree : FileTree
  pub allowed : IsAllowed o
  pub at_hand : AreOfDisk cached held all tree.segments disk
  pub stands : StandsBelow disk tree
  pub new : IsNew tree birth

-- each sector with a version that the edits of a finished plan change has a version below the largest number of eight bytes
abbrev pub HasNextVersions : Type 0
HasNextVersions = (o : Op) (birth when : ℕ) (cached : Cached) (held : Segments) (all : Bool) (f : Finish) → HasPath o → birth < 2 ^ 64 → when < 2 ^ 64 → IsOverADisk o birth cached held all →
    reading (plan_of (hand_of cached held all) birth when o) cached held ≡ Gives (Finishes f) →
    list_all (λ sector. nat_lt (version_at (sectors_at_hand cached held) sector) (2 ^ 64 - 1)) (filter_map metadata_sector f.edits) ≡ true

-- each held segment of a disk is one of the 64 that a disk may have
abbrev pub HoldsSegments : Type 0
HoldsSegments = (o : Op) (birth : ℕ) (cached : Cached) (held : Segments) (all : Bool) → IsOverADisk o birth cached held all → AreSegments held
