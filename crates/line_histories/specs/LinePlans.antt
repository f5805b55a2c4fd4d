-- The plan of a line as a plan over the sectors of the disk: of the segments from which it may take, the operation's number and what the sectors with
-- versions hold, it makes an outcome. The bytes of files aren't given: what the plan makes of them is told by the bytes that it reads.
use Rattle.std.specs.Prelude.{ℕ, ◌%◌, Bool, false, ◌&&◌, if◌then◌else◌, nat_lt, Option, Some, None, List, [], ◌++◌, map, is_some, slice_index}
use Rattle.std.specs.List.{filter_map, list_all}
use Rattle.std.specs.Option.{option_map, unwrap_or}
use Rattle.frang_base.specs.declared.bitmap.Bitmap.{Bitmap}
use Rattle.frang_base.specs.declared.limits.TheConstants.{SECTOR_BYTES}
use Rattle.frang_base.specs.declared.lock.LockId.{LockId}
use Rattle.frang_base.specs.declared.lock.LockId.TheVariants as lock
use Rattle.frang_base.specs.declared.lock.Mode.TheVariants.{Shared, Sole}
use Rattle.frang_base.specs.declared.op.Op.{Op}
use Rattle.frang_base.specs.declared.op.Op.TheVariants as op
use Rattle.frang_base.specs.declared.reply.Reply.{Reply}
use Rattle.frang_base.specs.declared.reply.Reply.TheVariants as reply
use Rattle.frang_base.specs.Functions.{member}
use Rattle.frang_base.specs.Name.{is_name, is_target}
use Rattle.sector_bytes.specs.Blocks.{Block}
use Rattle.sector_bytes.specs.SectorMaps.{value_at}
use Rattle.sector_bytes.specs.Sectors.{Sectors}
use Rattle.sector_world.specs.Histories.{Fill}
use Rattle.sector_world.specs.Histories.Fill.{Written, Freed}
use Rattle.sector_world.specs.Plans.{Outcome}
use Rattle.sector_world.specs.Plans as histories
use Rattle.tree_definitions.specs.Numbers.{below}
use Rattle.disk_definitions.specs.Store.{Store, Use, store_of, segment_at}
use Rattle.disk_definitions.specs.Held.{Segments, bitmap_of, state_in}
use Rattle.disk_definitions.specs.Picks.{is_in_state}
use Rattle.disk_definitions.specs.Edits.{Edit}
use Rattle.disk_definitions.specs.Ask.{Sector, InodeAt, DirectoryAt, SegmentAt, BytesAt, LargeAt, Ask, run, looks, number_of}
use Rattle.disk_definitions.specs.Plans.{Hand, Lock, Plan, Finish}
use Rattle.disk_definitions.specs.Plans.Plan.{Lacks, Clears, Finishes}
use Rattle.disk_definitions.specs.Meets.{is_directory_use}
use Rattle.disk_definitions.specs.Written.{byte_writes, changes_of, freed_sectors}
use Rattle.disk_definitions.specs.Moves.{first_said, use_said}
use Rattle.disk_definitions.specs.Numbered.{sector_at, moves_of}
use Rattle.plan_laws.specs.Plans.{Planner}
use Rattle.disk_definitions.specs.Lines.{plan_of_line}
use Rattle.line_laws.specs.Stores.{with_bytes}

-- ---- which operations are planned

abbrev pub are_names : List (List ℕ) → Bool
are_names path = list_all is_name path

-- it has a path, and may be asked: paths have names, a target may stand in an inode, bytes are bytes
abbrev pub may_be_planned : Op → Bool
may_be_planned (op.Create path) = are_names path
may_be_planned (op.Mkdir path) = are_names path
may_be_planned (op.Symlink path target) = are_names path && is_target target
may_be_planned (op.Link path to) = are_names path && are_names to
may_be_planned (op.Unlink path) = are_names path
may_be_planned (op.Rmdir path) = are_names path
may_be_planned (op.Rename path to) = are_names path && are_names to
may_be_planned (op.Write path off bytes) = are_names path && list_all (λ byte. nat_lt byte 256) bytes
may_be_planned (op.Fill path off len byte) = are_names path && nat_lt byte 256
may_be_planned (op.Truncate path len) = are_names path
may_be_planned (op.Read path off len) = are_names path
may_be_planned (op.Stat path) = are_names path
may_be_planned (op.List path) = are_names path
may_be_planned (op.Readlink path) = are_names path
may_be_planned (op.Time path) = are_names path
may_be_planned _ = false

-- ---- what is at hand

-- a segment of the disk with its bitmap
abbrev pub held_at : ℕ → Sectors → ℕ → Option (ℕ × Bitmap)
held_at segments disk segment = if nat_lt segment segments then option_map (λ bitmap. (segment, bitmap)) (segment_at disk segment) else None

-- those of the hint
abbrev pub held_of : ℕ → Sectors → List ℕ → Segments
held_of segments disk hint = filter_map (held_at segments disk) hint

-- these segments are held; a small block that was never a directory's counts as clear, since a sector without a version reads as zeros
abbrev pub hand_by : ℕ → Segments → Hand
hand_by segments held = record {
  held = held;
  all = list_all (λ segment. is_some (bitmap_of held segment)) (below segments);
  zeroed = λ block. is_in_state 0 (state_in held block);
}

-- the segments of the hint are at hand
abbrev pub hand_on : ℕ → Sectors → List ℕ → Hand
hand_on segments disk hint = hand_by segments (held_of segments disk hint)

-- a byte of a sector that was read; zero where none was
abbrev pub byte_shown : Option Block → ℕ → ℕ
byte_shown None index = 0
byte_shown (Some block) index = slice_index block index

-- what the sectors with versions say, where each sector of bytes reads as this block
abbrev pub store_showing : Option Block → ℕ → Sectors → Store
store_showing shown segments disk =
    with_bytes (store_of segments disk) (λ block index. byte_shown shown (index % SECTOR_BYTES)) (λ large index. byte_shown shown (index % SECTOR_BYTES))

-- where each reads as zeros
abbrev pub store_on : ℕ → Sectors → Store
store_on segments disk = store_showing None segments disk

-- ---- what a finished plan is to the sectors

-- an answer without the bytes that it shows
abbrev pub without_bytes : Reply → Reply
without_bytes (reply.Shown bytes) = reply.Shown []
without_bytes said = said

-- how many small blocks that are or were a directory's an answer counts
abbrev pub blocks_told : Reply → ℕ
blocks_told (reply.NoBlock ever_directories) = ever_directories
blocks_told said = 0

-- a look at a sector with a version, by the sector's number
abbrev pub versioned : Sector → Option ℕ
versioned (InodeAt inode) = Some (number_of (InodeAt inode))
versioned (DirectoryAt block part) = Some (number_of (DirectoryAt block part))
versioned (SegmentAt segment) = Some (number_of (SegmentAt segment))
versioned (BytesAt block part) = None
versioned (LargeAt large part) = None

-- a look at a sector of bytes, by its number
abbrev pub plain : Sector → Option ℕ
plain (InodeAt inode) = None
plain (DirectoryAt block part) = None
plain (SegmentAt segment) = None
plain (BytesAt block part) = Some (number_of (BytesAt block part))
plain (LargeAt large part) = Some (number_of (LargeAt large part))

abbrev pub becomes_directory : Option Use → Bool
becomes_directory None = false
becomes_directory (Some state) = is_directory_use state

-- the sector's block becomes a directory's and never was one's
abbrev pub is_claimed : Segments → List Edit → Option Sector → Bool
is_claimed held edits (Some (DirectoryAt block part)) = becomes_directory (first_said (use_said block) edits) && is_in_state 0 (state_in held block)
is_claimed held edits _ = false

abbrev pub claims_of : ℕ → Segments → List Edit → ℕ → Bool
claims_of segments held edits number = is_claimed held edits (sector_at segments number)

-- what edits make of the sector of bytes with this number
abbrev pub fill_by : List Edit → ℕ → Option Fill
fill_by edits number = if member number (freed_sectors edits) then Some Freed else option_map (λ bytes. Written bytes) (value_at (byte_writes edits) number)

abbrev pub edits_in : Plan → List Edit
edits_in Lacks = []
edits_in (Clears block locks) = []
edits_in (Finishes finish) = finish.edits

-- what the plan makes of the sector of bytes with this number, by the block that it reads there: what it makes where each sector of bytes reads as that
abbrev pub makes_by : (Option Block → Plan) → ℕ → Option (Option Block → Fill)
makes_by planned number = option_map (λ fill shown. unwrap_or (fill_by (edits_in (planned shown)) number) fill) (fill_by (edits_in (planned None)) number)

abbrev pub lock_in : Lock → LockId
lock_in lock_id = lock_id.0

abbrev pub sole_in : Lock → Option LockId
sole_in (lock_id, Sole) = Some lock_id
sole_in (lock_id, Shared) = None

abbrev pub segment_lock : ℕ → LockId
segment_lock segment = lock.Segment segment

abbrev pub segment_number : ℕ → ℕ
segment_number segment = number_of (SegmentAt segment)

-- the outcome of a finished plan that looked at these sectors: beside them it looks at all segments of its hint, and uses their locks
abbrev pub outcome_by : ℕ → Sectors → List ℕ → (Option Block → Plan) → List Sector → Finish → Outcome
outcome_by segments disk hint planned seen finish = record {
  reply = without_bytes finish.reply;
  blocks = blocks_told finish.reply;
  looked = filter_map versioned seen ++ map segment_number hint;
  changes = changes_of disk finish.edits;
  claims = claims_of segments (held_of segments disk hint) finish.edits;
  moves = moves_of segments finish.edits;
  reads = filter_map plain seen;
  makes = makes_by planned;
  uses = map lock_in finish.locks ++ map segment_lock hint;
  alone = filter_map sole_in finish.locks;
}

-- there is none where segments lack, or where a block has to be cleared first
abbrev pub outcome_if : ℕ → Sectors → List ℕ → (Option Block → Plan) → List Sector → Plan → Option Outcome
outcome_if segments disk hint planned seen Lacks = None
outcome_if segments disk hint planned seen (Clears block locks) = None
outcome_if segments disk hint planned seen (Finishes finish) = Some (outcome_by segments disk hint planned seen finish)

-- ---- the plan

-- the outcome of a program that plans
abbrev pub outcome_over : ℕ → Sectors → List ℕ → Ask Plan → Option Outcome
outcome_over segments disk hint program =
    outcome_if segments disk hint (λ shown. run program (store_showing shown segments disk)) (looks program (store_on segments disk)) (run program (store_on segments disk))

-- each segment of the hint is one of the disk's
abbrev pub are_segments : ℕ → List ℕ → Bool
are_segments segments hint = list_all (λ segment. nat_lt segment segments) hint

-- the plan over a disk of so many segments, whose operation with number n has the time `when n`, by a program that plans; none of an operation that may
-- not be asked or has no path, nor with a hint of other segments
abbrev pub sector_plan_by : Planner → ℕ → (ℕ → ℕ) → histories.Plan
sector_plan_by planner segments when hint n operation disk =
    if may_be_planned operation && are_segments segments hint then outcome_over segments disk hint (planner (hand_on segments disk hint) n (when n) operation) else None

-- that of lines
abbrev pub sector_plan : ℕ → (ℕ → ℕ) → histories.Plan
sector_plan segments when = sector_plan_by plan_of_line segments when
