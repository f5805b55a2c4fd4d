-- What a line's plan is while its set is held: what it is made over, what it examines, which locks it finds, and what it comes to once it is finished.
use Rattle.std.specs.Prelude.{ℕ, Bool, Option, Some, None, List, [], ◌∷◌}
use Rattle.std.specs.List.{filter_map, list_all}
use Rattle.std.specs.Option.{option_and_then, option_map, unwrap_or}
use Rattle.frang_base.specs.declared.bitmap.Bitmap.{Bitmap}
use Rattle.frang_base.specs.declared.change.Change.{Change}
use Rattle.frang_base.specs.declared.change.Redo.{Redo}
use Rattle.frang_base.specs.declared.lock.LockId.{LockId}
use Rattle.frang_base.specs.declared.lock.LockId.TheVariants.{Segment, Node}
use Rattle.frang_base.specs.declared.op.Op.{Op}
use Rattle.frang_base.specs.declared.reply.Reply.{Reply}
use Rattle.frang_base.specs.declared.script.Line.{Line}
use Rattle.tree_definitions.specs.Live.{number_of as operation_number, script_time, time_in}
use Rattle.tree_definitions.specs.Numbers.{below}
use Rattle.sector_bytes.specs.Blocks.{Block}
use Rattle.sector_bytes.specs.SectorMaps.{value_at}
use Rattle.disk_definitions.specs.declared.region.Region.TheVariants as region
use Rattle.disk_definitions.specs.Bitmaps.{bitmap_in}
use Rattle.disk_definitions.specs.Regions.{sector_of}
use Rattle.disk_definitions.specs.Held.{Segments}
use Rattle.disk_definitions.specs.Edits.{Edit}
use Rattle.disk_definitions.specs.Edits.Edit.{SetBytes, SetLargeBytes}
use Rattle.disk_definitions.specs.Ask.{Ask, AtHand, Met, Sector, BytesAt, LargeAt, meet, number_of}
use Rattle.disk_definitions.specs.Plans.{Finish, Lock, Plan}
use Rattle.disk_definitions.specs.Written.{Cached, at_hand, changes_of, edited_block, freed_sectors, hand_of, sectors_at_hand}
use Rattle.disk_definitions.specs.LookedAt.{examined, nodes_in}
use Rattle.disk_definitions.specs.CoversAtHand.{cover_among}
use Rattle.disk_definitions.specs.FoundLocks.{cleared_locks, finish_locks, owns_at_hand}
use Rattle.disk_definitions.specs.Moves.{moved_by}
use Rattle.disk_definitions.specs.Numbered.{moves_of, sector_at}
use Rattle.disk_definitions.specs.Lines.{plan_of_line, resolved}
use Rattle.cache_definitions.specs.Caches.{Cache}
use Rattle.set_definitions.specs.Usable.{usable}
use Rattle.set_definitions.specs.Sets.{LockSet, has_lock, segments_in}
use Rattle.core_definitions.specs.Settings.{Setting}

-- ---- what a plan is made over

-- the cached sectors that may be used, the bitmaps of the segments in the set, and whether these are all segments of the disk
pub record Sight : Type 0 where
  pub cached : Cached
  pub held : Segments
  pub all : Bool

-- a segment with its bitmap, where that is cached
abbrev pub bitmap_at : Cached → ℕ → Option (ℕ × Bitmap)
bitmap_at cached segment = option_map (λ bitmap. (segment, bitmap)) (option_and_then bitmap_in (value_at cached (sector_of (region.Segment segment))))

-- the line is planned over the cached sectors whose cover is in the set and over the bitmaps of the segments in the set
abbrev pub sight_over : ℕ → LockSet → Cached → Sight
sight_over segments set cached = record {
  cached = cached;
  held = filter_map (bitmap_at cached) (segments_in set);
  all = list_all (λ segment. has_lock set (Segment segment)) (below segments);
}

abbrev pub sight_of : ℕ → LockSet → Cache → Sight
sight_of segments set cache = sight_over segments set (usable set cache)

abbrev pub known_in : Sight → AtHand
known_in sight = at_hand sight.cached sight.held

-- its paths are resolved, and what the operation comes to is planned; a new node has the line's number as its birth, a file that is written the line's time
abbrev pub program_of : Setting → Line → Op → Sight → Ask Plan
program_of setting line operation sight =
    plan_of_line (hand_of sight.cached sight.held sight.all) (operation_number setting.run line.number) (time_in setting.run (script_time setting.script line.number)) operation

-- what it comes to, or the first sector that it needs
abbrev pub planned : Ask Plan → Sight → Met Plan
planned program sight = meet program (known_in sight)

-- the sectors with a version that it examines, in order
abbrev pub examined_in : Ask Plan → Sight → List ℕ
examined_in program sight = examined program sight.cached sight.held

-- the nodes at whose inodes it looks, as the numbers of these sectors tell them on a disk of so many segments
abbrev pub nodes_looked_at : ℕ → Ask Plan → Sight → List ℕ
nodes_looked_at segments program sight = nodes_in segments (examined_in program sight)

-- ---- the locks that it finds, by the nodes at whose inodes it looked

-- the cover of a sector that it needs or sets
abbrev pub cover_of : List ℕ → Sight → Sector → LockId
cover_of nodes sight sector = cover_among sight.cached sight.held nodes sector

-- a sector that is needed is known by its number: this is the cover of the one that has the number on a disk of so many segments; where none has, of the sector itself
abbrev pub needed_cover : ℕ → List ℕ → Sight → Sector → LockId
needed_cover segments nodes sight sector = cover_of nodes sight (unwrap_or (sector_at segments (number_of sector)) sector)

-- those of the finished line
abbrev pub finish_needs : List ℕ → Sight → Finish → List Lock
finish_needs nodes sight finish = finish_locks (owns_at_hand sight.cached) sight.held nodes finish.reply finish.edits

-- those of a line that has a block cleared, by the operation over paths without links to which its walks lead
abbrev pub clear_needs : Op → List ℕ → Sight → ℕ → List Lock
clear_needs operation nodes sight block = cleared_locks nodes block (meet (resolved operation) (known_in sight))

-- ---- a finished plan

-- a sector of file bytes that is set, with its cover
pub record BytesSet : Type 0 where
  pub sector : ℕ
  pub block : Block
  pub cover : LockId

-- the answer, the record where there are changes, the sectors of file bytes that are set and those that are freed, and the covers that move
pub record Outcome : Type 0 where
  pub reply : Reply
  pub redo : Option Redo
  pub bytes : List BytesSet
  pub freed : List ℕ
  pub moves : ℕ → Option LockId  -- of sectors cached or not

-- the record of a line, where it changes something
abbrev pub record_of : ℕ → List Change → Option Redo
record_of operation [] = None
record_of operation (change ∷ changes) = Some (record { op = record { 0 = operation }; changes = change ∷ changes })

-- where an edit sets file bytes
abbrev pub place_of : Edit → Option Sector
place_of (SetBytes block part bytes) = Some (BytesAt block part)
place_of (SetLargeBytes segment part bytes) = Some (LargeAt segment part)
place_of edit = None

-- they come under the lock that the edits say, or stay under the file's
abbrev pub set_by : List ℕ → Sight → List Edit → Edit → Option BytesSet
set_by nodes sight edits edit =
    option_map
    (λ place. record { sector = number_of place; block = edited_block [] 0 edit; cover = unwrap_or (moved_by edits place) (cover_of nodes sight place) })
    (place_of edit)

abbrev pub outcome_of : Setting → Line → List ℕ → Sight → Finish → Outcome
outcome_of setting line nodes sight finish = record {
  reply = finish.reply;
  redo = record_of (operation_number setting.run line.number) (changes_of (sectors_at_hand sight.cached sight.held) finish.edits);
  bytes = filter_map (set_by nodes sight finish.edits) finish.edits;
  freed = freed_sectors finish.edits;
  moves = moves_of setting.segments finish.edits;
}
