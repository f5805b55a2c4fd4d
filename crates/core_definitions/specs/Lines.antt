-- The line under way of a server, and how far a line over paths has come.
use Rattle.std.specs.Prelude.{ℕ, Bool, false, not, if◌then◌else◌, Option, Some, None, is_some, List, [], ◌∷◌, map, filter}
use Rattle.std.specs.List.{list_any}
use Rattle.frang_base.specs.declared.lock.LockId.{LockId}
use Rattle.frang_base.specs.declared.lock.LockId.TheVariants.{Log, Segment, Node}
use Rattle.frang_base.specs.declared.lock.Mode.{Mode}
use Rattle.frang_base.specs.declared.lock.Mode.TheVariants.{Shared, Sole}
use Rattle.frang_base.specs.declared.op.Op.{Op}
use Rattle.frang_base.specs.declared.op.What.{What}
use Rattle.frang_base.specs.declared.op.What.TheVariants.{Server, Host}
use Rattle.frang_base.specs.declared.reply.Reply.{Reply}
use Rattle.frang_base.specs.declared.script.Line.{Line}
use Rattle.tree_definitions.specs.Apply.{is_path_op}
use Rattle.lock_definitions.specs.Locks.{Locks}
use Rattle.sector_bytes.specs.SectorMaps.{value_at}
use Rattle.disk_definitions.specs.Regions.{sector_of}
use Rattle.disk_definitions.specs.declared.region.Region.TheVariants as region
use Rattle.disk_definitions.specs.Ask.{Ask, Met, number_of}
use Rattle.disk_definitions.specs.Ask.Met.{Needs, Has}
use Rattle.disk_definitions.specs.Plans.{Lock, Plan}
use Rattle.disk_definitions.specs.Plans.Plan.{Lacks, Clears, Finishes}
use Rattle.cache_definitions.specs.Caches.{Cache}
use Rattle.core_definitions.specs.Logs.{SlotsRead}
use Rattle.core_definitions.specs.Plans.{Sight, Outcome, clear_needs, examined_in, finish_needs, needed_cover, nodes_looked_at, outcome_of, planned, program_of, sight_of}
use Rattle.set_definitions.specs.Sets.{LockSet, first_set, has_lock, lacks, next_segment, segments_in, to_ask}
use Rattle.core_definitions.specs.Settings.{Setting}
use Rattle.set_definitions.specs.Seen.{SeenSectors, Comparison, HasMoved, HasStopped, HasGoneThrough, compared, seen_more}

-- the line, and the answer that is fixed for it if one is; its set and what it has seen; for a mount the slots of its log that were read, and whether a get failed under it
pub record Under : Type 0 where
  pub line : Line
  pub fixed : Option Reply
  pub set : LockSet
  pub seen : SeenSectors
  pub slots : SlotsRead
  pub get_failed : Bool

-- what a line asks of its server
abbrev pub operation_of : What → Option Op
operation_of (Server operation) = Some operation
operation_of (Host asked) = None

-- the set of a line over paths begins as the root's lock; nothing is seen
abbrev pub set_at_first : Op → LockSet
set_at_first operation = if is_path_op operation then first_set else []

abbrev pub under_at_first : Line → Op → Option Reply → Under
under_at_first line operation fixed = record { line = line; fixed = fixed; set = set_at_first operation; seen = []; slots = []; get_failed = false }

-- ---- how far it has come

-- the first of these that fits
pub data Stage : Type 0 where
  Asking : (need : Lock) → Stage  -- a lock of the set lacks: the least one
  Fetching : (needs : List (ℕ × LockId)) → Stage  -- bitmaps of the set lack, or one sector that the plan needs; each with its cover
  Moving : Stage  -- a seen sector has moved
  Stopping : Stage  -- the comparison hasn't gone through; it never comes to this
  Growing : (needs : List Lock) (seen : SeenSectors) → Stage  -- the set lacks one of these locks; and what is seen then
  Clearing : (block : ℕ) → Stage  -- the plan is `Clear`
  Finishing : (outcome : Outcome) → Stage  -- the plan is `Done`

abbrev pub bitmap_sector : ℕ → ℕ
bitmap_sector segment = sector_of (region.Segment segment)

-- the bitmaps of the segments in the set that aren't cached
abbrev pub missing_bitmaps : LockSet → Cache → List (ℕ × LockId)
missing_bitmaps set cache =
    map (λ segment. (bitmap_sector segment, Segment segment)) (filter (λ segment. not (is_some (value_at cache (bitmap_sector segment)))) (segments_in set))

-- a segment is needed sole and a node shared
abbrev pub needed_mode : LockId → Mode
needed_mode (Log log) = Shared
needed_mode (Segment segment) = Sole
needed_mode (Node inode) = Shared

abbrev pub sole_segment : Option ℕ → List Lock
sole_segment None = []
sole_segment (Some segment) = (Segment segment, Sole) ∷ []

-- only where the comparison has gone through
abbrev pub once_through : Comparison → Stage → Stage
once_through HasGoneThrough stage = stage
once_through HasStopped stage = Stopping
once_through HasMoved stage = Moving

-- the set grows where it lacks one of the locks that the plan finds
abbrev pub or_grown : LockSet → List Lock → SeenSectors → Stage → Stage
or_grown set needs seen stage = if list_any (lacks set) needs then Growing needs seen else stage

-- a sector that the plan needs, with its cover: it is fetched where the cover is in the set; else the cover is found
abbrev pub needing : Comparison → LockSet → SeenSectors → ℕ → LockId → Stage
needing comparison set seen sector cover =
    if has_lock set cover then Fetching ((sector, cover) ∷ []) else once_through comparison (Growing ((cover, needed_mode cover) ∷ []) seen)

-- by what the plan comes to, where it looked at the inodes of these nodes; the next segment to join is this one
abbrev pub stage_by : Setting → Line → Op → Sight → LockSet → Option ℕ → Comparison → SeenSectors → List ℕ → Met Plan → Stage
stage_by setting line operation sight set next comparison seen nodes (Needs sector) = needing comparison set seen (number_of sector) (needed_cover setting.segments nodes sight sector)
stage_by setting line operation sight set next comparison seen nodes (Has Lacks) = once_through comparison (Growing (sole_segment next) seen)
stage_by setting line operation sight set next comparison seen nodes (Has (Clears block locks)) =
    once_through comparison (or_grown set (clear_needs operation nodes sight block) seen (Clearing block))
stage_by setting line operation sight set next comparison seen nodes (Has (Finishes finish)) =
    once_through comparison (or_grown set (finish_needs nodes sight finish) seen (Finishing (outcome_of setting line nodes sight finish)))

-- with the set held and the bitmaps at hand: what was seen is compared, and then the line is planned
abbrev pub stage_over : Setting → Under → Op → Option ℕ → Sight → Comparison → Ask Plan → Stage
stage_over setting under operation next sight HasMoved program = Moving
stage_over setting under operation next sight comparison program =
    stage_by setting under.line operation sight under.set next comparison (seen_more sight.cached under.seen (examined_in program sight)) (nodes_looked_at setting.segments program sight)
    (planned program sight)

abbrev pub stage_in_sight : Setting → Under → Op → Option ℕ → Sight → Stage
stage_in_sight setting under operation next sight =
    stage_over setting under operation next sight (compared under.seen sight.cached) (program_of setting under.line operation sight)

-- with the set held
abbrev pub stage_held : Setting → Locks → ℕ → Cache → Under → Op → List (ℕ × LockId) → Stage
stage_held setting locks server cache under operation [] =
    stage_in_sight setting under operation (next_segment setting.segments locks server under.set) (sight_of setting.segments under.set cache)
stage_held setting locks server cache under operation (missing ∷ others) = Fetching (missing ∷ others)

abbrev pub stage_asked : Setting → Locks → ℕ → Cache → Under → Op → Option Lock → Stage
stage_asked setting locks server cache under operation (Some need) = Asking need
stage_asked setting locks server cache under operation None = stage_held setting locks server cache under operation (missing_bitmaps under.set cache)

-- of a line over paths that is under way with an open answer, at a server that is up
abbrev pub stage_at : Setting → Locks → ℕ → Cache → Under → Op → Stage
stage_at setting locks server cache under operation =
    stage_asked setting locks server cache under operation (to_ask locks server under.set)
