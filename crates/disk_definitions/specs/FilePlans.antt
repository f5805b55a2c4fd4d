-- Plans of the operations on the bytes of files: write, fill, truncate, read. The first bytes of a file stand in small blocks, the others in one large
-- block; a sector of a file is what a sector holds of its bytes, counted from its first.
use Rattle.std.specs.Prelude.{ℕ, zero, suc, ◌+◌, ◌-◌, ◌*◌, ◌/◌, ◌%◌, Bool, true, false, not, ◌&&◌, ◌||◌, ◌==◌, if◌then◌else◌, nat_le, nat_lt, min, max, length, Option, Some, None, List, [], ◌∷◌, ◌++◌, map, take, drop, slice_index}
use Rattle.frang_base.specs.declared.limits.TheConstants.{FILE_BYTES_MAX, KIND_DIRECTORY, KIND_FILE, SECTOR_BYTES, SEGMENTS_MAX, SEGMENT_BLOCKS, SMALL_BLOCK_SECTORS, SMALL_BYTES_MAX, SMALL_SECTORS_MAX}
use Rattle.frang_base.specs.declared.reply.Reply.TheVariants as reply
use Rattle.tree_definitions.specs.Numbers.{below}
use Rattle.tree_definitions.specs.Tree.{small_blocks_of}
use Rattle.disk_definitions.specs.Store.{StoredNode}
use Rattle.disk_definitions.specs.Store.Use.{Fresh, Bytes}
use Rattle.disk_definitions.specs.Edits.{Edit}
use Rattle.disk_definitions.specs.Edits.Edit.{SetInode, SetUse, SetLarge, SetBytes, SetLargeBytes}
use Rattle.disk_definitions.specs.Least.{count}
use Rattle.disk_definitions.specs.Held.{Segments, state_in}
use Rattle.disk_definitions.specs.Picks.{is_in_state, picked_many, picked_large}
use Rattle.disk_definitions.specs.Ask.{Ask, Got, ReadInode, ReadBytes, ReadLarge, bind}
use Rattle.disk_definitions.specs.Walks.{Target, walk, at_target}
use Rattle.disk_definitions.specs.Plans.{Hand, Plan, Finish, refused, none_left, read_held, shared_nodes, sole_nodes, sole_segments}
use Rattle.disk_definitions.specs.Plans.Plan.{Finishes}
use Rattle.disk_definitions.specs.NamePlans.{finish_over}

-- ---- the file that a path names

-- the inode of a target that has to be a file: of any other kind the entry tells it, and an inode of another kind is refused alike
abbrev pub with_file : (StoredNode → Ask Plan) → List ℕ → Option StoredNode → Ask Plan
with_file next touched None = refused reply.NoEnt touched
with_file next touched (Some node) = if node.kind == KIND_FILE then next node else refused reply.Inval touched

abbrev pub at_file : (ℕ → List ℕ → StoredNode → Ask Plan) → Target → Ask Plan
at_file next target =
    if target.kind == KIND_DIRECTORY then refused reply.IsDir target.dirs
    else (if target.kind == KIND_FILE then ReadInode target.inode (with_file (next target.inode (target.dirs ++ target.inode ∷ [])) (target.dirs ++ target.inode ∷ []))
    else refused reply.Inval target.dirs)

-- `next` has the file's inode, the nodes that were touched with the file as the last, and what the inode says
abbrev pub plan_of_file : List (List ℕ) → (ℕ → List ℕ → StoredNode → Ask Plan) → Ask Plan
plan_of_file path next = bind (walk path) (λ walked. at_target walked refused (at_file next))

-- ---- sectors of a file

abbrev pub read_sector : {A : Type 0} → StoredNode → ℕ → ((ℕ → ℕ) → Ask A) → Ask A
read_sector node sector next =
    if nat_lt sector SMALL_SECTORS_MAX then ReadBytes (node.small (sector / SMALL_BLOCK_SECTORS)) (sector % SMALL_BLOCK_SECTORS) next
    else ReadLarge (node.large - 1) (sector - SMALL_SECTORS_MAX) next

abbrev pub set_sector : StoredNode → ℕ → (ℕ → ℕ) → Edit
set_sector node sector bytes =
    if nat_lt sector SMALL_SECTORS_MAX then SetBytes (node.small (sector / SMALL_BLOCK_SECTORS)) (sector % SMALL_BLOCK_SECTORS) bytes
    else SetLargeBytes (node.large - 1) (sector - SMALL_SECTORS_MAX) bytes

-- ---- write and fill

-- so many bytes, each by its place in the file, from an offset on, and the time at which they are written
pub record Writing : Type 0 where
  pub off : ℕ
  pub len : ℕ
  pub when : ℕ
  pub byte : ℕ → ℕ

abbrev pub end_of : Writing → ℕ
end_of piece = piece.off + piece.len

-- a byte below the old size in this sector isn't overwritten
abbrev pub keeps_bytes : Writing → ℕ → ℕ → Bool
keeps_bytes piece size sector = nat_lt (SECTOR_BYTES * sector) (min piece.off size) || nat_lt (end_of piece) (min (SECTOR_BYTES * (sector + 1)) size)

-- the new byte at a place of the file, or the old one
abbrev pub byte_over : Writing → ℕ → ℕ → ℕ
byte_over piece index old = if nat_le piece.off index && nat_lt index (end_of piece) then piece.byte index else old

-- the bytes of the sector, the new ones among the old ones
abbrev pub mixed : Writing → ℕ → (ℕ → ℕ) → ℕ → ℕ
mixed piece sector old index = if nat_lt index SECTOR_BYTES then byte_over piece (SECTOR_BYTES * sector + index) (old index) else 0

-- the bytes around are those that are there, or zeros where none of them counts
abbrev pub write_sector : Writing → StoredNode → StoredNode → ℕ → (List Edit → Ask Plan) → Ask Plan
write_sector piece node new sector next =
    if keeps_bytes piece node.size sector then read_sector node sector (λ old. next (set_sector new sector (mixed piece sector old) ∷ []))
    else next (set_sector new sector (mixed piece sector (λ index. 0)) ∷ [])

-- so many sectors of the file from one on, and what is done with their edits; `node` is the old inode, `new` the new one
abbrev pub write_sectors : Writing → StoredNode → StoredNode → ℕ → ℕ → (List Edit → Ask Plan) → Ask Plan
write_sectors piece node new sector zero next = next []
write_sectors piece node new sector (suc rest) next =
    write_sector piece node new sector (λ one. write_sectors piece node new (sector + 1) rest (λ more. next (one ++ more)))

-- how many sectors the bytes meet
abbrev pub sectors_met : ℕ → ℕ → ℕ
sectors_met off len = if len == 0 then 0 else (off + len - 1) / SECTOR_BYTES + 1 - off / SECTOR_BYTES

-- the inode with another size and time: blocks are added behind those that stay, the others are no longer its own
abbrev pub small_after : StoredNode → List ℕ → ℕ → ℕ → ℕ
small_after node picks blocks index =
    if nat_lt index blocks then (if nat_lt index node.blocks then node.small index else slice_index picks (index - node.blocks)) else 0

abbrev pub large_after : StoredNode → Option ℕ → ℕ → ℕ
large_after node large size = if nat_lt SMALL_BYTES_MAX size then large_or large else 0
  where
    large_or : Option ℕ → ℕ
    large_or None = node.large
    large_or (Some segment) = segment + 1

abbrev pub resized : StoredNode → ℕ → ℕ → List ℕ → Option ℕ → StoredNode
resized node when size picks large =
    record node { size = size; blocks = small_blocks_of size; small = small_after node picks (small_blocks_of size); large = large_after node large size; when = when }

abbrev pub large_taken : Option ℕ → List Edit
large_taken None = []
large_taken (Some segment) = SetLarge segment true ∷ []

abbrev pub large_segment : Option ℕ → List ℕ
large_segment None = []
large_segment (Some segment) = segment ∷ []

-- the inode of a file that is written or cut; its time goes into the change even where it stays, so that each such line has a record
abbrev pub file_dated : ℕ → StoredNode → List Edit
file_dated inode new = SetInode inode (Some new) true ∷ []

abbrev pub written_by : ℕ → StoredNode → List ℕ → Option ℕ → List ℕ → List Edit → Finish
written_by inode new picks large touched bytes = record {
  reply = reply.Ok;
  edits = map (λ block. SetUse block Bytes) picks ++ large_taken large ++ file_dated inode new ++ bytes;
  locks = shared_nodes touched ++ sole_nodes (inode ∷ []) ++ sole_segments (map (λ block. block / SEGMENT_BLOCKS) picks ++ large_segment large);
}

-- with all blocks at hand
abbrev pub writing_in : Writing → ℕ → List ℕ → StoredNode → List ℕ → Option ℕ → Ask Plan
writing_in piece inode touched node picks large =
    let new = resized node piece.when (max node.size (end_of piece)) picks large in
    write_sectors piece node new (piece.off / SECTOR_BYTES) (sectors_met piece.off piece.len)
    (λ bytes. Got (Finishes (written_by inode new picks large touched bytes)))

-- the small blocks that are or were a directory's, in the held segments
abbrev pub directory_blocks : Segments → ℕ
directory_blocks held = count (λ block. is_in_state 2 (state_in held block) || is_in_state 3 (state_in held block)) (SEGMENT_BLOCKS * SEGMENTS_MAX)

abbrev pub writing_picked : Hand → Writing → ℕ → List ℕ → StoredNode → Option ℕ → Option (List ℕ) → Ask Plan
writing_picked hand piece inode touched node large None = none_left hand (reply.NoBlock (directory_blocks hand.held)) touched
writing_picked hand piece inode touched node large (Some picks) = writing_in piece inode touched node picks large

-- the small blocks that the file needs beside its own
abbrev pub writing_small : Hand → Writing → ℕ → List ℕ → StoredNode → Option ℕ → Ask Plan
writing_small hand piece inode touched node large =
    let more = small_blocks_of (max node.size (end_of piece)) - node.blocks in
    if more == 0 then writing_in piece inode touched node [] large
    else read_held hand (writing_picked hand piece inode touched node large (picked_many hand.held more))

abbrev pub writing_large : Hand → Writing → ℕ → List ℕ → StoredNode → Option ℕ → Ask Plan
writing_large hand piece inode touched node None = none_left hand reply.NoLarge touched
writing_large hand piece inode touched node (Some segment) = writing_small hand piece inode touched node (Some segment)

-- a large block, where the file needs one and has none; then the small ones
abbrev pub writing : Hand → Writing → ℕ → List ℕ → StoredNode → Ask Plan
writing hand piece inode touched node =
    if nat_lt node.size piece.off then refused reply.BadOffset touched
    else (if nat_lt FILE_BYTES_MAX (end_of piece) then refused reply.TooBig touched
    else (if nat_lt SMALL_BYTES_MAX (end_of piece) && node.large == 0 then read_held hand (writing_large hand piece inode touched node (picked_large hand.held))
    else writing_small hand piece inode touched node None))

abbrev pub plan_written : Hand → ℕ → List (List ℕ) → ℕ → List ℕ → Ask Plan
plan_written hand when path off bytes =
    plan_of_file path (writing hand (record { off = off; len = length bytes; when = when; byte = λ index. slice_index bytes (index - off) }))

abbrev pub plan_filled : Hand → ℕ → List (List ℕ) → ℕ → ℕ → ℕ → Ask Plan
plan_filled hand when path off len byte = plan_of_file path (writing hand (record { off = off; len = len; when = when; byte = λ index. byte }))

-- ---- truncate

-- the blocks from one index to another
abbrev pub blocks_between : StoredNode → ℕ → ℕ → List ℕ
blocks_between node from to = map (λ index. node.small (from + index)) (below (to - from))

-- the large block, where the file no longer needs it
abbrev pub large_cut : StoredNode → ℕ → List ℕ
large_cut node len = if not (node.large == 0) && nat_le len SMALL_BYTES_MAX then (node.large - 1) ∷ [] else []

abbrev pub cut_segments : StoredNode → ℕ → List ℕ
cut_segments node len = map (λ block. block / SEGMENT_BLOCKS) (blocks_between node (small_blocks_of len) node.blocks) ++ large_cut node len

abbrev pub cut_by : ℕ → ℕ → List ℕ → StoredNode → ℕ → Finish
cut_by when inode touched node len = record {
  reply = reply.Ok;
  edits = map (λ block. SetUse block Fresh) (blocks_between node (small_blocks_of len) node.blocks)
      ++ map (λ segment. SetLarge segment false) (large_cut node len) ++ file_dated inode (resized node when len [] None);
  locks = shared_nodes touched ++ sole_nodes (inode ∷ []) ++ sole_segments (cut_segments node len);
}

abbrev pub cutting : ℕ → ℕ → ℕ → List ℕ → StoredNode → Ask Plan
cutting when len inode touched node =
    if nat_lt node.size len then refused reply.BadOffset touched else finish_over (cut_segments node len) (cut_by when inode touched node len)

abbrev pub plan_truncated : ℕ → List (List ℕ) → ℕ → Ask Plan
plan_truncated when path len = plan_of_file path (cutting when len)

-- ---- read

-- the bytes of so many sectors from one on, and what is done with them
abbrev pub read_sectors : StoredNode → ℕ → ℕ → (List ℕ → Ask Plan) → Ask Plan
read_sectors node sector zero next = next []
read_sectors node sector (suc rest) next =
    read_sector node sector (λ bytes. read_sectors node (sector + 1) rest (λ more. next (map bytes (below SECTOR_BYTES) ++ more)))

-- at most so many bytes from an offset on, and none past the end
abbrev pub showing : ℕ → ℕ → ℕ → List ℕ → StoredNode → Ask Plan
showing off len inode touched node =
    if nat_lt node.size off then refused reply.BadOffset touched
    else (let shown = min len (node.size - off) in
    read_sectors node (off / SECTOR_BYTES) (sectors_met off shown) (λ bytes. refused (reply.Shown (take shown (drop (off % SECTOR_BYTES) bytes))) touched))

abbrev pub plan_read : List (List ℕ) → ℕ → ℕ → Ask Plan
plan_read path off len = plan_of_file path (showing off len)
