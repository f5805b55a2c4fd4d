-- What a plan comes to, and what it picks of the segments that are held. What the tenses of its names mean says NamePlans.
use Rattle.std.specs.Prelude.{ℕ, ◌+◌, ◌*◌, ◌/◌, Bool, true, false, not, ◌&&◌, if◌then◌else◌, nat_le, nat_lt, Option, Some, None, List, [], ◌∷◌, ◌++◌, map}
use Rattle.std.specs.Map.{keys_of}
use Rattle.frang_base.specs.declared.limits.TheConstants.{BLOCK_ENTRIES, DIRECTORY_ENTRIES_MAX, INODE_BLOCKS_MAX, SEGMENT_BLOCKS, SMALL_BLOCK_SECTORS}
use Rattle.frang_base.specs.declared.lock.LockId.{LockId}
use Rattle.frang_base.specs.declared.lock.LockId.TheVariants as lock
use Rattle.frang_base.specs.declared.lock.Mode.{Mode}
use Rattle.frang_base.specs.declared.lock.Mode.TheVariants.{Shared, Sole}
use Rattle.frang_base.specs.declared.reply.Reply.{Reply}
use Rattle.frang_base.specs.declared.reply.Reply.TheVariants as reply
use Rattle.frang_base.specs.Functions.{put}
use Rattle.disk_definitions.specs.Store.{StoredNode, StoredEntry}
use Rattle.disk_definitions.specs.Edits.{Edit}
use Rattle.disk_definitions.specs.Changes.{put_entry, grow}
use Rattle.disk_definitions.specs.Held.{Segments, state_in}
use Rattle.disk_definitions.specs.Picks.{is_in_state, picked_directory}
use Rattle.disk_definitions.specs.Ask.{Ask, Got, ReadDirectory, bind, read_segments}
use Rattle.disk_definitions.specs.Walks.{Found, search, is_vacant}

-- the segments that are held, whether these are all of the disk, and the small blocks whose eight sectors are cached as zero
pub record Hand : Type 0 where
  pub held : Segments
  pub all : Bool
  pub zeroed : ℕ → Bool

-- a lock and the mode in which it is needed
abbrev pub Lock : Type 0
Lock = LockId × Mode

-- what is done: the reply, the edits that make it, and the locks that it needs
pub record Finish : Type 0 where
  pub reply : Reply
  pub edits : List Edit
  pub locks : List Lock

-- nothing was found in the held segments, and they aren't all; a block has to be cleared first, under the locks of the finished line; or all is done
pub data Plan : Type 0 where
  Lacks : Plan
  Clears : (block : ℕ) (locks : List Lock) → Plan
  Finishes : (finish : Finish) → Plan

-- ---- locks

abbrev pub shared_nodes : List ℕ → List Lock
shared_nodes inodes = map (λ inode. (lock.Node inode, Shared)) inodes

abbrev pub sole_nodes : List ℕ → List Lock
sole_nodes inodes = map (λ inode. (lock.Node inode, Sole)) inodes

abbrev pub sole_segments : List ℕ → List Lock
sole_segments segments = map (λ segment. (lock.Segment segment, Sole)) segments

-- ---- answers

-- a reply that changes nothing, under the locks of the nodes that were touched
abbrev pub refuse : Reply → List ℕ → Plan
refuse reply touched = Finishes (record { reply = reply; edits = []; locks = shared_nodes touched })

abbrev pub refused : Reply → List ℕ → Ask Plan
refused reply touched = Got (refuse reply touched)

-- an allocation found nothing
abbrev pub says_full : Reply → Bool
says_full reply.NoInode = true
says_full reply.NoDirBlock = true
says_full reply.NoLarge = true
says_full (reply.NoBlock ever_directories) = true
says_full _ = false

-- an allocation that found nothing: said only where every segment is held
abbrev pub none_left : Hand → Reply → List ℕ → Ask Plan
none_left hand reply touched =
    Got (if hand.all then Finishes (record { reply = reply; edits = []; locks = shared_nodes touched ++ sole_segments (keys_of hand.held) }) else Lacks)

-- a look at every segment that is held, as each pick makes
abbrev pub read_held : {A : Type 0} → Hand → Ask A → Ask A
read_held hand next = read_segments (keys_of hand.held) next

-- ---- room for an entry

-- a free slot of a directory, a block that it takes, or nothing
pub data Room : Type 0 where
  Inside : (slot : ℕ) → Room
  InBlock : (block : ℕ) → Room
  NoRoom : Room

abbrev pub room_in : Option ℕ → Room
room_in None = NoRoom
room_in (Some block) = InBlock block

-- the free slot that was found, or a block, where the directory may have one more
abbrev pub room_at : Hand → StoredNode → Option Found → Ask Room
room_at hand directory (Some found) = Got (Inside found.0)
room_at hand directory None = if nat_lt directory.blocks INODE_BLOCKS_MAX then read_held hand (Got (room_in (picked_directory hand.held))) else Got NoRoom

-- the first free slot, else a block
abbrev pub find_room : Hand → StoredNode → Ask Room
find_room hand directory = bind (search directory.small is_vacant 0 (SMALL_BLOCK_SECTORS * directory.blocks)) (room_at hand directory)

-- the directory with a block more
abbrev pub with_block : StoredNode → ℕ → StoredNode
with_block directory block = record directory { blocks = directory.blocks + 1; small = put directory.small directory.blocks block }

-- an entry comes into the room
abbrev pub enter : ℕ → StoredNode → StoredEntry → Room → List Edit
enter dir directory entry (Inside slot) = put_entry dir directory slot entry
enter dir directory entry (InBlock block) = grow dir directory block ++ put_entry dir (with_block directory block) (BLOCK_ENTRIES * directory.blocks) entry
enter dir directory entry NoRoom = []

-- the segment of the block that was taken
abbrev pub room_segments : Room → List ℕ
room_segments (Inside slot) = []
room_segments (InBlock block) = (block / SEGMENT_BLOCKS) ∷ []
room_segments NoRoom = []

-- the block was never a directory's, and isn't known to be zero
abbrev pub must_clear : Hand → ℕ → Bool
must_clear hand block = is_in_state 0 (state_in hand.held block) && not (hand.zeroed block)

-- done, once the block is clear; its first sector gets the entry
abbrev pub finish_in : Hand → Room → Finish → Ask Plan
finish_in hand (Inside slot) finish = Got (Finishes finish)
finish_in hand (InBlock block) finish =
    if must_clear hand block then Got (Clears block finish.locks) else ReadDirectory block 0 (λ slots. Got (Finishes finish))
finish_in hand NoRoom finish = Got (Finishes finish)

-- the directory has as many entries as it may
abbrev pub is_full : StoredNode → Bool
is_full directory = nat_le DIRECTORY_ENTRIES_MAX directory.size
