-- The things that edits move from lock to lock, as the code has them: of a thing all sectors move together.
use Rattle.std.specs.Prelude.{◌≡◌, ℕ, ◌+◌, Bool, false, ◌==◌, if◌then◌else◌, Option, Some, None, List, [], ◌∷◌, ◌++◌}
use Rattle.std.specs.List.{list_any}
use Rattle.frang_base.specs.declared.limits.TheConstants.{LARGE_BLOCK_SECTORS, SMALL_BLOCK_SECTORS}
use Rattle.frang_base.specs.declared.lock.LockId.{LockId}
use Rattle.bitmap_block.specs.declared.state.BlockState.{BlockState}
use Rattle.bitmap_block.specs.States.{state_number}
use Rattle.disk_definitions.specs.Store.{Use, use_by}
use Rattle.disk_definitions.specs.Edits.{Edit}
use Rattle.disk_definitions.specs.Edits.Edit.{SetBit, SetUse, SetLarge}
use Rattle.disk_definitions.specs.Ask.{Sector, InodeAt, DirectoryAt, SegmentAt, BytesAt, LargeAt, number_of}
use Rattle.disk_definitions.specs.Moves.{first_said, bit_said, inode_move, moved_block, large_said, large_taker_said, large_move}
use Rattle.edit_moves.specs.declared.thing.Thing.{Thing}
use Rattle.edit_moves.specs.declared.thing.Thing.TheVariants as thing
use Rattle.edit_moves.specs.declared.moves.Move.{Move}

-- ---- things

-- the thing of which a sector is one; the sector of a segment is of none
abbrev pub thing_of : Sector → Option Thing
thing_of (InodeAt inode) = Some (thing.Inode inode)
thing_of (DirectoryAt block part) = Some (thing.Small block)
thing_of (SegmentAt segment) = None
thing_of (BytesAt block part) = Some (thing.Small block)
thing_of (LargeAt segment part) = Some (thing.Large segment)

-- which of the thing's sectors it is
abbrev pub part_in : Sector → ℕ
part_in (InodeAt inode) = 0
part_in (DirectoryAt block part) = part
part_in (SegmentAt segment) = 0
part_in (BytesAt block part) = part
part_in (LargeAt segment part) = part

-- its sectors stand one after another, the first of them here
abbrev pub StartsAt : Thing → ℕ → Type 0
StartsAt own first = (sector : Sector) → thing_of sector ≡ Some own → number_of sector ≡ first + part_in sector

-- how many sectors it has
abbrev pub count_of : Thing → ℕ
count_of (thing.Inode inode) = 1
count_of (thing.Small block) = SMALL_BLOCK_SECTORS
count_of (thing.Large block) = LARGE_BLOCK_SECTORS

abbrev pub is_same : Thing → Thing → Bool
is_same (thing.Inode one) (thing.Inode another) = one == another
is_same (thing.Inode one) (thing.Small another) = false
is_same (thing.Inode one) (thing.Large another) = false
is_same (thing.Small one) (thing.Inode another) = false
is_same (thing.Small one) (thing.Small another) = one == another
is_same (thing.Small one) (thing.Large another) = false
is_same (thing.Large one) (thing.Inode another) = false
is_same (thing.Large one) (thing.Small another) = false
is_same (thing.Large one) (thing.Large another) = one == another

-- ---- what edits say of things

-- what a state says of the use of a block
abbrev pub use_as : BlockState → Use
use_as state = use_by (state_number state)

-- the thing that an edit takes or frees
abbrev pub thing_said : Edit → Option Thing
thing_said (SetBit inode used) = Some (thing.Inode inode)
thing_said (SetUse block state) = Some (thing.Small block)
thing_said (SetLarge segment used) = Some (thing.Large segment)
thing_said _ = None

-- the lock under which the edits move a thing, where they move it
abbrev pub lock_by : List Edit → Thing → Option LockId
lock_by edits (thing.Inode inode) = inode_move inode (first_said (bit_said inode) edits)
lock_by edits (thing.Small block) = moved_block block edits
lock_by edits (thing.Large segment) = large_move segment (first_said (large_taker_said segment) edits) (first_said (large_said segment) edits)

-- ---- lists of moves

-- the lock under which a list of moves puts a thing
abbrev pub lock_in : List Move → Thing → Option LockId
lock_in [] moved = None
lock_in (first ∷ moves) moved = if is_same moved first.thing then Some first.lock else lock_in moves moved

abbrev pub lock_of : List Move → Option Thing → Option LockId
lock_of moves None = None
lock_of moves (Some moved) = lock_in moves moved

-- the lock under which a list of moves puts a sector
abbrev pub cover_in : List Move → Sector → Option LockId
cover_in moves sector = lock_of moves (thing_of sector)

-- one of the moves is of this thing
abbrev pub has_thing : List Move → Thing → Bool
has_thing moves moved = list_any (λ one. is_same moved one.thing) moves

-- a move behind the others, where its thing has none yet
abbrev pub with_move : List Move → Move → List Move
with_move moves one = if has_thing moves one.thing then moves else moves ++ one ∷ []

-- what an edit moves, by all edits
abbrev pub with_lock : List Move → Thing → Option LockId → List Move
with_lock moves moved None = moves
with_lock moves moved (Some lock) = with_move moves (record { thing = moved; lock = lock })

abbrev pub with_thing : List Edit → List Move → Option Thing → List Move
with_thing edits moves None = moves
with_thing edits moves (Some moved) = with_lock moves moved (lock_by edits moved)

-- what the edits that are left move, behind those that were there
abbrev pub moves_by : List Edit → List Edit → List Move → List Move
moves_by edits [] moves = moves
moves_by edits (edit ∷ rest) moves = moves_by edits rest (with_thing edits moves (thing_said edit))
