-- What picks are, and what taking changes, in words of their own.
use Rattle.std.specs.Prelude.{ℕ, suc, ◌≡◌, ◌≢◌, ◌<◌, ◌+◌, ◌*◌, ◌/◌, ◌⊎◌, Bool, true, false, ◌==◌, if◌then◌else◌, nat_le, is_some, Some, None, List, ◌∷◌, length}
use Rattle.std.specs.List.{All, Contains, list_any}
use Rattle.std.specs.List.Sorted.{IsStrictlyIncreasing}
use Rattle.std.specs.Option.{option_map, option_and_then}
use Rattle.frang_base.specs.declared.limits.TheConstants.{SEGMENTS_MAX, SEGMENT_BLOCKS, SEGMENT_INODES}
use Rattle.frang_base.specs.declared.bitmap.Bitmap.{Bitmap}
use Rattle.disk_definitions.specs.Bitmaps.{block_state}
use Rattle.disk_definitions.specs.Least.{count}
use Rattle.disk_definitions.specs.Held.{Segments, AreSegments, AreBitmaps, bitmap_of, inode_in, state_in, large_in}
use Rattle.disk_definitions.specs.Picks.{is_in_state, picked_inode, picked_bytes, picked_directory, picked_large, picked_many}
use Rattle.disk_definitions.specs.Taken.{taken_inode, taken_small, taken_large, marked_inode, marked_large, with_states, taken_all}

-- a block of this state is held, and none below it is
abbrev pub IsLeastInState : Segments → ℕ → ℕ → Type 0
IsLeastInState held state block =
    (block < SEGMENT_BLOCKS * SEGMENTS_MAX) × (state_in held block ≡ Some state) × ((other : ℕ) → other < block → state_in held other ≢ Some state)

-- no held block has this state
abbrev pub NoneInState : Segments → ℕ → Type 0
NoneInState held state = (other : ℕ) → state_in held other ≢ Some state

-- the inode that is picked is held and free, and none below it is; none is picked only where no held one is free
abbrev pub PicksAnInode : Type 0
PicksAnInode =
    (held : Segments) (inode : ℕ) → picked_inode held ≡ Some inode →
    (inode < SEGMENT_INODES * SEGMENTS_MAX) × (inode_in held inode ≡ Some false) × ((other : ℕ) → other < inode → inode_in held other ≢ Some false)

abbrev pub NoInodeIsLeft : Type 0
NoInodeIsLeft = (held : Segments) → AreSegments held → picked_inode held ≡ None → (inode : ℕ) → inode_in held inode ≢ Some false

-- so with the large blocks
abbrev pub PicksALargeBlock : Type 0
PicksALargeBlock =
    (held : Segments) (segment : ℕ) → picked_large held ≡ Some segment →
    (segment < SEGMENTS_MAX) × (large_in held segment ≡ Some false) × ((other : ℕ) → other < segment → large_in held other ≢ Some false)

abbrev pub NoLargeBlockIsLeft : Type 0
NoLargeBlockIsLeft = (held : Segments) → AreSegments held → picked_large held ≡ None → (segment : ℕ) → large_in held segment ≢ Some false

-- bytes get the least block of state 0
abbrev pub PicksForBytes : Type 0
PicksForBytes = (held : Segments) (block : ℕ) → picked_bytes held ≡ Some block → IsLeastInState held 0 block

abbrev pub NoneIsLeftForBytes : Type 0
NoneIsLeftForBytes = (held : Segments) → AreSegments held → picked_bytes held ≡ None → NoneInState held 0

-- a directory gets the least block of state 2, and the least of state 0 only where no held one has state 2
abbrev pub PicksForADirectory : Type 0
PicksForADirectory =
    (held : Segments) (block : ℕ) → AreSegments held → picked_directory held ≡ Some block →
    IsLeastInState held 2 block ⊎ (IsLeastInState held 0 block × NoneInState held 2)

abbrev pub NoneIsLeftForADirectory : Type 0
NoneIsLeftForADirectory = (held : Segments) → AreSegments held → picked_directory held ≡ None → NoneInState held 2 × NoneInState held 0

-- a small block that was taken or given back has its new state, and all else stays; so with inodes and large blocks
abbrev pub SmallBlockIsChanged : Type 0
SmallBlockIsChanged = (held : Segments) (block state : ℕ) → AreBitmaps held → state < 4 → is_some (bitmap_of held (block / SEGMENT_BLOCKS)) ≡ true →
    ((other : ℕ) → state_in (taken_small held block state) other ≡ (if other == block then Some state else state_in held other))
    × ((inode : ℕ) → inode_in (taken_small held block state) inode ≡ inode_in held inode)
    × ((segment : ℕ) → large_in (taken_small held block state) segment ≡ large_in held segment)

abbrev pub InodeIsMarked : Type 0
InodeIsMarked = (held : Segments) (inode : ℕ) (used : Bool) → is_some (bitmap_of held (inode / SEGMENT_INODES)) ≡ true →
    ((other : ℕ) → inode_in (marked_inode held inode used) other ≡ (if other == inode then Some used else inode_in held other))
    × ((block : ℕ) → state_in (marked_inode held inode used) block ≡ state_in held block)
    × ((segment : ℕ) → large_in (marked_inode held inode used) segment ≡ large_in held segment)

abbrev pub LargeBlockIsMarked : Type 0
LargeBlockIsMarked = (held : Segments) (segment : ℕ) (used : Bool) → is_some (bitmap_of held segment) ≡ true →
    ((other : ℕ) → large_in (marked_large held segment used) other ≡ (if other == segment then Some used else large_in held other))
    × ((inode : ℕ) → inode_in (marked_large held segment used) inode ≡ inode_in held inode)
    × ((block : ℕ) → state_in (marked_large held segment used) block ≡ state_in held block)

-- where several small blocks are changed, each segment's bitmap is changed at those of its blocks that are among them
abbrev pub SegmentsAreChanged : Type 0
SegmentsAreChanged =
    (held : Segments) (blocks : List ℕ) (state segment : ℕ) →
    bitmap_of (taken_all held blocks state) segment ≡ option_map (λ bitmap. with_states bitmap segment blocks state) (bitmap_of held segment)

abbrev pub StatesAreChanged : Type 0
StatesAreChanged = (bitmap : Bitmap) (segment : ℕ) (blocks : List ℕ) (state index : ℕ) → length bitmap.states ≡ 256 → state < 4 → index < SEGMENT_BLOCKS →
    block_state (with_states bitmap segment blocks state) index
    ≡ (if list_any (λ block. block == SEGMENT_BLOCKS * segment + index) blocks then state else block_state bitmap index)

-- a second pick, once the first is taken, lies above it; for a directory it is another block
abbrev pub NextInodeIsAbove : Type 0
NextInodeIsAbove = (held : Segments) (inode next : ℕ) → picked_inode held ≡ Some inode → picked_inode (taken_inode held inode) ≡ Some next → inode < next

abbrev pub NextLargeBlockIsAbove : Type 0
NextLargeBlockIsAbove =
    (held : Segments) (segment next : ℕ) → picked_large held ≡ Some segment → picked_large (taken_large held segment) ≡ Some next → segment < next

abbrev pub NextForBytesIsAbove : Type 0
NextForBytesIsAbove =
    (held : Segments) (block next : ℕ) → AreBitmaps held → picked_bytes held ≡ Some block → picked_bytes (taken_small held block 1) ≡ Some next → block < next

abbrev pub NextForADirectoryIsAnother : Type 0
NextForADirectoryIsAnother =
    (held : Segments) (block next : ℕ) → AreBitmaps held → picked_directory held ≡ Some block →
    picked_directory (taken_small held block 3) ≡ Some next → next ≢ block

-- many picks are the least blocks of state 0, each once, ascending
abbrev pub PicksTheLeast : Type 0
PicksTheLeast = (held : Segments) (many : ℕ) (blocks : List ℕ) → picked_many held many ≡ Some blocks →
    (length blocks ≡ many) × IsStrictlyIncreasing blocks × All (λ block. (block < SEGMENT_BLOCKS * SEGMENTS_MAX) × (state_in held block ≡ Some 0)) blocks
    × ((other : ℕ) → other < SEGMENT_BLOCKS * SEGMENTS_MAX → state_in held other ≡ Some 0 → Contains blocks other ⊎ All (λ block. block < other) blocks)

-- they are there exactly where so many held blocks have state 0
abbrev pub PicksWhereThereAreEnough : Type 0
PicksWhereThereAreEnough =
    (held : Segments) (many : ℕ) →
    is_some (picked_many held many) ≡ nat_le many (count (λ block. is_in_state 0 (state_in held block)) (SEGMENT_BLOCKS * SEGMENTS_MAX))

-- they are a pick of the held segments, and the others of these with that one taken
abbrev pub PicksOneAfterAnother : Type 0
PicksOneAfterAnother = (held : Segments) (many : ℕ) → AreBitmaps held →
    picked_many held (suc many) ≡ option_and_then (λ block. option_map (λ blocks. block ∷ blocks) (picked_many (taken_small held block 1) many)) (picked_bytes held)
