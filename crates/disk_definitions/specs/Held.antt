-- What the held segments of the bitmap say.
use Rattle.std.specs.Prelude.{ℕ, ◌/◌, ◌%◌, ◌<◌, Bool, ◌≡◌, Option, Some, List, length}
use Rattle.std.specs.BTreeMap.{is_at}
use Rattle.std.specs.Map.{lookup}
use Rattle.std.specs.Option.{option_map}
use Rattle.std.specs.Ordering.{nat_cmp}
use Rattle.frang_base.specs.declared.limits.TheConstants.{SEGMENTS_MAX, SEGMENT_BLOCKS, SEGMENT_INODES}
use Rattle.frang_base.specs.declared.bitmap.Bitmap.{Bitmap}
use Rattle.disk_definitions.specs.Bitmaps.{inode_bit, block_state}

-- the segments that are held, each with its bitmap
abbrev pub Segments : Type 0
Segments = List (ℕ × Bitmap)

-- the bitmap of a segment; None where it isn't held
abbrev pub bitmap_of : Segments → ℕ → Option Bitmap
bitmap_of held segment = lookup (is_at (nat_cmp segment)) held

-- whether an inode is in use; None where its segment isn't held
abbrev pub inode_in : Segments → ℕ → Option Bool
inode_in held inode = option_map (λ bitmap. inode_bit bitmap (inode % SEGMENT_INODES)) (bitmap_of held (inode / SEGMENT_INODES))

-- the state of a small block; None where its segment isn't held
abbrev pub state_in : Segments → ℕ → Option ℕ
state_in held block = option_map (λ bitmap. block_state bitmap (block % SEGMENT_BLOCKS)) (bitmap_of held (block / SEGMENT_BLOCKS))

-- whether the large block of a segment is in use; None where its segment isn't held
abbrev pub large_in : Segments → ℕ → Option Bool
large_in held segment = option_map (λ bitmap. bitmap.large) (bitmap_of held segment)

-- each held segment is one that a disk may have
abbrev pub AreSegments : Segments → Type 0
AreSegments held = (segment : ℕ) (bitmap : Bitmap) → bitmap_of held segment ≡ Some bitmap → segment < SEGMENTS_MAX

-- each held bitmap has the states of a segment's small blocks, four a byte
abbrev pub AreBitmaps : Segments → Type 0
AreBitmaps held = (segment : ℕ) (bitmap : Bitmap) → bitmap_of held segment ≡ Some bitmap → length bitmap.states ≡ 256
