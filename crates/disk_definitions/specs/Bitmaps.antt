-- Segments of the allocation bitmap.
use Rattle.std.specs.Prelude.{ℕ, ◌+◌, ◌-◌, ◌*◌, ◌/◌, ◌%◌, ◌^◌, Bool, true, false, ◌==◌, ◌≡◌, if◌then◌else◌, Option, Some, None, List, ◌∷◌, ◌++◌, take, drop, slice_index}
use Rattle.byteorder.specs.Endian.{little_bytes}
use Rattle.frang_base.specs.declared.bitmap.Bitmap.{Bitmap}
use Rattle.sector_bytes.specs.Bytes.{number_at, zeros}
use Rattle.std.specs.Str.{bytes_eq}

-- 1 where the large block is in use
abbrev pub large_byte : Bool → ℕ
large_byte true = 1
large_byte false = 0

-- its bytes, field by field
abbrev pub bitmap_bytes : Bitmap → List ℕ
bitmap_bytes x = little_bytes 8 x.version ++ little_bytes 8 x.inodes ++ x.states ++ large_byte x.large ∷ zeros 239

-- what stands at the places of its fields
abbrev pub bitmap_fields : List ℕ → Bitmap
bitmap_fields block = record { version = number_at 8 0 block; inodes = number_at 8 8 block; states = take 256 (drop 16 block); large = slice_index block 272 == 1 }

-- the block is the sector of this segment; each value of its fields may stand there
abbrev pub IsBitmapSector : List ℕ → Bitmap → Type 0
IsBitmapSector block x = block ≡ bitmap_bytes x

-- the segment whose sector the block is
abbrev pub bitmap_in : List ℕ → Option Bitmap
bitmap_in block = if bytes_eq (bitmap_bytes (bitmap_fields block)) block then Some (bitmap_fields block) else None

-- inode j of the segment is in use
abbrev pub inode_bit : Bitmap → ℕ → Bool
inode_bit x j = (x.inodes / 2 ^ j) % 2 == 1

-- what a small block is used for: 0 nothing yet, 1 file bytes, 2 nothing, and it was a directory's, 3 a directory
abbrev pub block_state : Bitmap → ℕ → ℕ
block_state x j = (slice_index x.states (j / 4) / 4 ^ (j % 4)) % 4

-- the byte with another state at one of its four places
abbrev pub with_digit : ℕ → ℕ → ℕ → ℕ
with_digit place byte state = byte - byte / 4 ^ place % 4 * 4 ^ place + state * 4 ^ place
