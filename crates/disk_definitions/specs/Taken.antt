-- The held segments once something is taken of them or given back.
use Rattle.std.specs.Prelude.{ℕ, ◌/◌, ◌%◌, ◌^◌, Bool, true, ◌==◌, if◌then◌else◌, Option, Some, None, List, [], ◌∷◌, slice_index, slice_set}
use Rattle.std.specs.BTreeMap.{insert_entry}
use Rattle.std.specs.Int.{w64, bit_not}
use Rattle.std.specs.Int.Bits.{bit_and, bit_or}
use Rattle.std.specs.Ordering.{nat_cmp}
use Rattle.frang_base.specs.declared.limits.TheConstants.{SEGMENT_BLOCKS, SEGMENT_INODES}
use Rattle.frang_base.specs.declared.bitmap.Bitmap.{Bitmap}
use Rattle.disk_definitions.specs.Bitmaps.{with_digit}
use Rattle.disk_definitions.specs.Held.{Segments, bitmap_of}

-- the segment with this of its small blocks in this state
abbrev pub with_state : Bitmap → ℕ → ℕ → Bitmap
with_state bitmap index state =
    record bitmap { states = slice_set bitmap.states (index / 4) (with_digit (index % 4) (slice_index bitmap.states (index / 4)) state) }

-- the segment with this of its inodes in use or free
abbrev pub with_inode : Bitmap → ℕ → Bool → Bitmap
with_inode bitmap index used = record bitmap { inodes = if used then bit_or bitmap.inodes (2 ^ index) else bit_and bitmap.inodes (bit_not w64 (2 ^ index)) }

-- the segment with its large block in use or free
abbrev pub with_large : Bitmap → Bool → Bitmap
with_large bitmap used = record bitmap { large = used }

-- the held segments with another bitmap for one of them; one that isn't held stays so
abbrev pub put_bitmap : Segments → ℕ → (Bitmap → Bitmap) → Option Bitmap → Segments
put_bitmap held segment change None = held
put_bitmap held segment change (Some bitmap) = insert_entry nat_cmp held segment (change bitmap)

abbrev pub changed_at : Segments → ℕ → (Bitmap → Bitmap) → Segments
changed_at held segment change = put_bitmap held segment change (bitmap_of held segment)

-- a small block in this state: 1 once it is taken for bytes, 3 for a directory, 0 or 2 once it is given back
abbrev pub taken_small : Segments → ℕ → ℕ → Segments
taken_small held block state = changed_at held (block / SEGMENT_BLOCKS) (λ bitmap. with_state bitmap (block % SEGMENT_BLOCKS) state)

-- an inode in use or free
abbrev pub marked_inode : Segments → ℕ → Bool → Segments
marked_inode held inode used = changed_at held (inode / SEGMENT_INODES) (λ bitmap. with_inode bitmap (inode % SEGMENT_INODES) used)

-- the large block of a segment in use or free
abbrev pub marked_large : Segments → ℕ → Bool → Segments
marked_large held segment used = changed_at held segment (λ bitmap. with_large bitmap used)

-- what was picked is in use
abbrev pub taken_inode : Segments → ℕ → Segments
taken_inode held inode = marked_inode held inode true

abbrev pub taken_large : Segments → ℕ → Segments
taken_large held segment = marked_large held segment true

-- a segment once each of these blocks that is one of its has this state
abbrev pub with_states : Bitmap → ℕ → List ℕ → ℕ → Bitmap
with_states bitmap segment [] state = bitmap
with_states bitmap segment (block ∷ blocks) state =
    with_states (if block / SEGMENT_BLOCKS == segment then with_state bitmap (block % SEGMENT_BLOCKS) state else bitmap) segment blocks state

-- the held segments once each of these blocks has this state
abbrev pub taken_all : Segments → List ℕ → ℕ → Segments
taken_all held [] state = held
taken_all held (block ∷ blocks) state = taken_all (taken_small held block state) blocks state
