-- Bitmap segments: the first of a fresh disk, bits and states at their places, and blocks that are no segment's sector.
use Rattle.std.proofs.Common.{◌≡◌, ℕ, true, false, Some, None, List, [], ◌∷◌, ◌++◌, take, drop, set, refl}
use Rattle.frang_base.specs.declared.bitmap.Bitmap.{Bitmap}
use Rattle.sector_bytes.specs.Bytes.{zeros}
use Rattle.disk_definitions.specs.Bitmaps.{bitmap_bytes, bitmap_in, inode_bit, block_state}

-- only the root is in use
abbrev fresh : Bitmap
fresh = record { version = 1; inodes = 1; states = zeros 256; large = false }

-- blocks 0 to 3 in the states 0 to 3, blocks 4 to 7 in the states 3 to 0; inodes 0, 9 and 63 and the large block in use
abbrev busy : Bitmap
busy = record { version = 258; inodes = 9223372036854776321; states = 228 ∷ 27 ∷ zeros 254; large = true }

fresh_begins : take 17 (bitmap_bytes fresh) ≡ 1 ∷ 0 ∷ 0 ∷ 0 ∷ 0 ∷ 0 ∷ 0 ∷ 0 ∷ 1 ∷ 0 ∷ 0 ∷ 0 ∷ 0 ∷ 0 ∷ 0 ∷ 0 ∷ 0 ∷ []
unfolding zeros
fresh_begins = refl

fresh_goes_on_with_zeros : drop 16 (bitmap_bytes fresh) ≡ zeros 496
unfolding zeros
fresh_goes_on_with_zeros = refl

fresh_reads_back : bitmap_in (bitmap_bytes fresh) ≡ Some fresh
unfolding zeros
fresh_reads_back = refl

busy_begins : take 19 (bitmap_bytes busy) ≡ 2 ∷ 1 ∷ 0 ∷ 0 ∷ 0 ∷ 0 ∷ 0 ∷ 0 ∷ 1 ∷ 2 ∷ 0 ∷ 0 ∷ 0 ∷ 0 ∷ 0 ∷ 128 ∷ 228 ∷ 27 ∷ 0 ∷ []
unfolding zeros
busy_begins = refl

busy_ends : drop 271 (bitmap_bytes busy) ≡ 0 ∷ 1 ∷ zeros 239
unfolding zeros
busy_ends = refl

busy_reads_back : bitmap_in (bitmap_bytes busy) ≡ Some busy
unfolding zeros
busy_reads_back = refl

-- bits and states
root_is_in_use : inode_bit fresh 0 ≡ true
root_is_in_use = refl

no_other_is_in_use : inode_bit fresh 1 ≡ false
no_other_is_in_use = refl

inode_9 : inode_bit busy 9 ≡ true
inode_9 = refl

inode_8 : inode_bit busy 8 ≡ false
inode_8 = refl

inode_63 : inode_bit busy 63 ≡ true
inode_63 = refl

-- the states of the first eight blocks
abbrev states : List ℕ
states = block_state busy 0 ∷ block_state busy 1 ∷ block_state busy 2 ∷ block_state busy 3 ∷ block_state busy 4 ∷ block_state busy 5 ∷ block_state busy 6 ∷ block_state busy 7 ∷ []

states_in_order : states ≡ 0 ∷ 1 ∷ 2 ∷ 3 ∷ 3 ∷ 2 ∷ 1 ∷ 0 ∷ []
states_in_order = refl

-- blocks that are no segment's sector
abbrev IsRefused : List ℕ → Type 0
IsRefused block = bitmap_in block ≡ None

refused_large_mark : IsRefused (set (bitmap_bytes busy) 272 2)
unfolding zeros
refused_large_mark = refl

refused_byte_after_the_mark : IsRefused (set (bitmap_bytes busy) 273 1)
unfolding zeros
refused_byte_after_the_mark = refl

refused_last_byte : IsRefused (set (bitmap_bytes busy) 511 1)
unfolding zeros
refused_last_byte = refl

refused_longer : IsRefused (bitmap_bytes busy ++ 0 ∷ [])
unfolding zeros
refused_longer = refl
