-- Picks worked out by hand: segments 1 and 3 are held.
use Rattle.std.proofs.Common.{◌≡◌, true, false, Some, None, [], ◌∷◌, refl}
use Rattle.frang_base.specs.declared.bitmap.Bitmap.{Bitmap}
use Rattle.sector_bytes.specs.Bytes.{zeros}
use Rattle.disk_definitions.specs.Least.{least, least_from}
use Rattle.disk_definitions.specs.Held.{Segments}
use Rattle.disk_definitions.specs.Taken.{taken_inode, taken_small, with_states, with_inode}
use Rattle.disk_definitions.specs.Picks.{picks, picked_inode, picked_large, picked_bytes, picked_directory, picked_many}

-- inodes 0 to 4 in use, blocks 0 to 3 in the states 1, 3, 0 and 1, the others 0
abbrev first : Bitmap
first = record { version = 7; inodes = 31; states = 77 ∷ zeros 255; large = true }

-- all inodes and the large block free, block 5 in state 2, the others 0
abbrev second : Bitmap
second = record { version = 9; inodes = 0; states = 0 ∷ 8 ∷ zeros 254; large = false }

abbrev held : Segments
held = (1, first) ∷ (3, second) ∷ []

inode_69_is_picked : picked_inode held ≡ Some 69
unfolding least least_from
inode_69_is_picked = refl

block_1026_is_picked_for_bytes : picked_bytes held ≡ Some 1026
unfolding least least_from zeros
block_1026_is_picked_for_bytes = refl

large_block_3_is_picked : picked_large held ≡ Some 3
unfolding least least_from
large_block_3_is_picked = refl

three_blocks_are_picked : picked_many held 3 ≡ Some (1026 ∷ 1028 ∷ 1029 ∷ [])
unfolding least least_from zeros picks
three_blocks_are_picked = refl

-- a block that was a directory's comes before all that never were
block_3077_is_picked_for_a_directory : picked_directory held ≡ Some 3077
unfolding least least_from zeros
block_3077_is_picked_for_a_directory = refl

-- what was picked is taken, and the next pick is another
next_inode_is_70 : picked_inode (taken_inode held 69) ≡ Some 70
unfolding least least_from
next_inode_is_70 = refl

next_block_is_1028 : picked_bytes (taken_small held 1026 1) ≡ Some 1028
unfolding least least_from zeros
next_block_is_1028 = refl

-- a block that a directory gave back is picked for a directory, and not for bytes
given_back : picked_directory (taken_small held 1025 2) ≡ Some 1025
unfolding least least_from zeros
given_back = refl

not_for_bytes : picked_bytes (taken_small held 1025 2) ≡ Some 1026
unfolding least least_from zeros
not_for_bytes = refl

-- blocks 2 and 4 of segment 1 are taken for bytes, and block 3077 is none of its
two_taken : (with_states first 1 (1026 ∷ 3077 ∷ 1028 ∷ []) 1).states ≡ 93 ∷ 1 ∷ zeros 254
unfolding zeros
two_taken = refl

-- inode 2 is given back
inode_free : (with_inode first 2 false).inodes ≡ 27
inode_free = refl

none_is_held : picked_inode [] ≡ None
unfolding least least_from
none_is_held = refl
