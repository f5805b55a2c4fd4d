-- Inode sectors, byte for byte: that of a fresh root, one of each kind, and for each condition a neighbour that breaks it alone.
use Rattle.std.proofs.Common.{◌≡◌, ℕ, ◌-◌, true, false, Some, None, List, [], ◌∷◌, ◌++◌, replicate, refl}
use Rattle.disk_definitions.specs.declared.inode.Inode.{Inode}
use Rattle.sector_bytes.specs.Bytes.{zeros}
use Rattle.disk_definitions.specs.Inodes.{inode_bytes, inode_fits, inode_in, is_time_place}

-- the inode may stand on the disk
abbrev Fits : Inode → Type 0
Fits x = inode_fits x ≡ true

abbrev Refused : Inode → Type 0
Refused x = inode_fits x ≡ false

-- these numbers, and zeros, up to so many
abbrev padded : ℕ → ℕ → List ℕ → List ℕ
padded used all xs = xs ++ replicate (all - used) 0

-- the root of a fresh disk
abbrev fresh_root : Inode
fresh_root = record { version = 1; kind = 2; links = 1; blocks = 0; size = 0; birth = 0; small = replicate 16 0; large = 0; when = 0; target = replicate 384 0 }

-- its bytes
abbrev fresh_root_bytes : List ℕ
fresh_root_bytes = 1 ∷ 0 ∷ 0 ∷ 0 ∷ 0 ∷ 0 ∷ 0 ∷ 0 ∷ 2 ∷ 0 ∷ 1 ∷ 0 ∷ 0 ∷ 0 ∷ 0 ∷ 0 ∷ replicate 496 0

fresh_root_is_written : inode_bytes fresh_root ≡ fresh_root_bytes
unfolding zeros
fresh_root_is_written = refl

fresh_root_is_read : inode_in fresh_root_bytes ≡ Some fresh_root
unfolding zeros
fresh_root_is_read = refl

-- a free inode
abbrev free : Inode
free = record { version = 9; kind = 0; links = 0; blocks = 0; size = 0; birth = 0; small = replicate 16 0; large = 0; when = 0; target = replicate 384 0 }

zeros_are_free : inode_in (replicate 512 0) ≡ Some (record free { version = 0 })
unfolding zeros
zeros_are_free = refl

-- a file of 4,097 bytes in the small blocks 5 and 258
abbrev file : Inode
file = record { version = 3; kind = 1; links = 2; blocks = 2; size = 4097; birth = 4294967299; small = padded 2 16 (5 ∷ 258 ∷ []); large = 0; when = 0; target = replicate 384 0 }

-- its bytes, but for byte 9, byte 14 and the bytes 100 to 127
abbrev file_bytes : ℕ → ℕ → List ℕ → List ℕ
file_bytes a b rest =
    3 ∷ 0 ∷ 0 ∷ 0 ∷ 0 ∷ 0 ∷ 0 ∷ 0 ∷ 1 ∷ a ∷ 2 ∷ 0 ∷ 2 ∷ 0 ∷ b ∷ 0 ∷ 1 ∷ 16 ∷ 0 ∷ 0 ∷ 0 ∷ 0 ∷ 0 ∷ 0 ∷ 3 ∷ 0 ∷ 0 ∷ 0 ∷ 1 ∷ 0 ∷ 0 ∷ 0 ∷ 5 ∷ 0 ∷ 0 ∷ 0 ∷ 2 ∷ 1 ∷ 0 ∷ 0 ∷ replicate 60 0 ++ rest ++ replicate 384 0

file_is_written : inode_bytes file ≡ file_bytes 0 0 (replicate 28 0)
unfolding zeros
file_is_written = refl

file_is_read : inode_in (file_bytes 0 0 (replicate 28 0)) ≡ Some file
unfolding zeros
file_is_read = refl

byte_9_isnt_zero : inode_in (file_bytes 1 0 (replicate 28 0)) ≡ None
unfolding zeros
byte_9_isnt_zero = refl

byte_14_isnt_zero : inode_in (file_bytes 0 1 (replicate 28 0)) ≡ None
unfolding zeros
byte_14_isnt_zero = refl

byte_108_isnt_zero : inode_in (file_bytes 0 0 (replicate 8 0 ++ 1 ∷ replicate 19 0)) ≡ None
unfolding zeros
byte_108_isnt_zero = refl

byte_127_isnt_zero : inode_in (file_bytes 0 0 (replicate 27 0 ++ 1 ∷ [])) ≡ None
unfolding zeros
byte_127_isnt_zero = refl

-- the file, last written in run 3 at tick 7
abbrev timed_file : Inode
timed_file = record file { when = 12884901895 }

timed_file_is_written : inode_bytes timed_file ≡ file_bytes 0 0 (7 ∷ 0 ∷ 0 ∷ 0 ∷ 3 ∷ 0 ∷ 0 ∷ 0 ∷ replicate 20 0)
unfolding zeros
timed_file_is_written = refl

timed_file_is_read : inode_in (file_bytes 0 0 (7 ∷ 0 ∷ 0 ∷ 0 ∷ 3 ∷ 0 ∷ 0 ∷ 0 ∷ replicate 20 0)) ≡ Some timed_file
unfolding zeros
timed_file_is_read = refl

latest_time_is_read : inode_in (file_bytes 0 0 (replicate 8 255 ++ replicate 20 0)) ≡ Some (record file { when = 18446744073709551615 })
unfolding zeros
latest_time_is_read = refl

-- the bytes of a time are 100 to 107
time_places : is_time_place 99 ∷ is_time_place 100 ∷ is_time_place 107 ∷ is_time_place 108 ∷ [] ≡ false ∷ true ∷ true ∷ false ∷ []
time_places = refl

-- a file of 65,537 bytes in 16 small blocks and large block 3
abbrev long_file : Inode
long_file = record { version = 3; kind = 1; links = 1; blocks = 16; size = 65537; birth = 7; small = replicate 16 5; large = 4; when = 0; target = replicate 384 0 }

-- a directory of 56 entries in one block
abbrev directory : Inode
directory = record { version = 4; kind = 2; links = 1; blocks = 1; size = 56; birth = 8; small = padded 1 16 (6 ∷ []); large = 0; when = 0; target = replicate 384 0 }

-- a symbolic link to `/a`
abbrev link : Inode
link = record { version = 5; kind = 3; links = 1; blocks = 0; size = 2; birth = 9; small = replicate 16 0; large = 0; when = 0; target = padded 2 384 (47 ∷ 97 ∷ []) }

-- free inodes have nothing but a version
free_fits : Fits free
free_fits = refl

free_with_links : Refused (record free { links = 1 })
free_with_links = refl

free_with_blocks : Refused (record free { blocks = 1 })
free_with_blocks = refl

free_with_a_size : Refused (record free { size = 1 })
free_with_a_size = refl

free_with_a_birth : Refused (record free { birth = 1 })
free_with_a_birth = refl

free_with_a_small_block : Refused (record free { small = replicate 15 0 ++ 1 ∷ [] })
free_with_a_small_block = refl

free_with_a_large_block : Refused (record free { large = 1 })
free_with_a_large_block = refl

free_with_a_time : Refused (record free { when = 1 })
free_with_a_time = refl

free_with_a_target : Refused (record free { target = replicate 383 0 ++ 1 ∷ [] })
free_with_a_target = refl

another_kind : Refused (record free { kind = 4 })
another_kind = refl

-- files
file_fits : Fits file
file_fits = refl

long_file_fits : Fits long_file
long_file_fits = refl

timed_file_fits : Fits timed_file
timed_file_fits = refl

file_without_links : Refused (record file { links = 0 })
file_without_links = refl

file_of_1000_links : Fits (record file { links = 1000 })
file_of_1000_links = refl

file_of_1001_links : Refused (record file { links = 1001 })
file_of_1001_links = refl

longest_file : Fits (record long_file { size = 1114112 })
longest_file = refl

file_a_byte_too_long : Refused (record long_file { size = 1114113 })
file_a_byte_too_long = refl

file_of_4096_bytes : Fits (record file { size = 4096; blocks = 1; small = padded 1 16 (5 ∷ []) })
file_of_4096_bytes = refl

file_with_a_block_too_many : Refused (record file { size = 4096 })
file_with_a_block_too_many = refl

file_with_a_block_too_few : Refused (record file { size = 8193 })
file_with_a_block_too_few = refl

empty_file : Fits (record file { size = 0; blocks = 0; small = replicate 16 0 })
empty_file = refl

block_past_those_in_use : Refused (record file { small = padded 3 16 (5 ∷ 258 ∷ 7 ∷ []) })
block_past_those_in_use = refl

last_block_past_those_in_use : Refused (record file { small = 5 ∷ 258 ∷ replicate 13 0 ++ 7 ∷ [] })
last_block_past_those_in_use = refl

file_of_65536_bytes : Fits (record long_file { size = 65536; large = 0 })
file_of_65536_bytes = refl

large_block_at_65536_bytes : Refused (record long_file { size = 65536 })
large_block_at_65536_bytes = refl

no_large_block_at_65537_bytes : Refused (record long_file { large = 0 })
no_large_block_at_65537_bytes = refl

file_with_a_target : Refused (record file { target = replicate 383 0 ++ 1 ∷ [] })
file_with_a_target = refl

-- directories
directory_fits : Fits directory
directory_fits = refl

directory_without_links : Refused (record directory { links = 0 })
directory_without_links = refl

directory_of_2_links : Refused (record directory { links = 2 })
directory_of_2_links = refl

directory_of_57_entries_in_a_block : Refused (record directory { size = 57 })
directory_of_57_entries_in_a_block = refl

entries_without_a_block : Refused (record directory { blocks = 0; size = 1; small = replicate 16 0 })
entries_without_a_block = refl

directory_of_16_blocks : Fits (record directory { blocks = 16; size = 896; small = replicate 16 6 })
directory_of_16_blocks = refl

directory_of_17_blocks : Refused (record directory { blocks = 17; size = 896; small = replicate 16 6 })
directory_of_17_blocks = refl

directory_block_past_those_in_use : Refused (record directory { small = padded 2 16 (6 ∷ 7 ∷ []) })
directory_block_past_those_in_use = refl

directory_with_a_large_block : Refused (record directory { large = 1 })
directory_with_a_large_block = refl

directory_with_a_time : Refused (record directory { when = 1 })
directory_with_a_time = refl

directory_with_a_target : Refused (record directory { target = 47 ∷ replicate 383 0 })
directory_with_a_target = refl

-- symbolic links
link_fits : Fits link
link_fits = refl

link_without_links : Refused (record link { links = 0 })
link_without_links = refl

link_of_1000_links : Fits (record link { links = 1000 })
link_of_1000_links = refl

link_of_1001_links : Refused (record link { links = 1001 })
link_of_1001_links = refl

link_with_blocks : Refused (record link { blocks = 1 })
link_with_blocks = refl

link_with_a_small_block : Refused (record link { small = padded 1 16 (1 ∷ []) })
link_with_a_small_block = refl

link_with_a_large_block : Refused (record link { large = 1 })
link_with_a_large_block = refl

link_with_a_time : Refused (record link { when = 4294967296 })
link_with_a_time = refl

link_to_nothing : Refused (record link { size = 0; target = replicate 384 0 })
link_to_nothing = refl

longest_link : Fits (record link { size = 384; target = replicate 384 97 })
longest_link = refl

link_a_byte_too_long : Refused (record link { size = 385; target = replicate 384 97 })
link_a_byte_too_long = refl

blank_in_a_target : Refused (record link { target = padded 2 384 (47 ∷ 32 ∷ []) })
blank_in_a_target = refl

least_byte_of_a_target : Fits (record link { target = padded 2 384 (47 ∷ 33 ∷ []) })
least_byte_of_a_target = refl

delete_byte_in_a_target : Refused (record link { target = padded 2 384 (47 ∷ 127 ∷ []) })
delete_byte_in_a_target = refl

byte_128_in_a_target : Fits (record link { target = padded 2 384 (47 ∷ 128 ∷ []) })
byte_128_in_a_target = refl

zero_in_a_target : Refused (record link { target = padded 1 384 (47 ∷ []) })
zero_in_a_target = refl

byte_behind_a_target : Refused (record link { target = padded 3 384 (47 ∷ 97 ∷ 98 ∷ []) })
byte_behind_a_target = refl
