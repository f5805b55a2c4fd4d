-- Places on a disk of 16 segments: worked addresses, and each region from both sides of its bounds.
use Rattle.std.proofs.Common.{◌≡◌, ℕ, false, Some, None, refl}
use Rattle.frang_base.specs.declared.lock.LockId.TheVariants as lock
use Rattle.disk_definitions.specs.declared.region.Region.{Region}
use Rattle.disk_definitions.specs.declared.region.Region.TheVariants as region
use Rattle.disk_definitions.specs.Regions.{sector_of, region_of, is_in_range, free_cover}

-- the place is found at this sector and has it
abbrev Lies : Region → ℕ → Type 0
Lies r s = (sector_of r ≡ s) × (region_of 16 s ≡ Some r)

-- the sector is in no region
abbrev Nowhere : ℕ → Type 0
Nowhere s = region_of 16 s ≡ None

-- parameters
parameters : Lies region.Param 0
parameters = (refl, refl)

behind_parameters : Nowhere 1
behind_parameters = refl

-- logs
before_logs : Nowhere 2147483647
before_logs = refl

first_slot : Lies (region.Log 0 0) 2147483648
first_slot = (refl, refl)

last_slot_of_log_0 : Lies (region.Log 0 255) 2147483903
last_slot_of_log_0 = (refl, refl)

behind_slots_of_log_0 : Nowhere 2147483904
behind_slots_of_log_0 = refl

before_log_1 : Nowhere 2155872255
before_log_1 = refl

first_slot_of_log_1 : Lies (region.Log 1 0) 2155872256
first_slot_of_log_1 = (refl, refl)

first_slot_of_log_255 : Lies (region.Log 255 0) 4286578688
first_slot_of_log_255 = (refl, refl)

last_slot : Lies (region.Log 255 255) 4286578943
last_slot = (refl, refl)

behind_logs : Nowhere 4286578944
behind_logs = refl

-- bitmaps
before_bitmaps : Nowhere 4294967295
before_bitmaps = refl

first_segment : Lies (region.Segment 0) 4294967296
first_segment = (refl, refl)

last_segment : Lies (region.Segment 15) 4294967311
last_segment = (refl, refl)

behind_bitmaps : Nowhere 4294967312
behind_bitmaps = refl

-- inodes
before_inodes : Nowhere 10737418239
before_inodes = refl

inode_0 : Lies (region.Inode 0) 10737418240
inode_0 = (refl, refl)

inode_1 : Lies (region.Inode 1) 10737418241
inode_1 = (refl, refl)

last_inode : Lies (region.Inode 1023) 10737419263
last_inode = (refl, refl)

behind_inodes : Nowhere 10737419264
behind_inodes = refl

-- small blocks
before_small_blocks : Nowhere 12884901887
before_small_blocks = refl

small_block_0 : Lies (region.Small 0 0) 12884901888
small_block_0 = (refl, refl)

last_part_of_small_block_0 : Lies (region.Small 0 7) 12884901895
last_part_of_small_block_0 = (refl, refl)

small_block_1 : Lies (region.Small 1 0) 12884901896
small_block_1 = (refl, refl)

last_small_block : Lies (region.Small 16383 7) 12885032959
last_small_block = (refl, refl)

behind_small_blocks : Nowhere 12885032960
behind_small_blocks = refl

-- large blocks
before_large_blocks : Nowhere 287762808831
before_large_blocks = refl

large_block_0 : Lies (region.Large 0 0) 287762808832
large_block_0 = (refl, refl)

last_part_of_large_block_0 : Lies (region.Large 0 2047) 287762810879
last_part_of_large_block_0 = (refl, refl)

behind_large_block_0 : Nowhere 287762810880
behind_large_block_0 = refl

large_block_1 : Lies (region.Large 1 0) 289910292480
large_block_1 = (refl, refl)

last_large_block : Lies (region.Large 15 2047) 319975065599
last_large_block = (refl, refl)

behind_large_blocks : Nowhere 322122547200
behind_large_blocks = refl

last_number : Nowhere 18446744073709551615
last_number = refl

-- the least and the greatest disk
one_segment : region_of 1 4294967297 ≡ None
one_segment = refl

all_segments : region_of 64 4294967359 ≡ Some (region.Segment 63)
all_segments = refl

last_large_block_of_all : region_of 64 (sector_of (region.Large 63 2047)) ≡ Some (region.Large 63 2047)
last_large_block_of_all = refl

-- places out of range
a_slot_too_many : is_in_range 16 (region.Log 0 256) ≡ false
a_slot_too_many = refl

an_inode_too_many : is_in_range 16 (region.Inode 1024) ≡ false
an_inode_too_many = refl

a_part_too_many : is_in_range 16 (region.Small 0 8) ≡ false
a_part_too_many = refl

-- covers of free sectors
cover_of_a_segment : free_cover (region.Segment 3) ≡ Some (lock.Segment 3)
cover_of_a_segment = refl

cover_of_inode_63 : free_cover (region.Inode 63) ≡ Some (lock.Segment 0)
cover_of_inode_63 = refl

cover_of_inode_64 : free_cover (region.Inode 64) ≡ Some (lock.Segment 1)
cover_of_inode_64 = refl

cover_of_small_block_1023 : free_cover (region.Small 1023 7) ≡ Some (lock.Segment 0)
cover_of_small_block_1023 = refl

cover_of_small_block_1024 : free_cover (region.Small 1024 0) ≡ Some (lock.Segment 1)
cover_of_small_block_1024 = refl

cover_of_a_large_block : free_cover (region.Large 2 5) ≡ Some (lock.Segment 2)
cover_of_a_large_block = refl

no_cover_of_parameters : free_cover region.Param ≡ None
no_cover_of_parameters = refl

no_cover_of_logs : free_cover (region.Log 3 4) ≡ None
no_cover_of_logs = refl
