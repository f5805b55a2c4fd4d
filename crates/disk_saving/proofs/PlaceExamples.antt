-- Places by their numbers, computed: the first and the last of each region.
use Rattle.std.proofs.Common.{◌≡◌, refl}
use Rattle.disk_definitions.specs.declared.region.Region.TheVariants as region
use Rattle.disk_saving.specs.Places.{place_count, place_at}

places_of_one_segment : place_count 1 ≡ 75842
places_of_one_segment = refl

places_of_all_segments : place_count 64 ≡ 725057
places_of_all_segments = refl

first : place_at 2 0 ≡ region.Param
first = refl

first_slot : place_at 2 1 ≡ region.Log 0 0
first_slot = refl

slot_of_the_next_log : place_at 2 257 ≡ region.Log 1 0
slot_of_the_next_log = refl

last_slot : place_at 2 65536 ≡ region.Log 255 255
last_slot = refl

last_segment : place_at 2 65538 ≡ region.Segment 1
last_segment = refl

first_inode : place_at 2 65539 ≡ region.Inode 0
first_inode = refl

last_inode : place_at 2 65666 ≡ region.Inode 127
last_inode = refl

first_of_small_blocks : place_at 2 65667 ≡ region.Small 0 0
first_of_small_blocks = refl

last_of_small_blocks : place_at 2 82050 ≡ region.Small 2047 7
last_of_small_blocks = refl

first_of_large_blocks : place_at 2 82051 ≡ region.Large 0 0
first_of_large_blocks = refl

last_of_large_blocks : place_at 2 86146 ≡ region.Large 1 2047
last_of_large_blocks = refl
