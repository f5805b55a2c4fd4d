-- What the definitions of images say of small images, by computation: the fresh disk of 16 segments, and each flaw with its neighbours.
use Rattle.std.proofs.Common.{◌≡◌, ℕ, ◌-◌, ◌^◌, Ok, Err, List, [], ◌∷◌, ◌++◌, length, take, drop, replicate, refl}
use Rattle.std.specs.Prelude.{codes}
use Rattle.byteorder.specs.Endian.{little_bytes}
use Rattle.sector_bytes.specs.Bytes.{zeros}
use Rattle.image_file.specs.declared.fault.ImageFlaw.TheVariants.{Cut, OtherMark, OutOfOrder, NoRegion, OfZeros, BytesAfter, BadSector}
use Rattle.image_file.specs.Images.{Blocks, image_with, image_text, image_in, fault}

-- a sector that begins with these bytes
abbrev begun : List ℕ → List ℕ
begun bytes = bytes ++ replicate (512 - length bytes) 0

-- the parameters of so many segments, at this run
abbrev parameters : ℕ → ℕ → List ℕ
parameters segments run = begun (codes "FRANGPAR" ++ little_bytes 4 1 ++ little_bytes 4 segments ++ little_bytes 4 run)

abbrev fresh_segment : List ℕ
fresh_segment = begun (1 ∷ 0 ∷ 0 ∷ 0 ∷ 0 ∷ 0 ∷ 0 ∷ 0 ∷ 1 ∷ [])

-- the inode of a fresh root, of this kind
abbrev root_of_kind : ℕ → List ℕ
root_of_kind kind = begun (1 ∷ 0 ∷ 0 ∷ 0 ∷ 0 ∷ 0 ∷ 0 ∷ 0 ∷ kind ∷ 0 ∷ 1 ∷ [])

-- the sectors of a fresh disk, and their image
abbrev fresh : Blocks
fresh = (0, parameters 16 1) ∷ (4294967296, fresh_segment) ∷ (10737418240, root_of_kind 2) ∷ []

abbrev image : List ℕ
image = image_text fresh

-- an image with another count than it has entries
abbrev counted : ℕ → Blocks → List ℕ
counted count sectors = codes "FRANGIM1" ++ little_bytes 8 count ++ drop 16 (image_with sectors)

fresh_image_has_1576_bytes : length image ≡ 1576
fresh_image_has_1576_bytes = refl

fresh_image_begins : take 16 image ≡ 70 ∷ 82 ∷ 65 ∷ 78 ∷ 71 ∷ 73 ∷ 77 ∷ 49 ∷ 3 ∷ 0 ∷ 0 ∷ 0 ∷ 0 ∷ 0 ∷ 0 ∷ 0 ∷ []
fresh_image_begins = refl

fresh_image_is_read : image_in image ≡ Ok fresh
unfolding zeros
fresh_image_is_read = refl

zero_sectors_are_not_written : image_text ((0, parameters 16 1) ∷ (2147483648, replicate 512 0) ∷ (4294967296, fresh_segment) ∷ []) ≡ image_text ((0, parameters 16 1) ∷ (4294967296, fresh_segment) ∷ [])
zero_sectors_are_not_written = refl

-- ---- the bytes end

nothing : image_in [] ≡ Err (fault 0 Cut)
nothing = refl

half_a_header_of_another_mark : image_in (0 ∷ take 14 image) ≡ Err (fault 0 Cut)
half_a_header_of_another_mark = refl

cut_by_one_byte : image_in (take 1575 image) ≡ Err (fault 1056 Cut)
unfolding zeros
cut_by_one_byte = refl

four_are_counted : image_in (counted 4 fresh) ≡ Err (fault 1576 Cut)
unfolding zeros
four_are_counted = refl

a_hundred_are_counted : image_in (counted 100 fresh) ≡ Err (fault 1576 Cut)
unfolding zeros
a_hundred_are_counted = refl

cut_in_a_bad_entry : image_in (take 1057 (counted 3 ((0, parameters 16 1) ∷ (4294967296, fresh_segment) ∷ (1, replicate 512 0) ∷ []))) ≡ Err (fault 1056 Cut)
unfolding zeros
cut_in_a_bad_entry = refl

cut_in_the_first_entry : image_in (take 535 image) ≡ Err (fault 16 Cut)
cut_in_the_first_entry = refl

-- ---- another mark

first_byte_zero : image_in (0 ∷ drop 1 image) ≡ Err (fault 0 OtherMark)
first_byte_zero = refl

another_version : image_in (codes "FRANGIM2" ++ drop 8 image) ≡ Err (fault 0 OtherMark)
another_version = refl

-- ---- none or too few are counted

none_counted : image_in (take 16 (counted 0 fresh)) ≡ Err (fault 16 BadSector)
none_counted = refl

none_counted_before_bytes : image_in (counted 0 fresh) ≡ Err (fault 16 BytesAfter)
none_counted_before_bytes = refl

two_are_counted : image_in (counted 2 fresh) ≡ Err (fault 1056 BytesAfter)
unfolding zeros
two_are_counted = refl

one_byte_after : image_in (image ++ 0 ∷ []) ≡ Err (fault 1576 BytesAfter)
unfolding zeros
one_byte_after = refl

-- ---- the order of sectors

exchanged : image_in (image_with ((0, parameters 16 1) ∷ (10737418240, root_of_kind 2) ∷ (4294967296, fresh_segment) ∷ [])) ≡ Err (fault 1056 OutOfOrder)
unfolding zeros
exchanged = refl

twice : image_in (image_with ((0, parameters 16 1) ∷ (4294967296, fresh_segment) ∷ (4294967296, fresh_segment) ∷ [])) ≡ Err (fault 1056 OutOfOrder)
unfolding zeros
twice = refl

parameters_twice : image_in (image_with ((0, parameters 16 1) ∷ (0, replicate 512 0) ∷ [])) ≡ Err (fault 536 OutOfOrder)
unfolding zeros
parameters_twice = refl

-- ---- regions

abbrev second : ℕ → List ℕ → List ℕ
second sector block = image_with ((0, parameters 16 1) ∷ (sector, block) ∷ [])

segment_past_the_last : image_in (second 4294967312 fresh_segment) ≡ Err (fault 536 NoRegion)
unfolding zeros
segment_past_the_last = refl

last_segment : image_in (second 4294967311 fresh_segment) ≡ Ok ((0, parameters 16 1) ∷ (4294967311, fresh_segment) ∷ [])
unfolding zeros
last_segment = refl

zeros_in_no_region : image_in (second 1 (replicate 512 0)) ≡ Err (fault 536 NoRegion)
unfolding zeros
zeros_in_no_region = refl

greatest_sector : image_in (second (2 ^ 64 - 1) (begun (1 ∷ []))) ≡ Err (fault 536 NoRegion)
unfolding zeros
greatest_sector = refl

segment_past_the_only_one : image_in (image_with ((0, parameters 1 1) ∷ (4294967297, fresh_segment) ∷ [])) ≡ Err (fault 536 NoRegion)
unfolding zeros
segment_past_the_only_one = refl

-- ---- sectors of zeros

zero_segment : image_in (second 4294967296 (replicate 512 0)) ≡ Err (fault 536 OfZeros)
unfolding zeros
zero_segment = refl

zero_small_block : image_in (second 12884901888 (replicate 512 0)) ≡ Err (fault 536 OfZeros)
unfolding zeros
zero_small_block = refl

-- ---- grammars

zero_parameters : image_in (image_with ((0, replicate 512 0) ∷ [])) ≡ Err (fault 16 OfZeros)
unfolding zeros
zero_parameters = refl

zeros_first_elsewhere : image_in (image_with ((1, replicate 512 0) ∷ [])) ≡ Err (fault 16 BadSector)
zeros_first_elsewhere = refl

first_is_sector_1 : image_in (image_with ((1, parameters 16 1) ∷ (4294967296, fresh_segment) ∷ [])) ≡ Err (fault 16 BadSector)
first_is_sector_1 = refl

no_parameters : image_in (image_with ((0, fresh_segment) ∷ [])) ≡ Err (fault 16 BadSector)
no_parameters = refl

sixty_five_segments : image_in (image_with ((0, parameters 65 1) ∷ [])) ≡ Err (fault 16 BadSector)
sixty_five_segments = refl

no_run_may_follow : image_in (image_with ((0, parameters 16 4294967295) ∷ [])) ≡ Err (fault 16 BadSector)
unfolding zeros
no_run_may_follow = refl

one_run_may_follow : image_in (image_with ((0, parameters 16 4294967294) ∷ [])) ≡ Ok ((0, parameters 16 4294967294) ∷ [])
unfolding zeros
one_run_may_follow = refl

root_of_kind_4 : image_in (image_with ((0, parameters 16 1) ∷ (4294967296, fresh_segment) ∷ (10737418240, root_of_kind 4) ∷ [])) ≡ Err (fault 1056 BadSector)
unfolding zeros
root_of_kind_4 = refl

bad_segment : image_in (second 4294967296 (replicate 511 0 ++ 1 ∷ [])) ≡ Err (fault 536 BadSector)
unfolding zeros
bad_segment = refl

log_sector_in_its_slot : image_in (second 2147483648 (begun (little_bytes 8 256))) ≡ Ok ((0, parameters 16 1) ∷ (2147483648, begun (little_bytes 8 256)) ∷ [])
unfolding zeros
log_sector_in_its_slot = refl

log_sector_in_another_slot : image_in (second 2147483649 (begun (little_bytes 8 256))) ≡ Err (fault 536 BadSector)
unfolding zeros
log_sector_in_another_slot = refl

any_bytes_in_small_blocks : image_in (second 12884901888 (replicate 512 255)) ≡ Ok ((0, parameters 16 1) ∷ (12884901888, replicate 512 255) ∷ [])
unfolding zeros
any_bytes_in_small_blocks = refl
