-- Sectors of logs: empty ones, a part of a record, packed ones, and blocks that are no sector of their slot.
use Rattle.std.proofs.Common.{◌≡◌, ℕ, Option, Some, None, [], ◌∷◌, take, drop, set, refl}
use Rattle.disk_definitions.specs.declared.log_sector.LogSector.{LogSector}
use Rattle.sector_bytes.specs.Bytes.{zeros}
use Rattle.disk_definitions.specs.LogSectors.{numbered_bytes, log_sector_bytes, empty_sector, log_sector_in}

-- empty sectors
empty_256_begins : take 8 (log_sector_bytes (empty_sector 256)) ≡ 0 ∷ 1 ∷ 0 ∷ 0 ∷ 0 ∷ 0 ∷ 0 ∷ 0 ∷ []
unfolding zeros
empty_256_begins = refl

empty_256_goes_on_with_zeros : drop 8 (log_sector_bytes (empty_sector 256)) ≡ zeros 504
unfolding zeros
empty_256_goes_on_with_zeros = refl

empty_256_reads_back : log_sector_in 0 (log_sector_bytes (empty_sector 256)) ≡ Some (empty_sector 256)
unfolding zeros
empty_256_reads_back = refl

zeros_in_slot_7 : log_sector_in 7 (zeros 512) ≡ Some (empty_sector 7)
unfolding zeros
zeros_in_slot_7 = refl

empty_7_is_zeros : log_sector_bytes (empty_sector 7) ≡ zeros 512
empty_7_is_zeros = refl

-- a sector of the operation 2^32 + 5 in slot 2 with these numbers, and a body whose first byte is 9
abbrev sector : ℕ → ℕ → ℕ → ℕ → LogSector
sector seq part parts used = record { seq = seq; op = record { 0 = 4294967301 }; part = part; parts = parts; used = used; body = 9 ∷ zeros 487 }

-- a packed one
abbrev packed : ℕ → ℕ → ℕ → LogSector
packed seq part used = record { seq = seq; op = record { 0 = 0 }; part = part; parts = 65535; used = used; body = 9 ∷ zeros 487 }

-- what a block of these fields reads as in slot 2
abbrev in_slot_2 : LogSector → Option LogSector
in_slot_2 x = log_sector_in 2 (numbered_bytes x)

only_part_begins : take 25 (log_sector_bytes (sector 258 0 1 1))
    ≡ 2 ∷ 1 ∷ 0 ∷ 0 ∷ 0 ∷ 0 ∷ 0 ∷ 0 ∷ 5 ∷ 0 ∷ 0 ∷ 0 ∷ 1 ∷ 0 ∷ 0 ∷ 0 ∷ 0 ∷ 0 ∷ 1 ∷ 0 ∷ 1 ∷ 0 ∷ 0 ∷ 0 ∷ 9 ∷ []
unfolding zeros
only_part_begins = refl

only_part_reads_back : in_slot_2 (sector 258 0 1 1) ≡ Some (sector 258 0 1 1)
unfolding zeros
only_part_reads_back = refl

last_part_reads_back : in_slot_2 (sector 258 8 9 488) ≡ Some (sector 258 8 9 488)
unfolding zeros
last_part_reads_back = refl

earlier_part_reads_back : in_slot_2 (sector 258 0 9 488) ≡ Some (sector 258 0 9 488)
unfolding zeros
earlier_part_reads_back = refl

greatest_number_reads_back : log_sector_in 255 (numbered_bytes (sector 9223372036854775807 0 1 1)) ≡ Some (sector 9223372036854775807 0 1 1)
unfolding zeros
greatest_number_reads_back = refl

-- packed sectors: one byte is used and a frame begins there, or none begins in them, or one begins at the last of all bytes
packed_begins : take 25 (log_sector_bytes (packed 258 0 1))
    ≡ 2 ∷ 1 ∷ 0 ∷ 0 ∷ 0 ∷ 0 ∷ 0 ∷ 0 ∷ 0 ∷ 0 ∷ 0 ∷ 0 ∷ 0 ∷ 0 ∷ 0 ∷ 0 ∷ 0 ∷ 0 ∷ 255 ∷ 255 ∷ 1 ∷ 0 ∷ 0 ∷ 0 ∷ 9 ∷ []
unfolding zeros
packed_begins = refl

packed_reads_back : in_slot_2 (packed 258 0 1) ≡ Some (packed 258 0 1)
unfolding zeros
packed_reads_back = refl

packed_without_beginning_reads_back : in_slot_2 (packed 258 65535 488) ≡ Some (packed 258 65535 488)
unfolding zeros
packed_without_beginning_reads_back = refl

packed_with_a_late_beginning_reads_back : in_slot_2 (packed 258 487 488) ≡ Some (packed 258 487 488)
unfolding zeros
packed_with_a_late_beginning_reads_back = refl

refused_packed_beginning_past_the_used : in_slot_2 (packed 258 1 1) ≡ None
unfolding zeros
refused_packed_beginning_past_the_used = refl

refused_packed_of_no_bytes : in_slot_2 (record { seq = 258; op = record { 0 = 0 }; part = 65535; parts = 65535; used = 0; body = zeros 488 }) ≡ None
unfolding zeros
refused_packed_of_no_bytes = refl

refused_packed_past_the_body : in_slot_2 (packed 258 0 489) ≡ None
unfolding zeros
refused_packed_past_the_body = refl

refused_packed_with_an_operation : in_slot_2 (sector 258 0 65535 1) ≡ None
unfolding zeros
refused_packed_with_an_operation = refl

refused_packed_byte_past_the_used : log_sector_in 2 (set (numbered_bytes (packed 258 0 1)) 25 1) ≡ None
unfolding zeros
refused_packed_byte_past_the_used = refl

refused_packed_below_256 : in_slot_2 (packed 2 0 1) ≡ None
unfolding zeros
refused_packed_below_256 = refl

-- blocks that are no sector of slot 2
refused_below_256 : in_slot_2 (sector 2 0 1 1) ≡ None
unfolding zeros
refused_below_256 = refl

refused_empty_below_256 : in_slot_2 (empty_sector 2) ≡ None
unfolding zeros
refused_empty_below_256 = refl

refused_in_another_slot : in_slot_2 (sector 259 0 1 1) ≡ None
unfolding zeros
refused_in_another_slot = refl

refused_from_2_63 : in_slot_2 (sector 9223372036854775810 0 1 1) ≡ None
unfolding zeros
refused_from_2_63 = refl

refused_without_operation : in_slot_2 (record { seq = 258; op = record { 0 = 0 }; part = 0; parts = 1; used = 1; body = 9 ∷ zeros 487 }) ≡ None
unfolding zeros
refused_without_operation = refl

refused_without_parts : in_slot_2 (sector 258 0 0 1) ≡ None
unfolding zeros
refused_without_parts = refl

refused_part_past_the_last : in_slot_2 (sector 258 1 1 1) ≡ None
unfolding zeros
refused_part_past_the_last = refl

refused_ten_parts : in_slot_2 (sector 258 9 10 1) ≡ None
unfolding zeros
refused_ten_parts = refl

refused_empty_last_part : in_slot_2 (record { seq = 258; op = record { 0 = 5 }; part = 0; parts = 1; used = 0; body = zeros 488 }) ≡ None
unfolding zeros
refused_empty_last_part = refl

refused_past_the_body : in_slot_2 (sector 258 0 1 489) ≡ None
unfolding zeros
refused_past_the_body = refl

refused_earlier_part_unfilled : in_slot_2 (sector 258 0 2 487) ≡ None
unfolding zeros
refused_earlier_part_unfilled = refl

refused_byte_past_the_used : log_sector_in 2 (set (numbered_bytes (sector 258 0 1 1)) 25 1) ≡ None
unfolding zeros
refused_byte_past_the_used = refl

refused_byte_before_the_body : log_sector_in 2 (set (numbered_bytes (sector 258 0 1 1)) 22 1) ≡ None
unfolding zeros
refused_byte_before_the_body = refl

refused_other_byte_before_the_body : log_sector_in 2 (set (numbered_bytes (sector 258 0 1 1)) 23 1) ≡ None
unfolding zeros
refused_other_byte_before_the_body = refl

refused_empty_with_a_part : in_slot_2 (record { seq = 258; op = record { 0 = 0 }; part = 1; parts = 0; used = 0; body = zeros 488 }) ≡ None
unfolding zeros
refused_empty_with_a_part = refl

refused_empty_with_a_byte : in_slot_2 (record { seq = 258; op = record { 0 = 0 }; part = 0; parts = 0; used = 0; body = 9 ∷ zeros 487 }) ≡ None
unfolding zeros
refused_empty_with_a_byte = refl
