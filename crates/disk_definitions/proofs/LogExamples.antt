-- Records among sectors of a log, by hand.
use Rattle.std.proofs.Common.{◌≡◌, ℕ, List, [], ◌∷◌, ◌++◌, refl, replicate, take, drop}
use Rattle.frang_base.specs.declared.change.Change.{Change}
use Rattle.disk_definitions.specs.declared.log_sector.LogSector.{LogSector}
use Rattle.disk_definitions.specs.LogSectors.{empty_sector}
use Rattle.frang_base.specs.declared.change.Redo.{Redo}
use Rattle.disk_definitions.specs.Records.{record_bytes}
use Rattle.disk_definitions.specs.Frames.{frame_bytes, frame_read}
use Rattle.disk_definitions.specs.Logs.{records_among, greatest_operation}

-- a record of one short change of a sector
abbrev short : ℕ → List Change
short sector = record { sector = record { 0 = sector }; version = 1; patches = record { at = 8; bytes = 1 ∷ [] } ∷ [] } ∷ []

abbrev redo : ℕ → ℕ → Redo
redo op sector = record { op = record { 0 = op }; changes = short sector }

-- a sector of a log with these bytes
abbrev sector : ℕ → ℕ → ℕ → ℕ → List ℕ → ℕ → LogSector
sector seq op part parts bytes used = record { seq = seq; op = record { 0 = op }; part = part; parts = parts; used = used; body = bytes }

-- a record in one sector
abbrev alone : ℕ → ℕ → ℕ → LogSector
alone seq op number = sector seq op 0 1 (record_bytes (short number) ++ replicate 463 0) 25

-- a record cut in two, as if a body had 10 bytes
abbrev first : ℕ → ℕ → ℕ → LogSector
first seq op number = sector seq op 0 2 (take 10 (record_bytes (short number))) 10

abbrev second : ℕ → ℕ → ℕ → LogSector
second seq op number = sector seq op 1 2 (drop 10 (record_bytes (short number))) 15

none_among_empty_sectors : records_among (empty_sector 256 ∷ empty_sector 257 ∷ []) ≡ []
none_among_empty_sectors = refl

one_alone : records_among (empty_sector 256 ∷ alone 257 9 5 ∷ []) ≡ redo 9 5 ∷ []
one_alone = refl

two_in_order : records_among (alone 256 8 5 ∷ alone 257 9 4 ∷ []) ≡ redo 8 5 ∷ redo 9 4 ∷ []
two_in_order = refl

one_in_two_sectors : records_among (first 256 9 5 ∷ second 257 9 5 ∷ alone 258 10 6 ∷ []) ≡ redo 9 5 ∷ redo 10 6 ∷ []
one_in_two_sectors = refl

-- a record that begins before the sectors that are read
the_end_of_one : records_among (second 257 9 5 ∷ alone 258 10 6 ∷ []) ≡ redo 10 6 ∷ []
the_end_of_one = refl

-- a record that isn't whole yet
the_beginning_of_one : records_among (alone 256 8 5 ∷ first 257 9 5 ∷ []) ≡ redo 8 5 ∷ []
the_beginning_of_one = refl

-- parts of two records don't make one
parts_of_two : records_among (first 256 9 5 ∷ second 257 10 5 ∷ []) ≡ []
parts_of_two = refl

a_part_lacks : records_among (first 256 9 5 ∷ empty_sector 257 ∷ second 258 9 5 ∷ []) ≡ []
a_part_lacks = refl

-- what has no record's body is passed over
no_body : records_among (sector 256 9 0 1 (replicate 488 0) 25 ∷ alone 257 10 6 ∷ []) ≡ redo 10 6 ∷ []
no_body = refl

greatest_of_none : greatest_operation [] ≡ 0
greatest_of_none = refl

greatest_of_two : greatest_operation (redo 8 5 ∷ redo 9 4 ∷ []) ≡ 9
greatest_of_two = refl

-- a whole body in the first of two parts, of which the second lacks
a_second_part_lacks : records_among (sector 256 9 0 2 (record_bytes (short 5)) 25 ∷ []) ≡ []
a_second_part_lacks = refl

-- ---- packed sectors

-- a packed sector with these bytes, in which the first frame begins at this place
abbrev packed : ℕ → ℕ → ℕ → List ℕ → LogSector
packed seq part used bytes = record { seq = seq; op = record { 0 = 0 }; part = part; parts = 65535; used = used; body = bytes }

-- a frame has 35 bytes
abbrev frame : ℕ → ℕ → List ℕ
frame op number = frame_bytes (redo op number)

a_frame : frame 9 5 ≡ 9 ∷ 0 ∷ 0 ∷ 0 ∷ 0 ∷ 0 ∷ 0 ∷ 0 ∷ 25 ∷ 0 ∷ record_bytes (short 5)
a_frame = refl

two_in_one_sector : records_among (packed 256 0 70 (frame 8 5 ++ frame 9 4) ∷ []) ≡ redo 8 5 ∷ redo 9 4 ∷ []
unfolding frame_read
two_in_one_sector = refl

-- the operation of a frame may be 0
no_operation_in_a_frame : records_among (packed 256 0 35 (frame 0 5) ∷ []) ≡ redo 0 5 ∷ []
unfolding frame_read
no_operation_in_a_frame = refl

-- the second frame goes on in the next sector, in which a third begins
abbrev over_two : List LogSector
over_two = packed 256 0 50 (frame 8 5 ++ take 15 (frame 9 4)) ∷ packed 257 20 55 (drop 15 (frame 9 4) ++ frame 10 3) ∷ []

a_frame_over_two_sectors : records_among over_two ≡ redo 8 5 ∷ redo 9 4 ∷ redo 10 3 ∷ []
unfolding frame_read
a_frame_over_two_sectors = refl

without_its_second_sector : records_among (take 1 over_two) ≡ redo 8 5 ∷ []
unfolding frame_read
without_its_second_sector = refl

without_its_first_sector : records_among (drop 1 over_two) ≡ redo 10 3 ∷ []
unfolding frame_read
without_its_first_sector = refl

-- a frame over three sectors, whose head is cut, and in the middle one of which none begins
abbrev over_three : List LogSector
over_three = packed 256 0 5 (take 5 (frame 9 4)) ∷ packed 257 65535 10 (take 10 (drop 5 (frame 9 4))) ∷ packed 258 20 55 (drop 15 (frame 9 4) ++ frame 10 3) ∷ []

a_frame_over_three_sectors : records_among over_three ≡ redo 9 4 ∷ redo 10 3 ∷ []
unfolding frame_read
a_frame_over_three_sectors = refl

cut_in_its_head : records_among (take 1 over_three) ≡ []
unfolding frame_read
cut_in_its_head = refl

cut_in_its_body : records_among (take 2 over_three) ≡ []
unfolding frame_read
cut_in_its_body = refl

-- a frame doesn't go on in a sector that begins with one, nor in one that isn't packed
cut_by_a_beginning : records_among (packed 256 0 15 (take 15 (frame 9 4)) ∷ packed 257 0 35 (frame 10 3) ∷ []) ≡ redo 10 3 ∷ []
unfolding frame_read
cut_by_a_beginning = refl

cut_by_another_form : records_among (packed 256 0 15 (take 15 (frame 9 4)) ∷ alone 257 10 6 ∷ packed 258 20 55 (drop 15 (frame 9 4) ++ frame 11 3) ∷ []) ≡ redo 10 6 ∷ redo 11 3 ∷ []
unfolding frame_read
cut_by_another_form = refl

-- a length out of range ends the reading of its sector; a body of none is passed over
no_length : records_among (packed 256 0 45 (9 ∷ replicate 9 0 ++ frame 10 3) ∷ packed 257 0 35 (frame 11 3) ∷ []) ≡ redo 11 3 ∷ []
unfolding frame_read
no_length = refl

a_body_of_none : records_among (packed 256 0 46 (9 ∷ replicate 7 0 ++ 1 ∷ 0 ∷ 7 ∷ [] ++ frame 10 3) ∷ []) ≡ redo 10 3 ∷ []
unfolding frame_read
a_body_of_none = refl

-- beside sectors of records that have them for themselves
mixed : records_among (first 256 9 5 ∷ second 257 9 5 ∷ packed 258 0 35 (frame 10 3) ∷ alone 259 11 6 ∷ []) ≡ redo 9 5 ∷ redo 10 3 ∷ redo 11 6 ∷ []
unfolding frame_read
mixed = refl
