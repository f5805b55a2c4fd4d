-- Reading a log by its 256 slots: where it ends, and which records stand in it.
use Rattle.std.specs.Prelude.{ℕ, zero, suc, ◌+◌, ◌-◌, ◌%◌, Bool, true, not, ◌&&◌, ◌==◌, if◌then◌else◌, nat_le, max, Option, Some, None, is_some, List, [], ◌∷◌, ◌++◌, length, take, drop, map, fold}
use Rattle.std.specs.List.{list_all, filter, filter_map, cons_option}
use Rattle.std.specs.Option.{option_map}
use Rattle.frang_base.specs.declared.limits.TheConstants.{LOG_SECTORS, LOG_WINDOW}
use Rattle.disk_definitions.specs.declared.log_sector.LogSector.{LogSector}
use Rattle.disk_definitions.specs.LogSectors.{is_packed, log_sector_in}
use Rattle.tree_definitions.specs.Numbers.{below}
use Rattle.frang_base.specs.declared.change.Redo.{Redo}
use Rattle.disk_definitions.specs.Records.{record_in}
use Rattle.disk_definitions.specs.Frames.{frame_most, frames_among}

-- the blocks of a log, by slot
abbrev pub Slots : Type 0
Slots = ℕ → List ℕ

-- the sector of this number, where it stands in its slot
abbrev pub numbered : ℕ → Option LogSector → Option LogSector
numbered n None = None
numbered n (Some x) = if x.seq == n then Some x else None

abbrev pub sector_numbered : Slots → ℕ → Option LogSector
sector_numbered slots n = numbered n (log_sector_in (n % LOG_SECTORS) (slots (n % LOG_SECTORS)))

abbrev pub stands : Slots → ℕ → Bool
stands slots n = is_some (sector_numbered slots n)

-- the 192 numbers up to an end
unfoldable pub window : ℕ → List ℕ
window end = map (λ k. end - (LOG_WINDOW - 1) + k) (below LOG_WINDOW)

-- all of them stand in their slots
abbrev pub is_end : Slots → ℕ → Bool
is_end slots end = nat_le (LOG_WINDOW - 1) end && list_all (stands slots) (window end)

-- the numbers that stand in the slots
abbrev pub seq_of : LogSector → ℕ
seq_of x = x.seq

unfoldable pub numbers_in : Slots → List ℕ
numbers_in slots = filter_map (λ slot. option_map seq_of (log_sector_in slot (slots slot))) (below LOG_SECTORS)

-- the end of a log: the greatest number of which it and the 191 before it stand in their slots; 0 where there is none
unfoldable pub log_end : Slots → ℕ
log_end slots = fold max 0 (filter (is_end slots) (numbers_in slots))

-- the log is sealed: no slot has a number above its end
abbrev pub is_sealed : Slots → Bool
is_sealed slots = list_all (λ n. nat_le n (log_end slots)) (numbers_in slots)

-- the sectors up to the end, none where there is no end
abbrev pub sectors_read : Slots → ℕ → List LogSector
sectors_read slots zero = []
sectors_read slots (suc end) = filter_map (sector_numbered slots) (window (suc end))

-- ---- records with sectors of their own

-- a sector is this part of a record with this operation and so many parts
abbrev pub is_part : LogSector → ℕ → LogSector → Bool
is_part first part x = x.op.0 == first.op.0 && x.parts == first.parts && x.part == part

-- these are all parts of a record, from one on
abbrev pub are_parts : LogSector → ℕ → List LogSector → Bool
are_parts first part [] = true
are_parts first part (x ∷ xs) = is_part first part x && are_parts first (part + 1) xs

-- the bytes that sectors use of their bodies
abbrev pub used_bytes : List LogSector → List ℕ
used_bytes [] = []
used_bytes (x ∷ xs) = take x.used x.body ++ used_bytes xs

-- a record of these sectors, where they are whole and their bytes are the body of one
abbrev pub record_of : LogSector → List LogSector → Option Redo
record_of first parts =
    if length parts == first.parts && are_parts first 0 parts then option_map (λ changes. record { op = first.op; changes = changes }) (record_in (used_bytes parts)) else None

-- the record with sectors of its own that begins at the first of these, if one does
abbrev pub record_at : List LogSector → Option Redo
record_at [] = None
record_at (x ∷ xs) = if x.part == 0 && nat_le 1 x.parts then record_of x (take x.parts (x ∷ xs)) else None

-- ---- records in packed sectors

-- the frame that runs on at the end of the sector before goes on in this one
abbrev pub goes_on : LogSector → Bool
goes_on x = is_packed x && not (x.part == 0)

-- the bytes behind those of a packed sector that these sectors follow: those that they use, as long as each goes on
abbrev pub bytes_on : List LogSector → List ℕ
bytes_on [] = []
bytes_on (x ∷ xs) = if goes_on x then take x.used x.body ++ bytes_on xs else []

-- the bytes that a packed sector uses, from the first frame on that begins in it
abbrev pub bytes_begun : LogSector → List ℕ
bytes_begun x = drop x.part (take x.used x.body)

-- the records of the frames that begin in a packed sector, in order; the bytes behind its own that a frame may need are those of one at most
abbrev pub frames_of : LogSector → List LogSector → List Redo
frames_of x xs = frames_among (length (bytes_begun x)) (length (bytes_begun x)) (bytes_begun x ++ take frame_most (bytes_on xs))

-- ---- all records

-- the records that begin in the first of these sectors
abbrev pub records_at : List LogSector → List Redo
records_at [] = []
records_at (x ∷ xs) = if is_packed x then frames_of x xs else cons_option (record_at (x ∷ xs)) []

-- the records that stand whole among sectors, in the order of the places where they begin
abbrev pub records_among : List LogSector → List Redo
records_among [] = []
records_among (x ∷ xs) = records_at (x ∷ xs) ++ records_among xs

-- the records of a log: those that stand whole in the 192 numbers up to its end
abbrev pub log_records : Slots → List Redo
log_records slots = records_among (sectors_read slots (log_end slots))

-- the greatest operation number among records, 0 where there is none
abbrev pub greatest_operation : List Redo → ℕ
greatest_operation records = fold max 0 (map (λ r. r.op.0) records)
