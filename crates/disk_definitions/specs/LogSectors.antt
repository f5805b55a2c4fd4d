-- Sectors of logs: empty ones, parts of records that have sectors of their own, and packed ones. A sector of zeros in slot j is the empty sector numbered j; any other one has its number in its first bytes.
use Rattle.std.specs.Prelude.{ℕ, ◌+◌, ◌%◌, Bool, ◌&&◌, ◌||◌, ◌==◌, ◌≡◌, if◌then◌else◌, nat_le, nat_lt, Option, Some, None, List, ◌∷◌, ◌++◌, drop, IsTrue}
use Rattle.byteorder.specs.Endian.{little_bytes}
use Rattle.disk_definitions.specs.declared.log_sector.LogSector.{LogSector}
use Rattle.sector_bytes.specs.Bytes.{number_at, zeros, are_zero}
use Rattle.std.specs.Str.{bytes_eq}
use Rattle.frang_base.specs.declared.limits.TheConstants.{LOG_BODY_BYTES, LOG_NUMBERS_END, LOG_SECTORS, RECORD_SECTORS_MAX, SECTOR_BYTES}

-- the bytes of a sector with a number of its own, field by field
abbrev pub numbered_bytes : LogSector → List ℕ
numbered_bytes x =
    little_bytes 8 x.seq ++ little_bytes 8 x.op.0 ++ little_bytes 2 x.part ++ little_bytes 2 x.parts ++ little_bytes 2 x.used ++ 0 ∷ 0 ∷ x.body

-- the bytes of a sector: the first 256 numbers are those of sectors of zeros
abbrev pub log_sector_bytes : LogSector → List ℕ
log_sector_bytes x = if nat_lt x.seq LOG_SECTORS then zeros SECTOR_BYTES else numbered_bytes x

-- all but the number is 0
abbrev pub is_empty_sector : LogSector → Bool
is_empty_sector x = x.op.0 == 0 && x.part == 0 && x.parts == 0 && x.used == 0 && are_zero x.body

-- a part of a record that has its sectors for itself: every part but the last uses all 488 bytes of the body, the last at least one, and zeros follow
abbrev pub is_record_sector : LogSector → Bool
is_record_sector x =
    nat_le LOG_SECTORS x.seq && nat_le 1 x.op.0 && nat_lt x.part x.parts && nat_le x.parts RECORD_SECTORS_MAX
    && (if x.part + 1 == x.parts then nat_le 1 x.used && nat_le x.used LOG_BODY_BYTES else x.used == LOG_BODY_BYTES) && are_zero (drop x.used x.body)

-- the number of parts of a packed sector, and the part of one in which no frame begins
abbrev pub packed_mark : ℕ
packed_mark = 65535

abbrev pub none_begins : ℕ
none_begins = 65535

-- frames of records follow one another in it, across its borders; its part is the place in the body where the first one that begins in it begins
abbrev pub is_packed : LogSector → Bool
is_packed x = x.parts == packed_mark

-- at least one byte of the body is used, zeros follow, and a frame begins at one of these or none does
abbrev pub is_packed_sector : LogSector → Bool
is_packed_sector x =
    nat_le LOG_SECTORS x.seq && x.op.0 == 0 && is_packed x && nat_le 1 x.used && nat_le x.used LOG_BODY_BYTES && (nat_lt x.part x.used || x.part == none_begins)
    && are_zero (drop x.used x.body)

-- a sector with bytes of records
abbrev pub is_filled_sector : LogSector → Bool
is_filled_sector x = is_record_sector x || is_packed_sector x

-- a sector that may stand in a slot
abbrev pub log_sector_fits : ℕ → LogSector → Bool
log_sector_fits slot x = nat_lt x.seq LOG_NUMBERS_END && x.seq % LOG_SECTORS == slot && (is_empty_sector x || is_filled_sector x)

-- what stands at the places of a sector's fields
abbrev pub log_sector_fields : List ℕ → LogSector
log_sector_fields block = record {
  seq = number_at 8 0 block;
  op = record { 0 = number_at 8 8 block };
  part = number_at 2 16 block;
  parts = number_at 2 18 block;
  used = number_at 2 20 block;
  body = drop 24 block;
}

-- the empty sector of this number
abbrev pub empty_sector : ℕ → LogSector
empty_sector seq = record { seq = seq; op = record { 0 = 0 }; part = 0; parts = 0; used = 0; body = zeros LOG_BODY_BYTES }

-- the block in this slot is this sector of a log
abbrev pub IsLogSector : ℕ → List ℕ → LogSector → Type 0
IsLogSector slot block x = (block ≡ log_sector_bytes x) × IsTrue (log_sector_fits slot x)

-- the sector of a log that a block with a number of its own is
abbrev pub numbered_sector_in : ℕ → List ℕ → LogSector → Option LogSector
numbered_sector_in slot block x = if nat_le LOG_SECTORS x.seq && log_sector_fits slot x && bytes_eq (numbered_bytes x) block then Some x else None

-- the sector of a log that the block in this slot is
abbrev pub log_sector_in : ℕ → List ℕ → Option LogSector
log_sector_in slot block = if bytes_eq (zeros SECTOR_BYTES) block then Some (empty_sector slot) else numbered_sector_in slot block (log_sector_fields block)
