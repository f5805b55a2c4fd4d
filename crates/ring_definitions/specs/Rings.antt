-- The log of a server in memory: a ring of records that aren't given up, the numbers of their sectors, and which of these are issued and acknowledged.
-- A number is a sector's place in the log, counted on for ever; sector n lies in slot n % 256.
use Rattle.std.specs.Prelude.{ℕ, zero, suc, ◌+◌, ◌-◌, ◌/◌, ◌^◌, Bool, true, false, not, ◌&&◌, ◌==◌, if◌then◌else◌, nat_le, nat_lt, min, max, Option, Some, None, Result, Ok, Err, List, [], ◌∷◌, ◌++◌, length, take, drop, map, fold, slice_set, unwrap_or}
use Rattle.std.specs.List.{list_any, filter, find}
use Rattle.std.specs.Option.{option_map}
use Rattle.frang_base.specs.declared.limits.TheConstants.{LOG_BODY_BYTES, LOG_IN_FLIGHT_MAX, LOG_QUARTER, LOG_WINDOW}
use Rattle.frang_base.specs.declared.sector.Sector.{Sector}
use Rattle.disk_definitions.specs.declared.log_sector.LogSector.{LogSector}
use Rattle.sector_bytes.specs.Bytes.{zeros}
use Rattle.disk_definitions.specs.LogSectors.{log_sector_bytes, none_begins, packed_mark}
use Rattle.sector_bytes.specs.SectorMaps.{value_at, with_value}
use Rattle.frang_base.specs.declared.change.Redo.{Redo}
use Rattle.disk_definitions.specs.Frames.{frame_bytes}
use Rattle.disk_definitions.specs.Records.{record_fits}
use Rattle.ring_definitions.specs.declared.ring.Named.{Named}
use Rattle.ring_definitions.specs.declared.ring.RingFault.{RingFault}
use Rattle.ring_definitions.specs.declared.ring.RingFault.TheVariants.{Full}
use Rattle.ring_definitions.specs.declared.ring.Unwritten.{Unwritten}

-- ---- packed sectors

-- a record that may stand in a log: its changes fit a body, and its operation has a number, which takes 8 bytes as each value of its type does
abbrev pub is_record : Redo → Bool
is_record redo = nat_le 1 redo.op.0 && nat_lt redo.op.0 (2 ^ 64) && record_fits redo.changes

-- a packed sector with these bytes, and the place where the first frame begins that begins in it
abbrev pub packed_sector : ℕ → ℕ → List ℕ → LogSector
packed_sector number part bytes =
    record { seq = number; op = record { 0 = 0 }; part = part; parts = packed_mark; used = length bytes; body = bytes ++ zeros (LOG_BODY_BYTES - length bytes) }

-- so many packed sectors with these bytes one behind the other, the first with this number and part; in the others no frame begins
abbrev pub cut : ℕ → ℕ → ℕ → List ℕ → List LogSector
cut zero first part bytes = []
cut (suc n) first part bytes = packed_sector first part (take LOG_BODY_BYTES bytes) ∷ cut n (first + 1) none_begins (drop LOG_BODY_BYTES bytes)

-- how many sectors so many bytes take
abbrev pub sectors_for : ℕ → ℕ
sectors_for n = (n + (LOG_BODY_BYTES - 1)) / LOG_BODY_BYTES

abbrev pub packed_sectors : ℕ → ℕ → List ℕ → List LogSector
packed_sectors first part bytes = cut (sectors_for (length bytes)) first part bytes

-- for how many bytes the last of the sectors that wait has room: while it isn't full and isn't issued it is open, and takes further frames
abbrev pub open_room : List LogSector → ℕ
open_room [] = 0
open_room (x ∷ []) = LOG_BODY_BYTES - x.used
open_room (x ∷ y ∷ ys) = open_room (y ∷ ys)

-- a packed sector with these bytes behind its own, at which a frame begins
abbrev pub filled : LogSector → List ℕ → LogSector
filled x bytes =
    record x { part = (if x.part == none_begins then x.used else x.part); used = x.used + length bytes; body = take x.used x.body ++ bytes ++ drop (x.used + length bytes) x.body }

-- the last sector that waits, and those behind it, with a frame more; the next sector has this number
abbrev pub put_on : ℕ → LogSector → List ℕ → List LogSector
put_on next x frame =
    if x.used == LOG_BODY_BYTES then x ∷ packed_sectors next 0 frame
    else filled x (take (LOG_BODY_BYTES - x.used) frame) ∷ packed_sectors next none_begins (drop (LOG_BODY_BYTES - x.used) frame)

-- the sectors that wait, with a frame more
abbrev pub framed : ℕ → List LogSector → List ℕ → List LogSector
framed next [] frame = packed_sectors next 0 frame
framed next (x ∷ []) frame = put_on next x frame
framed next (x ∷ y ∷ ys) frame = x ∷ framed next (y ∷ ys) frame

-- ---- the ring

pub record Ring : Type 0 where
  pub given_up : ℕ  -- the records that begin at it or before it are given up; at first the end of the log
  pub reached : ℕ  -- every number up to it is acknowledged
  pub above : List Bool  -- of each number issued above it, ascending: whether it is acknowledged
  pub waiting : List LogSector  -- the sectors that aren't issued, ascending by number
  pub named : List Named  -- what the records not given up name, the oldest record first

-- a ring that goes on behind this number
abbrev pub ring_at : ℕ → Ring
ring_at end = record { given_up = end; reached = end; above = []; waiting = []; named = [] }

-- the last number issued
abbrev pub sent : Ring → ℕ
sent r = r.reached + length r.above

-- the last number given
abbrev pub last : Ring → ℕ
last r = sent r + length r.waiting

-- for how many numbers a ring has room that has room for so many: these less the numbers that aren't given up
abbrev pub free_of : ℕ → Ring → ℕ
free_of room r = room - (last r - r.given_up)

-- 192 less the numbers that aren't given up
abbrev pub free : Ring → ℕ
free r = free_of LOG_WINDOW r

-- how many sectors a record newly begins: none where the open one has room for its frame
abbrev pub need : Ring → Redo → ℕ
need r redo = sectors_for (length (frame_bytes redo) - open_room r.waiting)

-- the number of the sector in which the next record begins
abbrev pub begins : Ring → ℕ
begins r = if open_room r.waiting == 0 then last r + 1 else last r

-- what a record names, with the number of the sector in which it begins
abbrev pub names_of : ℕ → Redo → List Named
names_of number redo = map (λ c. record { sector = c.sector; version = c.version; first = number }) redo.changes

-- the ring with a record more
abbrev pub appended : Ring → Redo → Ring
appended r redo = record r {
  waiting = framed (last r + 1) r.waiting (frame_bytes redo);
  named = r.named ++ names_of (begins r) redo;
}

-- `append`: refused exactly where the record needs more sectors than are free; else the number of the sector with its last byte
abbrev pub append_answer : Ring → Redo → Result ℕ RingFault
append_answer r redo = if nat_lt (free r) (need r redo) then Err (Full (need r redo) (free r)) else Ok (last r + need r redo)

-- `next_sector`: the first sector that isn't issued, which may be the open one, where its number isn't more than 64 past the one up to which all are acknowledged
abbrev pub first_waiting : ℕ → List LogSector → Option (ℕ × List ℕ)
first_waiting number [] = None
first_waiting number (x ∷ xs) = Some (number, log_sector_bytes x)

abbrev pub next_sector : Ring → Option (ℕ × List ℕ)
next_sector r = if nat_lt (length r.above) LOG_IN_FLIGHT_MAX then first_waiting (sent r + 1) r.waiting else None

-- after the first waiting sector is issued, which closes it
abbrev pub issued : Ring → Ring
issued r = record r { above = r.above ++ false ∷ []; waiting = drop 1 r.waiting }

-- the numbers that are acknowledged without a gap are passed
abbrev pub passed : Ring → ℕ → List Bool → Ring
passed r reached [] = record r { reached = reached; above = [] }
passed r reached (true ∷ above) = passed r (reached + 1) above
passed r reached (false ∷ above) = record r { reached = reached; above = false ∷ above }

-- after a number is acknowledged; one that is passed already changes nothing
abbrev pub acked : Ring → ℕ → Ring
acked r number = if nat_lt r.reached number then passed r r.reached (slice_set r.above (number - r.reached - 1) true) else r

-- ---- the oldest numbers, so many, and giving them up at once

-- it belongs to the oldest records: those that begin in the oldest numbers, issued or not
abbrev pub is_oldest_of : ℕ → Ring → Named → Bool
is_oldest_of quarter r x = nat_le x.first (r.given_up + quarter)

-- what the oldest records name
abbrev pub oldest_of : ℕ → Ring → List Named
oldest_of quarter r = filter (is_oldest_of quarter r) r.named

-- the last of the oldest numbers, or of those that are issued: what stands in the open sector isn't given up
abbrev pub reclaim_end_of : ℕ → Ring → ℕ
reclaim_end_of quarter r = min (r.given_up + quarter) (sent r)

-- it belongs to the reclaimable records: those that begin in the oldest numbers, as far as these are issued
abbrev pub is_reclaimable_of : ℕ → Ring → Named → Bool
is_reclaimable_of quarter r x = nat_le x.first (reclaim_end_of quarter r)

-- what the reclaimable records name
abbrev pub reclaimable_of : ℕ → Ring → List Named
reclaimable_of quarter r = filter (is_reclaimable_of quarter r) r.named

-- the ring without its reclaimable records
abbrev pub reclaimed_of : ℕ → Ring → Ring
reclaimed_of quarter r = record r { given_up = reclaim_end_of quarter r; named = filter (λ x. not (is_reclaimable_of quarter r x)) r.named }

-- ---- the oldest 64 numbers, and giving them up

-- the last of them
abbrev pub oldest_end : Ring → ℕ
oldest_end r = r.given_up + LOG_QUARTER

abbrev pub is_oldest : Ring → Named → Bool
is_oldest r x = is_oldest_of LOG_QUARTER r x

abbrev pub oldest : Ring → List Named
oldest r = oldest_of LOG_QUARTER r

abbrev pub reclaim_end : Ring → ℕ
reclaim_end r = reclaim_end_of LOG_QUARTER r

abbrev pub is_reclaimable : Ring → Named → Bool
is_reclaimable r x = is_reclaimable_of LOG_QUARTER r x

abbrev pub reclaimable : Ring → List Named
reclaimable r = reclaimable_of LOG_QUARTER r

-- the greatest version of each sector named, ascending by sector
abbrev pub with_named : List (ℕ × ℕ) → Named → List (ℕ × ℕ)
with_named versions x = with_value versions x.sector.0 (max x.version (unwrap_or (value_at versions x.sector.0) 0))

-- of the sectors that the oldest records name
abbrev pub oldest_versions : Ring → List (ℕ × ℕ)
oldest_versions r = fold with_named [] (oldest r)

-- the sector is known to stand on the disk in that version or a later one
abbrev pub is_known : List (Sector × ℕ) → Named → Bool
is_known disk x = list_any (λ d. d.0.0 == x.sector.0 && nat_le x.version d.1) disk

abbrev pub reclaimed : Ring → Ring
reclaimed r = reclaimed_of LOG_QUARTER r

-- `reclaim`: refused exactly where a sector that the reclaimable records name isn't known to stand on the disk, by the first such
abbrev pub unwritten : Ring → List (Sector × ℕ) → Option Unwritten
unwritten r disk = option_map (λ x. record { sector = x.sector }) (find (λ x. not (is_known disk x)) (reclaimable r))
