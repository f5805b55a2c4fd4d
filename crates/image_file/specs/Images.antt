-- Images of disks: a mark, the number of sectors, and an entry for each sector that isn't zero, ascending. Bytes that are no image have a first fault.
use Rattle.std.specs.Prelude.{ℕ, zero, suc, ◌+◌, Bool, true, false, not, ◌==◌, ◌≡◌, if◌then◌else◌, nat_le, nat_lt, Option, Some, None, Result, Ok, Err, List, [], ◌∷◌, ◌++◌, length, take, drop, is_some, codes}
use Rattle.std.specs.List.{filter, flat_map, All}
use Rattle.std.specs.List.Sorted.{IsStrictlySortedBy}
use Rattle.std.specs.Map.{keys_of}
use Rattle.std.specs.Ordering.{nat_cmp}
use Rattle.byteorder.specs.Endian.{little_bytes}
use Rattle.disk_definitions.specs.declared.param.Param.{Param}
use Rattle.disk_definitions.specs.declared.region.Region.{Region}
use Rattle.disk_definitions.specs.declared.region.Region.TheVariants as region
use Rattle.sector_bytes.specs.Bytes.{number_at, are_zero}
use Rattle.std.specs.Str.{bytes_eq}
use Rattle.frang_base.specs.declared.limits.TheConstants.{RUNS_MAX, SECTOR_BYTES}
use Rattle.disk_definitions.specs.Regions.{region_of}
use Rattle.disk_definitions.specs.Params.{param_in}
use Rattle.disk_definitions.specs.LogSectors.{log_sector_in}
use Rattle.disk_definitions.specs.Bitmaps.{bitmap_in}
use Rattle.disk_definitions.specs.Inodes.{inode_in}
use Rattle.sector_bytes.specs.Sectors.{sectors_of}
use Rattle.image_file.specs.declared.fault.ImageFault.{ImageFault}
use Rattle.image_file.specs.declared.fault.ImageFlaw.{ImageFlaw}
use Rattle.image_file.specs.declared.fault.ImageFlaw.TheVariants.{Cut, OtherMark, OutOfOrder, NoRegion, OfZeros, BytesAfter, BadSector}

-- sectors by their numbers, with their blocks
abbrev pub Blocks : Type 0
Blocks = List (ℕ × List ℕ)

-- the number of each kind of flaw
abbrev pub kind_of : ImageFlaw → ℕ
kind_of Cut = 1
kind_of OtherMark = 2
kind_of OutOfOrder = 3
kind_of NoRegion = 4
kind_of OfZeros = 5
kind_of BytesAfter = 6
kind_of BadSector = 7

-- ---- the text of an image

-- the mark of an image
abbrev pub image_mark : List ℕ
image_mark = codes "FRANGIM1"

-- an entry: the number of a sector, and its block
abbrev pub image_entry : ℕ × List ℕ → List ℕ
image_entry e = little_bytes 8 e.0 ++ e.1

-- the image that has just these sectors
abbrev pub image_with : Blocks → List ℕ
image_with sectors = image_mark ++ little_bytes 8 (length sectors) ++ flat_map image_entry sectors

-- the sectors that aren't zero
abbrev pub sectors_written : Blocks → Blocks
sectors_written blocks = filter (λ e. not (are_zero e.1)) blocks

-- the image of a disk
abbrev pub image_text : Blocks → List ℕ
image_text blocks = image_with (sectors_written blocks)

-- ---- which sectors an image may have

-- another run may follow the run of these parameters
abbrev pub may_run_again : Option Param → Bool
may_run_again None = false
may_run_again (Some p) = nat_lt (p.run + 1) (RUNS_MAX + 1)

-- what may stand in a region: blocks of files and directories have any bytes
abbrev pub block_fits : Region → List ℕ → Bool
block_fits region.Param block = may_run_again (param_in block)
block_fits (region.Log server slot) block = is_some (log_sector_in slot block)
block_fits (region.Segment k) block = is_some (bitmap_in block)
block_fits (region.Inode i) block = is_some (inode_in block)
block_fits (region.Small k part) block = true
block_fits (region.Large k part) block = true

-- a sector lies in a region of so many segments, isn't zero, and its block may stand there
pub record IsImaged (segments : ℕ) (e : ℕ × List ℕ) : Type 0 where
  pub region : Region
  pub place : region_of segments e.0 ≡ Some region
  pub written : are_zero e.1 ≡ false
  pub grammar : block_fits region e.1 ≡ true

-- the bytes are the image of a disk that has these sectors and else zeros
pub record IsImage (bytes : List ℕ) (sectors : Blocks) : Type 0 where
  pub text : bytes ≡ image_with sectors
  pub param : Param
  pub parameters : param_in (sectors_of sectors 0) ≡ Some param
  pub ascending : IsStrictlySortedBy nat_cmp (keys_of sectors)
  pub blocks : All (λ e. length e.1 ≡ SECTOR_BYTES) sectors
  pub each : All (IsImaged param.segments) sectors

-- ---- reading, with the first fault

abbrev pub fault : ℕ → ImageFlaw → ImageFault
fault at flaw = record { at = at; flaw = flaw }

-- the sector of the entry at the first byte, and its block
abbrev pub entry_in : List ℕ → ℕ × List ℕ
entry_in bytes = (number_at 8 0 bytes, take SECTOR_BYTES (drop 8 bytes))

-- the flaw of a block in a region: zeros come before its grammar
abbrev pub block_flaw : Option Region → List ℕ → Option ImageFlaw
block_flaw None block = Some NoRegion
block_flaw (Some region) block = if are_zero block then Some OfZeros else (if block_fits region block then None else Some BadSector)

-- the first flaw of an entry after a sector: its order, its region, its block
abbrev pub entry_flaw : ℕ → ℕ → ℕ × List ℕ → Option ImageFlaw
entry_flaw segments before e = if nat_le e.0 before then Some OutOfOrder else block_flaw (region_of segments e.0) e.1

-- the flaw of the first entry, from which the segments are known: it isn't that of sector 0, whatever its bytes, or its block
abbrev pub first_flaw : ℕ × List ℕ → Option ImageFlaw
first_flaw e = if e.0 == 0 then block_flaw (Some region.Param) e.1 else Some BadSector

-- an entry before others
abbrev pub with_entry : ℕ × List ℕ → Result Blocks ImageFault → Result Blocks ImageFault
with_entry e (Ok sectors) = Ok (e ∷ sectors)
with_entry e (Err f) = Err f

-- an entry at a place with the flaw found in it, if any, before others
abbrev pub judged : ℕ → Option ImageFlaw → ℕ × List ℕ → Result Blocks ImageFault → Result Blocks ImageFault
judged at None e others = with_entry e others
judged at (Some flaw) e others = Err (fault at flaw)

-- so many entries of sectors after one, from a place on, and then nothing
abbrev pub entries_in : ℕ → ℕ → ℕ → ℕ → List ℕ → Result Blocks ImageFault
entries_in segments before at zero [] = Ok []
entries_in segments before at zero (b ∷ bytes) = Err (fault at BytesAfter)
entries_in segments before at (suc count) bytes =
    if nat_lt (length bytes) 520 then Err (fault at Cut)
    else judged at (entry_flaw segments before (entry_in bytes)) (entry_in bytes) (entries_in segments (entry_in bytes).0 (at + 520) count (drop 520 bytes))

-- the segments of a disk with this parameter sector
abbrev pub segments_by : Option Param → ℕ
segments_by None = 0
segments_by (Some p) = p.segments

-- so many entries behind the header: without one, the parameter sector is missing
abbrev pub sectors_in : ℕ → List ℕ → Result Blocks ImageFault
sectors_in zero [] = Err (fault 16 BadSector)
sectors_in zero (b ∷ bytes) = Err (fault 16 BytesAfter)
sectors_in (suc count) bytes =
    if nat_lt (length bytes) 520 then Err (fault 16 Cut)
    else judged 16 (first_flaw (entry_in bytes)) (entry_in bytes) (entries_in (segments_by (param_in (entry_in bytes).1)) 0 536 count (drop 520 bytes))

-- the sectors of the disk whose image the bytes are, or their first fault
abbrev pub image_in : List ℕ → Result Blocks ImageFault
image_in bytes =
    if nat_lt (length bytes) 16 then Err (fault 0 Cut)
    else (if bytes_eq (take 8 bytes) image_mark then sectors_in (number_at 8 8 bytes) (drop 16 bytes) else Err (fault 0 OtherMark))
