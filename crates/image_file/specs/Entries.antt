-- Entries as the code has them.
use Rattle.std.specs.Prelude.{◌≡◌, ℕ, ◌+◌, ◌≤◌, List, ◌++◌, nat_lt, if◌then◌else◌, Option, Some, None, Result, Ok, Err, length, take, drop, not}
use Rattle.frang_base.specs.declared.limits.TheConstants.{SEGMENTS_MAX}
use Rattle.std.specs.List.{All, filter}
use Rattle.std.specs.Map.{keys_of}
use Rattle.std.specs.Global.{Vec}
use Rattle.std.specs.Vec.{vec_len, vec_capacity}
use Rattle.image_file.specs.declared.fault.ImageFault.{ImageFault}
use Rattle.image_file.specs.declared.entry.Entry.{Entry}
use Rattle.sector_bytes.specs.Bytes.{number_at, are_zero}
use Rattle.image_file.specs.Images.{Blocks, entry_in}

-- the sector and its block
abbrev pub entry_of : Entry → ℕ × List ℕ
entry_of e = (e.sector, e.block.now)

-- the entry at the first byte, and what follows
abbrev pub next_entry : List ℕ → Option ((ℕ × List ℕ) × List ℕ)
next_entry bytes = if nat_lt (length bytes) 520 then None else Some (entry_in bytes, drop 520 bytes)

-- so many segments as a disk may have
abbrev pub HasSegments : ℕ → Type 0
HasSegments segments = (1 ≤ segments) × (segments ≤ SEGMENTS_MAX)

-- the mark and the count of the header, and what follows it
abbrev pub header_of : List ℕ → Option (List ℕ × ℕ × List ℕ)
header_of bytes = if nat_lt (length bytes) 16 then None else Some (take 8 bytes, number_at 8 8 bytes, drop 16 bytes)

-- the sectors so far, and what the others give
abbrev pub behind : Blocks → Result Blocks ImageFault → Result Blocks ImageFault
behind front (Ok sectors) = Ok (front ++ sectors)
behind front (Err f) = Err f

-- no sector of the disk is greater
abbrev pub EndsBy : ℕ → Blocks → Type 0
EndsBy last sectors = All (λ sector. sector ≤ last) (keys_of sectors)

-- so many bytes can be added with no memory taken
abbrev pub HasRoom : Vec ℕ → ℕ → Type 0
HasRoom bytes count = vec_len bytes + count ≤ vec_capacity bytes

-- new has these bytes behind those of old, and no less capacity
pub record Adds (old new : Vec ℕ) (bytes : List ℕ) : Type 0 where
  pub items : new.items ≡ old.items ++ bytes
  pub len : vec_len new ≡ vec_len old + length bytes
  pub room : vec_capacity old ≤ vec_capacity new

-- the blocks that aren't zero
abbrev pub written_blocks : List (List ℕ) → List (List ℕ)
written_blocks = filter (λ block. not (are_zero block))
