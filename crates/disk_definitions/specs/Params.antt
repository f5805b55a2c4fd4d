-- The parameter sector.
use Rattle.std.specs.Prelude.{◌+◌, ℕ, Bool, ◌&&◌, ◌≡◌, if◌then◌else◌, nat_le, nat_lt, Option, Some, None, List, ◌++◌, IsTrue, codes}
use Rattle.byteorder.specs.Endian.{little_bytes}
use Rattle.disk_definitions.specs.declared.param.Param.{Param}
use Rattle.disk_definitions.specs.declared.param.TheConstants.{FORMAT_NEWEST}
use Rattle.sector_bytes.specs.Bytes.{number_at, zeros}
use Rattle.std.specs.Str.{bytes_eq}
use Rattle.frang_base.specs.declared.limits.TheConstants.{RUNS_MAX, SEGMENTS_MAX}

-- its bytes: the mark `FRANGPAR`, the format, the segments, the run, and zeros
abbrev pub param_bytes : Param → List ℕ
param_bytes p = codes "FRANGPAR" ++ little_bytes 4 p.format ++ little_bytes 4 p.segments ++ little_bytes 4 p.run ++ zeros 492

-- the format is one of those that are read, there are 1 to 64 segments, and the run is at least 1
abbrev pub param_fits : Param → Bool
param_fits p = nat_le 1 p.format && nat_le p.format FORMAT_NEWEST && nat_le 1 p.segments && nat_le p.segments SEGMENTS_MAX && nat_le 1 p.run && nat_lt p.run (RUNS_MAX + 1)

-- what stands at the places of its fields
abbrev pub param_fields : List ℕ → Param
param_fields block = record { format = number_at 4 8 block; segments = number_at 4 12 block; run = number_at 4 16 block }

-- the block is the parameter sector of these parameters
abbrev pub IsParamSector : List ℕ → Param → Type 0
IsParamSector block p = (block ≡ param_bytes p) × IsTrue (param_fits p)

-- the parameters whose sector the block is
abbrev pub param_in : List ℕ → Option Param
param_in block = if param_fits (param_fields block) && bytes_eq (param_bytes (param_fields block)) block then Some (param_fields block) else None
