-- One sector by the edits that are of it, and which versions have a next one.
use Rattle.std.specs.Prelude.{ℕ, ◌-◌, ◌^◌, Bool, IsTrue, ◌==◌, nat_lt, if◌then◌else◌, Option, Some, None, Result, Ok, Err, List}
use Rattle.std.specs.List.{filter_map, list_all}
use Rattle.frang_base.specs.declared.limits.TheConstants.{SECTOR_BYTES}
use Rattle.sector_bytes.specs.Blocks.{version_of}
use Rattle.sector_bytes.specs.Bytes.{zeros}
use Rattle.sector_bytes.specs.Sectors.{Sectors}
use Rattle.disk_definitions.specs.Standing.{version_at}
use Rattle.disk_definitions.specs.Edits.{Edit}
use Rattle.disk_definitions.specs.Written.{edit_sector, edited_block, metadata_sector, sectors_at_hand}
use Rattle.dir_lookup.specs.declared.hand.Hand.{Hand}
use Rattle.plan_steps.specs.declared.edit.Outcome.{Outcome}
use Rattle.plan_steps.specs.declared.stop.Stop.{Stop}
use Rattle.plan_steps.specs.Edits.{edits_of}

-- the sectors at hand, as sectors of a disk
abbrev pub at_hand : Hand → Sectors
at_hand hand = sectors_at_hand hand.sectors.now.entries hand.held.now

-- the block, or zeros where there is none
abbrev pub block_or_zeros : Option (List ℕ) → List ℕ
block_or_zeros None = zeros SECTOR_BYTES
block_or_zeros (Some block) = block

-- the block of a sector after an edit, which may be of another sector
abbrev pub edited_at : ℕ → List ℕ → Edit → List ℕ
edited_at sector block e = if sector == edit_sector e then edited_block block (version_of block) e else block

-- the version of a sector is below the largest number of eight bytes, so it has a next one
abbrev pub has_next_version : Sectors → ℕ → Bool
has_next_version sectors sector = nat_lt (version_at sectors sector) (2 ^ 64 - 1)

-- so it is with each sector with a version that the edits change
abbrev pub have_next_versions : Sectors → List Edit → Bool
have_next_versions sectors edits = list_all (has_next_version sectors) (filter_map metadata_sector edits)

abbrev pub HasNextVersions : Sectors → List Edit → Type 0
HasNextVersions sectors edits = IsTrue (have_next_versions sectors edits)

-- so it is with the edits of a plan that is done
abbrev pub EndsWithNextVersions : Sectors → Result Outcome Stop → Type 0
EndsWithNextVersions sectors (Ok outcome) = HasNextVersions sectors (edits_of outcome.edits.items)
EndsWithNextVersions sectors (Err stop) = Unit {0}
