-- The laws of the definition.
use Rattle.disk_definitions.proofs.RegionLaws.{region_found, region_read, region_once, region_none}
use Rattle.frang_layout.proofs.laws.sectors_and_places_agree.Goals as goal

pub returns : goal.returns
returns c = record { found = region_found; read = region_read; once = region_once; none = region_none }
