-- The slots of a log after sectors have arrived in them.
use Rattle.std.specs.Prelude.{◌%◌, ◌==◌, if◌then◌else◌, List, [], ◌∷◌}
use Rattle.frang_base.specs.declared.limits.TheConstants.{LOG_SECTORS}
use Rattle.disk_definitions.specs.declared.log_sector.LogSector.{LogSector}
use Rattle.disk_definitions.specs.LogSectors.{log_sector_bytes}
use Rattle.disk_definitions.specs.Logs.{Slots}

-- the slots with this sector in its own
abbrev pub with_sector : Slots → LogSector → Slots
with_sector slots x slot = if slot == x.seq % LOG_SECTORS then log_sector_bytes x else slots slot

-- the slots with these sectors, the first one first
abbrev pub with_sectors : Slots → List LogSector → Slots
with_sectors slots [] = slots
with_sectors slots (x ∷ xs) = with_sectors (with_sector slots x) xs
