-- What the fields of a sector of a log hold.
use Rattle.std.specs.Prelude.{◌≡◌, ◌<◌, ◌^◌, length}
use Rattle.disk_definitions.specs.declared.log_sector.LogSector.{LogSector}

-- the numbers fit their fields, and the body has its length, as in each value of the type
abbrev pub FillsItsFields : LogSector → Type 0
FillsItsFields x = (x.seq < 2 ^ 64) × (x.op.0 < 2 ^ 64) × (x.part < 2 ^ 16) × (x.parts < 2 ^ 16) × (x.used < 2 ^ 16) × (length x.body ≡ 488)
