-- By the laws of the definition.
use Rattle.log_record.specs.Fields.{FillsItsFields}
use Rattle.disk_definitions.specs.declared.log_sector.LogSector.{LogSector}
use Rattle.disk_definitions.proofs.LogSectorLaws.{IsStorable, log_sector_back, log_sector_read, log_sector_once}
use Rattle.log_record.proofs.laws.what_is_written_reads_back.Goals as goal

storable : (x : LogSector) → FillsItsFields x → IsStorable x
storable x h = record { seq = h.0; op = h.1; part = h.2; parts = h.3; used = h.4; body = h.5 }

pub returns-clause-back : goal.returns-clause-back
returns-clause-back c slot x h = log_sector_back slot x (storable x h)

pub returns-clause-read : goal.returns-clause-read
returns-clause-read c = log_sector_read

pub returns-clause-once : goal.returns-clause-once
returns-clause-once c slot block x y h g = log_sector_once slot block x y (storable x h) (storable y g)
