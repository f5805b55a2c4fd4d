-- What was witnessed of a run: its deeds, and beside them the failed puts that left the new sector, which no record tells. Where an outside tells its record
-- there are none of these, and the disk is that of the record.
use Rattle.std.specs.Prelude.{ℕ, List, [], ◌∷◌, map, Option, None}
use Rattle.std.specs.List.{filter_map}
use Rattle.frang_base.specs.declared.said.Said.{Said}
use Rattle.frang_outside.specs.declared.act.Taken.TheVariants.{Written, Late}
use Rattle.frang_outside.specs.Disk.{written}
use Rattle.sector_bytes.specs.Blocks.{Block}
use Rattle.sector_bytes.specs.Sectors.{Sectors}
use Rattle.core_definitions.specs.Effects.{Deed, Made, Says}
use Rattle.core_definitions.specs.Runs.{said_by}

-- lists of them have the newest last
pub data Witnessed : Type 0 where
  Acted : (deed : Deed) → Witnessed
  Broke : (sector : ℕ) (block : Block) → Witnessed

-- the line, where one was said
abbrev pub said_in : Witnessed → Option Said
said_in (Acted deed) = said_by deed
said_in (Broke sector block) = None

-- the lines said
abbrev pub saids_in : List Witnessed → List Said
saids_in witnessed = filter_map said_in witnessed

-- what one makes of the disk
abbrev pub disk_by : Sectors → Witnessed → Sectors
disk_by disk (Acted (Made put Written)) = written disk put.sector.0 put.bytes
disk_by disk (Acted (Made put Late)) = disk
disk_by disk (Acted (Says line)) = disk
disk_by disk (Broke sector block) = written disk sector block

-- the disk behind them all
abbrev pub disk_behind : Sectors → List Witnessed → Sectors
disk_behind disk [] = disk
disk_behind disk (one ∷ more) = disk_behind (disk_by disk one) more

-- those of a record that is told
abbrev pub told : List Deed → List Witnessed
told deeds = map (λ deed. Acted deed) deeds
