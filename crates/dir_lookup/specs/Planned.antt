-- What the code's plan is of a plan over cached sectors: the sector that is needed, or the reply with the changes, the bytes and the freed sectors of its edits.
use Rattle.std.specs.Prelude.{ℕ, List, map}
use Rattle.frang_base.specs.declared.sector.Sector.{Sector}
use Rattle.meta_version.specs.declared.plan.Plan.{Plan as CodePlan}
use Rattle.meta_version.specs.declared.plan.Plan.TheVariants as plan
use Rattle.disk_definitions.specs.Held.{Segments}
use Rattle.disk_definitions.specs.Plans.{Plan, Lacks as LacksSegments, Clears, Finishes}
use Rattle.disk_definitions.specs.Written.{Cached, sectors_at_hand, changes_of, byte_writes, freed_sectors}
use Rattle.dir_lookup.specs.Reading.{Read, Lacks, Gives}

abbrev pub sector_by : ℕ → Sector
sector_by s = record { 0 = s }

abbrev pub write_by : ℕ × List ℕ → Sector × List ℕ
write_by w = (sector_by w.0, w.1)

abbrev pub planned : Cached → Segments → Read Plan → CodePlan
planned cached held (Lacks sector) = plan.Need (sector_by sector)
planned cached held (Gives LacksSegments) = plan.Segments
planned cached held (Gives (Clears k locks)) = plan.Clear k
planned cached held (Gives (Finishes f)) =
    plan.Done f.reply (changes_of (sectors_at_hand cached held) f.edits) (map write_by (byte_writes f.edits)) (map sector_by (freed_sectors f.edits))
