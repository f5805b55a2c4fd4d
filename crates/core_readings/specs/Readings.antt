-- What a log reads as beside its journal: records that are in place, and behind them those that the theorem on sectors is to replay.
use Rattle.std.specs.Prelude.{ℕ, List}
use Rattle.frang_base.specs.declared.change.Redo.{Redo}
use Rattle.disk_definitions.specs.Logs.{log_end, log_records}
use Rattle.ring_definitions.specs.RingSteps.{IsGoodLog}
use Rattle.ring_definitions.specs.Rings.{Ring}
use Rattle.sector_world.specs.Kinds.{Good}
use Rattle.sector_world.specs.World.{World}
use Rattle.core_world.specs.Journals.{AreRecords, IsCounted, Journal, sector_log}
use Rattle.core_world.specs.Readings.{IsReading, ReadsAs}

-- of a good log beside its journal
abbrev pub JournalsReadAsRecords : Type 0
JournalsReadAsRecords =
    (w : World) (d : ℕ) (ring : Ring) (j : Journal) → Good w → IsGoodLog j.before j.log → IsCounted (sector_log w d) d ring (log_end j.log.slots) j.ends → AreRecords j (sector_log w d) →
    IsReading w d (log_records j.log.slots)

-- such a reading replays as what is to be replayed
abbrev pub ReadingsReplay : Type 0
ReadingsReplay = (w : World) (d : ℕ) (records : List Redo) → IsReading w d records → ReadsAs w d records
