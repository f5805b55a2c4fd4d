-- What an arrival of a sector with a version rests on is kept by every event of the theorem on sectors, where no log is known less.
use Rattle.std.specs.Prelude.{ℕ, Bool}
use Rattle.frang_base.specs.declared.lock.LockId.{LockId}
use Rattle.sector_bytes.specs.Sectors.{Sectors}
use Rattle.sector_world.specs.Kinds.{Good}
use Rattle.sector_world.specs.Steps.{Can, Event, after}
use Rattle.sector_world.specs.World.{World}
use Rattle.core_world.specs.Beside.{KnowsMore}
use Rattle.core_world.specs.Events.{first_world}
use Rattle.core_writes.specs.Arrivals.{AreAcknowledged}

abbrev pub AcknowledgedStay : Type 0
AcknowledgedStay = (w : World) (event : Event) → Can w event → KnowsMore w event → Good w → AreAcknowledged w → AreAcknowledged (after w event)

-- at first nothing is in flight
abbrev pub AcknowledgedFirst : Type 0
AcknowledgedFirst = (disk : Sectors) (logged of_files : ℕ → Bool) (home : ℕ → LockId) → AreAcknowledged (first_world disk logged of_files home)
