-- Writes in place that fail.
use Rattle.std.specs.Prelude.{◌≡◌, ℕ, Bool, Some}
use Rattle.frang_base.specs.declared.lock.LockId.{LockId}
use Rattle.sector_bytes.specs.SectorMaps.{value_at}
use Rattle.core_definitions.specs.Events.{Arrive, PutFailed}
use Rattle.core_definitions.specs.Flights as core
use Rattle.core_definitions.specs.Runs.{State as RunMoment, Makes, next}
use Rattle.sector_world.specs.Kinds.{Good}
use Rattle.sector_world.specs.World.{World}
use Rattle.core_world.specs.Events.{LeadsQuietly}
use Rattle.core_world.specs.Journals.{Journal}
use Rattle.core_world.specs.Steps.{IsReached, IsWorldOf}

-- a write in place that fails in time, and leaves the new sector or the old one
abbrev pub FailuresAreEvents : Type 0
FailuresAreEvents =
    (s : RunMoment) (w : World) (journal : ℕ → Journal) (ticket : ℕ) (flight : core.Flight) (lock : LockId) (new : Bool) → IsReached s → IsWorldOf s w journal → Good w →
    value_at s.core.flights ticket ≡ Some flight → flight.purpose ≡ core.InPlace lock → Makes s (Arrive ticket) (PutFailed new) → LeadsQuietly w (next s (Arrive ticket) (PutFailed new)) journal
