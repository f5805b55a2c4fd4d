-- Writes in place that arrive in time.
use Rattle.std.specs.Prelude.{◌≡◌, ◌≤◌, ℕ, Some}
use Rattle.frang_base.specs.declared.lock.LockId.{LockId}
use Rattle.sector_bytes.specs.SectorMaps.{value_at}
use Rattle.core_definitions.specs.Events.{Arrive, Written}
use Rattle.core_definitions.specs.Flights as core
use Rattle.core_definitions.specs.Runs.{State as RunMoment, Makes, next}
use Rattle.sector_world.specs.Kinds.{Good}
use Rattle.sector_world.specs.World.{World, Dirty, Flight}
use Rattle.core_world.specs.Events.{LeadsQuietly}
use Rattle.core_world.specs.Journals.{Journal}
use Rattle.core_world.specs.Steps.{IsReached, IsWorldOf}

-- where a server has a sector dirty with the block that its own write has in flight, in time, its log is acknowledged up to the mark: so it was when the write was issued, and a sector
-- that is changed has another block
abbrev pub AreAcknowledged : World → Type 0
AreAcknowledged w = (s : ℕ) (f : Flight) (m : ℕ) → w.flight s ≡ Some f → w.now ≤ f.stamp → f.by ≡ f.behalf → w.slot f.by s ≡ Dirty f.block m → m ≤ w.acked f.by

-- a write in place that arrives in time, whether its server still is in the mount that issued it or is dead since
abbrev pub ArrivalsAreEvents : Type 0
ArrivalsAreEvents =
    (s : RunMoment) (w : World) (journal : ℕ → Journal) (ticket : ℕ) (flight : core.Flight) (lock : LockId) → IsReached s → IsWorldOf s w journal → Good w → AreAcknowledged w →
    value_at s.core.flights ticket ≡ Some flight → flight.purpose ≡ core.InPlace lock → Makes s (Arrive ticket) Written → LeadsQuietly w (next s (Arrive ticket) Written) journal
