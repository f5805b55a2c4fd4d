-- Writes of a replay that arrive in time.
use Rattle.std.specs.Prelude.{◌≡◌, ℕ, true, false, IsTrue, Some}
use Rattle.sector_bytes.specs.SectorMaps.{value_at}
use Rattle.core_definitions.specs.Events.{Arrive, Written}
use Rattle.core_definitions.specs.Flights as core
use Rattle.core_definitions.specs.Recoveries.{Recovery}
use Rattle.core_definitions.specs.Runs.{State as RunMoment, Makes, next}
use Rattle.sector_world.specs.Kinds.{Good}
use Rattle.sector_world.specs.World.{World, has_version}
use Rattle.core_world.specs.Events.{LeadsQuietly}
use Rattle.core_world.specs.Journals.{Journal}
use Rattle.core_world.specs.Steps.{IsReached, IsWorldOf}
use Rattle.core_world.specs.Ties.{IsRescueOf, is_log_sector, is_working}

-- one of a recovery in no log, whether its server goes on with the recovery or can't end it, is stalled or doomed, or is dead since
abbrev pub RescuesArrive : Type 0
RescuesArrive =
    (s : RunMoment) (w : World) (journal : ℕ → Journal) (ticket : ℕ) (flight : core.Flight) → IsReached s → IsWorldOf s w journal → Good w → value_at s.core.flights ticket ≡ Some flight →
    flight.purpose ≡ core.OfRecovery → is_log_sector s.core.setting.segments flight.sector ≡ false → Makes s (Arrive ticket) Written →
    LeadsQuietly w (next s (Arrive ticket) Written) journal

-- ---- what it rests on

-- its sector has a version still, and the recovery that it is of, where its server is at work and no call of it failed, is the world's
pub record IsOfWorld (s : RunMoment) (w : World) (flight : core.Flight) : Type 0 where
  pub versioned : has_version w flight.sector ≡ true
  pub going : IsTrue (is_working s.core.servers flight.server) → (s.core.servers flight.server).failed ≡ false → (recovery : Recovery) → (s.core.servers flight.server).recovery ≡ Some recovery →
      IsRescueOf flight.server recovery w.rescue

-- so it is of each that is in time
abbrev pub RescuesAreOfWorlds : Type 0
RescuesAreOfWorlds =
    (s : RunMoment) (w : World) (journal : ℕ → Journal) (ticket : ℕ) (flight : core.Flight) → IsReached s → IsWorldOf s w journal → Good w → value_at s.core.flights ticket ≡ Some flight →
    flight.purpose ≡ core.OfRecovery → is_log_sector s.core.setting.segments flight.sector ≡ false → Makes s (Arrive ticket) Written → IsOfWorld s w flight
