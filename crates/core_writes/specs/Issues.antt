-- Writes that are issued.
use Rattle.std.specs.Prelude.{◌≡◌, ℕ, Bool, true, false, Option, Some, None}
use Rattle.sector_bytes.specs.SectorMaps.{value_at}
use Rattle.core_definitions.specs.Cores.{Core, writes}
use Rattle.core_definitions.specs.Events.{Issue, Nothing}
use Rattle.core_definitions.specs.Flights.{Purpose, OfLog, InPlace, OfRecovery}
use Rattle.core_definitions.specs.Runs.{State as RunMoment, Makes, next}
use Rattle.core_definitions.specs.Writes.{Write}
use Rattle.sector_world.specs.Kinds.{Good}
use Rattle.sector_world.specs.World.{World}
use Rattle.core_world.specs.Events.{LeadsQuietly}
use Rattle.core_world.specs.Journals.{Journal}
use Rattle.core_world.specs.Steps.{IsReached, IsWorldOf}

-- a write of its server's log
abbrev pub is_log_purpose : Purpose → Bool
is_log_purpose (OfLog number) = true
is_log_purpose (InPlace cover) = false
is_log_purpose OfRecovery = false

abbrev pub is_log_write : Option Write → Bool
is_log_write None = false
is_log_write (Some write) = is_log_purpose write.purpose

-- what the server wants written there is of its log
abbrev pub issues_log : Core → ℕ → ℕ → Bool
issues_log c a sector = is_log_write (value_at (writes c a) sector)

-- an Issue in place, or of a recovery
abbrev pub IssuesAreEvents : Type 0
IssuesAreEvents =
    (s : RunMoment) (w : World) (journal : ℕ → Journal) (a sector : ℕ) → IsReached s → IsWorldOf s w journal → Good w → Makes s (Issue a sector) Nothing →
    issues_log s.core a sector ≡ false → LeadsQuietly w (next s (Issue a sector) Nothing) journal
