-- Writes of a server's own log that are issued.
use Rattle.std.specs.Prelude.{◌≡◌, ℕ, true, []}
use Rattle.ring_definitions.specs.RingRuns as log
use Rattle.core_definitions.specs.Events.{Issue, Nothing}
use Rattle.core_definitions.specs.Runs.{State as RunMoment, Makes, next}
use Rattle.sector_world.specs.World.{World}
use Rattle.core_world.specs.Beside.{AreEnds, AreOpen}
use Rattle.core_world.specs.Journals.{Journal, with_event_of}
use Rattle.core_world.specs.Steps.{IsReached, IsWorldOf}
use Rattle.core_writes.specs.Issues.{issues_log}
use Rattle.core_log_writes.specs.LogWrites.{LeadsBy}

-- one is none: its sector is on its way in the journal
abbrev pub LogIssuesGoOn : Type 0
LogIssuesGoOn =
    (s : RunMoment) (w : World) (journal : ℕ → Journal) (a sector : ℕ) → IsReached s → IsWorldOf s w journal → AreEnds s.core.servers w journal →
    AreOpen s.core.servers s.core.now s.disk journal → Makes s (Issue a sector) Nothing →
    issues_log s.core a sector ≡ true → LeadsBy w [] (next s (Issue a sector) Nothing) (with_event_of journal a log.Issue)
