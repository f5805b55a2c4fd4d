-- Which journals stand beside the next moment: those that the laws of the events name.
use Rattle.std.specs.Prelude.{ℕ, Bool, true, false, if◌then◌else◌, Option, Some, None}
use Rattle.frang_base.specs.Functions.{put}
use Rattle.ring_definitions.specs.RingRuns as log
use Rattle.disk_definitions.specs.Replay.{slots_of}
use Rattle.sector_bytes.specs.SectorMaps.{value_at}
use Rattle.core_definitions.specs.Cores.{stage}
use Rattle.core_definitions.specs.Events.{Event, Again, Answer, Arrive, Commit, Heard, Issue, PutFailed, Written}
use Rattle.core_definitions.specs.Flights as core
use Rattle.core_definitions.specs.Lines.{Finishing, Stage}
use Rattle.core_definitions.specs.Runs.{State as RunMoment, Step, Event_}
use Rattle.sector_world.specs.World.{World}
use Rattle.core_world.specs.Journals.{Journal, journal_at, with_event_of}
use Rattle.core_lives.specs.Idle.{begins_mount}
use Rattle.core_line_steps.specs.Marks.{journal_done}
use Rattle.core_writes.specs.Issues.{issues_log}

-- behind a Commit its server's has the record, where there is one, and the operation ends at the last number
abbrev pub committed_journals : World → (ℕ → Journal) → ℕ → Option Stage → ℕ → Journal
committed_journals w journal a (Some (Finishing outcome)) = put journal a (journal_done (w.last a) outcome.redo (journal a))
committed_journals w journal a at = journal

-- behind an Again the ring has given up its oldest records, where it needed room
abbrev pub reclaimed_journals : (ℕ → Journal) → ℕ → Option Stage → ℕ → Journal
reclaimed_journals journal a (Some (Finishing outcome)) = with_event_of journal a log.GiveUp
reclaimed_journals journal a at = journal

-- behind an arrival in time of a number of a server's log it stands in its slot, and is acknowledged where the server still is in the mount that issued it
abbrev pub landed_journals : (ℕ → Journal) → ℕ → ℕ → Bool → ℕ → Journal
landed_journals journal a number true = with_event_of (with_event_of journal a (log.Arrive number)) a (log.Acknowledge number)
landed_journals journal a number false = with_event_of journal a (log.Arrive number)

-- by what is heard: what is late, or leaves the old sector, leaves the log
abbrev pub heard_journals : (ℕ → Journal) → ℕ → ℕ → Bool → Heard → ℕ → Journal
heard_journals journal a number present Written = landed_journals journal a number present
heard_journals journal a number present (PutFailed true) = with_event_of journal a (log.Arrive number)
heard_journals journal a number present heard = journal

abbrev pub written_journals : (ℕ → Journal) → core.Flight → Heard → core.Purpose → ℕ → Journal
written_journals journal flight heard (core.OfLog number) = heard_journals journal flight.server number flight.present heard
written_journals journal flight heard purpose = journal

abbrev pub arrived_journals : (ℕ → Journal) → Heard → Option core.Flight → ℕ → Journal
arrived_journals journal heard None = journal
arrived_journals journal heard (Some flight) = written_journals journal flight heard flight.purpose

-- behind an event
abbrev pub journals_after : RunMoment → World → Event → Heard → (ℕ → Journal) → ℕ → Journal
journals_after s w (Again a) heard journal = reclaimed_journals journal a (stage s.core a)
journals_after s w (Commit a) heard journal = committed_journals w journal a (stage s.core a)
journals_after s w (Answer a) heard journal = if begins_mount s.core a then put journal a (journal_at (slots_of s.disk a)) else journal
journals_after s w (Issue a sector) heard journal = if issues_log s.core a sector then with_event_of journal a log.Issue else journal
journals_after s w (Arrive ticket) heard journal = arrived_journals journal heard (value_at s.core.flights ticket)
journals_after s w event heard journal = journal

-- behind a step
abbrev pub journals_next : (s v : RunMoment) → World → Step s v → (ℕ → Journal) → ℕ → Journal
journals_next s v w (Event_ event heard makes) journal = journals_after s w event heard journal
journals_next s v w step journal = journal
