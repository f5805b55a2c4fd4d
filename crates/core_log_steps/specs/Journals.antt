-- Which journals stand beside the next moment: at each step those that the laws of steps name.
use Rattle.std.specs.Prelude.{◌≡◌, ℕ, Bool, true, false, if◌then◌else◌, IsTrue, Option, Some, None}
use Rattle.frang_base.specs.Functions.{put}
use Rattle.frang_base.specs.declared.change.Redo.{Redo}
use Rattle.disk_definitions.specs.Replay.{slots_of}
use Rattle.ring_definitions.specs.RingRuns as log
use Rattle.sector_bytes.specs.SectorMaps.{value_at}
use Rattle.core_definitions.specs.Cores.{stage}
use Rattle.core_definitions.specs.Events.{Event, Again, Answer, Arrive, Commit, Issue, Heard, PutFailed, Written}
use Rattle.core_definitions.specs.Flights as core
use Rattle.core_definitions.specs.LineGuards.{is_server}
use Rattle.core_definitions.specs.Lines.{Stage, Finishing}
use Rattle.core_definitions.specs.Plans as plans
use Rattle.core_definitions.specs.Runs.{State as RunMoment, Event_, Step}
use Rattle.core_world.specs.Journals.{Journal, journal_at, with_event_of}
use Rattle.core_lives.specs.Cleared.{is_shown}
use Rattle.core_lives.specs.Idle.{begins_mount}
use Rattle.core_lives.specs.Steps.{journals_behind}
use Rattle.core_line_steps.specs.Marks.{journal_done}
use Rattle.core_readings.specs.Logs.{log_journal}
use Rattle.core_writes.specs.Issues.{issues_log}

-- ---- of each event

-- a record is appended, where there is one
abbrev pub appended_to : (ℕ → Journal) → ℕ → Option Redo → ℕ → Journal
appended_to journal a None = journal
appended_to journal a (Some redo) = with_event_of journal a (log.Append redo)

-- behind a Commit
abbrev pub committed_journals : (ℕ → Journal) → ℕ → Option Stage → ℕ → Journal
committed_journals journal a (Some (Finishing outcome)) = appended_to journal a outcome.redo
committed_journals journal a at = journal

-- behind an Again: the ring gives up its oldest records, where it needs room
abbrev pub reclaimed_journals : (ℕ → Journal) → ℕ → Option Stage → ℕ → Journal
reclaimed_journals journal a (Some (Finishing outcome)) = with_event_of journal a log.GiveUp
reclaimed_journals journal a at = journal

-- behind an arrival in time of a number of a server's log: it stands in its slot, and is acknowledged where the server still is in the mount that issued it
abbrev pub landed_journals : (ℕ → Journal) → ℕ → ℕ → Bool → ℕ → Journal
landed_journals journal a number true = with_event_of (with_event_of journal a (log.Arrive number)) a (log.Acknowledge number)
landed_journals journal a number false = with_event_of journal a (log.Arrive number)

-- by what is heard of it: one that is late or leaves the old sector leaves the log as it is
abbrev pub heard_journals : (ℕ → Journal) → ℕ → ℕ → Bool → Heard → ℕ → Journal
heard_journals journal a number present Written = landed_journals journal a number present
heard_journals journal a number present (PutFailed true) = with_event_of journal a (log.Arrive number)
heard_journals journal a number present heard = journal

-- no other write is of its server's log
abbrev pub written_journals : (ℕ → Journal) → core.Flight → Heard → core.Purpose → ℕ → Journal
written_journals journal flight heard (core.OfLog number) = heard_journals journal flight.server number flight.present heard
written_journals journal flight heard purpose = journal

abbrev pub arrived_journals : (ℕ → Journal) → Heard → Option core.Flight → ℕ → Journal
arrived_journals journal heard None = journal
arrived_journals journal heard (Some flight) = written_journals journal flight heard flight.purpose

-- the five events that change a log: an Again that reclaims, a Commit, an answered mount, an Issue of the log and an arrival of it
abbrev pub journals_after : RunMoment → Event → Heard → (ℕ → Journal) → ℕ → Journal
journals_after s (Again a) heard journal = reclaimed_journals journal a (stage s.core a)
journals_after s (Commit a) heard journal = committed_journals journal a (stage s.core a)
journals_after s (Answer a) heard journal = if begins_mount s.core a then put journal a (journal_at (slots_of s.disk a)) else journal
journals_after s (Issue a sector) heard journal = if issues_log s.core a sector then with_event_of journal a log.Issue else journal
journals_after s (Arrive ticket) heard journal = arrived_journals journal heard (value_at s.core.flights ticket)
journals_after s event heard journal = journal

-- of each step
abbrev pub journals_next : (s v : RunMoment) → Step s v → (ℕ → Journal) → ℕ → Journal
journals_next s v (Event_ event heard makes) journal = journals_after s event heard journal
journals_next s v step journal = journal

-- ---- but for where operations end

-- of each server the same slots at its mount, and the same ring, slots, sectors on their way and records since
abbrev pub HaveSameLogs : (ℕ → Journal) → (ℕ → Journal) → Type 0
HaveSameLogs further journal = (a : ℕ) → IsTrue (is_server a) → log_journal (further a) ≡ log_journal (journal a)

-- ---- they are those that the laws of steps name

-- of locks and lives
abbrev pub LivesNameThese : Type 0
LivesNameThese =
    (s v : RunMoment) (step : Step s v) (journal : ℕ → Journal) → IsTrue (is_shown s v step) → (a : ℕ) → journals_behind s v step journal a ≡ journals_next s v step journal a

-- an Issue of a log, and any other
abbrev pub LogIssuesNameThese : Type 0
LogIssuesNameThese = (s : RunMoment) (a sector : ℕ) (heard : Heard) (journal : ℕ → Journal) → issues_log s.core a sector ≡ true → (b : ℕ) →
    with_event_of journal a log.Issue b ≡ journals_after s (Issue a sector) heard journal b

abbrev pub OtherIssuesNameThese : Type 0
OtherIssuesNameThese =
    (s : RunMoment) (a sector : ℕ) (heard : Heard) (journal : ℕ → Journal) → issues_log s.core a sector ≡ false → (b : ℕ) → journal b ≡ journals_after s (Issue a sector) heard journal b

-- an arrival of a number of a server's log, and any other
abbrev pub LogArrivalsNameThese : Type 0
LogArrivalsNameThese =
    (s : RunMoment) (ticket number : ℕ) (flight : core.Flight) (heard : Heard) (journal : ℕ → Journal) → value_at s.core.flights ticket ≡ Some flight → flight.purpose ≡ core.OfLog number → (b : ℕ) →
    heard_journals journal flight.server number flight.present heard b ≡ journals_after s (Arrive ticket) heard journal b

abbrev pub OtherArrivalsNameThese : Type 0
OtherArrivalsNameThese =
    (s : RunMoment) (ticket : ℕ) (flight : core.Flight) (heard : Heard) (journal : ℕ → Journal) → value_at s.core.flights ticket ≡ Some flight →
    ((number : ℕ) → flight.purpose ≡ core.OfLog number → ⊥) → (b : ℕ) → journal b ≡ journals_after s (Arrive ticket) heard journal b

-- a Commit, but for where its operation ends
abbrev pub CommitsNameThese : Type 0
CommitsNameThese =
    (s : RunMoment) (a before : ℕ) (outcome : plans.Outcome) (heard : Heard) (journal : ℕ → Journal) → stage s.core a ≡ Some (Finishing outcome) →
    HaveSameLogs (put journal a (journal_done before outcome.redo (journal a))) (journals_after s (Commit a) heard journal)

-- any other event leaves the journals
abbrev pub changes_logs : Event → Bool
changes_logs (Again a) = true
changes_logs (Commit a) = true
changes_logs (Answer a) = true
changes_logs (Issue a sector) = true
changes_logs (Arrive ticket) = true
changes_logs event = false

abbrev pub OtherEventsNameThese : Type 0
OtherEventsNameThese = (s : RunMoment) (event : Event) (heard : Heard) (journal : ℕ → Journal) → changes_logs event ≡ false → (a : ℕ) → journal a ≡ journals_after s event heard journal a

-- an Again that reclaims
abbrev pub ReclaimsNameThese : Type 0
ReclaimsNameThese = (s : RunMoment) (a : ℕ) (outcome : plans.Outcome) (heard : Heard) (journal : ℕ → Journal) → stage s.core a ≡ Some (Finishing outcome) → (b : ℕ) →
    with_event_of journal a log.GiveUp b ≡ journals_after s (Again a) heard journal b
