-- The journals that stand beside the next moment have the logs that the laws of logs name.
use Rattle.std.proofs.Common.{◌≡◌, ℕ, Bool, true, false, IsTrue, Option, Some, None, refl, sym, ap}
use Rattle.sector_bytes.specs.SectorMaps.{value_at}
use Rattle.core_definitions.specs.Cores.{stage}
use Rattle.core_definitions.specs.Events.{Event, Again, Commit, Arrive, Heard, Nothing, Got, GetFailed, Written, Late, PutFailed}
use Rattle.core_definitions.specs.Flights as core
use Rattle.core_definitions.specs.LineGuards.{is_server}
use Rattle.core_definitions.specs.Lines.{Stage, Asking, Fetching, Moving, Stopping, Growing, Clearing, Finishing}
use Rattle.core_definitions.specs.Runs.{State as RunMoment, Step, Event_}
use Rattle.sector_world.specs.World.{World}
use Rattle.core_world.specs.Journals.{Journal}
use Rattle.core_readings.specs.Logs.{log_journal}
use Rattle.core_log_steps.specs.Journals as logs
use Rattle.core_log_steps.specs.Journals.{CommitsNameThese, HaveSameLogs}
use Rattle.core_runs.specs.Journals.{arrived_journals, committed_journals, heard_journals, journals_after, journals_next, landed_journals, reclaimed_journals, written_journals}

module _ (names : CommitsNameThese) (s : RunMoment) (w : World) (journal : ℕ → Journal) (a : ℕ) (server : IsTrue (is_server a)) where
  landed_same : (c number : ℕ) (present : Bool) → landed_journals journal c number present a ≡ logs.landed_journals journal c number present a
  landed_same c number true = refl
  landed_same c number false = refl

  heard_same : (c number : ℕ) (present : Bool) (heard : Heard) → heard_journals journal c number present heard a ≡ logs.heard_journals journal c number present heard a
  heard_same c number present Written = landed_same c number present
  heard_same c number present (PutFailed true) = refl
  heard_same c number present (PutFailed false) = refl
  heard_same c number present Nothing = refl
  heard_same c number present (Got block) = refl
  heard_same c number present GetFailed = refl
  heard_same c number present Late = refl

  written_same : (flight : core.Flight) (heard : Heard) (p : core.Purpose) → written_journals journal flight heard p a ≡ logs.written_journals journal flight heard p a
  written_same flight heard (core.OfLog number) = heard_same flight.server number flight.present heard
  written_same flight heard (core.InPlace cover) = refl
  written_same flight heard core.OfRecovery = refl

  arrived_same : (heard : Heard) (o : Option core.Flight) → arrived_journals journal heard o a ≡ logs.arrived_journals journal heard o a
  arrived_same heard None = refl
  arrived_same heard (Some flight) = written_same flight heard flight.purpose

  reclaimed_same : (c : ℕ) (o : Option Stage) → reclaimed_journals journal c o a ≡ logs.reclaimed_journals journal c o a
  reclaimed_same c None = refl
  reclaimed_same c (Some (Asking need)) = refl
  reclaimed_same c (Some (Fetching needs)) = refl
  reclaimed_same c (Some Moving) = refl
  reclaimed_same c (Some Stopping) = refl
  reclaimed_same c (Some (Growing needs seen)) = refl
  reclaimed_same c (Some (Clearing block)) = refl
  reclaimed_same c (Some (Finishing outcome)) = refl

  committed_same : (c : ℕ) (heard : Heard) (o : Option Stage) → stage s.core c ≡ o → log_journal (committed_journals w journal c o a) ≡ log_journal (logs.journals_after s (Commit c) heard journal a)
  committed_same c heard None e = ap (λ o. log_journal (logs.committed_journals journal c o a)) (sym e)
  committed_same c heard (Some (Asking need)) e = ap (λ o. log_journal (logs.committed_journals journal c o a)) (sym e)
  committed_same c heard (Some (Fetching needs)) e = ap (λ o. log_journal (logs.committed_journals journal c o a)) (sym e)
  committed_same c heard (Some Moving) e = ap (λ o. log_journal (logs.committed_journals journal c o a)) (sym e)
  committed_same c heard (Some Stopping) e = ap (λ o. log_journal (logs.committed_journals journal c o a)) (sym e)
  committed_same c heard (Some (Growing needs seen)) e = ap (λ o. log_journal (logs.committed_journals journal c o a)) (sym e)
  committed_same c heard (Some (Clearing block)) e = ap (λ o. log_journal (logs.committed_journals journal c o a)) (sym e)
  committed_same c heard (Some (Finishing outcome)) e = names s c (w.last c) outcome heard journal e a server

  event_same : (event : Event) (heard : Heard) → log_journal (journals_after s w event heard journal a) ≡ log_journal (logs.journals_after s event heard journal a)
  event_same (Commit c) heard = committed_same c heard (stage s.core c) refl
  event_same (Again c) heard = ap log_journal (reclaimed_same c (stage s.core c))
  event_same (Arrive ticket) heard = ap log_journal (arrived_same heard (value_at s.core.flights ticket))
  event_same event heard = refl

  step_same : (v : RunMoment) (step : Step s v) → log_journal (journals_next s v w step journal a) ≡ log_journal (logs.journals_next s v step journal a)
  step_same v (Event_ event heard makes) = event_same event heard
  step_same v step = refl

pub same_logs : CommitsNameThese → (s v : RunMoment) (w : World) (journal : ℕ → Journal) (step : Step s v) → HaveSameLogs (journals_next s v w step journal) (logs.journals_next s v step journal)
same_logs names s v w journal step a server = step_same names s w journal a server v step
