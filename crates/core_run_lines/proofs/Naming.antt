-- The journals that the step law over runs names are those of the law of logs, but for where operations end.
use Rattle.std.proofs.Common.{◌≡◌, ℕ, Bool, true, false, Option, Some, None, refl, sym, ap}
use Rattle.sector_bytes.specs.SectorMaps.{value_at}
use Rattle.core_definitions.specs.Cores.{stage}
use Rattle.core_definitions.specs.Events.{Event, Begin, Ask, Fetch, Again, Clear, Commit, Answer, Give, Issue, Doom, Resume, Arrive, Lose, Die, Renew, Tick, Recover, Load, Look, Finish, HostLine, Close, Read, Show, End, Heard, Nothing, Got, GetFailed, Written, Late, PutFailed}
use Rattle.core_definitions.specs.Flights as core
use Rattle.core_definitions.specs.Lines.{Stage, Asking, Fetching, Moving, Stopping, Growing, Clearing, Finishing}
use Rattle.core_definitions.specs.Runs.{State as RunMoment, Step, Event_, Enter, Hold, Flush, Relock, Note, Peek, PeekFails}
use Rattle.sector_world.specs.World.{World}
use Rattle.core_world.specs.Journals.{Journal}
use Rattle.core_readings.specs.Logs.{log_journal}
use Rattle.core_log_steps.specs.Journals as logs
use Rattle.core_log_steps.specs.Journals.{CommitsNameThese, HaveSameLogs}
use Rattle.core_runs.specs.Journals as runs

module _ (s : RunMoment) (w : World) (journal : ℕ → Journal) where
  -- ---- of lines

  commit_named : CommitsNameThese → (a : ℕ) (heard : Heard) (at : Option Stage) → stage s.core a ≡ at → HaveSameLogs (runs.committed_journals w journal a at) (logs.journals_after s (Commit a) heard journal)
  commit_named law a heard (Some (Finishing outcome)) e = law s a (w.last a) outcome heard journal e
  commit_named law a heard None e = λ b server. ap (λ o. log_journal (logs.committed_journals journal a o b)) (sym e)
  commit_named law a heard (Some (Asking need)) e = λ b server. ap (λ o. log_journal (logs.committed_journals journal a o b)) (sym e)
  commit_named law a heard (Some (Fetching needs)) e = λ b server. ap (λ o. log_journal (logs.committed_journals journal a o b)) (sym e)
  commit_named law a heard (Some Moving) e = λ b server. ap (λ o. log_journal (logs.committed_journals journal a o b)) (sym e)
  commit_named law a heard (Some Stopping) e = λ b server. ap (λ o. log_journal (logs.committed_journals journal a o b)) (sym e)
  commit_named law a heard (Some (Growing needs seen)) e = λ b server. ap (λ o. log_journal (logs.committed_journals journal a o b)) (sym e)
  commit_named law a heard (Some (Clearing block)) e = λ b server. ap (λ o. log_journal (logs.committed_journals journal a o b)) (sym e)

  reclaim_named : (a : ℕ) (at : Option Stage) → HaveSameLogs (runs.reclaimed_journals journal a at) (logs.reclaimed_journals journal a at)
  reclaim_named a (Some (Finishing outcome)) = λ b server. refl
  reclaim_named a None = λ b server. refl
  reclaim_named a (Some (Asking need)) = λ b server. refl
  reclaim_named a (Some (Fetching needs)) = λ b server. refl
  reclaim_named a (Some Moving) = λ b server. refl
  reclaim_named a (Some Stopping) = λ b server. refl
  reclaim_named a (Some (Growing needs seen)) = λ b server. refl
  reclaim_named a (Some (Clearing block)) = λ b server. refl

  -- ---- of arrivals

  landed_named : (a number : ℕ) (present : Bool) → HaveSameLogs (runs.landed_journals journal a number present) (logs.landed_journals journal a number present)
  landed_named a number true = λ b server. refl
  landed_named a number false = λ b server. refl

  heard_named : (a number : ℕ) (present : Bool) (heard : Heard) → HaveSameLogs (runs.heard_journals journal a number present heard) (logs.heard_journals journal a number present heard)
  heard_named a number present Written = landed_named a number present
  heard_named a number present (PutFailed true) = λ b server. refl
  heard_named a number present (PutFailed false) = λ b server. refl
  heard_named a number present Nothing = λ b server. refl
  heard_named a number present (Got block) = λ b server. refl
  heard_named a number present GetFailed = λ b server. refl
  heard_named a number present Late = λ b server. refl

  written_named : (flight : core.Flight) (heard : Heard) (purpose : core.Purpose) → HaveSameLogs (runs.written_journals journal flight heard purpose) (logs.written_journals journal flight heard purpose)
  written_named flight heard (core.OfLog number) = heard_named flight.server number flight.present heard
  written_named flight heard (core.InPlace cover) = λ b server. refl
  written_named flight heard core.OfRecovery = λ b server. refl

  arrived_named : (heard : Heard) (flight : Option core.Flight) → HaveSameLogs (runs.arrived_journals journal heard flight) (logs.arrived_journals journal heard flight)
  arrived_named heard None = λ b server. refl
  arrived_named heard (Some flight) = written_named flight heard flight.purpose

  -- ---- of each event

  after_named : CommitsNameThese → (event : Event) (heard : Heard) → HaveSameLogs (runs.journals_after s w event heard journal) (logs.journals_after s event heard journal)
  after_named law (Again a) heard = reclaim_named a (stage s.core a)
  after_named law (Commit a) heard = commit_named law a heard (stage s.core a) refl
  after_named law (Arrive ticket) heard = arrived_named heard (value_at s.core.flights ticket)
  after_named law (Answer a) heard = λ b server. refl
  after_named law (Issue a sector) heard = λ b server. refl
  after_named law (Begin a) heard = λ b server. refl
  after_named law (Ask a lock mode) heard = λ b server. refl
  after_named law (Fetch a sector) heard = λ b server. refl
  after_named law (Clear a block) heard = λ b server. refl
  after_named law (Give a lock) heard = λ b server. refl
  after_named law (Doom a) heard = λ b server. refl
  after_named law (Resume a) heard = λ b server. refl
  after_named law (Lose ticket) heard = λ b server. refl
  after_named law (Die a) heard = λ b server. refl
  after_named law (Renew a) heard = λ b server. refl
  after_named law Tick heard = λ b server. refl
  after_named law (Recover dead by) heard = λ b server. refl
  after_named law (Load by slot) heard = λ b server. refl
  after_named law (Look by sector) heard = λ b server. refl
  after_named law (Finish by) heard = λ b server. refl
  after_named law (HostLine number) heard = λ b server. refl
  after_named law (Close a) heard = λ b server. refl
  after_named law (Read sector) heard = λ b server. refl
  after_named law (Show place) heard = λ b server. refl
  after_named law End heard = λ b server. refl

  -- of each step
  pub same_logs : CommitsNameThese → (v : RunMoment) (step : Step s v) → HaveSameLogs (runs.journals_next s v w step journal) (logs.journals_next s v step journal)
  same_logs law v (Event_ event heard makes) = after_named law event heard
  same_logs law v (Enter a line can) = λ b server. refl
  same_logs law v (Hold a on may) = λ b server. refl
  same_logs law v (Flush a may) = λ b server. refl
  same_logs law v (Relock locks going are same wait) = λ b server. refl
  same_logs law v (Note line may) = λ b server. refl
  same_logs law v (Peek sector going) = λ b server. refl
  same_logs law v (PeekFails sector going) = λ b server. refl
