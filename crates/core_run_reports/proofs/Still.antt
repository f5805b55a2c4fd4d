-- The journal of a dead server whose lease is over stays what it is.
use Rattle.std.proofs.Common.{◌≡◌, ◌≤◌, ◌<◌, ℕ, ◌==◌, ◌&&◌, ◌||◌, Bool, true, false, if◌then◌else◌, IsTrue, Option, Some, None, refl, sym, ap, ◌∙◌, subst, arith}
use Rattle.std.proofs.lemmas.Bool.{both_ways, eq-eqb, false≢true}
use Rattle.frang_base.specs.Functions.{put}
use Rattle.frang_base.proofs.Basics.{put_other}
use Rattle.lock_definitions.specs.Lease.{HasEnded}
use Rattle.disk_definitions.proofs.Listed.{Among}
use Rattle.disk_definitions.specs.Replay.{slots_of}
use Rattle.ring_definitions.specs.RingRuns as log
use Rattle.sector_bytes.specs.SectorMaps.{value_at}
use Rattle.core_commits.proofs.Reclaiming.{up_of}
use Rattle.core_definitions.specs.Cores.{stage}
use Rattle.core_definitions.specs.Effects.{MayArrive, MayPut}
use Rattle.core_definitions.specs.Events.{Event, Again, Commit, Answer, Arrive, Issue, Heard, Nothing, Got, GetFailed, Written, Late, PutFailed}
use Rattle.core_definitions.specs.Flights as core
use Rattle.core_definitions.specs.LineGuards.{is_server}
use Rattle.core_definitions.specs.Lines.{Stage, Asking, Fetching, Moving, Stopping, Growing, Clearing, Finishing}
use Rattle.core_definitions.specs.Runs.{State as RunMoment, Makes, Step, Event_}
use Rattle.core_definitions.specs.Scripts.{host_party}
use Rattle.core_definitions.specs.Servers as life
use Rattle.core_definitions.specs.Servers.{is_dead, is_off, is_up}
use Rattle.core_definitions.specs.Settings.{setting_of}
use Rattle.core_definitions.specs.WriteGuards.{is_worker}
use Rattle.core_facts.proofs.Phases.{mounted_dead_not, off_dead_not, up_mounted}
use Rattle.core_facts.proofs.Reading.{flight_at}
use Rattle.core_facts.specs.Stamps.{StampsAreWithinLeases}
use Rattle.core_laws.proofs.Membership.{in_contains}
use Rattle.core_laws.proofs.Resting.{server_no_host}
use Rattle.core_lives.proofs.Mounting.{mount_off}
use Rattle.core_lives.specs.Idle.{begins_mount}
use Rattle.core_world.specs.Journals.{Journal, journal_at, with_event, with_event_of}
use Rattle.core_world.specs.Steps.{IsReached}
use Rattle.core_writes.specs.Issues.{issues_log}
use Rattle.core_runs.specs.Journals.{arrived_journals, committed_journals, journals_after, journals_next, landed_journals, reclaimed_journals, written_journals}
use Rattle.sector_world.specs.World.{World}

off_dead : (p : life.Phase) → IsTrue (is_off p) → IsTrue (is_dead p) → ⊥
off_dead p off dead = both_ways (is_dead p) (off_dead_not p off) dead

up_dead : (p : life.Phase) → IsTrue (is_up p) → IsTrue (is_dead p) → ⊥
up_dead p up dead = both_ways (is_dead p) (mounted_dead_not p (up_mounted p up)) dead

module _ (within : StampsAreWithinLeases) (s : RunMoment) (r : IsReached s) (w : World) (journal : ℕ → Journal) (a : ℕ) (server : IsTrue (is_server a)) (dead : IsTrue (is_dead (s.core.servers a).phase))
    (over : HasEnded s.core.now (s.core.servers a).expiry) where
  -- who is up isn't it
  apart_up : (c : ℕ) → IsTrue (is_up (s.core.servers c).phase) → a ≡ c → ⊥
  apart_up c up e = up_dead (s.core.servers a).phase (subst (λ n. IsTrue (is_up (s.core.servers n).phase)) (sym e) up) dead

  apart_staged : (c : ℕ) (at : Stage) → stage s.core c ≡ Some at → a ≡ c → ⊥
  apart_staged c at e = apart_up c (up_of s.core.setting s.core.locks c (s.core.servers c) at e)

  apart_worker : (c : ℕ) → IsTrue (is_worker s.core c) → a ≡ c → ⊥
  apart_worker c worker e = go (is_server a) (is_up (s.core.servers a).phase) (a == host_party) refl (server_no_host a server) (subst (λ n. IsTrue (is_worker s.core n)) (sym e) worker)
    where
      go : (x y z : Bool) → is_up (s.core.servers a).phase ≡ y → z ≡ false → IsTrue ((x && y) || z) → ⊥
      go true true z up none h = up_dead (s.core.servers a).phase up dead
      go true false z up none h = false≢true (sym none ∙ h)
      go false y z up none h = false≢true (sym none ∙ h)

  other_put : (c : ℕ) (new : Journal) → (a ≡ c → ⊥) → put journal c new a ≡ journal a
  other_put c new apart = put_other journal c new a apart

  committed_still : (c : ℕ) (o : Option Stage) → stage s.core c ≡ o → committed_journals w journal c o a ≡ journal a
  committed_still c None e = refl
  committed_still c (Some (Asking need)) e = refl
  committed_still c (Some (Fetching needs)) e = refl
  committed_still c (Some Moving) e = refl
  committed_still c (Some Stopping) e = refl
  committed_still c (Some (Growing needs seen)) e = refl
  committed_still c (Some (Clearing block)) e = refl
  committed_still c (Some (Finishing outcome)) e = other_put c _ (apart_staged c (Finishing outcome) e)

  reclaimed_still : (c : ℕ) (o : Option Stage) → stage s.core c ≡ o → reclaimed_journals journal c o a ≡ journal a
  reclaimed_still c None e = refl
  reclaimed_still c (Some (Asking need)) e = refl
  reclaimed_still c (Some (Fetching needs)) e = refl
  reclaimed_still c (Some Moving) e = refl
  reclaimed_still c (Some Stopping) e = refl
  reclaimed_still c (Some (Growing needs seen)) e = refl
  reclaimed_still c (Some (Clearing block)) e = refl
  reclaimed_still c (Some (Finishing outcome)) e = other_put c (with_event (journal c) log.GiveUp) (apart_staged c (Finishing outcome) e)

  answered_still : (c : ℕ) → Makes s (Answer c) Nothing → (b : Bool) → begins_mount s.core c ≡ b → (if b then put journal c (journal_at (slots_of s.disk c)) else journal) a ≡ journal a
  answered_still c m true e =
      other_put c (journal_at (slots_of s.disk c)) (λ i. off_dead (s.core.servers a).phase (subst (λ n. IsTrue (is_off (s.core.servers n).phase)) (sym i) (mount_off s c m e)) dead)
  answered_still c m false e = refl

  issued_still : (c : ℕ) → IsTrue (is_worker s.core c) → (b : Bool) → (if b then with_event_of journal c log.Issue else journal) a ≡ journal a
  issued_still c worker true = other_put c (with_event (journal c) log.Issue) (apart_worker c worker)
  issued_still c worker false = refl

  -- a write that arrives in time isn't its
  apart_early : (ticket : ℕ) (flight : core.Flight) → value_at s.core.flights ticket ≡ Some flight → s.core.now ≤ flight.stamp → a ≡ flight.server → ⊥
  apart_early ticket flight at early e = late s.core.now flight.stamp (s.core.servers a).expiry early stamp over
    where
      found : (one : ℕ × core.Flight) × Among one s.core.flights × (one.1 ≡ flight)
      found = flight_at s.core.flights ticket flight at

      no_host : found.0.1.server ≡ host_party → ⊥
      no_host h = false≢true (sym (server_no_host a server) ∙ eq-eqb a host_party (e ∙ ap (λ (f : core.Flight). f.server) (sym found.2) ∙ h))

      held : found.0.1.stamp ≤ (s.core.servers found.0.1.server).expiry
      held = within (setting_of r.script r.segments r.number) r.disk s r.run found.0 (in_contains s.core.flights found.0 found.1) no_host

      stamp : flight.stamp ≤ (s.core.servers a).expiry
      stamp =
          subst (λ n. flight.stamp ≤ (s.core.servers n).expiry) (sym e)
          (subst (λ (f : core.Flight). f.stamp ≤ (s.core.servers f.server).expiry) found.2 held)

      late : (n t l : ℕ) → n ≤ t → t ≤ l → l < n → ⊥
      late n t l h i k = omega (arith, h, i, k)

  landed_still : (c number : ℕ) (present : Bool) → (a ≡ c → ⊥) → landed_journals journal c number present a ≡ journal a
  landed_still c number false apart = other_put c (with_event (journal c) (log.Arrive number)) apart
  landed_still c number true apart =
      put_other (with_event_of journal c (log.Arrive number)) c (with_event (with_event_of journal c (log.Arrive number) c) (log.Acknowledge number)) a apart
      ∙ other_put c (with_event (journal c) (log.Arrive number)) apart

  written_still : (ticket : ℕ) (flight : core.Flight) → value_at s.core.flights ticket ≡ Some flight → (heard : Heard) → MayPut s.core.now flight heard → (p : core.Purpose) →
      written_journals journal flight heard p a ≡ journal a
  written_still ticket flight at Written may (core.OfLog number) = landed_still flight.server number flight.present (apart_early ticket flight at may)
  written_still ticket flight at (PutFailed true) may (core.OfLog number) =
      other_put flight.server (with_event (journal flight.server) (log.Arrive number)) (apart_early ticket flight at may)
  written_still ticket flight at (PutFailed false) may (core.OfLog number) = refl
  written_still ticket flight at Late may (core.OfLog number) = refl
  written_still ticket flight at Nothing may (core.OfLog number) = refl
  written_still ticket flight at (Got block) may (core.OfLog number) = refl
  written_still ticket flight at GetFailed may (core.OfLog number) = refl
  written_still ticket flight at heard may (core.InPlace cover) = refl
  written_still ticket flight at heard may core.OfRecovery = refl

  arrived_still : (ticket : ℕ) (heard : Heard) (o : Option core.Flight) → value_at s.core.flights ticket ≡ o → MayArrive s.core.now o heard → arrived_journals journal heard o a ≡ journal a
  arrived_still ticket heard None e may = refl
  arrived_still ticket heard (Some flight) e may = written_still ticket flight e heard may flight.purpose

  event_still : (event : Event) (heard : Heard) → Makes s event heard → journals_after s w event heard journal a ≡ journal a
  event_still (Commit c) heard m = committed_still c (stage s.core c) refl
  event_still (Again c) heard m = reclaimed_still c (stage s.core c) refl
  event_still (Answer c) heard m = answered_still c (subst (λ h. Makes s (Answer c) h) m.hears m) (begins_mount s.core c) refl
  event_still (Issue c sector) heard m = issued_still c m.can.can.issuable.who (issues_log s.core c sector)
  event_still (Arrive ticket) heard m = arrived_still ticket heard (value_at s.core.flights ticket) refl m.hears
  event_still event heard m = refl

  pub still : (v : RunMoment) (step : Step s v) → journals_next s v w step journal a ≡ journal a
  still v (Event_ event heard makes) = event_still event heard makes
  still v step = refl
