-- What a step leaves of a journal: all but the slots and the ring, whose acknowledged numbers don't fall; but for the journal of a server that commits, and of one that mounts.
use Rattle.std.proofs.Common.{◌≤◌, ◌+◌, ℕ, Bool, true, false, IsTrue, List, [], ◌∷◌, Option, Some, None, if◌then◌else◌, nat_lt, le_refl, refl, sym, ◌∙◌, subst, arith}
use Rattle.std.specs.List.{slice_set}
use Rattle.std.proofs.lemmas.Bool.{false≢true}
use Rattle.frang_base.proofs.Basics.{at_put}
use Rattle.ring_definitions.specs.RingRuns.{LogEvent}
use Rattle.ring_definitions.specs.RingRuns as log
use Rattle.ring_definitions.specs.Rings.{Ring, acked, passed}
use Rattle.sector_bytes.specs.SectorMaps.{value_at}
use Rattle.core_definitions.specs.Cores.{stage}
use Rattle.core_definitions.specs.Events.{Event, Again, Commit, Answer, Issue, Arrive, Heard, Nothing, Got, GetFailed, Written, Late, PutFailed}
use Rattle.core_definitions.specs.Flights as core
use Rattle.core_definitions.specs.Lines.{Stage, Asking, Fetching, Moving, Stopping, Growing, Clearing, Finishing}
use Rattle.core_definitions.specs.Runs.{State as RunMoment}
use Rattle.sector_world.specs.World.{World}
use Rattle.core_world.specs.Journals.{Journal, with_event, with_event_of}
use Rattle.core_writes.specs.Issues.{issues_log}
use Rattle.core_log_marks.specs.Steps.{IsSameAccount}
use Rattle.core_runs.specs.Journals.{arrived_journals, heard_journals, journals_after, landed_journals, reclaimed_journals, written_journals}

pub record IsKept (j k : Journal) : Type 0 where
  pub account : IsSameAccount j k
  pub reached : j.log.ring.reached ≤ k.log.ring.reached

pub kept_same : (j : Journal) → IsKept j j
kept_same j = record { account = record { before = refl; placed = refl; ends = refl }; reached = le_refl j.log.ring.reached }

le_on : (n m k : ℕ) → n ≤ m → m ≤ k → n ≤ k
le_on n m k h i = omega (arith, h, i)

kept_on : (j k l : Journal) → IsKept j k → IsKept k l → IsKept j l
kept_on j k l x y = record {
  account = record { before = y.account.before ∙ x.account.before; placed = y.account.placed ∙ x.account.placed; ends = y.account.ends ∙ x.account.ends };
  reached = le_on j.log.ring.reached k.log.ring.reached l.log.ring.reached x.reached y.reached;
}

-- ---- what happens to a log

-- nothing is appended
abbrev is_plain : LogEvent → Bool
is_plain (log.Append redo) = false
is_plain event = true

passed_more : (r : Ring) (n : ℕ) (above : List Bool) → n ≤ (passed r n above).reached
passed_more r n [] = le_refl n
passed_more r n (true ∷ above) = le_on n (n + 1) (passed r (n + 1) above).reached (one n) (passed_more r (n + 1) above)
  where
    one : (n : ℕ) → n ≤ n + 1
    one n = omega arith
passed_more r n (false ∷ above) = le_refl n

acked_more : (r : Ring) (number : ℕ) → r.reached ≤ (acked r number).reached
acked_more r number = go (nat_lt r.reached number) (passed r r.reached (slice_set r.above _ true)) (passed_more r r.reached (slice_set r.above _ true))
  where
    go : (b : Bool) (p : Ring) → r.reached ≤ p.reached → r.reached ≤ (if b then p else r).reached
    go true p h = h
    go false p h = le_refl r.reached

kept_event : (j : Journal) (event : LogEvent) → IsTrue (is_plain event) → IsKept j (with_event j event)
kept_event j (log.Append redo) plain = absurd (false≢true plain)
kept_event j log.Issue plain = record { account = record { before = refl; placed = refl; ends = refl }; reached = le_refl j.log.ring.reached }
kept_event j (log.Arrive number) plain = record { account = record { before = refl; placed = refl; ends = refl }; reached = le_refl j.log.ring.reached }
kept_event j (log.Acknowledge number) plain = record { account = record { before = refl; placed = refl; ends = refl }; reached = acked_more j.log.ring number }
kept_event j log.GiveUp plain = record { account = record { before = refl; placed = refl; ends = refl }; reached = le_refl j.log.ring.reached }

module _ (a : ℕ) where
  -- of a server's
  happens : (journal : ℕ → Journal) (c : ℕ) (event : LogEvent) → IsTrue (is_plain event) → IsKept (journal a) (with_event_of journal c event a)
  happens journal c event plain =
      at_put (λ k. IsKept (journal a) k) journal c (with_event (journal c) event) a (λ e. subst (λ n. IsKept (journal n) (with_event (journal c) event)) (sym e) (kept_event (journal c) event plain))
      (λ n. kept_same (journal a))

  landed : (journal : ℕ → Journal) (c number : ℕ) (present : Bool) → IsKept (journal a) (landed_journals journal c number present a)
  landed journal c number false = happens journal c (log.Arrive number) refl
  landed journal c number true =
      let middle : ℕ → Journal = with_event_of journal c (log.Arrive number) in
      kept_on (journal a) (middle a) (with_event_of middle c (log.Acknowledge number) a) (happens journal c (log.Arrive number) refl) (happens middle c (log.Acknowledge number) refl)

  heard_kept : (journal : ℕ → Journal) (c number : ℕ) (present : Bool) (heard : Heard) → IsKept (journal a) (heard_journals journal c number present heard a)
  heard_kept journal c number present Written = landed journal c number present
  heard_kept journal c number present (PutFailed true) = happens journal c (log.Arrive number) refl
  heard_kept journal c number present (PutFailed false) = kept_same (journal a)
  heard_kept journal c number present Nothing = kept_same (journal a)
  heard_kept journal c number present (Got block) = kept_same (journal a)
  heard_kept journal c number present GetFailed = kept_same (journal a)
  heard_kept journal c number present Late = kept_same (journal a)

  written_kept : (journal : ℕ → Journal) (flight : core.Flight) (heard : Heard) (p : core.Purpose) → IsKept (journal a) (written_journals journal flight heard p a)
  written_kept journal flight heard (core.OfLog number) = heard_kept journal flight.server number flight.present heard
  written_kept journal flight heard (core.InPlace cover) = kept_same (journal a)
  written_kept journal flight heard core.OfRecovery = kept_same (journal a)

  arrived_kept : (journal : ℕ → Journal) (heard : Heard) (o : Option core.Flight) → IsKept (journal a) (arrived_journals journal heard o a)
  arrived_kept journal heard None = kept_same (journal a)
  arrived_kept journal heard (Some flight) = written_kept journal flight heard flight.purpose

  reclaimed_kept : (journal : ℕ → Journal) (c : ℕ) (o : Option Stage) → IsKept (journal a) (reclaimed_journals journal c o a)
  reclaimed_kept journal c None = kept_same (journal a)
  reclaimed_kept journal c (Some (Asking need)) = kept_same (journal a)
  reclaimed_kept journal c (Some (Fetching needs)) = kept_same (journal a)
  reclaimed_kept journal c (Some Moving) = kept_same (journal a)
  reclaimed_kept journal c (Some Stopping) = kept_same (journal a)
  reclaimed_kept journal c (Some (Growing needs seen)) = kept_same (journal a)
  reclaimed_kept journal c (Some (Clearing block)) = kept_same (journal a)
  reclaimed_kept journal c (Some (Finishing outcome)) = happens journal c log.GiveUp refl

  issued_kept : (journal : ℕ → Journal) (c : ℕ) (b : Bool) → IsKept (journal a) ((if b then with_event_of journal c log.Issue else journal) a)
  issued_kept journal c true = happens journal c log.Issue refl
  issued_kept journal c false = kept_same (journal a)

  -- ---- of each event

  -- nobody commits, and no line is answered
  abbrev pub is_aside : Event → Bool
  is_aside (Commit c) = false
  is_aside (Answer c) = false
  is_aside event = true

  pub event_keeps : (s : RunMoment) (w : World) (event : Event) (heard : Heard) (journal : ℕ → Journal) → IsTrue (is_aside event) → IsKept (journal a) (journals_after s w event heard journal a)
  event_keeps s w (Commit c) heard journal aside = absurd (false≢true aside)
  event_keeps s w (Answer c) heard journal aside = absurd (false≢true aside)
  event_keeps s w (Again c) heard journal aside = reclaimed_kept journal c (stage s.core c)
  event_keeps s w (Issue c sector) heard journal aside = issued_kept journal c (issues_log s.core c sector)
  event_keeps s w (Arrive ticket) heard journal aside = arrived_kept journal heard (value_at s.core.flights ticket)
  event_keeps s w event heard journal aside = kept_same (journal a)
