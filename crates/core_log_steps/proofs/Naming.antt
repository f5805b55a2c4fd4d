-- The journals of the next moment are those that the laws of steps name, and those that follow the case of a step.
use Rattle.std.proofs.Common.{◌≡◌, ℕ, Bool, true, false, ◌||◌, if◌then◌else◌, IsTrue, Option, Some, None, nat_eq, refl, sym, ap, ◌∙◌}
use Rattle.std.proofs.lemmas.Bool.{eqb-true, false≢true}
use Rattle.frang_base.specs.Functions.{put}
use Rattle.frang_base.specs.declared.change.Redo.{Redo}
use Rattle.frang_base.proofs.Basics.{put_same}
use Rattle.ring_definitions.specs.RingRuns.{LogEvent}
use Rattle.ring_definitions.specs.RingRuns as log
use Rattle.core_definitions.specs.Cores.{stage}
use Rattle.core_definitions.specs.Events.{Event, Begin, Ask, Fetch, Again, Clear, Commit, Answer, Give, Issue, Doom, Resume, Arrive, Lose, Die, Renew, Tick, Recover, Load, Look, Finish, HostLine, Close, Read, Show, End, Heard, Written, Late, PutFailed}
use Rattle.core_definitions.specs.Flights as core
use Rattle.core_definitions.specs.LineGuards.{is_grown, is_moved}
use Rattle.core_definitions.specs.Lines.{Stage, Asking, Fetching, Moving, Stopping, Growing, Clearing, Finishing}
use Rattle.core_definitions.specs.Runs.{State, Event_, Enter, Hold, Flush, Relock, Note, Peek, PeekFails}
use Rattle.core_journals.proofs.JournalSteps as logs
use Rattle.core_journals.proofs.Turning.{appended_journal, arrived_journal, issued_journal, landed_journal}
use Rattle.core_journals.specs.Journals as journals
use Rattle.core_lives.specs.Cleared.{is_shown_event}
use Rattle.core_lives.specs.Steps.{journals_behind_event}
use Rattle.core_line_steps.specs.Marks.{journal_done}
use Rattle.core_readings.specs.Logs.{log_journal}
use Rattle.core_world.specs.Journals.{Journal, with_event, with_event_of}
use Rattle.core_writes.specs.Issues.{is_log_purpose}
use Rattle.core_log_steps.specs.Journals.{CommitsNameThese, LivesNameThese, LogArrivalsNameThese, LogIssuesNameThese, OtherArrivalsNameThese, OtherEventsNameThese, OtherIssuesNameThese, ReclaimsNameThese, appended_to, arrived_journals, committed_journals, journals_after, landed_journals, reclaimed_journals, written_journals}

-- ---- at one server, and at others

-- the same either way
pub either : {X : Type 0} (b : Bool) (x : X) → (if b then x else x) ≡ x
either true x = refl
either false x = refl

pub named : (journal : ℕ → Journal) (c a : ℕ) (f : ℕ → journals.Journal → journals.Journal) (new : Journal) → f c (log_journal (journal c)) ≡ log_journal new →
    (if nat_eq a c then f a (log_journal (journal a)) else log_journal (journal a)) ≡ log_journal (put journal c new a)
named journal c a f new e = go (nat_eq a c) refl
  where
    go : (b : Bool) → nat_eq a c ≡ b → (if b then f a (log_journal (journal a)) else log_journal (journal a)) ≡ log_journal (if b then new else journal a)
    go true i = ap (λ n. f n (log_journal (journal n))) (eqb-true a c i) ∙ e
    go false i = refl

-- what happens to a log happens to that of its server
pub happens : (journal : ℕ → Journal) (c a : ℕ) (event : LogEvent) → (if nat_eq a c then logs.with_event (log_journal (journal a)) event else log_journal (journal a)) ≡ log_journal (with_event_of journal c event a)
happens journal c a event = named journal c a (λ n j. logs.with_event j event) (with_event (journal c) event) refl

-- one thing behind another
two_happen : (journal : ℕ → Journal) (c a : ℕ) (one two : LogEvent) →
    (if nat_eq a c then logs.with_event (logs.with_event (log_journal (journal a)) one) two else log_journal (journal a)) ≡ log_journal (with_event_of (with_event_of journal c one) c two a)
two_happen journal c a one two = go (nat_eq a c) refl
  where
    go : (b : Bool) → nat_eq a c ≡ b →
        (if b then logs.with_event (logs.with_event (log_journal (journal a)) one) two else log_journal (journal a)) ≡
        log_journal (if b then with_event (with_event_of journal c one c) two else (if b then with_event (journal c) one else journal a))
    go true i = ap (λ n. logs.with_event (logs.with_event (log_journal (journal n)) one) two) (eqb-true a c i) ∙ ap (λ x. log_journal (with_event x two)) (sym (put_same journal c (with_event (journal c) one)))
    go false i = refl

pub appended_named : (journal : ℕ → Journal) (c a : ℕ) (redo : Option Redo) → (if nat_eq a c then appended_journal redo (log_journal (journal a)) else log_journal (journal a)) ≡ log_journal (appended_to journal c redo a)
appended_named journal c a None = either (nat_eq a c) (log_journal (journal a))
appended_named journal c a (Some redo) = happens journal c a (log.Append redo)

pub issued_named : (journal : ℕ → Journal) (c a : ℕ) (p : core.Purpose) →
    (if nat_eq a c then issued_journal p (log_journal (journal a)) else log_journal (journal a)) ≡ log_journal ((if is_log_purpose p then with_event_of journal c log.Issue else journal) a)
issued_named journal c a (core.OfLog number) = happens journal c a log.Issue
issued_named journal c a (core.InPlace cover) = either (nat_eq a c) (log_journal (journal a))
issued_named journal c a core.OfRecovery = either (nat_eq a c) (log_journal (journal a))

-- ---- arrivals

-- one of the present mount of its server, or of an earlier one
abbrev pub journals_landed : (ℕ → Journal) → ℕ → Bool → core.Purpose → ℕ → Journal
journals_landed journal c present (core.OfLog number) = landed_journals journal c number present
journals_landed journal c present purpose = journal

pub landed_named : (journal : ℕ → Journal) (c a : ℕ) (p : core.Purpose) → (if nat_eq a c then landed_journal p (log_journal (journal a)) else log_journal (journal a)) ≡ log_journal (journals_landed journal c true p a)
landed_named journal c a (core.OfLog number) = two_happen journal c a (log.Arrive number) (log.Acknowledge number)
landed_named journal c a (core.InPlace cover) = either (nat_eq a c) (log_journal (journal a))
landed_named journal c a core.OfRecovery = either (nat_eq a c) (log_journal (journal a))

pub drifted_named : (journal : ℕ → Journal) (c a : ℕ) (p : core.Purpose) → (if nat_eq a c then arrived_journal p (log_journal (journal a)) else log_journal (journal a)) ≡ log_journal (journals_landed journal c false p a)
drifted_named journal c a (core.OfLog number) = happens journal c a (log.Arrive number)
drifted_named journal c a (core.InPlace cover) = either (nat_eq a c) (log_journal (journal a))
drifted_named journal c a core.OfRecovery = either (nat_eq a c) (log_journal (journal a))

pub written_named : (journal : ℕ → Journal) (flight : core.Flight) (a : ℕ) (p : core.Purpose) → journals_landed journal flight.server flight.present p a ≡ written_journals journal flight Written p a
written_named journal flight a (core.OfLog number) = refl
written_named journal flight a (core.InPlace cover) = refl
written_named journal flight a core.OfRecovery = refl

pub late_named : (journal : ℕ → Journal) (flight : core.Flight) (a : ℕ) (p : core.Purpose) → journal a ≡ written_journals journal flight Late p a
late_named journal flight a (core.OfLog number) = refl
late_named journal flight a (core.InPlace cover) = refl
late_named journal flight a core.OfRecovery = refl

pub broken_named : (journal : ℕ → Journal) (flight : core.Flight) (a : ℕ) (p : core.Purpose) →
    (if nat_eq a flight.server then arrived_journal p (log_journal (journal a)) else log_journal (journal a)) ≡ log_journal (written_journals journal flight (PutFailed true) p a)
broken_named journal flight a (core.OfLog number) = happens journal flight.server a (log.Arrive number)
broken_named journal flight a (core.InPlace cover) = either (nat_eq a flight.server) (log_journal (journal a))
broken_named journal flight a core.OfRecovery = either (nat_eq a flight.server) (log_journal (journal a))

pub kept_named : (journal : ℕ → Journal) (flight : core.Flight) (a : ℕ) (p : core.Purpose) → journal a ≡ written_journals journal flight (PutFailed false) p a
kept_named journal flight a (core.OfLog number) = refl
kept_named journal flight a (core.InPlace cover) = refl
kept_named journal flight a core.OfRecovery = refl

-- ---- the laws

shown_again : (at : Option Stage) → IsTrue ((is_moved at || is_grown at) || false) → (journal : ℕ → Journal) (c a : ℕ) → journal a ≡ reclaimed_journals journal c at a
shown_again None shown journal c a = refl
shown_again (Some (Asking need)) shown journal c a = refl
shown_again (Some (Fetching needs)) shown journal c a = refl
shown_again (Some Moving) shown journal c a = refl
shown_again (Some Stopping) shown journal c a = refl
shown_again (Some (Growing needs seen)) shown journal c a = refl
shown_again (Some (Clearing block)) shown journal c a = refl
shown_again (Some (Finishing outcome)) shown journal c a = absurd (false≢true shown)

lives_event : (s : State) (event : Event) (heard : Heard) (journal : ℕ → Journal) → IsTrue (is_shown_event s.core event) → (a : ℕ) → journals_behind_event s event journal a ≡ journals_after s event heard journal a
lives_event s (Again c) heard journal shown a = shown_again (stage s.core c) shown journal c a
lives_event s (Commit c) heard journal shown a = absurd (false≢true shown)
lives_event s (Issue c sector) heard journal shown a = absurd (false≢true shown)
lives_event s (Arrive ticket) heard journal shown a = absurd (false≢true shown)
lives_event s (Answer c) heard journal shown a = refl
lives_event s (Begin c) heard journal shown a = refl
lives_event s (Ask c lock mode) heard journal shown a = refl
lives_event s (Fetch c sector) heard journal shown a = refl
lives_event s (Clear c block) heard journal shown a = refl
lives_event s (Give c lock) heard journal shown a = refl
lives_event s (Doom c) heard journal shown a = refl
lives_event s (Resume c) heard journal shown a = refl
lives_event s (Lose ticket) heard journal shown a = refl
lives_event s (Die c) heard journal shown a = refl
lives_event s (Renew c) heard journal shown a = refl
lives_event s Tick heard journal shown a = refl
lives_event s (Recover dead by) heard journal shown a = refl
lives_event s (Load by slot) heard journal shown a = refl
lives_event s (Look by sector) heard journal shown a = refl
lives_event s (Finish by) heard journal shown a = refl
lives_event s (HostLine number) heard journal shown a = refl
lives_event s (Close c) heard journal shown a = refl
lives_event s (Read sector) heard journal shown a = refl
lives_event s (Show place) heard journal shown a = refl
lives_event s End heard journal shown a = refl

pub lives_name : LivesNameThese
lives_name s v (Event_ event heard makes) journal shown a = lives_event s event heard journal shown a
lives_name s v (Enter c line can) journal shown a = refl
lives_name s v (Hold c on may) journal shown a = refl
lives_name s v (Flush c may) journal shown a = refl
lives_name s v (Relock locks going are same wait) journal shown a = refl
lives_name s v (Note line may) journal shown a = refl
lives_name s v (Peek sector going) journal shown a = refl
lives_name s v (PeekFails sector going) journal shown a = refl

pub log_issues_name : LogIssuesNameThese
log_issues_name s c sector heard journal is a = ap (λ b. (if b then with_event_of journal c log.Issue else journal) a) (sym is)

pub issues_name : OtherIssuesNameThese
issues_name s c sector heard journal is a = ap (λ b. (if b then with_event_of journal c log.Issue else journal) a) (sym is)

pub log_arrivals_name : LogArrivalsNameThese
log_arrivals_name s ticket number flight heard journal at of a = ap (λ p. written_journals journal flight heard p a) (sym of) ∙ ap (λ o. arrived_journals journal heard o a) (sym at)

other_written : (journal : ℕ → Journal) (flight : core.Flight) (heard : Heard) (a : ℕ) (p : core.Purpose) → ((number : ℕ) → p ≡ core.OfLog number → ⊥) → journal a ≡ written_journals journal flight heard p a
other_written journal flight heard a (core.OfLog number) none = absurd (none number refl)
other_written journal flight heard a (core.InPlace cover) none = refl
other_written journal flight heard a core.OfRecovery none = refl

pub arrivals_name : OtherArrivalsNameThese
arrivals_name s ticket flight heard journal at none a = other_written journal flight heard a flight.purpose none ∙ ap (λ o. arrived_journals journal heard o a) (sym at)

done_named : (journal : ℕ → Journal) (c a before : ℕ) (redo : Option Redo) → log_journal (put journal c (journal_done before redo (journal c)) a) ≡ log_journal (appended_to journal c redo a)
done_named journal c a before None = go (nat_eq a c) refl
  where
    go : (b : Bool) → nat_eq a c ≡ b → log_journal (if b then journal_done before None (journal c) else journal a) ≡ log_journal (journal a)
    go true i = ap (λ n. log_journal (journal n)) (sym (eqb-true a c i))
    go false i = refl
done_named journal c a before (Some redo) = go (nat_eq a c)
  where
    go : (b : Bool) → log_journal (if b then journal_done before (Some redo) (journal c) else journal a) ≡ log_journal (if b then with_event (journal c) (log.Append redo) else journal a)
    go true = refl
    go false = refl

pub commits_name : CommitsNameThese
commits_name s c before outcome heard journal at a server = done_named journal c a before outcome.redo ∙ ap (λ o. log_journal (committed_journals journal c o a)) (sym at)

pub reclaims_name : ReclaimsNameThese
reclaims_name s c outcome heard journal at a = ap (λ o. reclaimed_journals journal c o a) (sym at)

pub others_name : OtherEventsNameThese
others_name s (Again c) heard journal none a = absurd (false≢true (sym none))
others_name s (Commit c) heard journal none a = absurd (false≢true (sym none))
others_name s (Answer c) heard journal none a = absurd (false≢true (sym none))
others_name s (Issue c sector) heard journal none a = absurd (false≢true (sym none))
others_name s (Arrive ticket) heard journal none a = absurd (false≢true (sym none))
others_name s (Begin c) heard journal none a = refl
others_name s (Ask c lock mode) heard journal none a = refl
others_name s (Fetch c sector) heard journal none a = refl
others_name s (Clear c block) heard journal none a = refl
others_name s (Give c lock) heard journal none a = refl
others_name s (Doom c) heard journal none a = refl
others_name s (Resume c) heard journal none a = refl
others_name s (Lose ticket) heard journal none a = refl
others_name s (Die c) heard journal none a = refl
others_name s (Renew c) heard journal none a = refl
others_name s Tick heard journal none a = refl
others_name s (Recover dead by) heard journal none a = refl
others_name s (Load by slot) heard journal none a = refl
others_name s (Look by sector) heard journal none a = refl
others_name s (Finish by) heard journal none a = refl
others_name s (HostLine number) heard journal none a = refl
others_name s (Close c) heard journal none a = refl
others_name s (Read sector) heard journal none a = refl
others_name s (Show place) heard journal none a = refl
others_name s End heard journal none a = refl
