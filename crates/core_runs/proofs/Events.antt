-- Each step but the events of lines that do something leads quietly to the next moment, by the laws of the events, with the journals that are named, and its story is told.
use Rattle.std.proofs.Common.{◌≡◌, ℕ, Bool, true, false, not, ◌&&◌, ◌||◌, ◌==◌, if◌then◌else◌, IsTrue, List, Option, Some, None, is_some, refl, sym, ap, ◌∙◌, subst}
use Rattle.std.proofs.lemmas.Bool.{false≢true}
use Rattle.std.proofs.lemmas.Option.{same_Some}
use Rattle.frang_base.specs.Functions.{put}
use Rattle.tree_definitions.specs.Tree.{FileTree}
use Rattle.disk_definitions.specs.Replay.{slots_of}
use Rattle.ring_definitions.specs.RingRuns as log
use Rattle.sector_bytes.specs.SectorMaps.{value_at}
use Rattle.core_definitions.specs.Cores.{clean_at, stage}
use Rattle.core_definitions.specs.Effects.{MayArrive}
use Rattle.core_definitions.specs.EndGuards.{is_recovery, is_through}
use Rattle.core_definitions.specs.Events.{Event, Begin, Ask, Fetch, Again, Clear, Commit, Answer, Give, Issue, Doom, Resume, Arrive, Lose, Die, Renew, Tick, Recover, Load, Look, Finish, HostLine, Close, Read, Show, End, Heard, Nothing, Got, GetFailed, Written, Late, PutFailed}
use Rattle.core_definitions.specs.Flights as core
use Rattle.core_definitions.specs.LineGuards.{done_by, is_grown, is_moved, may_reclaim}
use Rattle.core_definitions.specs.Lines.{Stage, Asking, Fetching, Moving, Stopping, Growing, Clearing, Finishing}
use Rattle.core_definitions.specs.Recoveries.{Recovery}
use Rattle.core_definitions.specs.Runs.{State as RunMoment, Step, Event_, Enter, Hold, Flush, Relock, Note, Peek, PeekFails, Makes, next}
use Rattle.core_definitions.specs.Scripts.{host_party}
use Rattle.core_definitions.specs.Servers.{Server, is_off, is_up}
use Rattle.core_definitions.specs.Settings.{LogRules}
use Rattle.core_transcripts.proofs.Turning.{no_load}
use Rattle.sector_world.specs.Histories.{Entry}
use Rattle.sector_world.specs.Histories.Entry.{Mounted, Recovered, Synced}
use Rattle.sector_world.specs.Kinds.{Good}
use Rattle.sector_world.specs.World.{World}
use Rattle.core_world.specs.Events.{IsSameStory, LeadsQuietly}
use Rattle.core_world.specs.Journals.{Journal, journal_at, with_event_of}
use Rattle.core_world.specs.Steps.{IsReached, IsWorldOf}
use Rattle.core_world.specs.Ties.{is_log_sector}
use Rattle.core_lives.specs.Cleared.{SyncsLeadOn}
use Rattle.core_lives.specs.Idle.{EntersKeepWorlds, FlushesKeepWorlds, HoldsKeepWorlds, IdleEventsKeepWorlds, KeepsWorlds, KeptWorldsAreQuiet, NotesKeepWorlds, PeeksKeepWorlds, RelocksKeepWorlds, begins_mount, ends_mount, is_idle, tells_sync}
use Rattle.core_lives.specs.Lives.{ClosesLeadOn, HasEntry, LeadsWith, LivesLeadOn, MountsLeadOn, UnmountsLeadOn, is_of_lives}
use Rattle.core_lives.specs.Room.{RoomIsEnough}
use Rattle.core_lives.proofs.Mounting.{mount_off}
use Rattle.core_commits.specs.Fetches.{FailedFetchesAreEvents}
use Rattle.core_commits.specs.Moments.{FetchesOfLinesAreEvents}
use Rattle.core_recoveries.specs.Arrivals.{RescuesArrive}
use Rattle.core_recoveries.specs.Begins.{BeginsAreEvents}
use Rattle.core_recoveries.specs.Ends.{FinishesLeadOn}
use Rattle.core_recoveries.specs.Failures.{HostRescuesFail, HostWritesFail, RescuesFail}
use Rattle.core_recoveries.specs.Logs.{LogsGiveWhatIsAsked, SealsArriveByLogs, SealsFailByLogs}
use Rattle.core_recoveries.specs.Reads.{FailedLoadsAreEvents, FailedLooksAreEvents, LoadsAreNone, LooksAreEvents}
use Rattle.core_writes.specs.Arrivals.{ArrivalsAreEvents}
use Rattle.core_writes.specs.Failures.{FailuresAreEvents}
use Rattle.core_writes.specs.Gone.{LateAreEvents, LosesAreEvents}
use Rattle.core_writes.specs.Issues.{IssuesAreEvents, issues_log}
use Rattle.core_log_writes.specs.Arrivals.{LeftLogsGrow, LiveLogsGrow}
use Rattle.core_log_writes.specs.Failures.{NewLogsFail, OldLogsFail}
use Rattle.core_log_writes.specs.Issues.{LogIssuesGoOn}
use Rattle.core_log_writes.specs.LogWrites.{IsLogFlight}
use Rattle.core_histories.specs.Steps.{HasStoryAt, HasStoryOf}
use Rattle.core_histories.specs.Told.{HasItsStory}
use Rattle.core_runs.specs.Journals.{arrived_journals, heard_journals, journals_after, journals_next, landed_journals, reclaimed_journals, written_journals}
use Rattle.core_runs.specs.Kept.{Further, IsKeptAlong}
use Rattle.core_runs.specs.Open.{RecoveriesKeepTheirReports, is_line_step, is_of_lines}
use Rattle.core_runs.proofs.Leading.{Onward, of_entry, of_story}
use Rattle.core_runs.proofs.Quiet.{are_replayed}

-- ---- the laws of the events

pub record EventLaws : Type 0 where
  -- of locks and lives, and of what is none
  pub idle : IdleEventsKeepWorlds
  pub quiet : KeptWorldsAreQuiet
  pub enter : EntersKeepWorlds
  pub hold : HoldsKeepWorlds
  pub flush : FlushesKeepWorlds
  pub relock : RelocksKeepWorlds
  pub note : NotesKeepWorlds
  pub peek : PeeksKeepWorlds
  pub lives : LivesLeadOn
  pub mounts : MountsLeadOn
  pub enough : RoomIsEnough
  pub unmounts : UnmountsLeadOn
  pub closes : ClosesLeadOn
  pub syncs : SyncsLeadOn
  -- of fetches
  pub fetch : FetchesOfLinesAreEvents
  pub failed_fetch : FailedFetchesAreEvents
  -- of writes
  pub issue : IssuesAreEvents
  pub late : LateAreEvents
  pub lose : LosesAreEvents
  pub arrive : ArrivalsAreEvents
  pub fail : FailuresAreEvents
  pub log_issue : LogIssuesGoOn
  pub live_log : LiveLogsGrow
  pub left_log : LeftLogsGrow
  pub old_log : OldLogsFail
  pub new_log : NewLogsFail
  -- of recoveries
  pub begin : BeginsAreEvents
  pub load : LoadsAreNone
  pub failed_load : FailedLoadsAreEvents
  pub look : LooksAreEvents
  pub failed_look : FailedLooksAreEvents
  pub finish : FinishesLeadOn
  pub asked : LogsGiveWhatIsAsked
  pub rescue : RescuesArrive
  pub rescue_fail : RescuesFail
  pub host_fail : HostRescuesFail
  pub host_old : HostWritesFail
  pub seal : SealsArriveByLogs
  pub seal_fail : SealsFailByLogs

-- ---- guards

fetch_up : (off up m n k : Bool) → IsTrue ((up && m) || (off && n && k)) → off ≡ false → IsTrue up
fetch_up off true m n k h o = refl
fetch_up true false m n k h o = absurd (false≢true (sym o))
fetch_up false false m n k h o = absurd (false≢true h)

-- an Again that doesn't reclaim finds the set anew, or grown
again_of_set : (logs : LogRules) (server : Server) (at : Option Stage) → is_some (done_by at) ≡ false → IsTrue (is_moved at || is_grown at || may_reclaim logs server at) → IsTrue (is_moved at || is_grown at)
again_of_set logs server None n h = absurd (false≢true h)
again_of_set logs server (Some (Asking need)) n h = absurd (false≢true h)
again_of_set logs server (Some (Fetching needs)) n h = absurd (false≢true h)
again_of_set logs server (Some Moving) n h = refl
again_of_set logs server (Some Stopping) n h = absurd (false≢true h)
again_of_set logs server (Some (Growing needs seen)) n h = refl
again_of_set logs server (Some (Clearing block)) n h = absurd (false≢true h)
again_of_set logs server (Some (Finishing outcome)) n h = absurd (false≢true (sym n))

again_leaves : (journal : ℕ → Journal) (a : ℕ) (at : Option Stage) → is_some (done_by at) ≡ false → journal ≡ reclaimed_journals journal a at
again_leaves journal a None n = refl
again_leaves journal a (Some (Asking need)) n = refl
again_leaves journal a (Some (Fetching needs)) n = refl
again_leaves journal a (Some Moving) n = refl
again_leaves journal a (Some Stopping) n = refl
again_leaves journal a (Some (Growing needs seen)) n = refl
again_leaves journal a (Some (Clearing block)) n = refl
again_leaves journal a (Some (Finishing outcome)) n = absurd (false≢true (sym n))

none_of : (mount unmount sync : Bool) → mount ≡ false → unmount ≡ false → sync ≡ false → IsTrue (not (mount || unmount || sync))
none_of true unmount sync e f g = absurd (false≢true (sym e))
none_of false true sync e f g = absurd (false≢true (sym f))
none_of false false true e f g = absurd (false≢true (sym g))
none_of false false false e f g = refl

pub has_recovery : (passes : Recovery → Bool) (o : Option Recovery) → IsTrue (is_recovery passes o) → (recovery : Recovery) × (o ≡ Some recovery)
has_recovery passes None h = absurd (false≢true h)
has_recovery passes (Some recovery) h = (recovery, refl)

module _ (laws : EventLaws) (Else : Further) (reports : RecoveriesKeepTheirReports Else) (s : RunMoment) (w : World) (journal : ℕ → Journal) (when : ℕ → ℕ) (first_tree : FileTree) (numbers : List ℕ)
    (kept : IsKeptAlong Else s w journal when first_tree numbers) where
  abbrev r : IsReached s
  r = kept.beside.run.reached

  abbrev t : IsWorldOf s w journal
  t = kept.beside.run.world

  abbrev g : Good w
  g = kept.beside.run.good

  abbrev OnStep : (v : RunMoment) → Step s v → Type 0
  OnStep v step = Onward Else s v w journal when first_tree numbers kept step

  abbrev On : (event : Event) (heard : Heard) → Makes s event heard → Type 0
  On event heard m = OnStep (next s event heard) (Event_ event heard m)

  -- ---- from what the laws lead to

  quietly : (v : RunMoment) (step : Step s v) (further : ℕ → Journal) → further ≡ journals_next s v w step journal →
      ((u : World) → IsSameStory w u → HasStoryAt when first_tree numbers s v w u kept.told step) → LeadsQuietly w v further → OnStep v step
  quietly v step further e story x = subst (λ js. LeadsQuietly w v js → OnStep v step) (sym e)
      (λ y. record { leads = y.leads; quiet = y.quiet; frame = of_story w y.leads.world y.story; story = story y.leads.world y.story }) x

  with_entry : (v : RunMoment) (step : Step s v) (further : ℕ → Journal) (entry : Entry) → further ≡ journals_next s v w step journal →
      ((u : World) → HasEntry w u entry → HasStoryAt when first_tree numbers s v w u kept.told step) → LeadsWith w v further entry → OnStep v step
  with_entry v step further entry e story x = subst (λ js. LeadsWith w v js entry → OnStep v step) (sym e)
      (λ y. record { leads = y.leads; quiet = y.quiet; frame = of_entry w y.leads.world entry y.story; story = story y.leads.world y.story }) x

  unheard : (event : Event) (heard silence : Heard) (m : Makes s event heard) → heard ≡ silence → ((n : Makes s event silence) → On event silence n) → On event heard m
  unheard event heard silence m same go = subst (λ h. (n : Makes s event h) → On event h n) (sym same) go m

  -- ---- what is none

  kept_on : (v : RunMoment) (step : Step s v) → journal ≡ journals_next s v w step journal → ((u : World) → IsSameStory w u → HasStoryAt when first_tree numbers s v w u kept.told step) →
      KeepsWorlds s v → OnStep v step
  kept_on v step e story keeps = quietly v step journal e story (laws.quiet s v w journal keeps t)

  idle_on : (event : Event) (heard : Heard) (m : Makes s event heard) → journal ≡ journals_after s w event heard journal →
      ((u : World) → IsSameStory w u → HasStoryOf when first_tree numbers s w u kept.told event) → IsTrue (is_idle s.core event) → On event heard m
  idle_on event heard m e story i = kept_on (next s event heard) (Event_ event heard m) e story (laws.idle s event heard r m i)

  lives_on : (event : Event) (m : Makes s event Nothing) → journal ≡ journals_after s w event Nothing journal →
      ((u : World) → IsSameStory w u → HasStoryOf when first_tree numbers s w u kept.told event) → IsTrue (is_of_lives event) → On event Nothing m
  lives_on event m e story i = quietly (next s event Nothing) (Event_ event Nothing m) journal e story (laws.lives s w journal event r t g m i)

  -- ---- fetches

  got_up : (a sector : ℕ) (heard : Heard) (m : Makes s (Fetch a sector) heard) → IsTrue (is_up (s.core.servers a).phase) → On (Fetch a sector) heard m
  got_up a sector (Got block) m up =
      quietly (next s (Fetch a sector) (Got block)) (Event_ (Fetch a sector) (Got block) m) journal refl (λ u x. x)
      (laws.fetch s w journal when first_tree numbers a sector block kept.beside.run m up)
  got_up a sector GetFailed m up =
      quietly (next s (Fetch a sector) GetFailed) (Event_ (Fetch a sector) GetFailed m) journal refl (λ u x. x) (laws.failed_fetch s w journal a sector t m.can.can.server up)
  got_up a sector Nothing m up = absurd m.hears
  got_up a sector Written m up = absurd m.hears
  got_up a sector Late m up = absurd m.hears
  got_up a sector (PutFailed new) m up = absurd m.hears

  fetch_on : (a sector : ℕ) (heard : Heard) (m : Makes s (Fetch a sector) heard) → On (Fetch a sector) heard m
  fetch_on a sector heard m = go (is_off (s.core.servers a).phase) refl
    where
      go : (b : Bool) → is_off (s.core.servers a).phase ≡ b → On (Fetch a sector) heard m
      go true e = idle_on (Fetch a sector) heard m refl (λ u x. x) e
      go false e = got_up a sector heard m (fetch_up (is_off (s.core.servers a).phase) (is_up (s.core.servers a).phase) _ _ _ m.can.can.lacks e)

  -- ---- answers

  answer_on : (a : ℕ) (m : Makes s (Answer a) Nothing) → On (Answer a) Nothing m
  answer_on a m = go (begins_mount s.core a) (ends_mount s.core a) (tells_sync s.core a) refl refl refl
    where
      v : RunMoment
      v = next s (Answer a) Nothing

      mounted : (ℕ → Journal)
      mounted = put journal a (journal_at (slots_of s.disk a))

      behind : (b : Bool) → begins_mount s.core a ≡ b → (if b then mounted else journal) ≡ journals_after s w (Answer a) Nothing journal
      behind b e = ap (λ c. if c then mounted else journal) (sym e)

      story : (b c : Bool) → begins_mount s.core a ≡ b → (ends_mount s.core a || tells_sync s.core a) ≡ c → (u : World) → HasItsStory b c w u a →
          HasItsStory (begins_mount s.core a) (ends_mount s.core a || tells_sync s.core a) w u a
      story b c e f u x = subst (λ z. HasItsStory z (ends_mount s.core a || tells_sync s.core a) w u a) (sym e) (subst (λ z. HasItsStory b z w u a) (sym f) x)

      go : (b c d : Bool) → begins_mount s.core a ≡ b → ends_mount s.core a ≡ c → tells_sync s.core a ≡ d → On (Answer a) Nothing m
      go true c d e f h =
          with_entry v (Event_ (Answer a) Nothing m) mounted (Mounted a (w.last a)) (behind true e) (story true (ends_mount s.core a || tells_sync s.core a) e refl)
          (laws.mounts s w journal a r t g kept.beside.sixteen (laws.enough s a (kept.logs.room a m.can.can.server) (mount_off s a m e)) m e)
      go false true d e f h =
          with_entry v (Event_ (Answer a) Nothing m) journal (Synced a (w.last a)) (behind false e) (story false true e (ap (λ z. z || tells_sync s.core a) f))
          (laws.unmounts s w journal a r t g m f)
      go false false true e f h =
          with_entry v (Event_ (Answer a) Nothing m) journal (Synced a (w.last a)) (behind false e)
          (story false true e (ap (λ z. z || tells_sync s.core a) f ∙ h)) (laws.syncs s w journal a r t g kept.beside.dirt.cleared.free m h)
      go false false false e f h =
          idle_on (Answer a) Nothing m (behind false e) (story false false e (ap (λ z. z || tells_sync s.core a) f ∙ h))
          (none_of (begins_mount s.core a) (ends_mount s.core a) (tells_sync s.core a) e f h)

  close_on : (a : ℕ) (m : Makes s (Close a) Nothing) → On (Close a) Nothing m
  close_on a m = go (clean_at s.core a) refl
    where
      go : (b : Bool) → clean_at s.core a ≡ b → On (Close a) Nothing m
      go true e =
          with_entry (next s (Close a) Nothing) (Event_ (Close a) Nothing m) journal (Synced a (w.last a)) refl (λ u x. subst (λ z. HasItsStory false z w u a) (sym e) x)
          (laws.closes s w journal a r t g m e)
      go false e = idle_on (Close a) Nothing m refl (λ u x. subst (λ z. HasItsStory false z w u a) (sym e) x) (ap not e)

  -- ---- writes

  issue_on : (a sector : ℕ) (m : Makes s (Issue a sector) Nothing) → On (Issue a sector) Nothing m
  issue_on a sector m = go (issues_log s.core a sector) refl
    where
      v : RunMoment
      v = next s (Issue a sector) Nothing

      go : (b : Bool) → issues_log s.core a sector ≡ b → On (Issue a sector) Nothing m
      go true e =
          quietly v (Event_ (Issue a sector) Nothing m) (with_event_of journal a log.Issue) (ap (λ c. if c then with_event_of journal a log.Issue else journal) (sym e)) (λ u x. x)
          (laws.log_issue s w journal a sector r t kept.beside.dirt.ends kept.logs.open_ m e).quiet
      go false e =
          quietly v (Event_ (Issue a sector) Nothing m) journal (ap (λ c. if c then with_event_of journal a log.Issue else journal) (sym e)) (λ u x. x)
          (laws.issue s w journal a sector r t g m e)

  module _ (ticket : ℕ) (flight : core.Flight) (at : value_at s.core.flights ticket ≡ Some flight) where
    -- by what the write is of
    named : (heard : Heard) (further : ℕ → Journal) → further ≡ written_journals journal flight heard flight.purpose → further ≡ journals_after s w (Arrive ticket) heard journal
    named heard further e = e ∙ ap (arrived_journals journal heard) (sym at)

    arrive_by : (heard : Heard) (m : Makes s (Arrive ticket) heard) (further : ℕ → Journal) → further ≡ written_journals journal flight heard flight.purpose →
        LeadsQuietly w (next s (Arrive ticket) heard) further → On (Arrive ticket) heard m
    arrive_by heard m further e x = quietly (next s (Arrive ticket) heard) (Event_ (Arrive ticket) heard m) further (named heard further e) (λ u x. x) x

    abbrev of_log : (number : ℕ) → flight.purpose ≡ core.OfLog number → IsLogFlight s w journal ticket flight
    of_log number is = record {
      reached = r;
      tied = t;
      good = g;
      marks = kept.beside.dirt.ends;
      open_ = kept.logs.open_;
      at = at;
      number = number;
      of_log = is;
      none = kept.beside.none;
    }

    log_journals : (heard : Heard) (number : ℕ) → flight.purpose ≡ core.OfLog number → heard_journals journal flight.server number flight.present heard ≡ written_journals journal flight heard flight.purpose
    log_journals heard number is = ap (written_journals journal flight heard) (sym is)

    written_log : (number : ℕ) (is : flight.purpose ≡ core.OfLog number) (m : Makes s (Arrive ticket) Written) → On (Arrive ticket) Written m
    written_log number is m = go flight.present refl
      where
        go : (b : Bool) → flight.present ≡ b → On (Arrive ticket) Written m
        go true e =
            arrive_by Written m (landed_journals journal flight.server number true) (ap (landed_journals journal flight.server number) (sym e) ∙ log_journals Written number is)
            (laws.live_log s w journal ticket flight (of_log number is) e m).leads.quiet
        go false e =
            arrive_by Written m (landed_journals journal flight.server number false) (ap (landed_journals journal flight.server number) (sym e) ∙ log_journals Written number is)
            (laws.left_log s w journal ticket flight (of_log number is) e m).leads.quiet

    failed_log : (number : ℕ) (is : flight.purpose ≡ core.OfLog number) (new : Bool) (m : Makes s (Arrive ticket) (PutFailed new)) → On (Arrive ticket) (PutFailed new) m
    failed_log number is true m =
        arrive_by (PutFailed true) m (with_event_of journal flight.server (log.Arrive number)) (log_journals (PutFailed true) number is)
        (laws.new_log s w journal ticket flight (of_log number is) m).leads.quiet
    failed_log number is false m =
        arrive_by (PutFailed false) m journal (log_journals (PutFailed false) number is) (laws.old_log s w journal ticket flight (of_log number is) m).quiet

    written_rescue : (is : flight.purpose ≡ core.OfRecovery) (m : Makes s (Arrive ticket) Written) → On (Arrive ticket) Written m
    written_rescue is m = arrive_by Written m journal (ap (written_journals journal flight Written) (sym is)) (go (is_log_sector s.core.setting.segments flight.sector) refl)
      where
        go : (b : Bool) → is_log_sector s.core.setting.segments flight.sector ≡ b → LeadsQuietly w (next s (Arrive ticket) Written) journal
        go true e = laws.seal s w journal ticket flight r t at is e kept.beside.none kept.logs.logs m
        go false e = laws.rescue s w journal ticket flight r t g at is e m

    failed_rescue : (is : flight.purpose ≡ core.OfRecovery) (new : Bool) (m : Makes s (Arrive ticket) (PutFailed new)) → On (Arrive ticket) (PutFailed new) m
    failed_rescue is new m =
        arrive_by (PutFailed new) m journal (ap (written_journals journal flight (PutFailed new)) (sym is)) (go (is_log_sector s.core.setting.segments flight.sector) (flight.server == host_party) new refl refl m)
      where
        go : (b h n : Bool) → is_log_sector s.core.setting.segments flight.sector ≡ b → (flight.server == host_party) ≡ h → Makes s (Arrive ticket) (PutFailed n) →
            LeadsQuietly w (next s (Arrive ticket) (PutFailed n)) journal
        go true h n e f m = laws.seal_fail s w journal ticket flight n r t at is e kept.beside.none kept.logs.logs m
        go false false n e f m = laws.rescue_fail s w journal ticket flight n r t g at is e f m
        go false true true e f m = laws.host_fail s w journal ticket flight r t g at is e f m
        go false true false e f m = laws.host_old s w journal ticket flight r t at f m

    written_on : (purpose : core.Purpose) → flight.purpose ≡ purpose → (m : Makes s (Arrive ticket) Written) → On (Arrive ticket) Written m
    written_on (core.OfLog number) is m = written_log number is m
    written_on (core.InPlace lock) is m =
        arrive_by Written m journal (ap (written_journals journal flight Written) (sym is)) (laws.arrive s w journal ticket flight lock r t g kept.beside.acknowledged at is m)
    written_on core.OfRecovery is m = written_rescue is m

    failed_on : (purpose : core.Purpose) → flight.purpose ≡ purpose → (new : Bool) (m : Makes s (Arrive ticket) (PutFailed new)) → On (Arrive ticket) (PutFailed new) m
    failed_on (core.OfLog number) is new m = failed_log number is new m
    failed_on (core.InPlace lock) is new m =
        arrive_by (PutFailed new) m journal (ap (written_journals journal flight (PutFailed new)) (sym is)) (laws.fail s w journal ticket flight lock new r t g at is m)
    failed_on core.OfRecovery is new m = failed_rescue is new m

    late_leaves : (purpose : core.Purpose) → flight.purpose ≡ purpose → journal ≡ written_journals journal flight Late flight.purpose
    late_leaves (core.OfLog number) is = ap (written_journals journal flight Late) (sym is)
    late_leaves (core.InPlace lock) is = ap (written_journals journal flight Late) (sym is)
    late_leaves core.OfRecovery is = ap (written_journals journal flight Late) (sym is)

    flight_on : (heard : Heard) (m : Makes s (Arrive ticket) heard) → MayArrive s.core.now (Some flight) heard → On (Arrive ticket) heard m
    flight_on Written m h = written_on flight.purpose refl m
    flight_on Late m h = arrive_by Late m journal (late_leaves flight.purpose refl) (laws.late s w journal ticket r t m)
    flight_on (PutFailed new) m h = failed_on flight.purpose refl new m
    flight_on Nothing m h = absurd h
    flight_on (Got block) m h = absurd h
    flight_on GetFailed m h = absurd h

  arrive_on : (ticket : ℕ) (heard : Heard) (m : Makes s (Arrive ticket) heard) → On (Arrive ticket) heard m
  arrive_on ticket heard m = go (value_at s.core.flights ticket) refl
    where
      go : (o : Option core.Flight) → value_at s.core.flights ticket ≡ o → On (Arrive ticket) heard m
      go None e = absurd (subst (λ o. MayArrive s.core.now o heard) e m.hears)
      go (Some flight) e = flight_on ticket flight e heard m (subst (λ o. MayArrive s.core.now o heard) e m.hears)

  -- ---- recoveries

  load_on : (by slot : ℕ) (heard : Heard) (m : Makes s (Load by slot) heard) → On (Load by slot) heard m
  load_on by slot (Got block) m =
      quietly (next s (Load by slot) (Got block)) (Event_ (Load by slot) (Got block) m) journal refl (λ u x. x)
      (laws.load s w journal by slot block r t m
      (laws.asked s w journal (Load by slot) (Got block) r t g m kept.logs.logs kept.logs.sealed (are_replayed s.core.setting.segments w kept.beside.regions)))
  load_on by slot GetFailed m =
      quietly (next s (Load by slot) GetFailed) (Event_ (Load by slot) GetFailed m) journal refl (λ u x. x) (laws.failed_load s w journal by slot r t m)
  load_on by slot Nothing m = no_load slot s.disk Nothing (s.core.servers by).recovery tt m.hears
  load_on by slot Written m = no_load slot s.disk Written (s.core.servers by).recovery tt m.hears
  load_on by slot Late m = no_load slot s.disk Late (s.core.servers by).recovery tt m.hears
  load_on by slot (PutFailed new) m = no_load slot s.disk (PutFailed new) (s.core.servers by).recovery tt m.hears

  look_on : (by sector : ℕ) (heard : Heard) (m : Makes s (Look by sector) heard) → On (Look by sector) heard m
  look_on by sector (Got block) m =
      quietly (next s (Look by sector) (Got block)) (Event_ (Look by sector) (Got block) m) journal refl (λ u x. x) (laws.look s w journal by sector block r t g m)
  look_on by sector GetFailed m =
      quietly (next s (Look by sector) GetFailed) (Event_ (Look by sector) GetFailed m) journal refl (λ u x. x) (laws.failed_look s w journal by sector r t m)
  look_on by sector Nothing m = absurd m.hears
  look_on by sector Written m = absurd m.hears
  look_on by sector Late m = absurd m.hears
  look_on by sector (PutFailed new) m = absurd m.hears

  finish_on : (by : ℕ) (m : Makes s (Finish by) Nothing) → On (Finish by) Nothing m
  finish_on by m = go (has_recovery (is_through s.core) (s.core.servers by).recovery m.can.can.ended)
    where
      go : (recovery : Recovery) × ((s.core.servers by).recovery ≡ Some recovery) → On (Finish by) Nothing m
      go x =
          with_entry (next s (Finish by) Nothing) (Event_ (Finish by) Nothing m) journal (Recovered x.0.dead (w.durable x.0.dead)) refl
          (λ u entry recovery has. record {
            entry = subst (λ z. HasEntry w u (Recovered z.dead (w.durable z.dead))) (same_Some x.0 recovery (sym x.1 ∙ has)) entry;
            keeps = reports s w journal when first_tree numbers by recovery kept m has;
          })
          (laws.finish s w journal by x.0 r t g m x.1
          (laws.asked s w journal (Finish by) Nothing r t g m kept.logs.logs kept.logs.sealed (are_replayed s.core.setting.segments w kept.beside.regions) x.0 x.1))

  -- ---- each event

  event_on : (event : Event) (heard : Heard) (m : Makes s event heard) → is_of_lines s.core event ≡ false → On event heard m
  event_on (Begin a) heard m n = idle_on (Begin a) heard m refl (λ u x. x) refl
  event_on (Ask a lock mode) heard m n = unheard (Ask a lock mode) heard Nothing m m.hears (λ k. lives_on (Ask a lock mode) k refl (λ u x. x) refl)
  event_on (Fetch a sector) heard m n = fetch_on a sector heard m
  event_on (Again a) heard m n =
      idle_on (Again a) heard m (again_leaves journal a (stage s.core a) n) (λ u x. x) (again_of_set s.core.setting.logs (s.core.servers a) (stage s.core a) n m.can.can.cause)
  event_on (Clear a block) heard m n = absurd (false≢true (sym n))
  event_on (Commit a) heard m n = absurd (false≢true (sym n))
  event_on (Answer a) heard m n = unheard (Answer a) heard Nothing m m.hears (λ k. answer_on a k)
  event_on (Give a lock) heard m n = unheard (Give a lock) heard Nothing m m.hears (λ k. lives_on (Give a lock) k refl (λ u x. x) refl)
  event_on (Issue a sector) heard m n = unheard (Issue a sector) heard Nothing m m.hears (λ k. issue_on a sector k)
  event_on (Doom a) heard m n = idle_on (Doom a) heard m refl (λ u x. x) refl
  event_on (Resume a) heard m n = unheard (Resume a) heard Nothing m m.hears (λ k. lives_on (Resume a) k refl (λ u x. x) refl)
  event_on (Arrive ticket) heard m n = arrive_on ticket heard m
  event_on (Lose ticket) heard m n =
      unheard (Lose ticket) heard Nothing m m.hears
      (λ k. quietly (next s (Lose ticket) Nothing) (Event_ (Lose ticket) Nothing k) journal refl (λ u x. x) (laws.lose s w journal ticket r t k))
  event_on (Die a) heard m n = unheard (Die a) heard Nothing m m.hears (λ k. lives_on (Die a) k refl (λ u x. x) refl)
  event_on (Renew a) heard m n = unheard (Renew a) heard Nothing m m.hears (λ k. lives_on (Renew a) k refl (λ u x. x) refl)
  event_on Tick heard m n = unheard Tick heard Nothing m m.hears (λ k. lives_on Tick k refl (λ u x. x) refl)
  event_on (Recover dead by) heard m n =
      unheard (Recover dead by) heard Nothing m m.hears
      (λ k. quietly (next s (Recover dead by) Nothing) (Event_ (Recover dead by) Nothing k) journal refl (λ u x. x) (laws.begin s w journal dead by r t k))
  event_on (Load by slot) heard m n = load_on by slot heard m
  event_on (Look by sector) heard m n = look_on by sector heard m
  event_on (Finish by) heard m n = unheard (Finish by) heard Nothing m m.hears (λ k. finish_on by k)
  event_on (HostLine number) heard m n = idle_on (HostLine number) heard m refl (λ u x. x) refl
  event_on (Close a) heard m n = unheard (Close a) heard Nothing m m.hears (λ k. close_on a k)
  event_on (Read sector) heard m n = idle_on (Read sector) heard m refl (λ u x. x) refl
  event_on (Show place) heard m n = idle_on (Show place) heard m refl (λ u x. x) refl
  event_on End heard m n = idle_on End heard m refl (λ u x. x) refl

  pub step_on : (v : RunMoment) (step : Step s v) → is_line_step s v step ≡ false → OnStep v step
  step_on v (Event_ event heard makes) n = event_on event heard makes n
  step_on v (Enter a line can) n = kept_on v (Enter a line can) refl (λ u x. x) (laws.enter s line.number)
  step_on v (Hold a on may) n = kept_on v (Hold a on may) refl (λ u x. x) (laws.hold s a on)
  step_on v (Flush a may) n = kept_on v (Flush a may) refl (λ u x. x) (laws.flush s a)
  step_on v (Relock locks going are same wait) n = kept_on v (Relock locks going are same wait) refl (λ u x. x) (laws.relock s locks same)
  step_on v (Note line may) n = kept_on v (Note line may) refl (λ u x. x) (laws.note s line)
  step_on v (Peek sector going) n = kept_on v (Peek sector going) refl (λ u x. x) (λ u js x. x)
  step_on v (PeekFails sector going) n = kept_on v (PeekFails sector going) refl (λ u x. x) (laws.peek s)
