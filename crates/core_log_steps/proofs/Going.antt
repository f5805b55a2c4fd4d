-- What each step makes of the logs: a case of which it is known which journal comes next, or all that logs read of the core is as it was. The events are gone through here, once.
use Rattle.std.proofs.Common.{◌≡◌, ℕ, ◌≤◌, ◌==◌, inl, inr, Bool, true, false, not, ◌&&◌, ◌||◌, if◌then◌else◌, IsTrue, [], Option, Some, None, refl, sym, ap, ◌∙◌, subst}
use Rattle.std.proofs.lemmas.Bool.{and_parts, false≢true}
use Rattle.std.proofs.lemmas.Option.{none-some, same_Some}
use Rattle.frang_base.specs.Functions.{put}
use Rattle.frang_base.specs.declared.lock.LockId.{LockId}
use Rattle.frang_base.specs.declared.op.Op.TheVariants as op
use Rattle.frang_base.specs.declared.reply.Reply.{Reply}
use Rattle.frang_base.specs.declared.reply.Reply.TheVariants as reply
use Rattle.frang_base.specs.declared.script.Line.{Line}
use Rattle.frang_outside.specs.Disk.{written}
use Rattle.lock_definitions.specs.declared.claim.AskedFor.{AskedFor}
use Rattle.lock_definitions.specs.declared.claim.AskedFor.TheVariants.{Release, Downgrade}
use Rattle.lock_definitions.specs.Calls.{asked_for, cleared}
use Rattle.ring_definitions.specs.RingRuns as log
use Rattle.ring_definitions.specs.RingRuns.LogEvent.{GiveUp}
use Rattle.sector_bytes.specs.Blocks.{Block}
use Rattle.sector_bytes.specs.SectorMaps.{value_at, without}
use Rattle.disk_definitions.specs.Replay.{slots_of}
use Rattle.tree_definitions.specs.Touched.{is_mounted, is_unmount}
use Rattle.tree_definitions.specs.Transcript.{is_halt, is_mount}
use Rattle.core_definitions.specs.Cores.{clean_at, due_at, next_of, stage, with_server, writes}
use Rattle.core_definitions.specs.Effects.{MayArrive, after, disk_from, disk_with}
use Rattle.core_definitions.specs.EndEffects.{finished_from, host_answered_line}
use Rattle.core_definitions.specs.Events.{Event, Begin, Ask, Fetch, Again, Clear, Commit, Answer, Give, Issue, Doom, Resume, Arrive, Lose, Die, Renew, Tick, Recover, Load, Look, Finish, HostLine, Close, Read, Show, End, Heard, Nothing, Got, GetFailed, Written, Late, PutFailed}
use Rattle.core_definitions.specs.Flights as core
use Rattle.core_definitions.specs.LineEffects.{again_by, answered, begun_line, cached_under, call_failed, committed_at, cover_needed, failed_by, fetch_failed, fetched_by, off_after, refused_under, set_anew, set_grown, slot_read, with_under}
use Rattle.core_definitions.specs.LineGuards.{is_server}
use Rattle.core_definitions.specs.Lines.{Stage, Asking, Fetching, Moving, Stopping, Growing, Clearing, Finishing}
use Rattle.core_definitions.specs.Logs.{is_none, is_read}
use Rattle.core_definitions.specs.Recoveries.{Recovery}
use Rattle.core_definitions.specs.Runs.{State, Makes, Step, Event_, Enter, Hold, Flush, Relock, Note, Peek, PeekFails, next}
use Rattle.core_definitions.specs.Scripts.{host_party}
use Rattle.core_definitions.specs.Servers.{Dead, Doomed, Off, Phase, Server, Still, Up, asks, due_if, is_off, is_up, wanting_all, wanting_all_up}
use Rattle.core_definitions.specs.WriteEffects.{acknowledged, arrived_as, arrived_from, died_in, fate_of, given_for, issued_as, landed}
use Rattle.core_definitions.specs.WriteGuards.{CanGive, CanIssue, is_by_dead, is_flight}
use Rattle.core_definitions.specs.EndGuards.{CanFinish}
use Rattle.core_definitions.specs.Writes.{Write}
use Rattle.core_facts.proofs.Turns.{Asks, Breaks, Clears, Commits, Dies, Dooms, Drifts, Fades, Finishes, Issues, Lands, Leaves, Lowers, Mounts, Reclaims, Recovers, Releases, Renews, Resumes, Ticks, Turn, Work, at_server, failed_at, work_of}
use Rattle.core_journals.proofs.FlightChanges.{Was, here_were}
use Rattle.core_journals.proofs.Turning.{turn_next}
use Rattle.core_journals.specs.Journals as journals
use Rattle.core_laws.proofs.FlightLists.{AllFlights}
use Rattle.core_laws.proofs.Memory.{given_due}
use Rattle.core_lives.proofs.Answering.{IsOpenOf, answered_is, answered_so, mount_is, open_of, unmount_is}
use Rattle.core_lives.proofs.Idling.{AnsweredParts, answered_parts, begun_as, wanting_as, wanting_up_as}
use Rattle.core_lives.specs.Idle.{begins_mount, ends_mount, is_mounted_answer}
use Rattle.core_readings.specs.Logs.{log_journal}
use Rattle.core_world.specs.Journals.{Journal, journal_at, with_event_of}
use Rattle.core_writes.specs.Issues.{is_log_write}
use Rattle.core_log_steps.specs.Journals.{arrived_journals, committed_journals, journals_after, journals_next, reclaimed_journals, written_journals}
use Rattle.core_log_steps.proofs.Lives.{IsLifeAs, life_as, put_life, same_life}
use Rattle.core_log_steps.proofs.Naming.{appended_named, broken_named, drifted_named, happens, issued_named, journals_landed, kept_named, landed_named, late_named, named, written_named}

-- ---- what is known of a step

pub data Goes (s : State) (journal further : ℕ → Journal) (w : Work) : Type 0 where
  Turns : (t : Turn s w) → ((a : ℕ) → turn_next s w t a (log_journal (journal a)) ≡ log_journal (further a)) → Goes s journal further w
  Keeps : ((a : ℕ) → IsLifeAs (w.servers a) (s.core.servers a)) → w.now ≡ s.core.now → AllFlights (Was s) w.flights → w.disk ≡ s.disk → ((a : ℕ) → log_journal (journal a) ≡ log_journal (further a)) → Goes s journal further w

-- a server reads the begin of a mount
record IsMountAnswer (off read : Bool) (answer : Reply) : Type 0 where
  off_is : off ≡ true
  read_is : read ≡ true
  answer_is : answer ≡ reply.Mounted

mount_answer : (off failed read : Bool) (answer : Reply) → (if off then (if failed then Some reply.Io else due_if read reply.Mounted) else None) ≡ Some answer → IsTrue (is_mounted answer) →
    IsMountAnswer off read answer
mount_answer false failed read answer e h = absurd (none-some answer e)
mount_answer true true read answer e h = absurd (false≢true (subst (λ x. IsTrue (is_mounted x)) (sym (same_Some reply.Io answer e)) h))
mount_answer true false false answer e h = absurd (none-some answer e)
mount_answer true false true answer e h = record { off_is = refl; read_is = refl; answer_is = sym (same_Some reply.Mounted answer e) }

module _ (s : State) (journal : ℕ → Journal) where
  -- ---- what leaves the logs

  rests : Goes s journal journal (work_of s)
  rests = Keeps (λ a. same_life (s.core.servers a)) refl (here_were s) refl (λ a. refl)

  one_keeps : (c : ℕ) (new : Server) → IsLifeAs new (s.core.servers c) → Goes s journal journal (at_server s c new)
  one_keeps c new same = Keeps (put_life s.core.servers c new same) refl (here_were s) refl (λ a. refl)

  call_fails : (c : ℕ) → Goes s journal journal (work_of (record s { core = call_failed s.core c }))
  call_fails c = go (c == host_party)
    where
      go : (b : Bool) → Goes s journal journal (work_of (record s { core = if b then record s.core { over = true } else with_server s.core c (failed_by (s.core.servers c)) }))
      go true = rests
      go false = one_keeps c (failed_by (s.core.servers c)) (record { phase = inl refl; expiry = refl; ring = refl })

  -- ---- lines

  module _ (c : ℕ) where
    abbrev old : Server
    old = s.core.servers c

    fetched_life : (sector : ℕ) (block : Block) (off : Bool) (cover : Option LockId) → IsLifeAs (if off then with_under old (slot_read c sector block) else cached_under old sector block cover) old
    fetched_life sector block true cover = record { phase = inl refl; expiry = refl; ring = refl }
    fetched_life sector block false None = same_life old
    fetched_life sector block false (Some cover) = record { phase = inl refl; expiry = refl; ring = refl }

    fetch_fails : Goes s journal journal (work_of (record s { core = fetch_failed s.core c }))
    fetch_fails = go (is_off old.phase)
      where
        go : (off : Bool) → Goes s journal journal (work_of (record s { core = if off then with_server s.core c (with_under old refused_under) else call_failed s.core c }))
        go true = one_keeps c (with_under old refused_under) (record { phase = inl refl; expiry = refl; ring = refl })
        go false = call_fails c

    fetches : (sector : ℕ) (heard : Heard) → Goes s journal journal (work_of (record s { core = after s.core (Fetch c sector) heard }))
    fetches sector (Got block) = one_keeps c (fetched_by c (stage s.core c) sector block old) (fetched_life sector block (is_off old.phase) (cover_needed (stage s.core c) sector))
    fetches sector Nothing = fetch_fails
    fetches sector GetFailed = fetch_fails
    fetches sector Written = fetch_fails
    fetches sector Late = fetch_fails
    fetches sector (PutFailed new) = fetch_fails

    again_goes : IsTrue (is_server c) → (at : Option Stage) → stage s.core c ≡ at → Goes s journal (reclaimed_journals journal c at) (at_server s c (again_by s.core.setting.logs at old))
    again_goes server None e = one_keeps c old (same_life old)
    again_goes server (Some (Asking need)) e = one_keeps c old (same_life old)
    again_goes server (Some (Fetching needs)) e = one_keeps c old (same_life old)
    again_goes server (Some Moving) e = one_keeps c (with_under old set_anew) (record { phase = inl refl; expiry = refl; ring = refl })
    again_goes server (Some Stopping) e = one_keeps c old (same_life old)
    again_goes server (Some (Growing needs seen)) e = one_keeps c (with_under old (set_grown needs seen)) (record { phase = inl refl; expiry = refl; ring = refl })
    again_goes server (Some (Clearing block)) e = one_keeps c old (same_life old)
    again_goes server (Some (Finishing outcome)) e = Turns (Reclaims c outcome server e) (λ a. happens journal c a GiveUp)

    commit_goes : IsTrue (is_server c) → IsTrue (is_none old.pending) → (at : Option Stage) → stage s.core c ≡ at → Goes s journal (committed_journals journal c at) (work_of (record s { core = committed_at s.core c at }))
    commit_goes server cleared None e = rests
    commit_goes server cleared (Some (Asking need)) e = rests
    commit_goes server cleared (Some (Fetching needs)) e = rests
    commit_goes server cleared (Some Moving) e = rests
    commit_goes server cleared (Some Stopping) e = rests
    commit_goes server cleared (Some (Growing needs seen)) e = rests
    commit_goes server cleared (Some (Clearing block)) e = rests
    commit_goes server cleared (Some (Finishing outcome)) e = Turns (Commits c outcome server e cleared) (λ a. appended_named journal c a outcome.redo)

    -- ---- answers

    abbrev Answered : Bool → Type 0
    Answered mounts = Goes s journal (if mounts then put journal c (journal_at (slots_of s.disk c)) else journal) (work_of (record s { core = answered s.core c }))

    mounts_go : Makes s (Answer c) Nothing → IsTrue (begins_mount s.core c) → Answered true
    mounts_go m begins = subst (λ d. Goes s journal (put journal c (journal_at (slots_of s.disk c))) (work_of (record s { core = d }))) (sym (answered_is s.core c op.Mount x))
        (subst (λ y. Goes s journal (put journal c (journal_at (slots_of s.disk c))) (work_of (record s { core = answered_so s.core c x.under op.Mount y false }))) (sym is.answer_is)
        (Turns (Mounts c x.under m.can.can.server is.off_is x.is is.read_is) (λ a. named journal c a (λ n j. journals.journal_at (slots_of s.disk n)) (journal_at (slots_of s.disk c)) refl)))
      where
        asked : IsTrue (asks is_mount old) × IsTrue (is_mounted_answer (due_at s.core c))
        asked = and_parts (asks is_mount old) (is_mounted_answer (due_at s.core c)) begins

        x : IsOpenOf s.core c op.Mount
        x = open_of s.core c is_mount op.Mount mount_is asked.0 m.can.can.due

        is : IsMountAnswer (is_off old.phase) (is_read s.core.setting.logs x.under.slots) x.answer
        is = mount_answer (is_off old.phase) x.under.get_failed (is_read s.core.setting.logs x.under.slots) x.answer x.own (subst (λ o. IsTrue (is_mounted_answer o)) x.due asked.1)

    unmounts_go : Makes s (Answer c) Nothing → IsTrue (ends_mount s.core c) → Answered false
    unmounts_go m asked = subst (λ d. Goes s journal journal (work_of (record s { core = d }))) (sym (answered_is s.core c op.Unmount x)) (Turns (Leaves c m.can.can.server due.0 due.1) (λ a. refl))
      where
        x : IsOpenOf s.core c op.Unmount
        x = open_of s.core c is_unmount op.Unmount unmount_is asked m.can.can.due

        due : IsTrue (is_up old.phase) × IsTrue (clean_at s.core c)
        due = and_parts (is_up old.phase) (clean_at s.core c) (given_due (is_up old.phase && clean_at s.core c) reply.Ok x.answer x.own)

    answers : Makes s (Answer c) Nothing → Answered (begins_mount s.core c)
    answers m = go (begins_mount s.core c) (ends_mount s.core c) refl refl
      where
        go : (x y : Bool) → begins_mount s.core c ≡ x → ends_mount s.core c ≡ y → Answered x
        go true y e f = mounts_go m e
        go false true e f = unmounts_go m f
        go false false e f =
            let x : AnsweredParts s.core (answered s.core c) = answered_parts s.core c old.under (due_at s.core c) refl refl (ap not (ap (λ z. z || ends_mount s.core c) e ∙ f)) in
            subst (λ d. Goes s journal journal (work_of (record s { core = d }))) (sym x.is) (Keeps (λ a. life_as (x.servers a) (s.core.servers a) (x.reads.alike a)) refl (here_were s) refl (λ a. refl))

  -- ---- locks and writes

  given_goes : (c : ℕ) (lock : LockId) → CanGive s.core c lock → (asked : Option AskedFor) → Goes s journal journal (work_of (record s { core = given_for s.core c lock asked }))
  given_goes c lock can None = rests
  given_goes c lock can (Some Downgrade) = Turns (Lowers c lock can) (λ a. refl)
  given_goes c lock can (Some Release) = Turns (Releases c lock can) (λ a. refl)

  issued_goes : (c sector : ℕ) → CanIssue s.core c sector → (write : Option Write) → value_at (writes s.core c) sector ≡ write →
      Goes s journal (if is_log_write write then with_event_of journal c log.Issue else journal) (work_of (record s { core = issued_as s.core c sector write }))
  issued_goes c sector can None e = rests
  issued_goes c sector can (Some write) e = Turns (Issues c sector write can e) (λ a. issued_named journal c a write.purpose)

  module _ (ticket : ℕ) (flight : core.Flight) (e : value_at s.core.flights ticket ≡ Some flight) where
    written_goes : s.core.now ≤ flight.stamp → (present : Bool) → flight.present ≡ present →
        Goes s journal (written_journals journal flight Written flight.purpose) (work_of (record s {
          core = if present then with_server (landed s.core ticket) flight.server (acknowledged flight.sector flight.block flight.purpose (s.core.servers flight.server)) else landed s.core ticket;
          disk = written s.disk flight.sector flight.block;
        }))
    written_goes early true p = Turns (Lands ticket flight e early p) (λ a. landed_named journal flight.server a flight.purpose ∙ ap log_journal (ap (λ b. journals_landed journal flight.server b flight.purpose a) (sym p) ∙ written_named journal flight a flight.purpose))
    written_goes early false p = Turns (Drifts ticket flight e early p) (λ a. drifted_named journal flight.server a flight.purpose ∙ ap log_journal (ap (λ b. journals_landed journal flight.server b flight.purpose a) (sym p) ∙ written_named journal flight a flight.purpose))

    broken_goes : (new : Bool) → s.core.now ≤ flight.stamp → Goes s journal (written_journals journal flight (PutFailed new) flight.purpose) (work_of (record s {
      core = call_failed (landed s.core ticket) flight.server;
      disk = disk_with s.disk flight (PutFailed new);
    }))
    broken_goes new early = go (flight.server == host_party) (breaks new)
      where
        breaks : (b : Bool) → Goes s journal (written_journals journal flight (PutFailed b) flight.purpose) (record (work_of s) {
          servers = failed_at s.core.servers flight.server;
          flights = without s.core.flights ticket;
          disk = disk_with s.disk flight (PutFailed b);
        })
        breaks true = Turns (Breaks ticket flight true e early) (λ a. broken_named journal flight a flight.purpose)
        breaks false = Turns (Breaks ticket flight false e early) (λ a. ap log_journal (kept_named journal flight a flight.purpose))

        go : (b : Bool) → Goes s journal (written_journals journal flight (PutFailed new) flight.purpose) (record (work_of s) {
          servers = if b then s.core.servers else put s.core.servers flight.server (failed_by (s.core.servers flight.server));
          flights = without s.core.flights ticket;
          disk = disk_with s.disk flight (PutFailed new);
        }) → Goes s journal (written_journals journal flight (PutFailed new) flight.purpose) (work_of (record s {
          core = if b then record (landed s.core ticket) { over = true } else with_server (landed s.core ticket) flight.server (failed_by (s.core.servers flight.server));
          disk = disk_with s.disk flight (PutFailed new);
        }))
        go true goes = goes
        go false goes = goes

    arrived_as_goes : (heard : Heard) → MayArrive s.core.now (Some flight) heard →
        Goes s journal (written_journals journal flight heard flight.purpose) (work_of (record s { core = arrived_as (landed s.core ticket) flight heard; disk = disk_with s.disk flight heard }))
    arrived_as_goes Written may = written_goes may flight.present refl
    arrived_as_goes Late may = Turns (Fades ticket flight e (inl may)) (λ a. ap log_journal (late_named journal flight a flight.purpose))
    arrived_as_goes (PutFailed new) may = broken_goes new may
    arrived_as_goes Nothing may = absurd may
    arrived_as_goes (Got block) may = absurd may
    arrived_as_goes GetFailed may = absurd may

  arrived_goes : (ticket : ℕ) (heard : Heard) (flight : Option core.Flight) → value_at s.core.flights ticket ≡ flight → MayArrive s.core.now flight heard →
      Goes s journal (arrived_journals journal heard flight) (work_of (record s { core = arrived_from s.core ticket heard flight; disk = disk_from s.disk heard flight }))
  arrived_goes ticket heard None e may = absurd may
  arrived_goes ticket heard (Some flight) e may = arrived_as_goes ticket flight e heard may

  lost_goes : (ticket : ℕ) (flight : Option core.Flight) → value_at s.core.flights ticket ≡ flight → IsTrue (is_flight (is_by_dead s.core) flight) → Goes s journal journal (work_of (record s { core = landed s.core ticket }))
  lost_goes ticket None e dead = absurd (false≢true dead)
  lost_goes ticket (Some flight) e dead = Turns (Fades ticket flight e (inr dead)) (λ a. refl)

  -- ---- lives, recoveries and the end

  died_goes : (c : ℕ) → IsTrue (is_server c) → (phase : Phase) → (s.core.servers c).phase ≡ phase → Goes s journal journal (work_of (record s { core = died_in s.core c phase }))
  died_goes c server Off p = rests
  died_goes c server Up p = rests
  died_goes c server Still p = rests
  died_goes c server (Doomed fate) p = Turns (Dies c fate server p) (λ a. refl)
  died_goes c server Dead p = rests

  recovery_goes : (by : ℕ) (recovery : Option Recovery) → Goes s journal journal (at_server s by (record (s.core.servers by) { recovery = recovery }))
  recovery_goes by recovery = one_keeps by (record (s.core.servers by) { recovery = recovery }) (record { phase = inl refl; expiry = refl; ring = refl })

  loads_go : (by slot : ℕ) (heard : Heard) → Goes s journal journal (work_of (record s { core = after s.core (Load by slot) heard }))
  loads_go by slot (Got block) = recovery_goes by _
  loads_go by slot Nothing = call_fails by
  loads_go by slot GetFailed = call_fails by
  loads_go by slot Written = call_fails by
  loads_go by slot Late = call_fails by
  loads_go by slot (PutFailed new) = call_fails by

  looks_go : (by sector : ℕ) (heard : Heard) → Goes s journal journal (work_of (record s { core = after s.core (Look by sector) heard }))
  looks_go by sector (Got block) = recovery_goes by _
  looks_go by sector Nothing = call_fails by
  looks_go by sector GetFailed = call_fails by
  looks_go by sector Written = call_fails by
  looks_go by sector Late = call_fails by
  looks_go by sector (PutFailed new) = call_fails by

  finished_goes : (by : ℕ) → CanFinish s.core by → (recovery : Option Recovery) → (s.core.servers by).recovery ≡ recovery → Goes s journal journal (work_of (record s { core = finished_from s.core by recovery }))
  finished_goes by can None e = rests
  finished_goes by can (Some recovery) e = Turns (Finishes by recovery can e) (λ a. refl)

  host_goes : (line : Option Line) → Goes s journal journal (work_of (record s { core = host_answered_line s.core line }))
  host_goes None = rests
  host_goes (Some line) = go (is_halt line.what)
    where
      go : (halts : Bool) → Goes s journal journal (record (work_of s) { flights = if halts then [] else s.core.flights })
      go true = Keeps (λ a. same_life (s.core.servers a)) refl tt refl (λ a. refl)
      go false = rests

  closes_go : (c : ℕ) → IsTrue (is_server c) → IsTrue (is_up (s.core.servers c).phase) → Goes s journal journal (work_of (record s { core = after s.core (Close c) Nothing }))
  closes_go c server up = go (clean_at s.core c) refl
    where
      go : (b : Bool) → clean_at s.core c ≡ b → Goes s journal journal (work_of (record s {
        core = if b then record s.core { servers = put s.core.servers c (off_after (s.core.servers c)); locks = cleared s.core.locks c } else with_server s.core c (wanting_all (s.core.servers c));
      }))
      go true e = Turns (Leaves c server up e) (λ a. refl)
      go false e = one_keeps c (wanting_all (s.core.servers c)) (life_as (wanting_all (s.core.servers c)) (s.core.servers c) (wanting_as (s.core.servers c)))

  reads_go : (sector : ℕ) (heard : Heard) → Goes s journal journal (work_of (record s { core = after s.core (Read sector) heard }))
  reads_go sector (Got block) = rests
  reads_go sector Nothing = call_fails host_party
  reads_go sector GetFailed = call_fails host_party
  reads_go sector Written = call_fails host_party
  reads_go sector Late = call_fails host_party
  reads_go sector (PutFailed new) = call_fails host_party

  -- ---- each step

  event_goes : (event : Event) (heard : Heard) → Makes s event heard → Goes s journal (journals_after s event heard journal) (work_of (next s event heard))
  event_goes (Begin c) heard m = one_keeps c (begun_line (s.core.servers c) (next_of s.core c)) (life_as (begun_line (s.core.servers c) (next_of s.core c)) (s.core.servers c) (begun_as (s.core.servers c) (next_of s.core c)))
  event_goes (Ask c lock mode) heard m = Turns (Asks c lock mode m.can.can.server m.can.can.least) (λ a. refl)
  event_goes (Fetch c sector) heard m = fetches c sector heard
  event_goes (Again c) heard m = again_goes c m.can.can.server (stage s.core c) refl
  event_goes (Clear c block) heard m = Turns (Clears c block m.can.can.server m.can.can.clear) (λ a. refl)
  event_goes (Commit c) heard m = commit_goes c m.can.can.server m.can.can.cleared (stage s.core c) refl
  event_goes (Answer c) heard m = answers c (subst (λ h. Makes s (Answer c) h) m.hears m)
  event_goes (Give c lock) heard m = given_goes c lock m.can.can (asked_for s.core.locks c lock)
  event_goes (Issue c sector) heard m = issued_goes c sector m.can.can (value_at (writes s.core c) sector) refl
  event_goes (Doom c) heard m = Turns (Dooms c (fate_of s.core c) m.can.can) (λ a. refl)
  event_goes (Resume c) heard m = Turns (Resumes c m.can.can) (λ a. refl)
  event_goes (Arrive ticket) heard m = arrived_goes ticket heard (value_at s.core.flights ticket) refl m.hears
  event_goes (Lose ticket) heard m = lost_goes ticket (value_at s.core.flights ticket) refl m.can.can.dead
  event_goes (Die c) heard m = died_goes c m.can.can.server (s.core.servers c).phase refl
  event_goes (Renew c) heard m = Turns (Renews c m.can.can) (λ a. refl)
  event_goes Tick heard m = Turns (Ticks m.can.can) (λ a. refl)
  event_goes (Recover dead by) heard m = Turns (Recovers dead by m.can.can) (λ a. refl)
  event_goes (Load by slot) heard m = loads_go by slot heard
  event_goes (Look by sector) heard m = looks_go by sector heard
  event_goes (Finish by) heard m = finished_goes by m.can.can (s.core.servers by).recovery refl
  event_goes (HostLine number) heard m = host_goes (next_of s.core host_party)
  event_goes (Close c) heard m = closes_go c m.can.can.server m.can.can.up
  event_goes (Read sector) heard m = reads_go sector heard
  event_goes (Show place) heard m = rests
  event_goes End heard m = rests

  pub step_goes : (v : State) (step : Step s v) → Goes s journal (journals_next s v step journal) (work_of v)
  step_goes v (Event_ event heard makes) = event_goes event heard makes
  step_goes v (Enter c line can) = rests
  step_goes v (Hold c on may) = rests
  step_goes v (Flush c may) = one_keeps c (wanting_all_up (s.core.servers c)) (life_as (wanting_all_up (s.core.servers c)) (s.core.servers c) (wanting_up_as (s.core.servers c)))
  step_goes v (Relock locks going are same wait) = Keeps (λ a. same_life (s.core.servers a)) refl (here_were s) refl (λ a. refl)
  step_goes v (Note line may) = rests
  step_goes v (Peek sector going) = rests
  step_goes v (PeekFails sector going) = call_fails host_party
