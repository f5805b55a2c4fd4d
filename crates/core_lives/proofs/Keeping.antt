-- The steps that are shown here keep the room of logs, step by step.
use Rattle.std.proofs.Common.{◌≡◌, ℕ, ◌+◌, ◌*◌, ◌^◌, ◌%◌, ◌≤◌, ◌==◌, Bool, true, false, not, ◌&&◌, ◌||◌, if◌then◌else◌, IsTrue, Option, Some, None, refl, sym, ap, ◌∙◌, subst, arith}
use Rattle.std.proofs.lemmas.Bool.{and_parts, false≢true}
use Rattle.frang_base.specs.Functions.{put}
use Rattle.frang_base.specs.declared.op.Op.TheVariants as op
use Rattle.frang_base.specs.declared.reply.Reply.TheVariants as reply
use Rattle.frang_base.specs.declared.lock.LockId.{LockId}
use Rattle.frang_base.specs.declared.script.Line.{Line}
use Rattle.frang_base.proofs.Basics.{at_put}
use Rattle.lock_definitions.specs.Calls.{asked_for, cleared}
use Rattle.lock_definitions.specs.declared.claim.AskedFor.{AskedFor}
use Rattle.lock_definitions.specs.declared.claim.AskedFor.TheVariants.{Release, Downgrade}
use Rattle.tree_definitions.specs.Touched.{is_unmount}
use Rattle.sector_bytes.specs.Sectors.{Sectors}
use Rattle.cache_definitions.specs.Caches.{dropped}
use Rattle.disk_definitions.specs.Logs.{log_end}
use Rattle.disk_definitions.specs.Replay.{slots_of}
use Rattle.ring_definitions.specs.RingSteps.{GoodLogsEndWithin}
use Rattle.ring_definitions.specs.Rings.{last, ring_at}
use Rattle.core_definitions.specs.Cores.{Core, clean_at, due_at, next_of, stage, with_server}
use Rattle.core_definitions.specs.EndEffects.{closed, host_answered_line}
use Rattle.core_definitions.specs.Effects.{after}
use Rattle.core_definitions.specs.Events.{Event, Begin, Ask, Fetch, Again, Clear, Commit, Answer, Give, Issue, Doom, Resume, Arrive, Lose, Die, Renew, Tick, Recover, Load, Look, Finish, HostLine, Close, Read, Show, End, Heard, Nothing, Got, GetFailed, Written, Late, PutFailed}
use Rattle.core_definitions.specs.LineEffects.{again_by, answered, begun_line, cached_under, call_failed, cover_needed, off_after, refused_under, slot_read, up_after, with_under}
use Rattle.core_definitions.specs.LineGuards.{is_server}
use Rattle.core_definitions.specs.Logs.{end_of}
use Rattle.core_definitions.specs.Runs.{State as RunMoment, Event_, Enter, Hold, Flush, Relock, Note, Peek, PeekFails, Makes, next}
use Rattle.core_definitions.specs.Scripts.{Marks, host_party}
use Rattle.core_definitions.specs.Servers as life
use Rattle.core_definitions.specs.Servers.{Server, is_off, is_still, is_up, wanting_all, wanting_all_up}
use Rattle.core_definitions.specs.Settings.{lease_to, setting_of}
use Rattle.core_definitions.specs.WriteEffects.{died_in, died_with, fate_of, flushed_at, given_for, up_again}
use Rattle.core_facts.specs.LogReads.{MountsReadTheDisk}
use Rattle.core_facts.specs.Stamps.{WhoLivesHasFreshWrites}
use Rattle.core_laws.proofs.Memory.{given_due}
use Rattle.core_laws.proofs.Resting.{good_of_run}
use Rattle.core_laws.specs.Facts.{OffHasNoFlights, OffHasNothing, RecoveriesAreOfTheDead}
use Rattle.core_laws.specs.Waits.{MountsReadTheirLogs}
use Rattle.core_transcripts.specs.Answers.{LinesUnderWayAreNext, ReadScriptsHaveOwnNumbers}
use Rattle.sector_world.specs.World.{World}
use Rattle.core_world.specs.Journals.{Journal, sector_log}
use Rattle.core_world.specs.Steps.{IsReached, IsWorldOf}
use Rattle.core_lives.proofs.Alike.{mounted_journal}
use Rattle.core_lives.proofs.Answering.{IsOpenOf, answered_is, open_of, unmount_is}
use Rattle.core_lives.proofs.AtRest.{ends_at_last}
use Rattle.core_lives.proofs.Emptying.{clean_parts}
use Rattle.core_lives.proofs.Idling.{AnsweredParts, MarksMore, again_as, answered_parts, begun_as, one_more, wanting_up_as}
use Rattle.core_lives.proofs.Mounting.{IsMounting, mounting}
use Rattle.core_lives.proofs.Phases.{doomed_mounted, still_mounted, up_mounted}
use Rattle.core_lives.proofs.Rooming.{SameReach, as_reach, left_falls, mounted_on, one_less, room_stays}
use Rattle.core_lives.specs.Cleared.{is_shown_event}
use Rattle.core_lives.specs.Idle.{begins_mount, ends_mount, is_idle}
use Rattle.core_lives.specs.Room.{HasRoom, StepsKeepRoom, lines_left, reach_of}

-- the room by parts of the core
abbrev RoomIn : Core → Sectors → ℕ → Type 0
RoomIn c disk a = reach_of (c.servers a) (slots_of disk a) + 100 * lines_left c.setting.script c.answered a ≤ 2 ^ 61

-- each server's log comes as far, and the lines that were answered still are
record Stands (c d : Core) : Type 0 where
  same : (b : ℕ) → SameReach (d.servers b) (c.servers b)
  more : MarksMore d.answered c.answered
  script : d.setting.script ≡ c.setting.script

room_by : (c d : Core) (disk : Sectors) → Stands c d → (a : ℕ) → RoomIn c disk a → RoomIn d disk a
room_by c d disk x a = room_stays (d.servers a) (c.servers a) (slots_of disk a) (lines_left d.setting.script d.answered a) (lines_left c.setting.script c.answered a) (x.same a)
    (subst (λ l. lines_left l d.answered a ≤ lines_left c.setting.script c.answered a) (sym x.script) (left_falls c.setting.script a d.answered c.answered x.more))

alike_reach : (server : Server) → SameReach server server
alike_reach server = record { off = refl; ring = refl }

all_stand : (c : Core) → Stands c c
all_stand c = record { same = λ b. alike_reach (c.servers b); more = λ n h. h; script = refl }

one_stands : (c : Core) (a : ℕ) (new : Server) → SameReach new (c.servers a) → Stands c (with_server c a new)
one_stands c a new here = record {
  same = λ b. at_put (λ x. SameReach x (c.servers b)) c.servers a new b (λ e. subst (λ n. SameReach new (c.servers n)) (sym e) here) (λ n. alike_reach (c.servers b));
  more = λ n h. h;
  script = refl;
}

-- ---- event by event

fetch_stands : (c : Core) (a sector : ℕ) (heard : Heard) → IsTrue (is_off (c.servers a).phase) → Stands c (after c (Fetch a sector) heard)
fetch_stands c a sector heard off = by heard
  where
    failed : Stands c (if is_off (c.servers a).phase then with_server c a (with_under (c.servers a) refused_under) else call_failed c a)
    failed = subst (λ b. Stands c (if b then with_server c a (with_under (c.servers a) refused_under) else call_failed c a)) (sym off)
        (one_stands c a (with_under (c.servers a) refused_under) (record { off = refl; ring = refl }))

    by : (h : Heard) → Stands c (after c (Fetch a sector) h)
    by (Got block) = subst (λ b. Stands c (with_server c a
        (if b then with_under (c.servers a) (slot_read a sector block) else cached_under (c.servers a) sector block (cover_needed (stage c a) sector)))) (sym off)
        (one_stands c a (with_under (c.servers a) (slot_read a sector block)) (record { off = refl; ring = refl }))
    by Nothing = failed
    by GetFailed = failed
    by Written = failed
    by Late = failed
    by (PutFailed new) = failed

given_stands : (c : Core) (a : ℕ) (lock : LockId) (asked : Option AskedFor) → Stands c (given_for c a lock asked)
given_stands c a lock None = all_stand c
given_stands c a lock (Some Downgrade) = record { same = λ b. alike_reach (c.servers b); more = λ n h. h; script = refl }
given_stands c a lock (Some Release) =
    let x = one_stands c a (record (c.servers a) { cache = dropped (c.servers a).cache lock }) (record { off = refl; ring = refl }) in
    record { same = x.same; more = x.more; script = refl }

died_stands : (c : Core) (a : ℕ) (phase : life.Phase) → (c.servers a).phase ≡ phase → Stands c (died_in c a phase)
died_stands c a life.Off e = all_stand c
died_stands c a life.Up e = all_stand c
died_stands c a life.Still e = all_stand c
died_stands c a (life.Doomed fate) e =
    let x = one_stands c a (died_with fate (c.servers a)) (record { off = sym (ap is_off e); ring = refl }) in
    record { same = x.same; more = x.more; script = refl }
died_stands c a life.Dead e = all_stand c

ticked_stands : (c : Core) (now : ℕ) (b : ℕ) → SameReach (flushed_at c now b) (c.servers b)
ticked_stands c now b = go (now % c.setting.flush_ticks == 0) (is_up (c.servers b).phase)
  where
    go : (flushes up : Bool) → SameReach (if flushes then (if up then wanting_all (c.servers b) else c.servers b) else c.servers b) (c.servers b)
    go true true = record { off = refl; ring = refl }
    go true false = record { off = refl; ring = refl }
    go false up = record { off = refl; ring = refl }

host_stands : (c : Core) (line : Option Line) → Stands c (host_answered_line c line)
host_stands c None = all_stand c
host_stands c (Some line) = record { same = λ b. alike_reach (c.servers b); more = one_more c.answered line.number; script = refl }

read_stands : (c : Core) (sector : ℕ) (heard : Heard) → Stands c (after c (Read sector) heard)
read_stands c sector (Got block) = record { same = λ b. alike_reach (c.servers b); more = λ n h. h; script = refl }
read_stands c sector Nothing = record { same = λ b. alike_reach (c.servers b); more = λ n h. h; script = refl }
read_stands c sector GetFailed = record { same = λ b. alike_reach (c.servers b); more = λ n h. h; script = refl }
read_stands c sector Written = record { same = λ b. alike_reach (c.servers b); more = λ n h. h; script = refl }
read_stands c sector Late = record { same = λ b. alike_reach (c.servers b); more = λ n h. h; script = refl }
read_stands c sector (PutFailed new) = record { same = λ b. alike_reach (c.servers b); more = λ n h. h; script = refl }

-- ---- the end and the begin of a mount

-- a log at rest ends with its ring
left_room : (c : Core) (disk : Sectors) (a : ℕ) (marks : Marks) → MarksMore marks c.answered → is_off (c.servers a).phase ≡ false →
    log_end (slots_of disk a) ≡ last (c.servers a).ring → (b : ℕ) →
    RoomIn c disk b → RoomIn (record c { servers = put c.servers a (off_after (c.servers a)); answered = marks }) disk b
left_room c disk a marks more on ends b room =
    at_put (λ y. reach_of y (slots_of disk b) + 100 * lines_left c.setting.script marks b ≤ 2 ^ 61) c.servers a (off_after (c.servers a)) b
    (λ e. subst (λ n. log_end (slots_of disk n) + 100 * lines_left c.setting.script marks n ≤ 2 ^ 61) (sym e) (own (subst (RoomIn c disk) e room)))
    (λ n. room_stays (c.servers b) (c.servers b) (slots_of disk b) (lines_left c.setting.script marks b) (lines_left c.setting.script c.answered b) (alike_reach (c.servers b))
    (left_falls c.setting.script b marks c.answered more) room)
  where
    own : RoomIn c disk a → log_end (slots_of disk a) + 100 * lines_left c.setting.script marks a ≤ 2 ^ 61
    own = go (log_end (slots_of disk a)) (last (c.servers a).ring) (reach_of (c.servers a) (slots_of disk a)) (lines_left c.setting.script marks a)
        (lines_left c.setting.script c.answered a) ends
        (ap (λ x. if x then log_end (slots_of disk a) else last (c.servers a).ring + 64) on) (left_falls c.setting.script a marks c.answered more)
      where
        go : (end top reach less old : ℕ) → end ≡ top → reach ≡ top + 64 → less ≤ old → reach + 100 * old ≤ 2 ^ 61 → end + 100 * less ≤ 2 ^ 61
        go end top reach less old e f l h = omega arith

-- a mount answers a line
begun_room : (c : Core) (disk : Sectors) (a : ℕ) (marks : Marks) (new : Server) → MarksMore marks c.answered → is_off (c.servers a).phase ≡ true → is_off new.phase ≡ false →
    last new.ring ≡ log_end (slots_of disk a) → lines_left c.setting.script marks a + 1 ≤ lines_left c.setting.script c.answered a → (b : ℕ) → RoomIn c disk b →
    RoomIn (record c { servers = put c.servers a new; answered = marks }) disk b
begun_room c disk a marks new more off on ends less b room =
    at_put (λ y. reach_of y (slots_of disk b) + 100 * lines_left c.setting.script marks b ≤ 2 ^ 61) c.servers a new b
    (λ e. subst (λ n. reach_of new (slots_of disk n) + 100 * lines_left c.setting.script marks n ≤ 2 ^ 61) (sym e) (own (subst (RoomIn c disk) e room)))
    (λ n. room_stays (c.servers b) (c.servers b) (slots_of disk b) (lines_left c.setting.script marks b) (lines_left c.setting.script c.answered b) (alike_reach (c.servers b))
    (left_falls c.setting.script b marks c.answered more) room)
  where
    own : RoomIn c disk a → reach_of new (slots_of disk a) + 100 * lines_left c.setting.script marks a ≤ 2 ^ 61
    own = go (log_end (slots_of disk a)) (last new.ring) (reach_of (c.servers a) (slots_of disk a)) (reach_of new (slots_of disk a)) (lines_left c.setting.script marks a)
        (lines_left c.setting.script c.answered a) ends (ap (λ x. if x then log_end (slots_of disk a) else last (c.servers a).ring + 64) off)
        (ap (λ x. if x then log_end (slots_of disk a) else last new.ring + 64) on) less
      where
        go : (end top old reach n m : ℕ) → top ≡ end → old ≡ end → reach ≡ top + 64 → n + 1 ≤ m → old + 100 * m ≤ 2 ^ 61 → reach + 100 * n ≤ 2 ^ 61
        go end top old reach n m e f g l h = omega arith

-- ---- each step

module _ (ends : GoodLogsEndWithin) (nothing : OffHasNothing) (landed : OffHasNoFlights) (of_dead : RecoveriesAreOfTheDead) (fresh : WhoLivesHasFreshWrites)
    (whole : MountsReadTheirLogs) (read : MountsReadTheDisk)
    (own : ReadScriptsHaveOwnNumbers) (under_way : LinesUnderWayAreNext) where
  module _ (s : RunMoment) (w : World) (journal : ℕ → Journal) (r : IsReached s) (t : IsWorldOf s w journal) (b : ℕ) (room : RoomIn s.core s.disk b) where
    stood : (d : Core) → Stands s.core d → RoomIn d s.disk b
    stood d x = room_by s.core d s.disk x b room

    -- all is acknowledged, so the log ends with the ring
    rests : (a : ℕ) → IsTrue (is_server a) → IsTrue (is_up (s.core.servers a).phase) → IsTrue (clean_at s.core a) → log_end (slots_of s.disk a) ≡ last (s.core.servers a).ring
    rests a server up clean =
        ends_at_last ends (s.core.servers a).ring (clean_parts s.core a clean).reached s.core.now s.core.flights s.disk (sector_log w a) a (journal a)
        (mounted_journal (s.core.servers a).phase (up_mounted (s.core.servers a).phase up) (s.core.servers a).ring s.core.now s.core.flights s.disk (sector_log w a) a
        (journal a) (t.journals a server))

    leaves : (a : ℕ) (marks : Marks) → MarksMore marks s.core.answered → IsTrue (is_server a) → IsTrue (is_up (s.core.servers a).phase) → IsTrue (clean_at s.core a) →
        RoomIn (record s.core { servers = put s.core.servers a (off_after (s.core.servers a)); answered = marks }) s.disk b
    leaves a marks more server up clean =
        left_room s.core s.disk a marks more (mounted_on (s.core.servers a).phase (up_mounted (s.core.servers a).phase up)) (rests a server up clean) b room

    mounts : (a : ℕ) → Makes s (Answer a) Nothing → IsTrue (begins_mount s.core a) → RoomIn (answered s.core a) s.disk b
    mounts a m begins =
        let q : IsMounting s a = mounting nothing landed of_dead fresh whole read s r a m begins in
        subst (λ d. RoomIn d s.disk b) (sym q.leads)
        (begun_room s.core s.disk a (put s.core.answered q.under.line.number true) (up_after s.core q.under) (one_more s.core.answered q.under.line.number) (ap is_off q.off) refl
        (top (end_of s.core.setting.logs q.under.slots) ∙ q.ends)
        (one_less s.core.setting.script a s.core.answered q.under.line
        (under_way (setting_of r.script r.segments r.number) r.disk s (own r.bytes r.script r.read) r.run a q.under q.server q.is).0) b room)
      where
        top : (n : ℕ) → last (ring_at n) ≡ n
        top n = omega arith

    unmounts : (a : ℕ) → Makes s (Answer a) Nothing → IsTrue (ends_mount s.core a) → RoomIn (answered s.core a) s.disk b
    unmounts a m asked =
        let x : IsOpenOf s.core a op.Unmount = open_of s.core a is_unmount op.Unmount unmount_is asked m.can.can.due in
        let due = and_parts (is_up (s.core.servers a).phase) (clean_at s.core a) (given_due (is_up (s.core.servers a).phase && clean_at s.core a) reply.Ok x.answer x.own) in
        subst (λ d. RoomIn d s.disk b) (sym (answered_is s.core a op.Unmount x))
        (leaves a (put s.core.answered x.under.line.number true) (one_more s.core.answered x.under.line.number) m.can.can.server due.0 due.1)

    answers : (a : ℕ) → Makes s (Answer a) Nothing → RoomIn (answered s.core a) s.disk b
    answers a m = go (begins_mount s.core a) (ends_mount s.core a) refl refl
      where
        go : (x y : Bool) → begins_mount s.core a ≡ x → ends_mount s.core a ≡ y → RoomIn (answered s.core a) s.disk b
        go true y e f = mounts a m e
        go false true e f = unmounts a m f
        go false false e f =
            let x : AnsweredParts s.core (answered s.core a) = answered_parts s.core a (s.core.servers a).under (due_at s.core a) refl refl
            (ap not (ap (λ z. z || ends_mount s.core a) e ∙ f)) in
            subst (λ d. RoomIn d s.disk b) (sym x.is)
            (stood (record s.core { servers = x.servers; locks = x.locks; answered = x.answered })
            (record { same = λ i. as_reach (x.servers i) (s.core.servers i) (x.reads.alike i); more = x.more; script = refl }))

    closes : (a : ℕ) → Makes s (Close a) Nothing → RoomIn (closed s.core a) s.disk b
    closes a m = go (clean_at s.core a) refl
      where
        go : (x : Bool) → clean_at s.core a ≡ x →
            RoomIn (if x then record s.core { servers = put s.core.servers a (off_after (s.core.servers a)); locks = cleared s.core.locks a } else with_server s.core a
            (wanting_all (s.core.servers a))) s.disk b
        go true e = leaves a s.core.answered (λ n h. h) m.can.can.server m.can.can.up e
        go false e = stood (with_server s.core a (wanting_all (s.core.servers a))) (one_stands s.core a (wanting_all (s.core.servers a)) (record { off = refl; ring = refl }))

    neither : (x : Bool) → IsTrue (x || false) → IsTrue x
    neither true h = refl
    neither false h = h

    event_keeps : (event : Event) (heard : Heard) → Makes s event heard → IsTrue (is_shown_event s.core event) → RoomIn (after s.core event heard) s.disk b
    event_keeps (Begin a) heard m h = stood _ (one_stands s.core a (begun_line (s.core.servers a) (next_of s.core a)) (as_reach _ _ (begun_as (s.core.servers a) (next_of s.core a))))
    event_keeps (Ask a lock mode) heard m h = room
    event_keeps (Fetch a sector) heard m h = stood (after s.core (Fetch a sector) heard) (fetch_stands s.core a sector heard (neither (is_off (s.core.servers a).phase) h))
    event_keeps (Again a) heard m h =
        stood _ (one_stands s.core a (again_by s.core.setting.logs (stage s.core a) (s.core.servers a))
        (as_reach _ _ (again_as s.core (s.core.servers a) (stage s.core a) (neither (is_idle s.core (Again a)) h))))
    event_keeps (Clear a block) heard m h = absurd (false≢true h)
    event_keeps (Commit a) heard m h = absurd (false≢true h)
    event_keeps (Answer a) heard m h = subst (λ x. Makes s (Answer a) x → RoomIn (answered s.core a) s.disk b) (sym m.hears) (answers a) m
    event_keeps (Give a lock) heard m h = stood _ (given_stands s.core a lock (asked_for s.core.locks a lock))
    event_keeps (Issue a sector) heard m h = absurd (false≢true h)
    event_keeps (Doom a) heard m h = stood _ (one_stands s.core a (record (s.core.servers a) { phase = life.Doomed (fate_of s.core a) })
        (record {
          off = sym (mounted_on (s.core.servers a).phase
              (doomed_mounted s.core a (good_of_run (setting_of r.script r.segments r.number) r.disk s r.run) m.can.can));
          ring = refl;
        }))
    event_keeps (Resume a) heard m h =
        let x = one_stands s.core a (up_again s.core.setting s.core.now (s.core.servers a))
        (record {
          off = sym (mounted_on (s.core.servers a).phase
              (still_mounted (s.core.servers a).phase (and_parts (is_still (s.core.servers a).phase) _ m.can.can.past).0));
          ring = refl;
        }) in
        stood (after s.core (Resume a) heard) (record { same = x.same; more = x.more; script = refl })
    event_keeps (Arrive ticket) heard m h = absurd (false≢true h)
    event_keeps (Lose ticket) heard m h = absurd (false≢true h)
    event_keeps (Die a) heard m h = stood _ (died_stands s.core a (s.core.servers a).phase refl)
    event_keeps (Renew a) heard m h =
        let x = one_stands s.core a (record (s.core.servers a) { expiry = lease_to s.core.setting s.core.now }) (record { off = refl; ring = refl }) in
        stood (after s.core (Renew a) heard) (record { same = x.same; more = x.more; script = refl })
    event_keeps Tick heard m h = stood (after s.core Tick heard) (record { same = ticked_stands s.core (s.core.now + 1); more = λ n e. e; script = refl })
    event_keeps (Recover dead by) heard m h = absurd (false≢true h)
    event_keeps (Load by slot) heard m h = absurd (false≢true h)
    event_keeps (Look by sector) heard m h = absurd (false≢true h)
    event_keeps (Finish by) heard m h = absurd (false≢true h)
    event_keeps (HostLine number) heard m h = stood _ (host_stands s.core (next_of s.core host_party))
    event_keeps (Close a) heard m h = subst (λ x. Makes s (Close a) x → RoomIn (closed s.core a) s.disk b) (sym m.hears) (closes a) m
    event_keeps (Read sector) heard m h = stood (after s.core (Read sector) heard) (read_stands s.core sector heard)
    event_keeps (Show place) heard m h = room
    event_keeps End heard m h = room

    -- an arrival alone changes the disk
    at_next : (event : Event) (heard : Heard) → IsTrue (is_shown_event s.core event) → RoomIn (after s.core event heard) s.disk b → HasRoom (next s event heard) b
    at_next (Arrive ticket) heard h x = absurd (false≢true h)
    at_next (Begin a) heard h x = x
    at_next (Ask a lock mode) heard h x = x
    at_next (Fetch a sector) heard h x = x
    at_next (Again a) heard h x = x
    at_next (Clear a block) heard h x = x
    at_next (Commit a) heard h x = x
    at_next (Answer a) heard h x = x
    at_next (Give a lock) heard h x = x
    at_next (Issue a sector) heard h x = x
    at_next (Doom a) heard h x = x
    at_next (Resume a) heard h x = x
    at_next (Lose ticket) heard h x = x
    at_next (Die a) heard h x = x
    at_next (Renew a) heard h x = x
    at_next Tick heard h x = x
    at_next (Recover dead by) heard h x = x
    at_next (Load by slot) heard h x = x
    at_next (Look by sector) heard h x = x
    at_next (Finish by) heard h x = x
    at_next (HostLine number) heard h x = x
    at_next (Close a) heard h x = x
    at_next (Read sector) heard h x = x
    at_next (Show place) heard h x = x
    at_next End heard h x = x

  pub keep_room : StepsKeepRoom
  keep_room s v w journal (Event_ event heard makes) shown r t a server room = at_next s w journal r t a room event heard shown
      (event_keeps s w journal r t a room event heard makes shown)
  keep_room s v w journal (Enter b line can) shown r t a server room = room
  keep_room s v w journal (Hold b on may) shown r t a server room = room
  keep_room s v w journal (Flush b may) shown r t a server room =
      room_by s.core v.core s.disk (one_stands s.core b (wanting_all_up (s.core.servers b)) (as_reach _ _ (wanting_up_as (s.core.servers b)))) a room
  keep_room s v w journal (Relock locks going are same wait) shown r t a server room = room
  keep_room s v w journal (Note line may) shown r t a server room = room
  keep_room s v w journal (Peek sector going) shown r t a server room = room
  keep_room s v w journal (PeekFails sector going) shown r t a server room = room
