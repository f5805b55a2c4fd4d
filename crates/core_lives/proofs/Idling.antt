-- The steps that are none on the side of sectors: what each leaves of what the ties read.
use Rattle.std.proofs.Common.{◌≡◌, ℕ, Bool, true, false, not, ◌&&◌, ◌||◌, if◌then◌else◌, IsTrue, is_some, [], Option, Some, None, refl, sym, ap, ◌∙◌, subst, inl, inr}
use Rattle.std.proofs.lemmas.Bool.{false≢true, not-true}
use Rattle.std.proofs.lemmas.Option.{same_Some, none-some}
use Rattle.std.specs.List.{Contains}
use Rattle.std.specs.Option.{option_map}
use Rattle.frang_base.specs.declared.op.Op.{Op}
use Rattle.frang_base.specs.declared.op.Op.TheVariants as op
use Rattle.frang_base.specs.declared.reply.Reply.{Reply}
use Rattle.frang_base.specs.declared.reply.Reply.TheVariants as reply
use Rattle.frang_base.specs.declared.script.Line.{Line}
use Rattle.frang_base.specs.Functions.{put}
use Rattle.frang_base.proofs.Basics.{at_put}
use Rattle.lock_definitions.specs.Calls.{cleared}
use Rattle.lock_definitions.specs.Locks.{Locks}
use Rattle.sector_bytes.specs.Sectors.{Sectors}
use Rattle.tree_definitions.specs.Touched.{is_mounted, is_ok, is_unmount}
use Rattle.tree_definitions.specs.Transcript.{is_halt, is_mount}
use Rattle.core_definitions.specs.Cores.{Core, clean_at, due_at, next_of, stage, with_server}
use Rattle.core_definitions.specs.EndEffects.{host_answered_line}
use Rattle.core_definitions.specs.Effects.{after}
use Rattle.core_definitions.specs.Events.{Event, Begin, Ask, Fetch, Again, Clear, Commit, Answer, Give, Issue, Doom, Resume, Arrive, Lose, Die, Renew, Tick, Recover, Load, Look, Finish, HostLine, Close, Read, Show, End, Heard, Nothing, Got, GetFailed, Written, Late, PutFailed}
use Rattle.core_definitions.specs.Flights as core
use Rattle.core_definitions.specs.Flights.{Flights}
use Rattle.core_definitions.specs.LineEffects.{again_by, answered_fixed, answered_open, answered_under, answered_with, begun_line, begun_with, cached_under, call_failed, cover_needed, fetched_by, off_after, refused_under, set_anew, set_grown, slot_read, with_under}
use Rattle.core_definitions.specs.LineGuards.{is_grown, is_moved}
use Rattle.core_definitions.specs.Lines.{Stage, Asking, Fetching, Moving, Stopping, Growing, Clearing, Finishing, Under, operation_of}
use Rattle.core_definitions.specs.Runs.{State as RunMoment, Makes, flushed, next}
use Rattle.core_definitions.specs.Scripts.{Marks, host_party}
use Rattle.core_definitions.specs.Servers as life
use Rattle.core_definitions.specs.Servers.{Server, asked_by, due_if, due_under, is_answering, is_in_mount, is_off, is_open, is_up, own_answer, own_answer_of, wanting_all, wanting_all_up}
use Rattle.core_definitions.specs.Settings.{setting_of}
use Rattle.core_definitions.specs.WriteEffects.{fate_of}
use Rattle.core_laws.proofs.Membership.{contains_in}
use Rattle.core_laws.proofs.Memory.{given_due, opened}
use Rattle.core_laws.proofs.Resting.{good_of_run}
use Rattle.sector_world.specs.World.{World}
use Rattle.core_world.specs.Journals.{Journal}
use Rattle.core_world.specs.Steps.{IsReached}
use Rattle.core_lives.proofs.Alike.{IsReadAs, all_read, IsServerAs, IsWorldBy, by_world, keeps_as, one_read, same_server, world_by}
use Rattle.core_lives.proofs.Phases.{doomed_mounted, up_mounted}
use Rattle.core_lives.specs.Idle.{EntersKeepWorlds, FlushesKeepWorlds, HoldsKeepWorlds, IdleEventsKeepWorlds, NotesKeepWorlds, PeeksKeepWorlds, RelocksKeepWorlds, begins_mount, ends_mount, is_idle, is_mounted_answer, tells_sync}

-- each world by the one core is one by the other
abbrev pub KeepsBy : Core → Core → Sectors → Type 0
KeepsBy c d disk = (w : World) (journal : ℕ → Journal) → IsWorldBy c disk w journal → IsWorldBy d disk w journal

-- one server changed
one_keeps : (c : Core) (disk : Sectors) (a : ℕ) (new : Server) → IsServerAs new (c.servers a) → KeepsBy c (with_server c a new) disk
one_keeps c disk a new here w journal t = keeps_as c (put c.servers a new) c.locks c.flights c.over (one_read c a new here) disk w journal t

-- ---- lines

pub begun_as : (server : Server) (line : Option Line) → IsServerAs (begun_line server line) server
begun_as server None = same_server server
begun_as server (Some line) = go (operation_of line.what)
  where
    go : (operation : Option Op) → IsServerAs (begun_with server line operation) server
    go None = same_server server
    go (Some operation) = record { phase = inl refl; expiry = refl; failed = refl; ring = refl; cache = refl; recovery = refl }

pub under_as : (server : Server) (under : Option Under) → IsServerAs (record server { under = under }) server
under_as server under = record { phase = inl refl; expiry = refl; failed = refl; ring = refl; cache = refl; recovery = refl }

pub again_as : (c : Core) (server : Server) (at : Option Stage) → IsTrue (is_moved at || is_grown at) → IsServerAs (again_by c.setting.logs at server) server
again_as c server None h = absurd (false≢true h)
again_as c server (Some (Asking need)) h = absurd (false≢true h)
again_as c server (Some (Fetching needs)) h = absurd (false≢true h)
again_as c server (Some Moving) h = under_as server (option_map set_anew server.under)
again_as c server (Some Stopping) h = absurd (false≢true h)
again_as c server (Some (Growing needs seen)) h = under_as server (option_map (set_grown needs seen) server.under)
again_as c server (Some (Clearing block)) h = absurd (false≢true h)
again_as c server (Some (Finishing outcome)) h = absurd (false≢true h)

-- a slot of a mount, read or not
fetch_keeps : (c : Core) (disk : Sectors) (a sector : ℕ) (heard : Heard) → IsTrue (is_off (c.servers a).phase) → KeepsBy c (after c (Fetch a sector) heard) disk
fetch_keeps c disk a sector heard off = by heard
  where
    refused : KeepsBy c (with_server c a (with_under (c.servers a) refused_under)) disk
    refused = one_keeps c disk a (with_under (c.servers a) refused_under) (under_as (c.servers a) (option_map refused_under (c.servers a).under))

    failed : KeepsBy c (if is_off (c.servers a).phase then with_server c a (with_under (c.servers a) refused_under) else call_failed c a) disk
    failed = subst (λ b. KeepsBy c (if b then with_server c a (with_under (c.servers a) refused_under) else call_failed c a) disk) (sym off) refused

    by : (h : Heard) → KeepsBy c (after c (Fetch a sector) h) disk
    by (Got block) = one_keeps c disk a (fetched_by a (stage c a) sector block (c.servers a))
        (subst (λ b. IsServerAs (if b then with_under (c.servers a) (slot_read a sector block) else cached_under (c.servers a) sector block (cover_needed (stage c a) sector))
        (c.servers a)) (sym off)
        (under_as (c.servers a) (option_map (slot_read a sector block) (c.servers a).under)))
    by Nothing = failed
    by GetFailed = failed
    by Written = failed
    by Late = failed
    by (PutFailed new) = failed

-- ---- answers

module _ (c : Core) (a : ℕ) (under : Under) where
  abbrev old : Server
  old = c.servers a

  abbrev left : Bool → Op → Reply → Server
  left fixed operation answer = record (if fixed then answered_fixed old operation answer else answered_open c under old operation answer) { under = None }

  abbrev locks_left : Bool → Op → Locks
  locks_left fixed operation = if is_unmount operation && not fixed then cleared c.locks a else c.locks

  -- it is neither the begin nor the end of a mount
  abbrev is_plain : Bool → Op → Reply → Bool
  is_plain fixed operation answer = not (((not fixed && is_mount operation) && is_mounted answer) || (not fixed && is_unmount operation))

  abbrev Reads : Bool → Op → Reply → Type 0
  Reads fixed operation answer = IsReadAs c (put c.servers a (left fixed operation answer)) (locks_left fixed operation) c.flights c.over

  plain : IsReadAs c (put c.servers a (record old { under = None })) c.locks c.flights c.over
  plain = one_read c a (record old { under = None }) (under_as old None)

  mount_reads : (off failed read : Bool) (answer : Reply) → (if off then (if failed then Some reply.Io else due_if read reply.Mounted) else None) ≡ Some answer →
      IsTrue (is_plain false op.Mount answer) →
      Reads false op.Mount answer
  mount_reads false failed read answer e h = absurd (none-some answer e)
  mount_reads true true read answer e h = subst (λ x. Reads false op.Mount x) (same_Some reply.Io answer e) plain
  mount_reads true false false answer e h = absurd (none-some answer e)
  mount_reads true false true answer e h = absurd (false≢true (subst (λ x. IsTrue (is_plain false op.Mount x)) (sym (same_Some reply.Mounted answer e)) h))

  stalled : IsTrue (is_up old.phase) → IsReadAs c (put c.servers a (record old { phase = life.Still; under = None })) c.locks c.flights c.over
  stalled up = one_read c a (record old { phase = life.Still; under = None })
      (record { phase = inr (refl, up_mounted old.phase up, refl); expiry = refl; failed = refl; ring = refl; cache = refl; recovery = refl })

  armed : (arming : Option life.Arming) → IsReadAs c (put c.servers a (record old { arming = arming; under = None })) c.locks c.flights c.over
  armed arming = one_read c a (record old { arming = arming; under = None }) (record { phase = inl refl; expiry = refl; failed = refl; ring = refl; cache = refl; recovery = refl })

  open_reads : (operation : Op) (answer : Reply) → own_answer c.setting.logs c.flights a old under operation ≡ Some answer → IsTrue (is_plain false operation answer) →
      Reads false operation answer
  open_reads (op.Create path) answer e h = plain
  open_reads (op.Mkdir path) answer e h = plain
  open_reads (op.Link path to) answer e h = plain
  open_reads (op.Symlink path target) answer e h = plain
  open_reads (op.Unlink path) answer e h = plain
  open_reads (op.Rmdir path) answer e h = plain
  open_reads (op.Rename path to) answer e h = plain
  open_reads (op.Write path off bytes) answer e h = plain
  open_reads (op.Fill path off len byte) answer e h = plain
  open_reads (op.Truncate path len) answer e h = plain
  open_reads (op.Read path off len) answer e h = plain
  open_reads (op.Stat path) answer e h = plain
  open_reads (op.List path) answer e h = plain
  open_reads (op.Readlink path) answer e h = plain
  open_reads (op.Time path) answer e h = plain
  open_reads op.Sync answer e h = plain
  open_reads op.Mount answer e h = mount_reads (is_off old.phase) under.get_failed _ answer e h
  open_reads op.Unmount answer e h = absurd (false≢true h)
  open_reads op.Crash answer e h = plain
  open_reads (op.CrashAt k) answer e h = armed (Some (record { k = k; cuts = false }))
  open_reads (op.CutAt k) answer e h = armed (Some (record { k = k; cuts = true }))
  open_reads op.Stall answer e h = stalled (given_due (is_up old.phase) reply.Ok answer e)

  fixed_reads : (unmount ok : Bool) →
      IsReadAs c (put c.servers a (record (if unmount && ok then record old { owes = false } else old) { under = None }))
      (if unmount && not true then cleared c.locks a else c.locks) c.flights c.over
  fixed_reads true true = one_read c a (record old { owes = false; under = None })
      (record { phase = inl refl; expiry = refl; failed = refl; ring = refl; cache = refl; recovery = refl })
  fixed_reads true false = plain
  fixed_reads false ok = plain

  answer_reads : (operation : Op) (answer : Reply) → (is_some under.fixed ≡ false → own_answer c.setting.logs c.flights a old under operation ≡ Some answer) →
      IsTrue (is_plain (is_some under.fixed) operation answer) → Reads (is_some under.fixed) operation answer
  answer_reads operation answer own h = go (is_some under.fixed) refl h
    where
      go : (b : Bool) → is_some under.fixed ≡ b → IsTrue (is_plain b operation answer) → Reads b operation answer
      go true e g = fixed_reads (is_unmount operation) (is_ok answer)
      go false e g = open_reads operation answer (own e) g

-- what an answer leaves that is neither the begin nor the end of a mount
abbrev pub is_plain_answer : Option Under → Option Reply → Bool
is_plain_answer under answer = not ((is_open is_mount under && is_mounted_answer answer) || is_open is_unmount under)

-- lines that were answered still are
abbrev pub MarksMore : Marks → Marks → Type 0
MarksMore new old = (n : ℕ) → old n ≡ true → new n ≡ true

pub one_more : (marks : Marks) (k : ℕ) → MarksMore (put marks k true) marks
one_more marks k n h = at_put (λ x. x ≡ true) marks k true n (λ e. refl) (λ m. h)

-- the parts of the core behind it
pub record AnsweredParts (c d : Core) : Type 0 where
  pub servers : ℕ → Server
  pub locks : Locks
  pub reads : IsReadAs c servers locks c.flights c.over
  pub answered : Marks
  pub more : MarksMore answered c.answered
  pub is : d ≡ record c { servers = servers; locks = locks; answered = answered }

pub answered_parts : (c : Core) (a : ℕ) (under : Option Under) (answer : Option Reply) → (c.servers a).under ≡ under → due_at c a ≡ answer → IsTrue (is_plain_answer under answer) →
    AnsweredParts c (answered_under c a under answer)
answered_parts c a None answer u e h = record { servers = c.servers; locks = c.locks; reads = all_read c; answered = c.answered; more = λ n m. m; is = refl }
answered_parts c a (Some under) None u e h = record { servers = c.servers; locks = c.locks; reads = all_read c; answered = c.answered; more = λ n m. m; is = refl }
answered_parts c a (Some under) (Some answer) u e h = go (operation_of under.line.what) refl h
  where
    own : is_some under.fixed ≡ false → own_answer_of c.setting.logs c.flights a (c.servers a) under (operation_of under.line.what) ≡ Some answer
    own = opened (is_answering (c.servers a).phase) under.fixed (own_answer_of c.setting.logs c.flights a (c.servers a) under (operation_of under.line.what)) answer
        (sym (ap (λ o. if is_answering (c.servers a).phase then due_under c.setting.logs c.flights a (c.servers a) o else None) u) ∙ e)

    go : (o : Option Op) → operation_of under.line.what ≡ o →
        IsTrue (not (((not (is_some under.fixed) && asked_by is_mount o) && is_mounted answer) || (not (is_some under.fixed) && asked_by is_unmount o))) →
        AnsweredParts c (answered_with c a under answer o)
    go None f g = record { servers = c.servers; locks = c.locks; reads = all_read c; answered = c.answered; more = λ n m. m; is = refl }
    go (Some operation) f g = record {
      servers = put c.servers a (left c a under (is_some under.fixed) operation answer);
      locks = locks_left c a under (is_some under.fixed) operation;
      reads = answer_reads c a under operation answer (λ n. subst (λ o. own_answer_of c.setting.logs c.flights a (c.servers a) under o ≡ Some answer) f (own n)) g;
      answered = put c.answered under.line.number true;
      more = one_more c.answered under.line.number;
      is = refl;
    }

answered_keeps : (c : Core) (disk : Sectors) (a : ℕ) (under : Option Under) (answer : Option Reply) → (c.servers a).under ≡ under → due_at c a ≡ answer →
    IsTrue (is_plain_answer under answer) → KeepsBy c (answered_under c a under answer) disk
answered_keeps c disk a under answer u e h =
    let x : AnsweredParts c (answered_under c a under answer) = answered_parts c a under answer u e h in
    subst (λ d. KeepsBy c d disk) (sym x.is) (λ w journal t. keeps_as c x.servers x.locks c.flights c.over x.reads disk w journal t)

fewer_tests : (x y z : Bool) → IsTrue (not (x || y || z)) → IsTrue (not (x || y))
fewer_tests true y z h = absurd (false≢true h)
fewer_tests false true z h = absurd (false≢true h)
fewer_tests false false z h = refl

-- ---- the host

host_keeps : (c : Core) (disk : Sectors) → c.over ≡ false → (line : Option Line) → KeepsBy c (host_answered_line c line) disk
host_keeps c disk going None w journal t = t
host_keeps c disk going (Some line) w journal t = keeps_as c c.servers c.locks (if is_halt line.what then [] else c.flights) (is_halt line.what)
    (go (is_halt line.what)) disk w journal t
  where
    go : (halts : Bool) → IsReadAs c c.servers c.locks (if halts then [] else c.flights) halts
    go true = record {
      alike = λ b. same_server (c.servers b);
      held = λ b lock. refl;
      logs = λ d. refl;
      fewer = λ one i. absurd (nothing one i);
      going = λ e. absurd (false≢true (sym e));
    }
      where
        nothing : (one : ℕ × core.Flight) → Contains [] one → ⊥
        nothing one i = contains_in [] one i
    go false = record { alike = λ b. same_server (c.servers b); held = λ b lock. refl; logs = λ d. refl; fewer = λ one i. i; going = λ e. (going, refl) }

-- it is over
over_keeps : (c : Core) (disk : Sectors) → KeepsBy c (record c { over = true }) disk
over_keeps c disk w journal t =
    keeps_as c c.servers c.locks c.flights true
    (record { alike = λ b. same_server (c.servers b); held = λ b lock. refl; logs = λ d. refl; fewer = λ one i. i; going = λ e. absurd (false≢true (sym e)) }) disk w journal t

read_keeps : (c : Core) (disk : Sectors) (sector : ℕ) (heard : Heard) → KeepsBy c (after c (Read sector) heard) disk
read_keeps c disk sector (Got block) = λ w journal t. t
read_keeps c disk sector Nothing = over_keeps c disk
read_keeps c disk sector GetFailed = over_keeps c disk
read_keeps c disk sector Written = over_keeps c disk
read_keeps c disk sector Late = over_keeps c disk
read_keeps c disk sector (PutFailed new) = over_keeps c disk

-- ---- lives

doom_keeps : (s : RunMoment) (a : ℕ) → IsTrue (is_in_mount (s.core.servers a).phase) →
    KeepsBy s.core (with_server s.core a (record (s.core.servers a) { phase = life.Doomed (fate_of s.core a) })) s.disk
doom_keeps s a mounted =
    one_keeps s.core s.disk a (record (s.core.servers a) { phase = life.Doomed (fate_of s.core a) })
    (record { phase = inr (refl, mounted, refl); expiry = refl; failed = refl; ring = refl; cache = refl; recovery = refl })

pub wanting_as : (server : Server) → IsServerAs (wanting_all server) server
wanting_as server = record { phase = inl refl; expiry = refl; failed = refl; ring = refl; cache = refl; recovery = refl }

pub wanting_up_as : (server : Server) → IsServerAs (wanting_all_up server) server
wanting_up_as server = go (is_up server.phase)
  where
    go : (b : Bool) → IsServerAs (if b then wanting_all server else server) server
    go true = wanting_as server
    go false = same_server server

close_keeps : (c : Core) (disk : Sectors) (a : ℕ) → IsTrue (not (clean_at c a)) → KeepsBy c (after c (Close a) Nothing) disk
close_keeps c disk a dirty =
    subst (λ b. KeepsBy c (if b then record c { servers = put c.servers a (off_after (c.servers a)); locks = cleared c.locks a } else with_server c a (wanting_all (c.servers a))) disk)
    (sym (not-true _ dirty)) (one_keeps c disk a (wanting_all (c.servers a)) (wanting_as (c.servers a)))

-- ---- the events

idle_by : (s : RunMoment) (event : Event) (heard : Heard) → IsReached s → Makes s event heard → IsTrue (is_idle s.core event) → KeepsBy s.core (after s.core event heard) s.disk
idle_by s (Begin a) heard r m h = one_keeps s.core s.disk a (begun_line (s.core.servers a) (next_of s.core a)) (begun_as (s.core.servers a) (next_of s.core a))
idle_by s (Ask a lock mode) heard r m h = absurd (false≢true h)
idle_by s (Fetch a sector) heard r m h = fetch_keeps s.core s.disk a sector heard h
idle_by s (Again a) heard r m h = one_keeps s.core s.disk a (again_by s.core.setting.logs (stage s.core a) (s.core.servers a)) (again_as s.core (s.core.servers a) (stage s.core a) h)
idle_by s (Clear a block) heard r m h = absurd (false≢true h)
idle_by s (Commit a) heard r m h = absurd (false≢true h)
idle_by s (Answer a) heard r m h =
    answered_keeps s.core s.disk a (s.core.servers a).under (due_at s.core a) refl refl (fewer_tests (begins_mount s.core a) (ends_mount s.core a) (tells_sync s.core a) h)
idle_by s (Give a lock) heard r m h = absurd (false≢true h)
idle_by s (Issue a sector) heard r m h = absurd (false≢true h)
idle_by s (Doom a) heard r m h = doom_keeps s a (doomed_mounted s.core a (good_of_run (setting_of r.script r.segments r.number) r.disk s r.run) m.can.can)
idle_by s (Resume a) heard r m h = absurd (false≢true h)
idle_by s (Arrive ticket) heard r m h = absurd (false≢true h)
idle_by s (Lose ticket) heard r m h = absurd (false≢true h)
idle_by s (Die a) heard r m h = absurd (false≢true h)
idle_by s (Renew a) heard r m h = absurd (false≢true h)
idle_by s Tick heard r m h = absurd (false≢true h)
idle_by s (Recover dead by) heard r m h = absurd (false≢true h)
idle_by s (Load by slot) heard r m h = absurd (false≢true h)
idle_by s (Look by sector) heard r m h = absurd (false≢true h)
idle_by s (Finish by) heard r m h = absurd (false≢true h)
idle_by s (HostLine number) heard r m h = host_keeps s.core s.disk (not-true _ m.can.going) (next_of s.core host_party)
idle_by s (Close a) heard r m h = close_keeps s.core s.disk a h
idle_by s (Read sector) heard r m h = read_keeps s.core s.disk sector heard
idle_by s (Show place) heard r m h = λ w journal t. t
idle_by s End heard r m h = over_keeps s.core s.disk

-- an arrival alone changes the disk
pub idle_keeps : IdleEventsKeepWorlds
idle_keeps s event heard r m h w journal t = by_world (next s event heard) w journal (go event m h (idle_by s event heard r m h w journal (world_by s w journal t)))
  where
    go : (e : Event) → Makes s e heard → IsTrue (is_idle s.core e) → IsWorldBy (after s.core e heard) s.disk w journal → IsWorldBy (next s e heard).core (next s e heard).disk w journal
    go (Arrive ticket) n i b = absurd (false≢true i)
    go (Begin a) n i b = b
    go (Ask a lock mode) n i b = b
    go (Fetch a sector) n i b = b
    go (Again a) n i b = b
    go (Clear a block) n i b = b
    go (Commit a) n i b = b
    go (Answer a) n i b = b
    go (Give a lock) n i b = b
    go (Issue a sector) n i b = b
    go (Doom a) n i b = b
    go (Resume a) n i b = b
    go (Lose ticket) n i b = b
    go (Die a) n i b = b
    go (Renew a) n i b = b
    go Tick n i b = b
    go (Recover dead by) n i b = b
    go (Load by slot) n i b = b
    go (Look by sector) n i b = b
    go (Finish by) n i b = b
    go (HostLine number) n i b = b
    go (Close a) n i b = b
    go (Read sector) n i b = b
    go (Show place) n i b = b
    go End n i b = b

-- ---- the steps beside the events

pub entered_keeps : EntersKeepWorlds
entered_keeps s line w journal t = record { tied = t.tied; journals = t.journals; readings = t.readings }

pub held_keeps : HoldsKeepWorlds
held_keeps s a on w journal t = record { tied = t.tied; journals = t.journals; readings = t.readings }

pub flushed_keeps : FlushesKeepWorlds
flushed_keeps s a w journal t = by_world (flushed s a) w journal
    (one_keeps s.core s.disk a (wanting_all_up (s.core.servers a)) (wanting_up_as (s.core.servers a)) w journal (world_by s w journal t))

pub relocked_keeps : RelocksKeepWorlds
relocked_keeps s locks same w journal t =
    by_world _ w journal
    (keeps_as s.core s.core.servers locks s.core.flights s.core.over
    (record { alike = λ b. same_server (s.core.servers b); held = same.held; logs = same.logs; fewer = λ one i. i; going = λ e. (e, refl) }) s.disk w journal (world_by s w journal t))

pub noted_keeps : NotesKeepWorlds
noted_keeps s line w journal t = record { tied = t.tied; journals = t.journals; readings = t.readings }

pub peeked_keeps : PeeksKeepWorlds
peeked_keeps s w journal t = by_world _ w journal (over_keeps s.core s.disk w journal (world_by s w journal t))
