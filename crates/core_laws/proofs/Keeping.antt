-- What each step keeps: the clock doesn't go back, and the locks are those before it after calls of a lock table.
use Rattle.std.proofs.Common.{ℕ, ◌≡◌, ◌≤◌, ◌+◌, ◌&&◌, Bool, true, false, not, if◌then◌else◌, List, [], ◌∷◌, Option, Some, None, refl, is_some, arith, subst, sym, ◌==◌}
use Rattle.std.proofs.Math.Nat.{le_refl}
use Rattle.frang_base.specs.declared.lock.LockId.{LockId}
use Rattle.frang_base.specs.declared.op.Op.{Op}
use Rattle.frang_base.specs.declared.reply.Reply.{Reply}
use Rattle.frang_base.specs.declared.script.Line.{Line}
use Rattle.lock_definitions.specs.declared.claim.AskedFor.{AskedFor}
use Rattle.lock_definitions.specs.declared.claim.AskedFor.TheVariants.{Release, Downgrade}
use Rattle.lock_definitions.specs.Calls.{asked_for, cleared}
use Rattle.lock_definitions.specs.Locks.{AreLocks, Locks}
use Rattle.lock_definitions.specs.Runs.{LockCall, after_calls, Want, Release as ReleaseCall, Downgrade as DowngradeCall, TakeLog, Extend, Clear as ClearCall}
use Rattle.lock_definitions.proofs.States.{AreLocks-after_calls, AreLocks-no_locks}
use Rattle.tree_definitions.specs.Touched.{is_unmount}
use Rattle.sector_bytes.specs.SectorMaps.{value_at}
use Rattle.sector_bytes.specs.Sectors.{Sectors}
use Rattle.core_definitions.specs.Settings.{Setting, lease_to}
use Rattle.core_definitions.specs.Lines.{Stage, Asking, Fetching, Moving, Stopping, Growing, Clearing, Finishing, Under, operation_of}
use Rattle.core_definitions.specs.Flights.{Flight}
use Rattle.core_definitions.specs.Recoveries.{Recovery}
use Rattle.core_definitions.specs.Scripts.{host_party}
use Rattle.core_definitions.specs.Servers.{Phase, Off, Up, Still, Doomed, Dead, is_off}
use Rattle.core_definitions.specs.Writes.{Write}
use Rattle.core_definitions.specs.Cores.{Core, clean_at, due_at, expiry_of, next_of, stage, writes}
use Rattle.core_definitions.specs.Events.{Event, Begin, Ask, Fetch, Again, Clear, Commit, Answer, Give, Issue, Doom, Resume, Arrive, Lose, Die, Renew, Tick, Recover, Load, Look, Finish, HostLine, Close, Read, Show, End, Heard, Nothing, Got, GetFailed, Written, Late, PutFailed}
use Rattle.core_definitions.specs.LineEffects.{answered_under, answered_with, call_failed, committed_at, fetch_failed, locks_after}
use Rattle.core_definitions.specs.WriteEffects.{arrived_as, arrived_from, died_in, given_for, issued_as, landed, taken_in}
use Rattle.core_definitions.specs.EndEffects.{closed, finished_from, host_answered_line}
use Rattle.core_definitions.specs.Effects.{after}
use Rattle.core_definitions.specs.Runs.{State, Step, Event_, Enter, Hold, Flush, Relock, Note, Peek, PeekFails, Run, Stays, Goes, first_state}

-- the clock hasn't gone back, and the locks are those before after some calls
pub record Keeps (c d : Core) : Type 0 where
  pub now : c.now ≤ d.now
  pub calls : List LockCall
  pub locks : d.locks ≡ after_calls c.locks calls

-- neither has changed
same : (c d : Core) → d.now ≡ c.now → d.locks ≡ c.locks → Keeps c d
same c d now locks = record { now = grind (arith, now); calls = []; locks = locks }

one_call : (c d : Core) (call : LockCall) → c.now ≤ d.now → d.locks ≡ after_calls c.locks (call ∷ []) → Keeps c d
one_call c d call now locks = record { now = now; calls = call ∷ []; locks = locks }

either : (c : Core) (test : Bool) (d e : Core) → Keeps c d → Keeps c e → Keeps c (if test then d else e)
either c true d e k l = k
either c false d e k l = l

-- ---- effects by cases

-- a failed call of a core that has this clock and these locks
failed_keeps : (c d : Core) (a : ℕ) → d.now ≡ c.now → d.locks ≡ c.locks → Keeps c (call_failed d a)
failed_keeps c d a now locks = either c (a == host_party) _ _ (same c _ now locks) (same c _ now locks)

committed_keeps : (c : Core) (a : ℕ) (at : Option Stage) → Keeps c (committed_at c a at)
committed_keeps c a None = same c _ refl refl
committed_keeps c a (Some (Asking need)) = same c _ refl refl
committed_keeps c a (Some (Fetching needs)) = same c _ refl refl
committed_keeps c a (Some Moving) = same c _ refl refl
committed_keeps c a (Some Stopping) = same c _ refl refl
committed_keeps c a (Some (Growing needs seen)) = same c _ refl refl
committed_keeps c a (Some (Clearing block)) = same c _ refl refl
committed_keeps c a (Some (Finishing outcome)) = same c _ refl refl

-- the locks that an answer leaves
record Called (before after : Locks) : Type 0 where
  calls : List LockCall
  are : after ≡ after_calls before calls

called : (locks : Locks) (a : ℕ) (test : Bool) → Called locks (if test then cleared locks a else locks)
called locks a true = record { calls = ClearCall a ∷ []; are = refl }
called locks a false = record { calls = []; are = refl }

answered_with_keeps : (c : Core) (a : ℕ) (under : Under) (answer : Reply) (operation : Option Op) → Keeps c (answered_with c a under answer operation)
answered_with_keeps c a under answer None = same c _ refl refl
answered_with_keeps c a under answer (Some operation) =
    let r : Called c.locks (locks_after c.locks a under operation) = called c.locks a (is_unmount operation && not (is_some under.fixed)) in
    record { now = le_refl c.now; calls = r.calls; locks = r.are }

answered_keeps : (c : Core) (a : ℕ) (under : Option Under) (answer : Option Reply) → Keeps c (answered_under c a under answer)
answered_keeps c a None None = same c _ refl refl
answered_keeps c a None (Some answer) = same c _ refl refl
answered_keeps c a (Some under) None = same c _ refl refl
answered_keeps c a (Some under) (Some answer) = answered_with_keeps c a under answer (operation_of under.line.what)

given_keeps : (c : Core) (a : ℕ) (lock : LockId) (asked : Option AskedFor) → Keeps c (given_for c a lock asked)
given_keeps c a lock None = same c _ refl refl
given_keeps c a lock (Some Downgrade) = one_call c _ (DowngradeCall a lock) (le_refl c.now) refl
given_keeps c a lock (Some Release) = one_call c _ (ReleaseCall a lock) (le_refl c.now) refl

issued_keeps : (c : Core) (a sector : ℕ) (write : Option Write) → Keeps c (issued_as c a sector write)
issued_keeps c a sector None = same c _ refl refl
issued_keeps c a sector (Some write) = same c _ refl refl

taken_keeps : (c : Core) (ticket : ℕ) (flight : Flight) → Keeps c (taken_in (landed c ticket) flight)
taken_keeps c ticket flight = either c flight.present _ _ (same c _ refl refl) (same c _ refl refl)

arrived_as_keeps : (c : Core) (ticket : ℕ) (flight : Flight) (heard : Heard) → Keeps c (arrived_as (landed c ticket) flight heard)
arrived_as_keeps c ticket flight Nothing = same c _ refl refl
arrived_as_keeps c ticket flight (Got block) = same c _ refl refl
arrived_as_keeps c ticket flight GetFailed = same c _ refl refl
arrived_as_keeps c ticket flight Written = taken_keeps c ticket flight
arrived_as_keeps c ticket flight Late = same c _ refl refl
arrived_as_keeps c ticket flight (PutFailed new) = failed_keeps c (landed c ticket) flight.server refl refl

arrived_keeps : (c : Core) (ticket : ℕ) (heard : Heard) (flight : Option Flight) → Keeps c (arrived_from c ticket heard flight)
arrived_keeps c ticket heard None = same c _ refl refl
arrived_keeps c ticket heard (Some flight) = arrived_as_keeps c ticket flight heard

died_keeps : (c : Core) (a : ℕ) (phase : Phase) → Keeps c (died_in c a phase)
died_keeps c a Off = same c _ refl refl
died_keeps c a Up = same c _ refl refl
died_keeps c a Still = same c _ refl refl
died_keeps c a (Doomed fate) = same c _ refl refl
died_keeps c a Dead = same c _ refl refl

finished_keeps : (c : Core) (by : ℕ) (recovery : Option Recovery) → Keeps c (finished_from c by recovery)
finished_keeps c by None = same c _ refl refl
finished_keeps c by (Some recovery) = one_call c _ (ClearCall recovery.dead) (le_refl c.now) refl

host_keeps : (c : Core) (line : Option Line) → Keeps c (host_answered_line c line)
host_keeps c None = same c _ refl refl
host_keeps c (Some line) = same c _ refl refl

fetch_failed_keeps : (c : Core) (a : ℕ) → Keeps c (fetch_failed c a)
fetch_failed_keeps c a = either c (is_off (c.servers a).phase) _ _ (same c _ refl refl) (failed_keeps c c a refl refl)

closed_keeps : (c : Core) (a : ℕ) → Keeps c (closed c a)
closed_keeps c a = either c (clean_at c a) _ _ (one_call c _ (ClearCall a) (le_refl c.now) refl) (same c _ refl refl)

-- ---- each event

next_moment : (n : ℕ) → n ≤ n + 1
next_moment n = omega arith

fetch_keeps : (c : Core) (a sector : ℕ) (heard : Heard) → Keeps c (after c (Fetch a sector) heard)
fetch_keeps c a sector (Got block) = same c _ refl refl
fetch_keeps c a sector Nothing = fetch_failed_keeps c a
fetch_keeps c a sector GetFailed = fetch_failed_keeps c a
fetch_keeps c a sector Written = fetch_failed_keeps c a
fetch_keeps c a sector Late = fetch_failed_keeps c a
fetch_keeps c a sector (PutFailed new) = fetch_failed_keeps c a

load_keeps : (c : Core) (by slot : ℕ) (heard : Heard) → Keeps c (after c (Load by slot) heard)
load_keeps c by slot (Got block) = same c _ refl refl
load_keeps c by slot Nothing = failed_keeps c c by refl refl
load_keeps c by slot GetFailed = failed_keeps c c by refl refl
load_keeps c by slot Written = failed_keeps c c by refl refl
load_keeps c by slot Late = failed_keeps c c by refl refl
load_keeps c by slot (PutFailed new) = failed_keeps c c by refl refl

look_keeps : (c : Core) (by sector : ℕ) (heard : Heard) → Keeps c (after c (Look by sector) heard)
look_keeps c by sector (Got block) = same c _ refl refl
look_keeps c by sector Nothing = failed_keeps c c by refl refl
look_keeps c by sector GetFailed = failed_keeps c c by refl refl
look_keeps c by sector Written = failed_keeps c c by refl refl
look_keeps c by sector Late = failed_keeps c c by refl refl
look_keeps c by sector (PutFailed new) = failed_keeps c c by refl refl

read_keeps : (c : Core) (sector : ℕ) (heard : Heard) → Keeps c (after c (Read sector) heard)
read_keeps c sector (Got block) = same c _ refl refl
read_keeps c sector Nothing = failed_keeps c c host_party refl refl
read_keeps c sector GetFailed = failed_keeps c c host_party refl refl
read_keeps c sector Written = failed_keeps c c host_party refl refl
read_keeps c sector Late = failed_keeps c c host_party refl refl
read_keeps c sector (PutFailed new) = failed_keeps c c host_party refl refl

pub event_keeps : (c : Core) (event : Event) (heard : Heard) → Keeps c (after c event heard)
event_keeps c (Begin a) heard = same c _ refl refl
event_keeps c (Ask a lock mode) heard = one_call c _ (Want a lock mode) (le_refl c.now) refl
event_keeps c (Fetch a sector) heard = fetch_keeps c a sector heard
event_keeps c (Again a) heard = same c _ refl refl
event_keeps c (Clear a block) heard = same c _ refl refl
event_keeps c (Commit a) heard = committed_keeps c a (stage c a)
event_keeps c (Answer a) heard = answered_keeps c a (c.servers a).under (due_at c a)
event_keeps c (Give a lock) heard = given_keeps c a lock (asked_for c.locks a lock)
event_keeps c (Issue a sector) heard = issued_keeps c a sector (value_at (writes c a) sector)
event_keeps c (Doom a) heard = same c _ refl refl
event_keeps c (Resume a) heard = one_call c _ (ClearCall a) (le_refl c.now) refl
event_keeps c (Arrive ticket) heard = arrived_keeps c ticket heard (value_at c.flights ticket)
event_keeps c (Lose ticket) heard = same c _ refl refl
event_keeps c (Die a) heard = died_keeps c a (c.servers a).phase
event_keeps c (Renew a) heard = one_call c _ (Extend a (lease_to c.setting c.now)) (le_refl c.now) refl
event_keeps c Tick heard = one_call c _ (Extend host_party (lease_to c.setting (c.now + 1))) (next_moment c.now) refl
event_keeps c (Recover dead by) heard = one_call c _ (TakeLog dead by c.now (expiry_of c by)) (le_refl c.now) refl
event_keeps c (Load by slot) heard = load_keeps c by slot heard
event_keeps c (Look by sector) heard = look_keeps c by sector heard
event_keeps c (Finish by) heard = finished_keeps c by (c.servers by).recovery
event_keeps c (HostLine number) heard = host_keeps c (next_of c host_party)
event_keeps c (Close a) heard = closed_keeps c a
event_keeps c (Read sector) heard = read_keeps c sector heard
event_keeps c (Show place) heard = same c _ refl refl
event_keeps c End heard = same c _ refl refl

-- ---- each step, and each run

step_rises : (s v : State) → Step s v → s.core.now ≤ v.core.now
step_rises s v (Event_ event heard makes) = (event_keeps s.core event heard).now
step_rises s v (Enter a line can) = le_refl s.core.now
step_rises s v (Hold a on may) = le_refl s.core.now
step_rises s v (Flush a may) = le_refl s.core.now
step_rises s v (Relock locks going are same wait) = le_refl s.core.now
step_rises s v (Note line may) = le_refl s.core.now
step_rises s v (Peek sector going) = le_refl s.core.now
step_rises s v (PeekFails sector going) = le_refl s.core.now

then_rises : (x y z : ℕ) → x ≤ y → y ≤ z → x ≤ z
then_rises x y z h i = omega (arith, h, i)

pub run_rises : (s v : State) → Run s v → s.core.now ≤ v.core.now
run_rises s v Stays = le_refl s.core.now
run_rises s w (Goes {v = v} step run) = then_rises s.core.now v.core.now w.core.now (step_rises s v step) (run_rises v w run)

step_locks : (s v : State) → Step s v → AreLocks s.core.locks → AreLocks v.core.locks
step_locks s v (Event_ event heard makes) are =
    let k : Keeps s.core (after s.core event heard) = event_keeps s.core event heard in
    subst AreLocks (sym k.locks) (AreLocks-after_calls s.core.locks are k.calls)
step_locks s v (Enter a line can) are = are
step_locks s v (Hold a on may) are = are
step_locks s v (Flush a may) are = are
step_locks s v (Relock locks going good same wait) are = good
step_locks s v (Note line may) are = are
step_locks s v (Peek sector going) are = are
step_locks s v (PeekFails sector going) are = are

run_locks : (s v : State) → Run s v → AreLocks s.core.locks → AreLocks v.core.locks
run_locks s v Stays are = are
run_locks s w (Goes {v = v} step run) are = run_locks v w run (step_locks s v step are)

pub locks_of_run : (setting : Setting) (disk : Sectors) (s : State) → Run (first_state setting disk) s → AreLocks s.core.locks
locks_of_run setting disk s run = run_locks (first_state setting disk) s run AreLocks-no_locks
