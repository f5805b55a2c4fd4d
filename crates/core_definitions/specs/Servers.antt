-- A server: its phase, its lease, what it owes and what is in its memory; when it is clean, and which answers are due.
use Rattle.std.specs.Prelude.{ℕ, Bool, true, false, not, ◌&&◌, ◌||◌, if◌then◌else◌, max, Option, Some, None, is_some, List, [], ◌∷◌, ◌++◌}
use Rattle.frang_base.specs.declared.op.Op.{Op}
use Rattle.frang_base.specs.declared.op.Op.TheVariants as op
use Rattle.frang_base.specs.declared.reply.Reply.{Reply}
use Rattle.frang_base.specs.declared.reply.Reply.TheVariants as reply
use Rattle.tree_definitions.specs.Apply.{is_path_op}
use Rattle.tree_definitions.specs.Touched.{is_sync, is_unmount}
use Rattle.tree_definitions.specs.Transcript.{is_crash, is_mount}
use Rattle.lock_definitions.specs.Locks.{Locks}
use Rattle.disk_definitions.specs.Written.{ascending}
use Rattle.ring_definitions.specs.Rings.{Ring, last, ring_at}
use Rattle.core_definitions.specs.Settings.{LogRules, Setting}
use Rattle.core_definitions.specs.Logs.{end_of, is_read}
use Rattle.core_definitions.specs.Rings.{is_all_reached}
use Rattle.cache_definitions.specs.Caches.{Cache, any_cached, dirty_sectors, is_dirty, is_dirty_bytes}
use Rattle.core_definitions.specs.Lines.{Stage, Under, operation_of, stage_at}
use Rattle.core_definitions.specs.Flights.{Flights, has_flights}
use Rattle.core_definitions.specs.Recoveries.{Recovery}

-- ---- phases

-- what is settled at its doom for its death: whether all that it has in flight goes with it, and whether it will owe
pub record Fate : Type 0 where
  pub loses : Bool
  pub owes : Bool

pub data Phase : Type 0 where
  Off : Phase  -- not mounted; its log holds nothing that isn't in place
  Up : Phase  -- mounted
  Still : Phase  -- mounted and stalled
  Doomed : (fate : Fate) → Phase  -- its next event is its death
  Dead : Phase  -- dead, its log not recovered

abbrev pub is_off : Phase → Bool
is_off Off = true
is_off _ = false

abbrev pub is_up : Phase → Bool
is_up Up = true
is_up _ = false

abbrev pub is_still : Phase → Bool
is_still Still = true
is_still _ = false

abbrev pub is_doomed : Phase → Bool
is_doomed (Doomed fate) = true
is_doomed _ = false

abbrev pub is_dead : Phase → Bool
is_dead Dead = true
is_dead _ = false

-- in these it begins and answers lines
abbrev pub is_answering : Phase → Bool
is_answering phase = is_off phase || is_up phase || is_dead phase

-- in these a failed call counts for its mount
abbrev pub is_in_mount : Phase → Bool
is_in_mount phase = is_up phase || is_still phase || is_doomed phase

-- ---- the state of a server

-- it dies where the k-th next write would be issued; where it is a cut, what is in flight then is lost
pub record Arming : Type 0 where
  pub k : ℕ
  pub cuts : Bool

pub record Server : Type 0 where
  pub phase : Phase
  pub expiry : ℕ
  pub owes : Bool  -- its mount ended by its lease, and no unmount came since
  pub failed : Bool  -- a get or put failed in this mount
  pub arming : Option Arming
  pub ring : Ring
  pub cache : Cache
  pub staying : List ℕ  -- the sectors that stay wanted
  pub staying_log : ℕ  -- the log number up to which the log stays wanted
  pub pending : List ℕ  -- the sectors of cleared blocks whose zeros aren't acknowledged
  pub under : Option Under
  pub recovery : Option Recovery

-- with nothing in memory, at first, after its death or behind a mount
abbrev pub first_server : Server
first_server = record {
  phase = Off;
  expiry = 0;
  owes = false;
  failed = false;
  arming = None;
  ring = ring_at 0;
  cache = [];
  staying = [];
  staying_log = 0;
  pending = [];
  under = None;
  recovery = None;
}

-- ---- its line under way

abbrev pub asked_by : (Op → Bool) → Option Op → Bool
asked_by test None = false
asked_by test (Some operation) = test operation

-- an open line that passes
abbrev pub is_open : (Op → Bool) → Option Under → Bool
is_open test None = false
is_open test (Some under) = not (is_some under.fixed) && asked_by test (operation_of under.line.what)

abbrev pub asks : (Op → Bool) → Server → Bool
asks test server = is_open test server.under

-- how far its line over paths has come
abbrev pub stage_with : Setting → Locks → ℕ → Cache → Under → Option Op → Option Stage
stage_with setting locks number cache under None = None
stage_with setting locks number cache under (Some operation) = Some (stage_at setting locks number cache under operation)

abbrev pub stage_under : Setting → Locks → ℕ → Cache → Option Under → Option Stage
stage_under setting locks number cache None = None
stage_under setting locks number cache (Some under) = stage_with setting locks number cache under (operation_of under.line.what)

-- none where it isn't up, or its line is no open one over paths
abbrev pub stage_of : Setting → Locks → ℕ → Server → Option Stage
stage_of setting locks number server =
    if is_up server.phase && asks is_path_op server then stage_under setting locks number server.cache server.under else None

-- ---- clean

-- nothing is dirty, no write of the present mount is in flight, the whole log is acknowledged, and it has no recovery
abbrev pub is_clean : Flights → ℕ → Server → Bool
is_clean flights number server =
    not (any_cached is_dirty server.cache) && not (has_flights flights number) && is_all_reached server.ring && not (is_some server.recovery)

-- off; or up, clean and without a line under way
abbrev pub is_quiet : Flights → ℕ → Server → Bool
is_quiet flights number server = is_off server.phase || (is_up server.phase && is_clean flights number server && not (is_some server.under))

-- it wants everything: the sectors dirty now, each until it is clean, and the log up to its last number of now; such a wish joins the old one
abbrev pub wanting_all : Server → Server
wanting_all server = record server { staying = ascending (server.staying ++ dirty_sectors server.cache); staying_log = max server.staying_log (last server.ring) }

abbrev pub wanting_all_up : Server → Server
wanting_all_up server = if is_up server.phase then wanting_all server else server

-- ---- answers

-- by rules judged as the line begins: who owes answers `ok` to an unmount and else `expired`; `down` where it isn't mounted; `already` where it is and the line is a mount
abbrev pub answer_at_first : Server → Op → Option Reply
answer_at_first server operation =
    if server.owes then Some (if is_unmount operation then reply.Ok else reply.Expired)
    else (if is_mount operation then (if is_up server.phase then Some reply.Already else None)
    else (if is_up server.phase then None else Some reply.Down))

-- a line under way at a death: `ok` to a crash, `io` where a get or put failed, else `down`
abbrev pub answer_at_death : Bool → Op → Reply
answer_at_death failed operation = if is_crash operation then reply.Ok else (if failed then reply.Io else reply.Down)

-- an answer, where it is due
abbrev pub due_if : Bool → Reply → Option Reply
due_if test answer = if test then Some answer else None

-- a mount at a server that is off: `io` once a get failed under it, else `mounted` once all slots are read
abbrev pub mount_answer : LogRules → Under → Option Reply
mount_answer logs under = if under.get_failed then Some reply.Io else due_if (is_read logs under.slots) reply.Mounted

-- each log record and sector of file bytes of this mount is acknowledged
abbrev pub is_synced : Server → Bool
is_synced server = is_all_reached server.ring && not (any_cached is_dirty_bytes server.cache)

-- a line's own answer, but for one over paths
abbrev pub own_answer : LogRules → Flights → ℕ → Server → Under → Op → Option Reply
own_answer logs flights number server under op.Mount = if is_off server.phase then mount_answer logs under else None
own_answer logs flights number server under op.Sync = due_if (is_up server.phase && is_synced server) reply.Ok
own_answer logs flights number server under op.Unmount = due_if (is_up server.phase && is_clean flights number server) reply.Ok
own_answer logs flights number server under (op.CrashAt k) = due_if (is_up server.phase) reply.Ok
own_answer logs flights number server under (op.CutAt k) = due_if (is_up server.phase) reply.Ok
own_answer logs flights number server under op.Stall = due_if (is_up server.phase) reply.Ok
own_answer logs flights number server under operation = None

-- one that is fixed is due at once
abbrev pub answer_of : Option Reply → Option Reply → Option Reply
answer_of (Some fixed) own = Some fixed
answer_of None own = own

abbrev pub own_answer_of : LogRules → Flights → ℕ → Server → Under → Option Op → Option Reply
own_answer_of logs flights number server under None = None
own_answer_of logs flights number server under (Some operation) = own_answer logs flights number server under operation

abbrev pub due_under : LogRules → Flights → ℕ → Server → Option Under → Option Reply
due_under logs flights number server None = None
due_under logs flights number server (Some under) = answer_of under.fixed (own_answer_of logs flights number server under (operation_of under.line.what))

-- the answer that is due
abbrev pub due : LogRules → Flights → ℕ → Server → Option Reply
due logs flights number server = if is_answering server.phase then due_under logs flights number server server.under else None
