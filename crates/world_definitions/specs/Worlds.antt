-- The core of several servers as a value that can be stored: lists in place of functions, and the core that it is.
use Rattle.std.specs.Prelude.{◌≡◌, ℕ, Bool, false, if◌then◌else◌, nat_eq, Option, None, List, [], length, replicate, slice_index_or}
use Rattle.frang_base.specs.declared.limits.TheConstants.{SERVERS}
use Rattle.frang_base.specs.declared.script.Line.{Line}
use Rattle.lock_definitions.specs.Locks.{Locks, no_locks}
use Rattle.core_definitions.specs.Cores.{Core}
use Rattle.core_definitions.specs.Flights.{Flights}
use Rattle.core_definitions.specs.Recoveries.{Recovery}
use Rattle.core_definitions.specs.Scripts.{Marks, host_party}
use Rattle.core_definitions.specs.Servers.{Server, first_server}
use Rattle.core_definitions.specs.Settings.{setting_of}
use Rattle.core_definitions.specs.Trees.{TreeRead}

-- what a run is set to and where it stands: the sixteen servers by their numbers, the host's recovery; by the numbers of lines which are answered and which have passed the gate; by the
-- numbers of servers which are held
pub record World : Type 0 where
  pub script : List Line
  pub segments : ℕ
  pub run : ℕ
  pub tick : ℕ
  pub servers : List Server
  pub host : Option Recovery
  pub locks : Locks
  pub flights : Flights
  pub tickets : ℕ
  pub answered : List Bool
  pub passed : List Bool
  pub ticks : ℕ
  pub paused : List Bool
  pub read : TreeRead
  pub shown : ℕ
  pub over : Bool

-- all its lists have their length
pub record IsWorld (w : World) : Type 0 where
  pub servers : length w.servers ≡ SERVERS
  pub paused : length w.paused ≡ SERVERS

-- ---- the core that it is

-- the host as a party, of which only the recovery counts
abbrev pub host_of : Option Recovery → Server
host_of recovery = record first_server { recovery = recovery }

abbrev pub servers_of : List Server → Option Recovery → ℕ → Server
servers_of servers host = λ a. if nat_eq a host_party then host_of host else slice_index_or servers a first_server

abbrev pub marks_of : List Bool → Marks
marks_of flags = λ number. slice_index_or flags number false

abbrev pub core_of : World → Core
core_of w = record {
  setting = setting_of w.script w.segments w.run;
  now = w.tick;
  servers = servers_of w.servers w.host;
  locks = w.locks;
  flights = w.flights;
  tickets = w.tickets;
  answered = marks_of w.answered;
  passed = marks_of w.passed;
  ticks = w.ticks;
  paused = marks_of w.paused;
  read = w.read;
  shown = w.shown;
  over = w.over;
}

-- ---- before anything has happened

-- the marks of so many lines, by their numbers
abbrev pub first_world : List Line → ℕ → ℕ → ℕ → World
first_world script segments run marks = record {
  script = script;
  segments = segments;
  run = run;
  tick = 0;
  servers = replicate SERVERS first_server;
  host = None;
  locks = no_locks;
  flights = [];
  tickets = 0;
  answered = replicate marks false;
  passed = replicate marks false;
  ticks = 0;
  paused = replicate SERVERS false;
  read = [];
  shown = 0;
  over = false;
}
