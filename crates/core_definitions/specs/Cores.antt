-- The core: the clock, the servers, the locks, the writes in flight, the place in the script, and what the host has read of the tree.
use Rattle.std.specs.Prelude.{ℕ, ◌+◌, ◌==◌, Bool, true, false, not, ◌&&◌, ◌||◌, if◌then◌else◌, Option, Some, None, List, [], ◌∷◌, ◌++◌, length}
use Rattle.frang_base.specs.Functions.{put}
use Rattle.frang_base.specs.declared.limits.TheConstants.{SERVERS}
use Rattle.frang_base.specs.declared.reply.Reply.{Reply}
use Rattle.frang_base.specs.declared.said.Said.{Said}
use Rattle.frang_base.specs.declared.script.Line.{Line}
use Rattle.lock_definitions.specs.Lease.{write_stamp_of}
use Rattle.lock_definitions.specs.Locks.{Locks, no_locks}
use Rattle.tree_definitions.specs.Numbers.{below}
use Rattle.core_definitions.specs.Settings.{Setting, lease_to}
use Rattle.core_definitions.specs.Lines.{Stage}
use Rattle.core_definitions.specs.Flights.{Flights}
use Rattle.core_definitions.specs.Scripts.{Marks, all_answered, host_party, next_line}
use Rattle.core_definitions.specs.Servers.{Server, due, first_server, is_clean, stage_of}
use Rattle.core_definitions.specs.Trees.{TreeRead, needed_sectors, read_lines}
use Rattle.core_definitions.specs.Writes.{Writes, wanted_writes}

pub record Core : Type 0 where
  pub setting : Setting
  pub now : ℕ
  pub servers : ℕ → Server  -- 0 to 15, and the host, of which only the recovery counts
  pub locks : Locks
  pub flights : Flights
  pub tickets : ℕ  -- the next ticket
  pub answered : Marks
  pub passed : Marks  -- the gate
  pub ticks : ℕ  -- since every line before the next host line is answered
  pub paused : ℕ → Bool  -- these servers neither begin lines nor close
  pub read : TreeRead
  pub shown : ℕ  -- the lines of the tree that are said
  pub over : Bool

-- nothing has happened
abbrev pub first_core : Setting → Core
first_core setting = record {
  setting = setting;
  now = 0;
  servers = λ number. first_server;
  locks = no_locks;
  flights = [];
  tickets = 0;
  answered = λ number. false;
  passed = λ number. false;
  ticks = 0;
  paused = λ number. false;
  read = [];
  shown = 0;
  over = false;
}

-- the servers
abbrev pub server_numbers : List ℕ
server_numbers = below SERVERS

-- and the host behind them
abbrev pub parties : List ℕ
parties = server_numbers ++ host_party ∷ []

abbrev pub with_server : Core → ℕ → Server → Core
with_server c a server = record c { servers = put c.servers a server }

-- until when its lease lasts; the host counts as renewed at every moment
abbrev pub expiry_of : Core → ℕ → ℕ
expiry_of c a = if a == host_party then lease_to c.setting c.now else (c.servers a).expiry

abbrev pub stamp_of : Core → ℕ → ℕ
stamp_of c a = write_stamp_of c.setting.margin_ticks (expiry_of c a)

-- how far its line over paths has come
abbrev pub stage : Core → ℕ → Option Stage
stage c a = stage_of c.setting c.locks a (c.servers a)

-- what it wants written
abbrev pub writes : Core → ℕ → Writes
writes c a = wanted_writes c.setting c.locks a (c.servers a) (stage c a)

abbrev pub clean_at : Core → ℕ → Bool
clean_at c a = is_clean c.flights a (c.servers a)

-- the answer that is due at it
abbrev pub due_at : Core → ℕ → Option Reply
due_at c a = due c.setting.logs c.flights a (c.servers a)

abbrev pub next_of : Core → ℕ → Option Line
next_of c who = next_line c.setting.script c.answered who

abbrev pub is_all_answered : Core → Bool
is_all_answered c = all_answered c.setting.script c.answered

-- the sectors that the host needs for the tree
abbrev pub tree_needs : Core → List ℕ
tree_needs c = needed_sectors c.setting.segments c.read

-- the lines of the tree that was read
abbrev pub tree_lines : Core → List Said
tree_lines c = read_lines c.setting.segments c.read
