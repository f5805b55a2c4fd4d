-- What contracts see of the world as code, and the core that it is.
use Rattle.std.specs.Prelude.{◌≡◌, ◌≤◌, ◌<◌, ◌==◌, ◌&&◌, ℕ, Bool, true, false, is_some, IfSome, IsSomeAnd, [], length, map}
use Rattle.std.specs.List.{list_any}
use Rattle.frang_base.specs.Functions.{member}
use Rattle.frang_base.specs.declared.limits.TheConstants.{LAST_TICK, SERVERS}
use Rattle.tree_definitions.specs.Transcript.{is_halt}
use Rattle.lock_table.specs.Table.{Table}
use Rattle.petal_disk.specs.Flights.{Flights}
use Rattle.flight_laws.specs.Flights.{flights_of}
use Rattle.sector_bytes.specs.SectorMaps.{value_at}
use Rattle.kept_plans.specs.Kept.{IsKeptBeside}
use Rattle.line_stages.specs.Oldest.{AreOldest}
use Rattle.core_definitions.specs.Cores.{Core, next_of}
use Rattle.core_definitions.specs.Flights as core
use Rattle.core_definitions.specs.Scripts.{host_party}
use Rattle.script_places.specs.Placed.{Placed}
use Rattle.world_definitions.specs.Worlds.{World, core_of}
use Rattle.world_parties.specs.States.{State as Parties, flags_at, issued_at, oldest_at, plan_at, recovery_in, server_of, servers_at}

-- the script with its marks; the parties; the locks and the writes in flight with their room
pub record State : Type 0 where
  pub places : Placed
  pub run : ℕ
  pub tick : ℕ
  pub parties : Parties
  pub locks : Table
  pub flights : Flights
  pub ticks : ℕ
  pub over : Bool

abbrev pub world_of : State → World
world_of s = record {
  script = s.places.script;
  segments = s.parties.segments;
  run = s.run;
  tick = s.tick;
  servers = map server_of s.parties.parties;
  host = recovery_in s.parties.host;
  locks = s.locks.locks;
  flights = flights_of s.flights.flying;
  tickets = s.flights.next;
  answered = s.places.answered;
  passed = s.places.passed;
  ticks = s.ticks;
  paused = s.parties.held;
  read = [];
  shown = 0;
  over = s.over;
}

-- the core that it is, but for what the host reads of the tree
abbrev pub core_at : State → Core
core_at s = core_of (world_of s)

-- ---- how it is kept

-- a write of this sector by this party is in flight
abbrev pub flies_by : core.Flights → ℕ → ℕ → Bool
flies_by flights a sector = list_any (λ entry. entry.1.server == a && entry.1.sector == sector) flights

-- each flag of a sector at a server and each issued write of a recovery is of a write in flight by that party
pub record AreFlying (parties : Parties) (flights : core.Flights) : Type 0 where
  pub flagged : (a sector : ℕ) → a < SERVERS → member sector (flags_at parties a) ≡ true → flies_by flights a sector ≡ true
  pub issued : (by sector : ℕ) → is_some (value_at (issued_at parties by) sector) ≡ true → flies_by flights by sector ≡ true

-- the clock isn't past its end, and at least so many ticks of it have passed; while it isn't over, flags and issued writes are of writes in flight; and what is kept of a line and of a
-- log is theirs
pub record IsKept (s : State) : Type 0 where
  pub clock : s.tick ≤ LAST_TICK
  pub counted : s.ticks ≤ s.tick
  pub flying : s.over ≡ false → AreFlying s.parties (flights_of s.flights.flying)
  pub plans : (a : ℕ) → IsKeptBeside (core_at s).setting (servers_at s.parties a) (plan_at s.parties a)
  pub oldest : (a : ℕ) → IfSome (oldest_at s.parties a) (AreOldest (servers_at s.parties a).ring)

-- the recovery that a party carries out is of the log of this server, which is another
pub record IsRecoveredBy (s : State) (by dead : ℕ) : Type 0 where
  pub recovery : IsSomeAnd ((core_at s).servers by).recovery (λ r. r.dead ≡ dead)
  pub server : dead < SERVERS
  pub other : dead ≡ by → ⊥

-- the host's next line has this number and its marks, and so it is whether it halts
pub record IsHostLine (s : State) (number : ℕ) (halts : Bool) : Type 0 where
  pub next : IsSomeAnd (next_of (core_at s) host_party) (λ line. (line.number ≡ number) × (is_halt line.what ≡ halts))
  pub marked : number < length s.places.answered

-- the write in flight with this ticket is by this party, and of this sector
abbrev pub IsWriteOf : State → ℕ → ℕ → ℕ → Type 0
IsWriteOf s ticket server sector = IsSomeAnd (value_at (core_at s).flights ticket) (λ flight. (flight.server ≡ server) × (flight.sector ≡ sector))
