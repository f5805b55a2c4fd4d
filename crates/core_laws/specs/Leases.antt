-- How long leases last, and the writes that are issued under them, over every run.
use Rattle.std.specs.Prelude.{◌≡◌, ℕ, ◌≤◌, ◌+◌, true, IsTrue}
use Rattle.std.specs.List.{Contains}
use Rattle.lock_definitions.specs.Lease.{IsInTime, write_stamp_of}
use Rattle.sector_bytes.specs.Sectors.{Sectors}
use Rattle.core_definitions.specs.Flights.{Flight}
use Rattle.core_definitions.specs.Servers.{is_up}
use Rattle.core_definitions.specs.Settings.{Setting, lease_to}
use Rattle.core_definitions.specs.LineGuards.{is_server}
use Rattle.core_definitions.specs.WriteGuards.{is_worker}
use Rattle.core_definitions.specs.Runs.{State, Run, first_state}

-- over every run the lease of a server that is Up ends at most one tick before one would that began now: over a disk at least 29 ticks from now
abbrev pub LeasesLast : Type 0
LeasesLast =
    (setting : Setting) (disk : Sectors) (s : State) → Run (first_state setting disk) s → (a : ℕ) → IsTrue (is_server a) → IsTrue (is_up (s.core.servers a).phase) →
    lease_to setting s.core.now ≤ (s.core.servers a).expiry + 1

-- and that of any ends no later than that one: at most 30 ticks from now
abbrev pub LeasesEnd : Type 0
LeasesEnd =
    (setting : Setting) (disk : Sectors) (s : State) → Run (first_state setting disk) s → (a : ℕ) → (s.core.servers a).expiry ≤ lease_to setting s.core.now

-- a write in flight of the present mount of a server that is Up, or of the host, may arrive in time to the margin before that, but for one tick: for at least 14 ticks more
abbrev pub WritesLast : Type 0
WritesLast =
    (setting : Setting) (disk : Sectors) (s : State) → Run (first_state setting disk) s → (one : ℕ × Flight) → Contains s.core.flights one → one.1.present ≡ true →
    IsTrue (is_worker s.core one.1.server) → lease_to setting s.core.now ≤ one.1.stamp + setting.margin_ticks + 1

-- so it is in time
abbrev pub WritesAreInTime : Type 0
WritesAreInTime =
    (setting : Setting) (disk : Sectors) (s : State) → Run (first_state setting disk) s → (one : ℕ × Flight) → Contains s.core.flights one → one.1.present ≡ true →
    IsTrue (is_worker s.core one.1.server) → IsInTime one.1.stamp s.core.now

-- and any write in flight no longer: for at most 15
abbrev pub WritesEnd : Type 0
WritesEnd =
    (setting : Setting) (disk : Sectors) (s : State) → Run (first_state setting disk) s → (one : ℕ × Flight) → Contains s.core.flights one →
    one.1.stamp ≤ write_stamp_of setting.margin_ticks (lease_to setting s.core.now)
