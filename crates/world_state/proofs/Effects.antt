-- What a call on the parties and one on the locks make of the world is what the event makes of the core.
use Rattle.std.proofs.Common.{◌≡◌, ◌<◌, ◌+◌, ◌%◌, ◌==◌, ℕ, Bool, true, false, if◌then◌else◌, Some, sym, ap, ◌∙◌}
use Rattle.frang_base.specs.Functions.{put}
use Rattle.frang_base.specs.declared.limits.TheConstants.{FLUSH_TICKS, LEASE_TICKS, SERVERS}
use Rattle.frang_base.specs.declared.lock.LockId.{LockId}
use Rattle.lock_definitions.specs.Calls.{asked_for, cleared, extended, released}
use Rattle.lock_definitions.specs.Locks.{Locks}
use Rattle.lock_definitions.specs.declared.claim.AskedFor.TheVariants.{Release}
use Rattle.lock_table.specs.Table.{Table}
use Rattle.petal_disk.specs.Flights.{Flights}
use Rattle.flight_laws.specs.Flights.{flights_of}
use Rattle.sector_bytes.specs.SectorMaps.{without}
use Rattle.cache_definitions.specs.Caches.{dropped}
use Rattle.core_definitions.specs.Cores.{Core, clean_at, with_server}
use Rattle.core_definitions.specs.EndEffects.{closed}
use Rattle.core_definitions.specs.LineEffects.{begun, call_failed, failed_by, off_after}
use Rattle.core_definitions.specs.Lines.{Under}
use Rattle.core_definitions.specs.Scripts.{host_party}
use Rattle.core_definitions.specs.Servers as core
use Rattle.core_definitions.specs.Servers.{Fate, Server, wanting_all, wanting_all_up}
use Rattle.core_definitions.specs.WriteEffects.{died, died_in, died_with, doomed, fate_of, flights_at_death, flushed_at, given, given_for, landed, renewed, resumed, ticked, ticks_after, up_again}
use Rattle.world_definitions.proofs.Changing.{not_host}
use Rattle.world_parties.specs.States.{Becomes, EachBecomes, IsSame, State as Parties, held_at, servers_at}
use Rattle.world_state.specs.Begins.{Begins}
use Rattle.world_state.specs.States.{State, core_at}

-- ---- the parties alone

-- one party is another
pub party_is : (s : State) (parties : Parties) (a : ℕ) (server : Server) → Becomes s.parties parties a server → core_at (record s { parties = parties }) ≡ with_server (core_at s) a server
party_is s parties a server becomes = λ i. record (core_at (record s { parties = record s.parties { segments = becomes.stays.segments i; held = becomes.stays.held i } })) { servers = becomes.servers i }

-- none is
pub same_is : (s : State) (parties : Parties) → IsSame s.parties parties → core_at (record s { parties = parties }) ≡ core_at s
same_is s parties same = λ i. record (core_at (record s { parties = record s.parties { segments = same.stays.segments i; held = same.stays.held i } })) { servers = same.servers i }

-- a server is held, or no longer
pub held_is : (s : State) (parties : Parties) (a : ℕ) (held : Bool) → held_at parties ≡ put (held_at s.parties) a held → servers_at parties ≡ servers_at s.parties → parties.segments ≡ s.parties.segments
    → core_at (record s { parties = parties }) ≡ record (core_at s) { paused = put (core_at s).paused a held }
held_is s parties a held marks servers segments = λ i. record (core_at (record s { parties = record s.parties { segments = segments i } })) { servers = servers i; paused = marks i }

module _ (s : State) (parties : Parties) (a : ℕ) where
  pub begun_is : (under : Under) → Becomes s.parties parties a (record (servers_at s.parties a) { under = Some under }) → Begins s a under → core_at (record s { parties = parties }) ≡ begun (core_at s) a
  begun_is under becomes begins = party_is s parties a (record (servers_at s.parties a) { under = Some under }) becomes ∙ ap (with_server (core_at s) a) (sym begins)

  pub failed_is : Becomes s.parties parties a (failed_by (servers_at s.parties a)) → a < SERVERS → core_at (record s { parties = parties }) ≡ call_failed (core_at s) a
  failed_is becomes small =
      party_is s parties a (failed_by (servers_at s.parties a)) becomes
      ∙ sym (ap (λ (t : Bool). if t then record (core_at s) { over = true } else with_server (core_at s) a (failed_by ((core_at s).servers a))) (not_host a small))

  pub wanting_is : Becomes s.parties parties a (wanting_all (servers_at s.parties a)) → clean_at (core_at s) a ≡ false → core_at (record s { parties = parties }) ≡ closed (core_at s) a
  wanting_is becomes dirty =
      party_is s parties a (wanting_all (servers_at s.parties a)) becomes
      ∙ sym (ap (λ (t : Bool). if t then record (with_server (core_at s) a (off_after ((core_at s).servers a))) { locks = cleared s.locks.locks a } else with_server (core_at s) a (wanting_all ((core_at s).servers a))) dirty)

  pub doomed_is : (fate : Fate) → Becomes s.parties parties a (record (servers_at s.parties a) { phase = core.Doomed fate }) → fate ≡ fate_of (core_at s) a
      → core_at (record s { parties = parties }) ≡ doomed (core_at s) a
  doomed_is fate becomes settled =
      party_is s parties a (record (servers_at s.parties a) { phase = core.Doomed fate }) becomes
      ∙ ap (λ (f : Fate). with_server (core_at s) a (record ((core_at s).servers a) { phase = core.Doomed f })) settled

-- all that are up want everything, at each multiple of the ticks of a flush
pub flushed_is : (s : State) (parties : Parties) (now : ℕ) → EachBecomes s.parties parties wanting_all_up → (now % FLUSH_TICKS == 0) ≡ true
    → core_at (record s { parties = parties }) ≡ record (core_at s) { servers = flushed_at (core_at s) now }
flushed_is s parties now becomes due =
    (λ i. record (core_at (record s { parties = record s.parties { segments = becomes.stays.segments i; held = becomes.stays.held i } })) { servers = becomes.servers i })
    ∙ ap (λ (t : Bool). record (core_at s) { servers = λ a. if t then wanting_all_up ((core_at s).servers a) else (core_at s).servers a }) (sym due)

pub not_flushed_is : (s : State) (now : ℕ) → (now % FLUSH_TICKS == 0) ≡ false → core_at s ≡ record (core_at s) { servers = flushed_at (core_at s) now }
not_flushed_is s now not_due = ap (λ (t : Bool). record (core_at s) { servers = λ a. if t then wanting_all_up ((core_at s).servers a) else (core_at s).servers a }) (sym not_due)

-- ---- the parties and the locks

-- one party is another, and the locks are these
pub party_and_locks : (s : State) (parties : Parties) (table : Table) (a : ℕ) (server : Server) (locks : Locks) → Becomes s.parties parties a server → table.locks ≡ locks
    → core_at (record s { parties = parties; locks = table }) ≡ record (with_server (core_at s) a server) { locks = locks }
party_and_locks s parties table a server locks becomes is =
    ap (λ (c : Core). record c { locks = table.locks }) (party_is s parties a server becomes) ∙ ap (λ (l : Locks). record (with_server (core_at s) a server) { locks = l }) is

module _ (s : State) (parties : Parties) (table : Table) (a : ℕ) where
  pub renewed_is : Becomes s.parties parties a (record (servers_at s.parties a) { expiry = s.tick + LEASE_TICKS }) → table.locks ≡ extended s.locks.locks a (s.tick + LEASE_TICKS)
      → core_at (record s { parties = parties; locks = table }) ≡ renewed (core_at s) a
  renewed_is = party_and_locks s parties table a (record (servers_at s.parties a) { expiry = s.tick + LEASE_TICKS }) (extended s.locks.locks a (s.tick + LEASE_TICKS))

  pub resumed_is : Becomes s.parties parties a (up_again (core_at s).setting s.tick (servers_at s.parties a)) → table.locks ≡ cleared s.locks.locks a
      → core_at (record s { parties = parties; locks = table }) ≡ resumed (core_at s) a
  resumed_is = party_and_locks s parties table a (up_again (core_at s).setting s.tick (servers_at s.parties a)) (cleared s.locks.locks a)

  pub released_is : (lock : LockId) → Becomes s.parties parties a (record (servers_at s.parties a) { cache = dropped (servers_at s.parties a).cache lock })
      → table.locks ≡ released s.locks.locks a lock → asked_for s.locks.locks a lock ≡ Some Release → core_at (record s { parties = parties; locks = table }) ≡ given (core_at s) a lock
  released_is lock becomes gone asked =
      party_and_locks s parties table a (record (servers_at s.parties a) { cache = dropped (servers_at s.parties a).cache lock }) (released s.locks.locks a lock) becomes gone
      ∙ sym (ap (given_for (core_at s) a lock) asked)

  pub turned_off_is : Becomes s.parties parties a (off_after (servers_at s.parties a)) → table.locks ≡ cleared s.locks.locks a → clean_at (core_at s) a ≡ true
      → core_at (record s { parties = parties; locks = table }) ≡ closed (core_at s) a
  turned_off_is becomes given_back clean =
      party_and_locks s parties table a (off_after (servers_at s.parties a)) (cleared s.locks.locks a) becomes given_back
      ∙ sym (ap (λ (t : Bool). if t then record (with_server (core_at s) a (off_after ((core_at s).servers a))) { locks = cleared s.locks.locks a } else with_server (core_at s) a (wanting_all ((core_at s).servers a))) clean)

-- ---- the parties and the writes in flight

pub died_is : (s : State) (parties : Parties) (flights : Flights) (a : ℕ) (fate : Fate) → Becomes s.parties parties a (died_with fate (servers_at s.parties a))
    → flights_of flights.flying ≡ flights_at_death fate a (flights_of s.flights.flying) → flights.next ≡ s.flights.next → (servers_at s.parties a).phase ≡ core.Doomed fate
    → core_at (record s { parties = parties; flights = flights }) ≡ died (core_at s) a
died_is s parties flights a fate becomes gone next doomed =
    ap (λ (c : Core). record c { flights = flights_of flights.flying; tickets = flights.next }) (party_is s parties a (died_with fate (servers_at s.parties a)) becomes)
    ∙ (λ i. record (with_server (core_at s) a (died_with fate (servers_at s.parties a))) { flights = gone i; tickets = next i })
    ∙ ap (died_in (core_at s) a) (sym doomed)

-- a write is gone, and no server has changed
pub landed_is : (s : State) (parties : Parties) (flights : Flights) (ticket : ℕ) → IsSame s.parties parties → flights_of flights.flying ≡ without (flights_of s.flights.flying) ticket
    → flights.next ≡ s.flights.next → core_at (record s { parties = parties; flights = flights }) ≡ landed (core_at s) ticket
landed_is s parties flights ticket same gone next =
    ap (λ (c : Core). record c { flights = flights_of flights.flying; tickets = flights.next }) (same_is s parties same)
    ∙ (λ i. record (core_at s) { flights = gone i; tickets = next i })

-- ---- the clock

-- everything is flushed that is due, and then the clock and the holds on logs go on
pub ticked_is : (s flushed : State) (table : Table) (ticks : ℕ) → core_at flushed ≡ record (core_at s) { servers = flushed_at (core_at s) (s.tick + 1) }
    → table.locks ≡ extended flushed.locks.locks host_party (s.tick + 1 + LEASE_TICKS) → ticks ≡ ticks_after (core_at s)
    → core_at (record flushed { locks = table; ticks = ticks; tick = s.tick + 1 }) ≡ ticked (core_at s)
ticked_is s flushed table ticks is lasts counted =
    ap (λ (l : Locks). record (core_at flushed) { locks = l; ticks = ticks; now = s.tick + 1 }) lasts
    ∙ ap (λ (c : Core). record c { locks = extended c.locks host_party (s.tick + 1 + LEASE_TICKS); ticks = ticks; now = s.tick + 1 }) is
    ∙ ap (λ (n : ℕ). record (core_at s) { servers = flushed_at (core_at s) (s.tick + 1); locks = extended s.locks.locks host_party (s.tick + 1 + LEASE_TICKS); ticks = n; now = s.tick + 1 }) counted
