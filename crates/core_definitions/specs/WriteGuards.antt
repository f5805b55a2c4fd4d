-- When locks are given, writes are issued and arrive, and servers die, go on or renew: Give, Issue, Doom, Resume, Arrive, Lose, Die, Renew.
use Rattle.std.specs.Prelude.{ℕ, ◌==◌, Bool, true, false, not, ◌&&◌, ◌||◌, if◌then◌else◌, IsTrue, Option, Some, None, is_some, List, [], nat_le, nat_lt}
use Rattle.std.specs.List.{list_any}
use Rattle.std.specs.Option.{IsSome}
use Rattle.frang_base.specs.declared.lock.LockId.{LockId}
use Rattle.frang_base.specs.declared.lock.Mode.TheVariants.{Sole}
use Rattle.tree_definitions.specs.Transcript.{is_crash}
use Rattle.lock_definitions.specs.Locks.{held}
use Rattle.lock_definitions.specs.Calls.{asked_for, serves}
use Rattle.sector_bytes.specs.SectorMaps.{value_at}
use Rattle.core_definitions.specs.Settings.{lease_to}
use Rattle.set_definitions.specs.Sets.{LockSet, has_lock, held_set}
use Rattle.core_definitions.specs.Rings.{is_all_reached}
use Rattle.cache_definitions.specs.Caches.{any_cached, is_dirty_under}
use Rattle.core_definitions.specs.Lines.{Under}
use Rattle.core_definitions.specs.Flights.{Flight, has_flights_under, is_flying}
use Rattle.core_definitions.specs.Scripts.{host_party}
use Rattle.core_definitions.specs.Servers.{Arming, Server, asks, is_dead, is_doomed, is_still, is_up}
use Rattle.core_definitions.specs.Writes.{Write, Writes, is_mark_reached, keeps_window}
use Rattle.core_definitions.specs.Cores.{Core, clean_at, stamp_of, writes}
use Rattle.core_definitions.specs.LineGuards.{is_server}

-- ---- Give

-- the set of the line under way, while its answer is open
abbrev pub set_under : Option Under → LockSet
set_under None = []
set_under (Some under) = if is_some under.fixed then [] else under.set

-- the line under way has the lock in its held set
abbrev pub is_in_use : Core → ℕ → LockId → Bool
is_in_use c a lock = has_lock (held_set c.locks a (set_under (c.servers a).under)) lock

abbrev pub is_sole : Core → ℕ → LockId → Bool
is_sole c a lock = serves (held c.locks a lock) Sole

-- Up, asked, no line under way has it in its held set, nothing dirty or in flight under it, and for a sole lock the whole log so far acknowledged
pub record CanGive (c : Core) (a : ℕ) (lock : LockId) : Type 0 where
  pub server : IsTrue (is_server a)
  pub up : IsTrue (is_up (c.servers a).phase)
  pub asked : IsTrue (is_some (asked_for c.locks a lock))
  pub unused : IsTrue (not (is_in_use c a lock))
  pub clean : IsTrue (not (any_cached (is_dirty_under lock) (c.servers a).cache))
  pub landed : IsTrue (not (has_flights_under c.flights a lock))
  pub logged : IsTrue (not (is_sole c a lock) || is_all_reached (c.servers a).ring)

abbrev pub may_give : Core → ℕ → LockId → Bool
may_give c a lock =
    is_server a && is_up (c.servers a).phase && is_some (asked_for c.locks a lock) && not (is_in_use c a lock) && not (any_cached (is_dirty_under lock) (c.servers a).cache)
    && not (has_flights_under c.flights a lock) && (not (is_sole c a lock) || is_all_reached (c.servers a).ring)

-- ---- Issue

-- Up, or the host
abbrev pub is_worker : Core → ℕ → Bool
is_worker c a = (is_server a && is_up (c.servers a).phase) || a == host_party

-- the write is there, and passes
abbrev pub is_write : (Write → Bool) → Option Write → Bool
is_write passes None = false
is_write passes (Some write) = passes write

abbrev pub is_marked : Core → ℕ → Option Write → Bool
is_marked c a write = is_write (λ w. is_mark_reached (c.servers a).ring w.mark) write

abbrev pub is_in_flight_window : Core → ℕ → Option Write → Bool
is_in_flight_window c a write = is_write (λ w. keeps_window c.setting.logs (c.servers a).ring w.purpose) write

-- Up, or the host in its recovery; the write is wanted, and its mark is reached; no write of the sector is in flight; the limit of log sectors in flight is kept; now is at most
-- the stamp; no call of it failed
pub record IsIssuable (c : Core) (a sector : ℕ) (all : Writes) : Type 0 where
  pub who : IsTrue (is_worker c a)
  pub wanted : IsSome (value_at all sector)
  pub marked : IsTrue (is_marked c a (value_at all sector))
  pub alone : IsTrue (not (is_flying c.flights sector))
  pub window : IsTrue (is_in_flight_window c a (value_at all sector))
  pub early : IsTrue (nat_le c.now (stamp_of c a))
  pub well : IsTrue (not (c.servers a).failed)

abbrev pub is_issuable : Core → ℕ → ℕ → Writes → Bool
is_issuable c a sector all =
    is_worker c a && is_some (value_at all sector) && is_marked c a (value_at all sector) && not (is_flying c.flights sector)
    && is_in_flight_window c a (value_at all sector) && nat_le c.now (stamp_of c a) && not (c.servers a).failed

-- armed to die at the next Issue
abbrev pub is_at_last : Option Arming → Bool
is_at_last None = false
is_at_last (Some arming) = nat_le arming.k 1

-- these, and it isn't armed to die at this Issue
pub record CanIssue (c : Core) (a sector : ℕ) : Type 0 where
  pub issuable : IsIssuable c a sector (writes c a)
  pub unarmed : IsTrue (not (is_at_last (c.servers a).arming))

abbrev pub may_issue : Core → ℕ → ℕ → Writes → Bool
may_issue c a sector all = is_issuable c a sector all && not (is_at_last (c.servers a).arming)

-- some Issue is held back only because it would be the k-th
abbrev pub is_held_back : Core → ℕ → Writes → Bool
is_held_back c a all = is_at_last (c.servers a).arming && list_any (λ entry. is_issuable c a entry.0 all) all

-- ---- Doom and Resume

-- Up with a `crash` line without a number under way
abbrev pub is_crashing : Server → Bool
is_crashing server = is_up server.phase && asks is_crash server

-- Still, and now above its expiry
abbrev pub is_past_lease : Core → ℕ → Bool
is_past_lease c a = is_still (c.servers a).phase && nat_lt (c.servers a).expiry c.now

-- Up or Still with a failed get or put
abbrev pub is_faulted : Server → Bool
is_faulted server = (is_up server.phase || is_still server.phase) && server.failed

-- Up with a `crash` line without a number under way; or armed, and some Issue of this server is held back only because it would be the k-th; or Still, now above expiry and not clean;
-- or Up or Still with a failed get or put
pub record CanDoom (c : Core) (a : ℕ) : Type 0 where
  pub server : IsTrue (is_server a)
  pub cause : IsTrue (is_crashing (c.servers a) || is_held_back c a (writes c a) || (is_past_lease c a && not (clean_at c a)) || is_faulted (c.servers a))

abbrev pub may_doom : Core → ℕ → Writes → Bool
may_doom c a all =
    is_server a && (is_crashing (c.servers a) || is_held_back c a all || (is_past_lease c a && not (clean_at c a)) || is_faulted (c.servers a))

-- Still, now above expiry, clean
pub record CanResume (c : Core) (a : ℕ) : Type 0 where
  pub server : IsTrue (is_server a)
  pub past : IsTrue (is_past_lease c a)
  pub clean : IsTrue (clean_at c a)

abbrev pub may_resume : Core → ℕ → Bool
may_resume c a = is_server a && is_past_lease c a && clean_at c a

-- ---- Arrive and Lose

-- it is in flight
pub record CanArrive (c : Core) (ticket : ℕ) : Type 0 where
  pub flying : IsSome (value_at c.flights ticket)

-- its server passes
abbrev pub is_flight : (Flight → Bool) → Option Flight → Bool
is_flight passes None = false
is_flight passes (Some flight) = passes flight

abbrev pub is_by_dead : Core → Flight → Bool
is_by_dead c flight = is_server flight.server && is_dead (c.servers flight.server).phase

-- its server is Dead
pub record CanLose (c : Core) (ticket : ℕ) : Type 0 where
  pub dead : IsTrue (is_flight (is_by_dead c) (value_at c.flights ticket))

-- ---- Die and Renew

-- Doomed
pub record CanDie (c : Core) (a : ℕ) : Type 0 where
  pub server : IsTrue (is_server a)
  pub doomed : IsTrue (is_doomed (c.servers a).phase)

abbrev pub may_die : Core → ℕ → Bool
may_die c a = is_server a && is_doomed (c.servers a).phase

-- Up, expiry less than that of a lease from now on
pub record CanRenew (c : Core) (a : ℕ) : Type 0 where
  pub server : IsTrue (is_server a)
  pub up : IsTrue (is_up (c.servers a).phase)
  pub less : IsTrue (nat_lt (c.servers a).expiry (lease_to c.setting c.now))

abbrev pub may_renew : Core → ℕ → Bool
may_renew c a = is_server a && is_up (c.servers a).phase && nat_lt (c.servers a).expiry (lease_to c.setting c.now)
