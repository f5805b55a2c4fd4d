-- Step by step the servers of writes in place hold their covers alone.
use Rattle.std.proofs.Common.{◌≡◌, ◌&&◌, ◌||◌, ◌<◌, ℕ, Bool, true, false, not, if◌then◌else◌, is_some, IsTrue, Option, Some, length, refl, sym, ap, ◌∙◌, subst}
use Rattle.std.proofs.lemmas.Bool.{and_parts, false≢true, ltb-true}
use Rattle.frang_base.specs.Functions.{put_lock}
use Rattle.frang_base.specs.declared.lock.LockId.{LockId}
use Rattle.frang_base.specs.declared.lock.Mode.{Mode}
use Rattle.frang_base.specs.declared.lock.Mode.TheVariants.{Sole}
use Rattle.lock_definitions.specs.Calls.{changed, given_up, shared, taken, wanted}
use Rattle.lock_definitions.specs.Locks.{AreLocks, Locks, claim_of, held}
use Rattle.sector_bytes.specs.SectorMaps.{value_at}
use Rattle.cache_definitions.specs.declared.dirt.Dirt.{Dirt}
use Rattle.cache_definitions.specs.Caches.{CachedSector, any_cached, is_dirty}
use Rattle.disk_definitions.proofs.Listed.{Among}
use Rattle.core_definitions.specs.Cores.{clean_at, expiry_of, stage, writes}
use Rattle.core_definitions.specs.Flights.{InPlace, OfLog, OfRecovery, has_flights, has_flights_under, left_behind, lost}
use Rattle.core_definitions.specs.LineGuards.{is_server}
use Rattle.core_definitions.specs.Rings.{is_all_reached}
use Rattle.core_definitions.specs.Runs.{State as RunMoment}
use Rattle.core_definitions.specs.Servers.{is_dead, is_off}
use Rattle.core_definitions.specs.WriteEffects.{flight_of}
use Rattle.core_definitions.specs.WriteGuards.{CanGive}
use Rattle.core_definitions.specs.Writes.{Write}
use Rattle.core_facts.proofs.Turns.{Work, Turn, Rests, Stays, Lines, Caches, Reclaims, Clears, Commits, Mounts, Leaves, Arms, Stalls, Settles, Asks, Lowers, Releases, Relocks, Wants, Issues, Fades, Lands, Drifts, Breaks, Fails, Dooms, Resumes, Dies, Renews, Ticks, Recovers, Loads, Looks, Finishes, Halts}
use Rattle.core_facts.proofs.WriteKinds.{Wanted, Rescues, Places, NextOfLog, wanted_is}
use Rattle.core_laws.proofs.FlightLists.{AllFlights, all_joined, all_landed, all_lost}
use Rattle.core_laws.proofs.Memory.{Safe, dead_of}
use Rattle.core_world.proofs.Tables.{held_changed}
use Rattle.core_line_steps.specs.Held.{MovesAreHeld}
use Rattle.core_line_steps.proofs.Holding.{IsHeldAlone, behind, cleared_keeps, given_under, held_on, moved_writes, taken_keeps, wanted_keeps}

-- what is known of the moment before a step
pub record Known (s : RunMoment) : Type 0 where
  pub are : AreLocks s.core.locks
  pub safe : Safe s.core.servers
  pub moves : MovesAreHeld s.core
  pub dirty : (a sector : ℕ) (cached : CachedSector) (dirt : Dirt) → Among {X = ℕ × CachedSector} (sector, cached) (s.core.servers a).cache → cached.dirt ≡ Some dirt → held s.core.locks a cached.cover ≡ Some Sole
  pub off : (a : ℕ) → IsTrue (is_server a) → IsTrue (is_off (s.core.servers a).phase || is_dead (s.core.servers a).phase) → has_flights s.core.flights a ≡ false

is_not : (b : Bool) → IsTrue (not b) → b ≡ false
is_not true e = absurd (false≢true e)
is_not false e = refl

module _ (s : RunMoment) (k : Known s) (m : AllFlights (IsHeldAlone s.core.locks) s.core.flights) where
  inside : (a : ℕ) → IsTrue (is_server a) → a < length s.core.locks.clerks
  inside a server = subst (λ n. a < n) (sym k.are.servers) (ltb-true a 16 server)

  -- nothing of who is clean is in flight
  none_clean : (a : ℕ) → IsTrue (clean_at s.core a) → has_flights s.core.flights a ≡ false
  none_clean a e =
      let not_recovering = and_parts (not (any_cached is_dirty (s.core.servers a).cache) && not (has_flights s.core.flights a) && is_all_reached (s.core.servers a).ring) (not (is_some (s.core.servers a).recovery)) e in
      let reached = and_parts (not (any_cached is_dirty (s.core.servers a).cache) && not (has_flights s.core.flights a)) (is_all_reached (s.core.servers a).ring) not_recovering.0 in
      is_not (has_flights s.core.flights a) (and_parts (not (any_cached is_dirty (s.core.servers a).cache)) (not (has_flights s.core.flights a)) reached.0).1

  given : (a : ℕ) (lock : LockId) → CanGive s.core a lock → (new : Locks) (mode : Option Mode) → ((b : ℕ) (l : LockId) → put_lock (held s.core.locks) a lock mode b l ≡ held new b l) → AllFlights (IsHeldAlone new) s.core.flights
  given a lock can new mode is = given_under s.core.locks k.are a (inside a can.server) lock new mode is s.core.flights (is_not (has_flights_under s.core.flights a lock) can.landed) m

  -- a write that is issued is of a dirty sector
  issued : (a sector : ℕ) (write : Write) → value_at (writes s.core a) sector ≡ Some write → IsHeldAlone s.core.locks (flight_of s.core a sector write)
  issued a sector write e lock present place = by (wanted_is s.core.setting s.core.locks a (s.core.servers a) (stage s.core a) sector write e)
    where
      by : Wanted s.core.setting.logs s.core.setting.segments a (s.core.servers a) sector write → held s.core.locks a lock ≡ Some Sole
      by (Rescues recovery block has there is) = absurd (let z : OfRecovery ≡ InPlace lock = sym (ap (λ (x : Write). x.purpose) is) ∙ place in cc)
      by (NextOfLog number block next at is) = absurd (let z : OfLog number ≡ InPlace lock = sym (ap (λ (x : Write). x.purpose) is) ∙ place in cc)
      by (Places cached dirt there has is) =
          let z : InPlace cached.cover ≡ InPlace lock = sym (ap (λ (x : Write). x.purpose) is) ∙ place in
          let same : cached.cover ≡ lock = cc in
          subst (λ l. held s.core.locks a l ≡ Some Sole) same (k.dirty a sector cached dirt there has)

  dead_too : (b : Bool) → IsTrue b → (a : Bool) → IsTrue (a || b)
  dead_too b e true = refl
  dead_too b e false = e

  pub held_turn : (w : Work) → Turn s w → AllFlights (IsHeldAlone w.locks) w.flights
  held_turn w Rests = m
  held_turn w (Stays a) = m
  held_turn w (Lines a under server step) = m
  held_turn w (Caches a sector block needs cover server e f got) = m
  held_turn w (Reclaims a outcome server e) = m
  held_turn w (Clears a block server e) = m
  held_turn w (Commits a outcome server e cleared) = moved_writes s.core.locks a outcome (k.moves a outcome e cleared) s.core.flights m
  held_turn w (Mounts a under server off u read) = m
  held_turn w (Leaves a server up clean) = cleared_keeps s.core.locks a s.core.flights (none_clean a clean) m
  held_turn w (Arms a arming server up) = m
  held_turn w (Stalls a server up) = m
  held_turn w (Settles a server) = m
  held_turn w (Asks a lock mode server e) = held_on s.core.locks (wanted s.core.locks a lock mode) (wanted_keeps s.core.locks k.are a (inside a server) lock mode) s.core.flights m
  held_turn w (Lowers a lock can) = given a lock can (changed s.core.locks a lock shared) (shared (claim_of s.core.locks a lock)).held (held_changed s.core.locks k.are a (inside a can.server) lock shared)
  held_turn w (Releases a lock can) = given a lock can (changed s.core.locks a lock given_up) (given_up (claim_of s.core.locks a lock)).held (held_changed s.core.locks k.are a (inside a can.server) lock given_up)
  held_turn w (Relocks locks are same wait) = held_on s.core.locks locks (λ a lock sole. same.held a lock ∙ sole) s.core.flights m
  held_turn w (Wants a up) = m
  held_turn w (Issues a sector write can e) = all_joined (IsHeldAlone s.core.locks) (s.core.tickets, flight_of s.core a sector write) s.core.flights (issued a sector write e) m
  held_turn w (Fades ticket flight e late) = all_landed (IsHeldAlone s.core.locks) ticket s.core.flights m
  held_turn w (Lands ticket flight e early present) = all_landed (IsHeldAlone s.core.locks) ticket s.core.flights m
  held_turn w (Drifts ticket flight e early present) = all_landed (IsHeldAlone s.core.locks) ticket s.core.flights m
  held_turn w (Breaks ticket flight new e early) = all_landed (IsHeldAlone s.core.locks) ticket s.core.flights m
  held_turn w (Fails a) = m
  held_turn w (Dooms a fate can) = m
  held_turn w (Resumes a can) = cleared_keeps s.core.locks a s.core.flights (none_clean a can.clean) m
  held_turn w (Dies a fate server p) = died fate.loses
    where
      died : (b : Bool) → AllFlights (IsHeldAlone s.core.locks) (if b then lost a s.core.flights else left_behind a s.core.flights)
      died true = all_lost (IsHeldAlone s.core.locks) a s.core.flights m
      died false = behind s.core.locks a s.core.flights m
  held_turn w (Renews a can) = m
  held_turn w (Ticks can) = m
  held_turn w (Recovers dead by can) = held_on s.core.locks (taken s.core.locks dead by s.core.now (expiry_of s.core by)) (taken_keeps s.core.locks dead by s.core.now (expiry_of s.core by)) s.core.flights m
  held_turn w (Loads by slot block recovery who has wants got) = m
  held_turn w (Looks by sector block recovery who has wants got) = m
  held_turn w (Finishes by recovery can has) =
      let d = k.safe.saved by recovery.dead can.who (ap dead_of has) in
      cleared_keeps s.core.locks recovery.dead s.core.flights (k.off recovery.dead d.1 (dead_too (is_dead (s.core.servers recovery.dead).phase) d.0 (is_off (s.core.servers recovery.dead).phase))) m
  held_turn w Halts = tt
