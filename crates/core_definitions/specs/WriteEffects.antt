-- What the events of locks, writes and lives do: Give, Issue, Doom, Resume, Arrive, Lose, Die, Renew, Tick.
use Rattle.std.specs.Prelude.{ℕ, ◌+◌, ◌-◌, ◌%◌, ◌==◌, Bool, true, false, not, ◌&&◌, if◌then◌else◌, Option, Some, None, is_some, List, [], ◌∷◌, ◌++◌, filter}
use Rattle.std.specs.Option.{option_map}
use Rattle.frang_base.specs.Functions.{member, put}
use Rattle.frang_base.specs.declared.lock.LockId.{LockId}
use Rattle.frang_base.specs.declared.op.Op.{Op}
use Rattle.frang_base.specs.declared.reply.Reply.{Reply}
use Rattle.lock_definitions.specs.declared.claim.AskedFor.{AskedFor}
use Rattle.lock_definitions.specs.declared.claim.AskedFor.TheVariants.{Release, Downgrade}
use Rattle.lock_definitions.specs.Calls.{asked_for, cleared, downgraded, extended, released}
use Rattle.ring_definitions.specs.Rings.{Ring, acked as ring_acked, issued as ring_issued}
use Rattle.sector_bytes.specs.Blocks.{Block}
use Rattle.sector_bytes.specs.SectorMaps.{value_at, without}
use Rattle.core_definitions.specs.Settings.{Setting, lease_to}
use Rattle.cache_definitions.specs.Caches.{cleaned, dropped}
use Rattle.core_definitions.specs.Lines.{Under, operation_of}
use Rattle.core_definitions.specs.Flights.{Flight, Flights, InPlace, OfLog, OfRecovery, Purpose, left_behind, lost}
use Rattle.core_definitions.specs.Recoveries.{Recovery}
use Rattle.core_definitions.specs.Scripts.{host_party, is_waited_for}
use Rattle.core_definitions.specs.Servers.{Arming, Dead, Doomed, Fate, Phase, Server, Up, answer_at_death, first_server, wanting_all_up}
use Rattle.core_definitions.specs.Writes.{Write, comes_clean}
use Rattle.core_definitions.specs.Cores.{Core, clean_at, next_of, stamp_of, with_server, writes}
use Rattle.core_definitions.specs.Events.{Heard, Nothing, Got, GetFailed, Written, Late, PutFailed}
use Rattle.core_definitions.specs.LineEffects.{call_failed}
use Rattle.core_definitions.specs.WriteGuards.{is_held_back, is_past_lease}

-- ---- Give: released, or downgraded where it is held sole and a shared one is wanted; a released lock's sectors are dropped

abbrev pub given_for : Core → ℕ → LockId → Option AskedFor → Core
given_for c a lock (Some Downgrade) = record c { locks = downgraded c.locks a lock }
given_for c a lock (Some Release) = record c { locks = released c.locks a lock; servers = put c.servers a (record (c.servers a) { cache = dropped (c.servers a).cache lock }) }
given_for c a lock None = c

abbrev pub given : Core → ℕ → LockId → Core
given c a lock = given_for c a lock (asked_for c.locks a lock)

-- ---- Issue: in flight with stamp; an armed server's count falls

abbrev pub counted : Option Arming → Option Arming
counted None = None
counted (Some arming) = Some (record arming { k = arming.k - 1 })

-- the first waiting sector of the ring is issued
abbrev pub ring_after : Purpose → Ring → Ring
ring_after (OfLog number) ring = ring_issued ring
ring_after (InPlace cover) ring = ring
ring_after OfRecovery ring = ring

abbrev pub flight_of : Core → ℕ → ℕ → Write → Flight
flight_of c a sector write = record { server = a; behalf = write.behalf; stamp = stamp_of c a; sector = sector; block = write.block; purpose = write.purpose; present = true }

abbrev pub issued_as : Core → ℕ → ℕ → Option Write → Core
issued_as c a sector None = c
issued_as c a sector (Some write) = record c {
  flights = c.flights ++ (c.tickets, flight_of c a sector write) ∷ [];
  tickets = c.tickets + 1;
  servers = put c.servers a (record (c.servers a) { ring = ring_after write.purpose (c.servers a).ring; arming = counted (c.servers a).arming });
}

abbrev pub issued : Core → ℕ → ℕ → Core
issued c a sector = issued_as c a sector (value_at (writes c a) sector)

-- ---- Doom: what goes with it, and whether it will owe, is settled

abbrev pub is_cut : Option Arming → Bool
is_cut None = false
is_cut (Some arming) = arming.cuts

-- all in flight goes with it exactly where an Issue is held back and the arming is a `cut`; it will owe exactly where it is Still, its lease has ended, it isn't clean and no call of
-- the mount failed
abbrev pub fate_of : Core → ℕ → Fate
fate_of c a = record {
  loses = is_cut (c.servers a).arming && is_held_back c a (writes c a);
  owes = is_past_lease c a && not (clean_at c a) && not (c.servers a).failed;
}

abbrev pub doomed : Core → ℕ → Core
doomed c a = with_server c a (record (c.servers a) { phase = Doomed (fate_of c a) })

-- ---- Resume: cache emptied, locks given back, a lease from now on, Up; an armed count stays

abbrev pub up_again : Setting → ℕ → Server → Server
up_again setting now server =
    record first_server { phase = Up; expiry = lease_to setting now; failed = server.failed; arming = server.arming; ring = server.ring; under = server.under }

abbrev pub resumed : Core → ℕ → Core
resumed c a = record c { servers = put c.servers a (up_again c.setting c.now (c.servers a)); locks = cleared c.locks a }

-- ---- Arrive: acknowledged, late, or failed

-- a log number is acknowledged; a sector in place is clean where the cache still has this block and its mark is reached, and is then neither wanted nor pending; a recovery's write is
-- acknowledged for it
abbrev pub acknowledged_for : ℕ → Recovery → Recovery
acknowledged_for sector recovery = record recovery { written = sector ∷ recovery.written }

abbrev pub clean_now : ℕ → Server → Server
clean_now sector server = record server {
  cache = cleaned server.cache sector;
  staying = filter (λ s. not (s == sector)) server.staying;
  pending = filter (λ s. not (s == sector)) server.pending;
}

abbrev pub acknowledged : ℕ → Block → Purpose → Server → Server
acknowledged sector block (OfLog number) server = record server { ring = ring_acked server.ring number }
acknowledged sector block (InPlace cover) server = if comes_clean server sector block then clean_now sector server else server
acknowledged sector block OfRecovery server = record server { recovery = option_map (acknowledged_for sector) server.recovery }

-- the write is gone
abbrev pub landed : Core → ℕ → Core
landed c ticket = record c { flights = without c.flights ticket }

-- one of an earlier mount changes nothing else
abbrev pub taken_in : Core → Flight → Core
taken_in c flight =
    if flight.present then with_server c flight.server (acknowledged flight.sector flight.block flight.purpose (c.servers flight.server)) else c

abbrev pub arrived_as : Core → Flight → Heard → Core
arrived_as c flight Written = taken_in c flight
arrived_as c flight (PutFailed new) = call_failed c flight.server
arrived_as c flight heard = c

abbrev pub arrived_from : Core → ℕ → Heard → Option Flight → Core
arrived_from c ticket heard None = c
arrived_from c ticket heard (Some flight) = arrived_as (landed c ticket) flight heard

abbrev pub arrived : Core → ℕ → Heard → Core
arrived c ticket heard = arrived_from c ticket heard (value_at c.flights ticket)

-- ---- Die: Dead; cache and arming gone, its locks stay; after `cut` all it has in flight is gone

-- an open answer is fixed
abbrev pub fixed_for : Bool → Option Op → Option Reply
fixed_for failed None = None
fixed_for failed (Some operation) = Some (answer_at_death failed operation)

abbrev pub under_at_death : Bool → Under → Under
under_at_death failed under = if is_some under.fixed then under else record under { fixed = fixed_for failed (operation_of under.line.what) }

abbrev pub died_with : Fate → Server → Server
died_with fate server = record first_server {
  phase = Dead;
  expiry = server.expiry;
  owes = fate.owes;
  failed = server.failed;
  ring = server.ring;
  under = option_map (under_at_death server.failed) server.under;
}

abbrev pub flights_at_death : Fate → ℕ → Flights → Flights
flights_at_death fate a flights = if fate.loses then lost a flights else left_behind a flights

abbrev pub died_in : Core → ℕ → Phase → Core
died_in c a (Doomed fate) = record c { servers = put c.servers a (died_with fate (c.servers a)); flights = flights_at_death fate a c.flights }
died_in c a phase = c

abbrev pub died : Core → ℕ → Core
died c a = died_in c a (c.servers a).phase

-- ---- Renew: a lease from now on, also of each hold on a log whose taker the server is

abbrev pub renewed : Core → ℕ → Core
renewed c a = record c { servers = put c.servers a (record (c.servers a) { expiry = lease_to c.setting c.now }); locks = extended c.locks a (lease_to c.setting c.now) }

-- ---- Tick: now + 1; at each multiple of the ticks of a flush all Up servers want everything written

abbrev pub flushed_at : Core → ℕ → ℕ → Server
flushed_at c now a = if now % c.setting.flush_ticks == 0 then wanting_all_up (c.servers a) else c.servers a

-- one tick more is counted where every line before the next host line is answered; the host counts as renewed
abbrev pub ticks_after : Core → ℕ
ticks_after c = if is_waited_for c.setting.script c.answered (next_of c host_party) then c.ticks + 1 else c.ticks

abbrev pub ticked : Core → Core
ticked c = record c {
  now = c.now + 1;
  servers = flushed_at c (c.now + 1);
  locks = extended c.locks host_party (lease_to c.setting (c.now + 1));
  ticks = ticks_after c;
}
