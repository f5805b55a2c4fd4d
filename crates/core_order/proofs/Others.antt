-- Nobody but servers has a log: what is written into one is of a server's own, or of a server's that is recovered. So the other logs stay as they are at first. Step by step.
use Rattle.std.proofs.Common.{◌≡◌, ℕ, ◌<◌, ◌≤◌, ◌⊎◌, inl, inr, ◌+◌, ◌%◌, Bool, true, false, ◌&&◌, ◌||◌, ◌==◌, if◌then◌else◌, IsTrue, List, Some, None, refl, sym, ap, ◌∙◌, subst}
use Rattle.std.proofs.lemmas.Bool.{both_ways, eqb-true, false≢true}
use Rattle.std.proofs.lemmas.Option.{none-some}
use Rattle.frang_base.specs.Functions.{put}
use Rattle.frang_base.proofs.Basics.{at_put}
use Rattle.frang_base.specs.declared.limits.TheConstants.{LOGS, LOG_SECTORS}
use Rattle.frang_base.specs.declared.script.Line.{Line}
use Rattle.frang_outside.specs.Disk.{written}
use Rattle.disk_definitions.specs.Regions.{sector_of}
use Rattle.disk_definitions.specs.Replay.{slots_of}
use Rattle.disk_definitions.specs.declared.region.Region.TheVariants as region
use Rattle.disk_definitions.proofs.Listed.{Among}
use Rattle.disk_definitions.proofs.SameLogs.{log_records_same, zero_log_records}
use Rattle.sector_bytes.specs.SectorMaps.{value_at}
use Rattle.sector_bytes.specs.Sectors.{Sectors}
use Rattle.ring_definitions.specs.Rings.{ring_at}
use Rattle.core_definitions.specs.Cores.{stage, writes}
use Rattle.core_definitions.specs.Flights.{Flight, InPlace, OfLog, OfRecovery, Purpose}
use Rattle.core_definitions.specs.LineEffects.{failed_by}
use Rattle.core_definitions.specs.LineGuards.{is_server}
use Rattle.core_definitions.specs.Rings.{next_write}
use Rattle.core_definitions.specs.Runs.{State, Run, first_state}
use Rattle.core_definitions.specs.Scripts.{host_party}
use Rattle.core_definitions.specs.Servers.{Server, is_up, wanting_all, wanting_all_up}
use Rattle.core_definitions.specs.Settings.{Setting, setting_of}
use Rattle.core_definitions.specs.WriteEffects.{acknowledged, clean_now, flight_of, ring_after}
use Rattle.core_definitions.specs.WriteGuards.{CanIssue}
use Rattle.core_definitions.specs.Writes.{Write, comes_clean}
use Rattle.core_facts.proofs.Reading.{Arriving, Placed, PlacedFor, facts_of, flight_at, low_high, reads_of_run, same_log, slot_low}
use Rattle.core_facts.proofs.Turns.{Work, failed_at, work_of, step_turn, Turn, Rests, Stays, Lines, Caches, Reclaims, Clears, Commits, Mounts, Leaves, Arms, Stalls, Settles, Asks, Lowers, Releases, Relocks, Wants, Issues, Fades, Lands, Drifts, Breaks, Fails, Dooms, Resumes, Dies, Renews, Ticks, Recovers, Loads, Looks, Finishes, Halts}
use Rattle.core_facts.proofs.WriteKinds.{NextOfLog, Places, Rescues, Wanted, wanted_is}
use Rattle.core_journals.proofs.Changing.{Arrived, DiskChange, Stands, turn_disk, written_elsewhere}
use Rattle.core_journals.proofs.FlightChanges.{Flew, FlightFrom, New, is_rescue, turn_flights}
use Rattle.core_laws.specs.Leases.{LeasesEnd}
use Rattle.core_laws.proofs.Along.{along}
use Rattle.core_laws.proofs.FlightLists.{AllFlights, all_flights, in_flights}
use Rattle.core_laws.proofs.Memory.{Safe, dead_of}
use Rattle.core_laws.proofs.Resting.{good_of_run, server_no_host}
use Rattle.core_order.specs.Starting.{OthersStayEmpty}

-- ---- the host has no log

abbrev HasNoLog : Server → Type 0
HasNoLog server = server.ring ≡ ring_at 0

-- a write of a log is of a server, and one of a recovery on behalf of one
record IsOfServers (f : Flight) : Type 0 where
  log : (number : ℕ) → f.purpose ≡ OfLog number → IsTrue (is_server f.server)
  rescue : f.purpose ≡ OfRecovery → IsTrue (is_server f.behalf)

away : {X : Type 0} (a : ℕ) → IsTrue (is_server a) → host_party ≡ a → X
away a server e = absurd (both_ways (a == host_party) (server_no_host a server) (subst (λ n. (n == host_party) ≡ true) e refl))

module _ (servers : ℕ → Server) (none : HasNoLog (servers host_party)) where
  -- with another ring at a server, or none other
  put_server : (a : ℕ) (new : Server) → IsTrue (is_server a) → HasNoLog (put servers a new host_party)
  put_server a new server = at_put HasNoLog servers a new host_party (λ e. away a server e) (λ n. none)

  put_same : (a : ℕ) (new : Server) → new.ring ≡ (servers a).ring → HasNoLog (put servers a new host_party)
  put_same a new same = at_put HasNoLog servers a new host_party (λ e. same ∙ ap (λ n. (servers n).ring) (sym e) ∙ none) (λ n. none)

  failed_none : (a : ℕ) → HasNoLog (failed_at servers a host_party)
  failed_none a = go (a == host_party)
    where
      go : (b : Bool) → HasNoLog ((if b then servers else put servers a (failed_by (servers a))) host_party)
      go true = none
      go false = put_same a (failed_by (servers a)) refl

flushed_none : (server : Server) (test : Bool) → HasNoLog server → HasNoLog (if test then wanting_all_up server else server)
flushed_none server false none = none
flushed_none server true none = go (is_up server.phase)
  where
    go : (b : Bool) → HasNoLog (if b then wanting_all server else server)
    go true = none
    go false = none

-- ---- a write that is issued

issued_of_servers : (s : State) (a sector : ℕ) (write : Write) → Safe s.core.servers → HasNoLog (s.core.servers host_party) → CanIssue s.core a sector → value_at (writes s.core a) sector ≡ Some write →
    IsOfServers (flight_of s.core a sector write)
issued_of_servers s a sector write safe none can e = record {
  log = λ number of. logs number of (wanted_is s.core.setting s.core.locks a (s.core.servers a) (stage s.core a) sector write e);
  rescue = λ of. rescues of (wanted_is s.core.setting s.core.locks a (s.core.servers a) (stage s.core a) sector write e);
}
  where
    who : (number up : Bool) (n : ℕ) → IsTrue ((number && up) || n == host_party) → (number ≡ true) ⊎ (n ≡ host_party)
    who true up n h = inl refl
    who false up n h = inr (eqb-true n host_party h)

    logs : (number : ℕ) → write.purpose ≡ OfLog number → Wanted s.core.setting.logs s.core.setting.segments a (s.core.servers a) sector write → IsTrue (is_server a)
    logs number of (Rescues recovery block has among w) = absurd (false≢true (sym (ap is_rescue (sym (ap (λ (x : Write). x.purpose) w) ∙ of))))
    logs number of (Places cached dirt among d w) = absurd (not_log (sym (ap (λ (x : Write). x.purpose) w) ∙ of))
      where
        is_log : Purpose → Bool
        is_log (OfLog n) = true
        is_log (InPlace cover) = false
        is_log OfRecovery = false

        not_log : InPlace cached.cover ≡ OfLog number → ⊥
        not_log e = false≢true (ap is_log e)
    logs number of (NextOfLog m block next at w) = go (who (is_server a) (is_up (s.core.servers a).phase) a can.issuable.who)
      where
        go : (is_server a ≡ true) ⊎ (a ≡ host_party) → IsTrue (is_server a)
        go (inl server) = server
        go (inr host) = absurd (none-some (m, block) (sym (ap next_write (ap (λ n. (s.core.servers n).ring) host ∙ none)) ∙ next))

    rescues : write.purpose ≡ OfRecovery → Wanted s.core.setting.logs s.core.setting.segments a (s.core.servers a) sector write → IsTrue (is_server write.behalf)
    rescues of (Rescues recovery block has among w) =
        subst (λ (x : Write). IsTrue (is_server x.behalf)) (sym w) (safe.saved a recovery.dead can.issuable.who (ap dead_of has)).1
    rescues of (Places cached dirt among d w) = absurd (false≢true (ap is_rescue (sym (ap (λ (x : Write). x.purpose) w) ∙ of)))
    rescues of (NextOfLog m block next at w) = absurd (false≢true (ap is_rescue (sym (ap (λ (x : Write). x.purpose) w) ∙ of)))

-- ---- each step

record Idle (s : State) : Type 0 where
  host : HasNoLog (s.core.servers host_party)
  flights : AllFlights IsOfServers s.core.flights

acknowledged_none : (s : State) (flight : Flight) → HasNoLog (s.core.servers host_party) → IsOfServers flight →
    HasNoLog (put s.core.servers flight.server (acknowledged flight.sector flight.block flight.purpose (s.core.servers flight.server)) host_party)
acknowledged_none s flight none of = go flight.purpose refl
  where
    go : (p : Purpose) → flight.purpose ≡ p → HasNoLog (put s.core.servers flight.server (acknowledged flight.sector flight.block p (s.core.servers flight.server)) host_party)
    go (OfLog number) e = put_server s.core.servers none flight.server _ (of.log number e)
    go OfRecovery e = put_same s.core.servers none flight.server _ refl
    go (InPlace cover) e = placed (comes_clean (s.core.servers flight.server) flight.sector flight.block)
      where
        placed : (b : Bool) → HasNoLog (put s.core.servers flight.server (if b then clean_now flight.sector (s.core.servers flight.server) else s.core.servers flight.server) host_party)
        placed true = put_same s.core.servers none flight.server (clean_now flight.sector (s.core.servers flight.server)) refl
        placed false = put_same s.core.servers none flight.server (s.core.servers flight.server) refl

issued_none : (s : State) (a sector : ℕ) (write : Write) (new : Server) → HasNoLog (s.core.servers host_party) → IsOfServers (flight_of s.core a sector write) →
    new.ring ≡ ring_after write.purpose (s.core.servers a).ring → HasNoLog (put s.core.servers a new host_party)
issued_none s a sector write new none of is = go write.purpose refl
  where
    go : (p : Purpose) → write.purpose ≡ p → HasNoLog (put s.core.servers a new host_party)
    go (OfLog number) e = put_server s.core.servers none a new (of.log number e)
    go (InPlace cover) e = put_same s.core.servers none a new (is ∙ ap (λ p. ring_after p (s.core.servers a).ring) e)
    go OfRecovery e = put_same s.core.servers none a new (is ∙ ap (λ p. ring_after p (s.core.servers a).ring) e)

arrived_of : (s : State) → Idle s → (ticket : ℕ) (flight : Flight) → value_at s.core.flights ticket ≡ Some flight → IsOfServers flight
arrived_of s idle ticket flight e = go (flight_at s.core.flights ticket flight e)
  where
    go : (one : ℕ × Flight) × Among one s.core.flights × (one.1 ≡ flight) → IsOfServers flight
    go x = subst IsOfServers x.2 (in_flights IsOfServers s.core.flights x.0 x.1 idle.flights)

host_turn : (s : State) (w : Work) → Turn s w → Safe s.core.servers → Idle s → HasNoLog (w.servers host_party)
host_turn s w turn safe idle = go w turn
  where
    none : HasNoLog (s.core.servers host_party)
    none = idle.host

    server_put : (a : ℕ) (new : Server) → IsTrue (is_server a) → HasNoLog (put s.core.servers a new host_party)
    server_put = put_server s.core.servers none

    same_put : (a : ℕ) (new : Server) → new.ring ≡ (s.core.servers a).ring → HasNoLog (put s.core.servers a new host_party)
    same_put = put_same s.core.servers none

    go : (w : Work) → Turn s w → HasNoLog (w.servers host_party)
    go w Rests = none
    go w (Stays a) = same_put a _ refl
    go w (Lines a under server step) = server_put a _ server
    go w (Caches a sector block needs cover server e f got) = server_put a _ server
    go w (Reclaims a outcome server e) = server_put a _ server
    go w (Clears a block server e) = server_put a _ server
    go w (Commits a outcome server e cleared) = server_put a _ server
    go w (Mounts a under server off u read) = server_put a _ server
    go w (Leaves a server up clean) = server_put a _ server
    go w (Arms a arming server up) = server_put a _ server
    go w (Stalls a server up) = server_put a _ server
    go w (Settles a server) = server_put a _ server
    go w (Asks a lock mode server e) = none
    go w (Lowers a lock can) = none
    go w (Releases a lock can) = server_put a _ can.server
    go w (Relocks locks are same wait) = none
    go w (Wants a up) = same_put a _ refl
    go w (Issues a sector write can e) = issued_none s a sector write _ none (issued_of_servers s a sector write safe none can e) refl
    go w (Fades ticket flight e late) = none
    go w (Lands ticket flight e early present) = acknowledged_none s flight none (arrived_of s idle ticket flight e)
    go w (Drifts ticket flight e early present) = none
    go w (Breaks ticket flight new e early) = failed_none s.core.servers none flight.server
    go w (Fails a) = failed_none s.core.servers none a
    go w (Dooms a fate can) = server_put a _ can.server
    go w (Resumes a can) = server_put a _ can.server
    go w (Dies a fate server p) = server_put a _ server
    go w (Renews a can) = server_put a _ can.server
    go w (Ticks can) = flushed_none (s.core.servers host_party) ((s.core.now + 1) % s.core.setting.flush_ticks == 0) none
    go w (Recovers dead by can) = same_put by _ refl
    go w (Loads by slot block recovery who has wants got) = same_put by _ refl
    go w (Looks by sector block recovery who has wants got) = same_put by _ refl
    go w (Finishes by recovery can has) =
        put_server (put s.core.servers by (record (s.core.servers by) { recovery = None })) (same_put by (record (s.core.servers by) { recovery = None }) refl) recovery.dead _
        (safe.saved by recovery.dead can.who (ap dead_of has)).1
    go w Halts = none

-- a write was in flight, or is issued
flight_of_servers : (s : State) → Safe s.core.servers → Idle s → (new : Flight) → FlightFrom s new → IsOfServers new
flight_of_servers s safe idle new (New a sector write can e is) = subst IsOfServers (sym is) (issued_of_servers s a sector write safe idle.host can e)
flight_of_servers s safe idle new (Flew was) =
    let old : IsOfServers was.old.1 = in_flights IsOfServers s.core.flights was.old was.there idle.flights in
    record {
      log = λ number of. subst (λ n. IsTrue (is_server n)) was.same.server (old.log number (was.same.log number of));
      rescue = λ of. subst (λ n. IsTrue (is_server n)) was.same.behalf (old.rescue (was.same.rescue of));
    }

idle_of_run : (setting : Setting) (disk : Sectors) (s : State) → Run (first_state setting disk) s → Idle s
idle_of_run setting disk =
    along setting disk Idle
    (λ s v run step idle. record {
      host = host_turn s (work_of v) (step_turn s v step) (good_of_run setting disk s run) idle;
      flights = all_flights IsOfServers v.core.flights
          (λ one there. flight_of_servers s (good_of_run setting disk s run) idle one.1 (in_flights (FlightFrom s) v.core.flights one there (turn_flights s (work_of v) (step_turn s v step))));
    })
    (record { host = refl; flights = tt })

-- ---- the other logs

module _ (ends : LeasesEnd) (script : List Line) (segments number : ℕ) (disk : Sectors) where
  abbrev first : State
  first = first_state (setting_of script segments number) disk

  -- they are as at first
  abbrev OthersStand : State → Type 0
  OthersStand s = (a slot : ℕ) → a < LOGS → is_server a ≡ false → slot < LOG_SECTORS → slots_of s.disk a slot ≡ slots_of disk a slot

  module _ (s : State) (run : Run first s) (stand : OthersStand s) (a slot : ℕ) (low : a < LOGS) (other : is_server a ≡ false) (below : slot < LOG_SECTORS) where
    elsewhere : (one : ℕ × Flight) → Among one s.core.flights → s.core.now ≤ one.1.stamp → one.1.sector ≡ sector_of (region.Log a slot) → ⊥
    elsewhere one there early at = go one.1.purpose refl arriving.placed
      where
        arriving : Arriving s one.1
        arriving = (facts_of ends script segments number disk s run).arriving one there early (in_flights Placed s.core.flights one there (reads_of_run ends script segments number disk s run).placed)

        of : IsOfServers one.1
        of = in_flights IsOfServers s.core.flights one there (idle_of_run (setting_of script segments number) disk s run).flights

        server_not : (n : ℕ) → n ≡ a → IsTrue (is_server n) → ⊥
        server_not n e server = both_ways (is_server a) other (subst (λ k. IsTrue (is_server k)) e server)

        high_not : 4294967296 ≤ one.1.sector → ⊥
        high_not high = low_high one.1.sector (sector_of (region.Log a slot)) high (slot_low a slot low below) at

        go : (p : Purpose) → one.1.purpose ≡ p → PlacedFor one.1.purpose one.1 → ⊥
        go (OfLog n) e placed = server_not one.1.server (same_log one.1.server n a slot below (sym (arriving.of_log n e) ∙ at)).0 (of.log n e)
        go (InPlace cover) e placed = high_not (subst (λ p. PlacedFor p one.1) e placed)
        go OfRecovery e placed = rescue (subst (λ p. PlacedFor p one.1) e placed)
          where
            rescue : PlacedFor OfRecovery one.1 → ⊥
            rescue (inl high) = high_not high
            rescue (inr x) = server_not one.1.behalf (same_log one.1.behalf x.0 a slot below (sym x.1 ∙ at)).0 (of.rescue e)

    other_on : (after : Sectors) → DiskChange s after → slots_of after a slot ≡ slots_of disk a slot
    other_on after Stands = stand a slot low other below
    other_on after (Arrived ticket flight e early) = go (flight_at s.core.flights ticket flight e)
      where
        go : (one : ℕ × Flight) × Among one s.core.flights × (one.1 ≡ flight) → slots_of (written s.disk flight.sector flight.block) a slot ≡ slots_of disk a slot
        go x =
            written_elsewhere s.disk flight.sector (sector_of (region.Log a slot)) flight.block
            (λ at. elsewhere x.0 x.1 (subst (λ (f : Flight). s.core.now ≤ f.stamp) (sym x.2) early) (ap (λ (f : Flight). f.sector) x.2 ∙ at))
            ∙ stand a slot low other below

  others_stand : (s : State) → Run first s → OthersStand s
  others_stand =
      along (setting_of script segments number) disk OthersStand
      (λ s v run step stand a slot low other below. other_on s run stand a slot low other below v.disk (turn_disk s (work_of v) (step_turn s v step)))
      (λ a slot low other below. refl)

-- so over the disk of an opening they are zero
pub others_empty : LeasesEnd → OthersStayEmpty
others_empty ends b s run opening a low other =
    log_records_same (slots_of s.disk a) (slots_of b.disk a) (λ slot below. others_stand ends b.script b.opening.tree.segments b.opening.run b.disk s run a slot low other below)
    ∙ zero_log_records (slots_of b.disk a) (λ slot below. opening.logs a slot low below)
