-- Over every run a write of a log is of a server: nothing waits in a ring of any other party.
use Rattle.std.proofs.Common.{◌≡◌, ℕ, ◌+◌, ◌-◌, ◌==◌, ◌%◌, Bool, true, false, if◌then◌else◌, IsTrue, List, [], ◌∷◌, Some, None, nat_lt, slice_set, refl, sym, ap, ◌∙◌, subst}
use Rattle.std.proofs.lemmas.Bool.{both_ways, false≢true}
use Rattle.std.proofs.lemmas.Option.{none-some}
use Rattle.frang_base.specs.Functions.{put}
use Rattle.frang_base.proofs.Basics.{at_put}
use Rattle.sector_bytes.specs.Blocks.{Block}
use Rattle.sector_bytes.specs.SectorMaps.{value_at}
use Rattle.sector_bytes.specs.Sectors.{Sectors}
use Rattle.ring_definitions.specs.Rings.{Ring, acked, first_waiting, passed, sent}
use Rattle.core_definitions.specs.Cores.{stage, writes}
use Rattle.core_definitions.specs.Flights.{Flight, Flights, InPlace, OfLog, OfRecovery, Purpose}
use Rattle.core_definitions.specs.LineEffects.{failed_by}
use Rattle.core_definitions.specs.LineGuards.{is_server}
use Rattle.core_definitions.specs.Rings.{next_write}
use Rattle.core_definitions.specs.Runs.{State, Run, first_state}
use Rattle.core_definitions.specs.Scripts.{host_party}
use Rattle.core_definitions.specs.Servers.{Server, is_up, wanting_all}
use Rattle.core_definitions.specs.Logs.{log_sector}
use Rattle.core_definitions.specs.Settings.{Setting, setting_of}
use Rattle.core_definitions.specs.WriteEffects.{acknowledged, clean_now, ring_after}
use Rattle.core_definitions.specs.Writes.{Write, comes_clean}
use Rattle.core_facts.proofs.Turns as turns
use Rattle.core_facts.proofs.Turns.{Turn, Work, failed_at, step_turn, work_of}
use Rattle.core_facts.proofs.WriteKinds.{Wanted, Rescues, Places, NextOfLog, wanted_is}
use Rattle.core_journals.proofs.FlightChanges.{FlightFrom, Flew, New, turn_flights}
use Rattle.core_laws.proofs.Along.{along}
use Rattle.core_laws.proofs.FlightLists.{AllFlights, all_flights, in_flights}
use Rattle.core_facts.proofs.Reading.{server_low}
use Rattle.core_laws.proofs.Kept.{setting_of_run}
use Rattle.core_laws.proofs.Membership.{in_contains}
use Rattle.core_laws.proofs.Windows.{slots_kept}
use Rattle.core_world.specs.Steps.{IsReached}
use Rattle.core_world.specs.Ties.{is_log_sector}
use Rattle.core_writes.proofs.Lists.{gone_at}
use Rattle.core_writes.proofs.LogPlaces.{at_log}
use Rattle.core_writes.specs.Issues.{is_log_purpose}

abbrev pub NoneWait : (ℕ → Server) → Type 0
NoneWait servers = (i : ℕ) → is_server i ≡ false → (servers i).ring.waiting ≡ []

abbrev pub OfServer : Flight → Type 0
OfServer f = (number : ℕ) → f.purpose ≡ OfLog number → IsTrue (is_server f.server)

pub record AreOfServers (servers : ℕ → Server) (flights : Flights) : Type 0 where
  pub none : NoneWait servers
  pub logs : AllFlights OfServer flights

-- ---- a log's write is wanted

pub next_of_server : (servers : ℕ → Server) (a number : ℕ) (block : Block) → NoneWait servers → next_write (servers a).ring ≡ Some (number, block) → IsTrue (is_server a)
next_of_server servers a number block none e = go (is_server a) refl
  where
    go : (b : Bool) → is_server a ≡ b → b ≡ true
    go true i = refl
    go false i = absurd (none-some (number, block) (sym (ap (first_waiting (sent (servers a).ring + 1)) (none a i)) ∙ e))

wanted_of_server : (s : State) (a sector : ℕ) (write : Write) → NoneWait s.core.servers → value_at (writes s.core a) sector ≡ Some write → (number : ℕ) → write.purpose ≡ OfLog number → IsTrue (is_server a)
wanted_of_server s a sector write none e number of = go (wanted_is s.core.setting s.core.locks a (s.core.servers a) (stage s.core a) sector write e)
  where
    go : Wanted s.core.setting.logs s.core.setting.segments a (s.core.servers a) sector write → IsTrue (is_server a)
    go (Rescues recovery block has there is) = absurd (false≢true (sym (ap (λ (x : Write). is_log_purpose x.purpose) is) ∙ ap is_log_purpose of))
    go (Places cached dirt there dirty is) = absurd (false≢true (sym (ap (λ (x : Write). is_log_purpose x.purpose) is) ∙ ap is_log_purpose of))
    go (NextOfLog n block following at is) = next_of_server s.core.servers a n block none following

-- ---- one server changed

module _ (servers : ℕ → Server) (a : ℕ) (new : Server) where
  with_none : (is_server a ≡ false → new.ring.waiting ≡ []) → NoneWait servers → NoneWait (put servers a new)
  with_none here none i e = at_put (λ (x : Server). x.ring.waiting ≡ []) servers a new i (λ k. here (ap is_server (sym k) ∙ e)) (λ n. none i e)

  with_same : new.ring.waiting ≡ (servers a).ring.waiting → NoneWait servers → NoneWait (put servers a new)
  with_same same none = with_none (λ e. same ∙ none a e) none

  with_server : IsTrue (is_server a) → NoneWait servers → NoneWait (put servers a new)
  with_server server none = with_none (λ e. absurd (both_ways (is_server a) e server)) none

failed_none : (servers : ℕ → Server) (a : ℕ) → NoneWait servers → NoneWait (failed_at servers a)
failed_none servers a none i e = go (a == host_party)
  where
    go : (b : Bool) → ((if b then servers else put servers a (failed_by (servers a))) i).ring.waiting ≡ []
    go true = none i e
    go false = with_same servers a (failed_by (servers a)) refl none i e

passed_waits : (r : Ring) (n : ℕ) (above : List Bool) → (passed r n above).waiting ≡ r.waiting
passed_waits r n [] = refl
passed_waits r n (true ∷ above) = passed_waits r (n + 1) above
passed_waits r n (false ∷ above) = refl

acked_waits : (r : Ring) (number : ℕ) → (acked r number).waiting ≡ r.waiting
acked_waits r number = go (nat_lt r.reached number)
  where
    go : (b : Bool) → (if b then passed r r.reached (slice_set r.above (number - r.reached - 1) true) else r).waiting ≡ r.waiting
    go true = passed_waits r r.reached (slice_set r.above (number - r.reached - 1) true)
    go false = refl

taken_waits : (sector : ℕ) (block : Block) (p : Purpose) (server : Server) → (acknowledged sector block p server).ring.waiting ≡ server.ring.waiting
taken_waits sector block (OfLog number) server = acked_waits server.ring number
taken_waits sector block OfRecovery server = refl
taken_waits sector block (InPlace cover) server = go (comes_clean server sector block)
  where
    go : (b : Bool) → (if b then clean_now sector server else server).ring.waiting ≡ server.ring.waiting
    go true = refl
    go false = refl

-- ---- each step

turn_none : (s : State) (w : Work) → Turn s w → NoneWait s.core.servers → NoneWait w.servers
turn_none s w turns.Rests m = m
turn_none s w (turns.Stays a) m = with_same s.core.servers a _ refl m
turn_none s w (turns.Lines a under server step) m = with_same s.core.servers a _ refl m
turn_none s w (turns.Caches a sector block needs cover server e need got) m = with_same s.core.servers a _ refl m
turn_none s w (turns.Reclaims a outcome server e) m = with_same s.core.servers a _ refl m
turn_none s w (turns.Clears a block server e) m = with_same s.core.servers a _ refl m
turn_none s w (turns.Commits a outcome server e none) m = with_server s.core.servers a _ server m
turn_none s w (turns.Mounts a under server off u read) m = with_server s.core.servers a _ server m
turn_none s w (turns.Leaves a server up clean) m = with_same s.core.servers a _ refl m
turn_none s w (turns.Arms a arming server up) m = with_same s.core.servers a _ refl m
turn_none s w (turns.Stalls a server up) m = with_same s.core.servers a _ refl m
turn_none s w (turns.Settles a server) m = with_same s.core.servers a _ refl m
turn_none s w (turns.Asks a lock mode server e) m = m
turn_none s w (turns.Lowers a lock can) m = m
turn_none s w (turns.Releases a lock can) m = with_same s.core.servers a _ refl m
turn_none s w (turns.Relocks locks are same waits) m = m
turn_none s w (turns.Wants a up) m = with_same s.core.servers a _ refl m
turn_none s w (turns.Issues a sector write can e) m = with_none s.core.servers a _ (λ i. go i write.purpose refl) m
  where
    go : is_server a ≡ false → (p : Purpose) → write.purpose ≡ p → (ring_after p (s.core.servers a).ring).waiting ≡ []
    go i (OfLog number) of = absurd (both_ways (is_server a) i (wanted_of_server s a sector write m e number of))
    go i (InPlace cover) of = m a i
    go i OfRecovery of = m a i
turn_none s w (turns.Fades ticket flight e late) m = m
turn_none s w (turns.Lands ticket flight e early present) m =
    with_same s.core.servers flight.server _ (taken_waits flight.sector flight.block flight.purpose (s.core.servers flight.server)) m
turn_none s w (turns.Drifts ticket flight e early present) m = m
turn_none s w (turns.Breaks ticket flight new e early) m = failed_none s.core.servers flight.server m
turn_none s w (turns.Fails a) m = failed_none s.core.servers a m
turn_none s w (turns.Dooms a fate can) m = with_same s.core.servers a _ refl m
turn_none s w (turns.Resumes a can) m = with_same s.core.servers a _ refl m
turn_none s w (turns.Dies a fate server doomed) m = with_same s.core.servers a _ refl m
turn_none s w (turns.Renews a can) m = with_same s.core.servers a _ refl m
turn_none s w (turns.Ticks can) m = λ i e. go i e ((s.core.now + 1) % s.core.setting.flush_ticks == 0) (is_up (s.core.servers i).phase)
  where
    go : (i : ℕ) → is_server i ≡ false → (b up : Bool) → (if b then (if up then wanting_all (s.core.servers i) else s.core.servers i) else s.core.servers i).ring.waiting ≡ []
    go i e true true = m i e
    go i e true false = m i e
    go i e false up = m i e
turn_none s w (turns.Recovers dead by can) m = with_same s.core.servers by _ refl m
turn_none s w (turns.Loads by slot block recovery who has wants got) m = with_same s.core.servers by _ refl m
turn_none s w (turns.Looks by sector block recovery who has wants got) m = with_same s.core.servers by _ refl m
turn_none s w (turns.Finishes by recovery can has) m =
    with_none (put s.core.servers by (record (s.core.servers by) { recovery = None })) recovery.dead _ (λ e. refl) (with_same s.core.servers by _ refl m)
turn_none s w turns.Halts m = m

turn_logs : (s : State) (w : Work) → Turn s w → AreOfServers s.core.servers s.core.flights → AllFlights OfServer w.flights
turn_logs s w turn m = all_flights OfServer w.flights (λ one i. go one.1 (in_flights (FlightFrom s) w.flights one i (turn_flights s w turn)))
  where
    go : (f : Flight) → FlightFrom s f → OfServer f
    go f (Flew was) number of = subst (λ n. IsTrue (is_server n)) was.same.server (in_flights OfServer s.core.flights was.old was.there m.logs number (was.same.log number of))
    go f (New a sector write can e is) number of =
        subst (λ (x : Flight). IsTrue (is_server x.server)) (sym is) (wanted_of_server s a sector write m.none e number (sym (ap (λ (x : Flight). x.purpose) is) ∙ of))

-- ---- over every run

pub of_servers : (setting : Setting) (disk : Sectors) (s : State) → Run (first_state setting disk) s → AreOfServers s.core.servers s.core.flights
of_servers setting disk =
    along setting disk (λ s. AreOfServers s.core.servers s.core.flights)
    (λ s v run step m. record { none = turn_none s (work_of v) (step_turn s v step) m.none; logs = turn_logs s (work_of v) (step_turn s v step) m })
    (record { none = λ i e. refl; logs = tt })

-- a write of a log is a server's
pub logs_server : (s : State) → IsReached s → (ticket : ℕ) (flight : Flight) → value_at s.core.flights ticket ≡ Some flight → (number : ℕ) → flight.purpose ≡ OfLog number → IsTrue (is_server flight.server)
logs_server s r ticket flight at number of =
    let one = gone_at s.core.flights ticket flight at in
    subst (λ (f : Flight). IsTrue (is_server f.server)) one.2
    (in_flights OfServer s.core.flights one.0 one.1 (of_servers (setting_of r.script r.segments r.number) r.disk s r.run).logs number (ap (λ (f : Flight). f.purpose) one.2 ∙ of))

-- and lies in it
pub logs_place : (s : State) → IsReached s → (ticket : ℕ) (flight : Flight) → value_at s.core.flights ticket ≡ Some flight → (number : ℕ) → flight.purpose ≡ OfLog number →
    is_log_sector s.core.setting.segments flight.sector ≡ true
logs_place s r ticket flight at number of =
    ap (is_log_sector s.core.setting.segments) (place ∙ ap (λ (setting : Setting). log_sector setting.logs flight.server number) (setting_of_run (setting_of r.script r.segments r.number) r.disk s r.run))
    ∙ at_log s.core.setting.segments flight.server number (server_low flight.server (logs_server s r ticket flight at number of))
  where
    place : flight.sector ≡ log_sector s.core.setting.logs flight.server number
    place =
        let one = gone_at s.core.flights ticket flight at in
        subst (λ (f : Flight). f.sector ≡ log_sector s.core.setting.logs f.server number) one.2
        (slots_kept (setting_of r.script r.segments r.number) r.disk s r.run one.0 number (in_contains s.core.flights one.0 one.1) (ap (λ (f : Flight). f.purpose) one.2 ∙ of))
