-- Over every run a write in place is on its server's own behalf, and one of a recovery on another's.
use Rattle.std.proofs.Common.{◌≡◌, ℕ, Bool, true, false, ◌&&◌, ◌||◌, ◌==◌, if◌then◌else◌, IsTrue, Some, refl, sym, ap, subst}
use Rattle.std.proofs.lemmas.Bool.{false≢true}
use Rattle.disk_definitions.proofs.Listed.{Among}
use Rattle.sector_bytes.specs.SectorMaps.{value_at}
use Rattle.sector_bytes.specs.Sectors.{Sectors}
use Rattle.core_definitions.specs.Cores.{stage, writes}
use Rattle.core_definitions.specs.Flights.{Flight, Flights, InPlace, OfLog, OfRecovery, Purpose, each_of_server, left_behind, lost}
use Rattle.core_definitions.specs.LineEffects.{flight_after, purpose_after}
use Rattle.core_definitions.specs.LineGuards.{is_server}
use Rattle.core_definitions.specs.Plans.{Outcome}
use Rattle.core_definitions.specs.Runs.{State, Run, first_state}
use Rattle.core_definitions.specs.Scripts.{host_party}
use Rattle.core_definitions.specs.Servers.{Phase, Off, Up, Still, Doomed, Dead, is_dead, is_up}
use Rattle.core_definitions.specs.Settings.{Setting}
use Rattle.core_definitions.specs.WriteEffects.{flight_of}
use Rattle.core_definitions.specs.WriteGuards.{is_worker}
use Rattle.core_definitions.specs.Writes.{Write}
use Rattle.core_facts.proofs.Turns as turns
use Rattle.core_facts.proofs.Turns.{Turn, Work, step_turn, work_of}
use Rattle.core_facts.proofs.WriteKinds.{Wanted, Rescues, Places, NextOfLog, cached_write, next_log_write, rescue_write, wanted_is}
use Rattle.core_laws.proofs.Along.{along}
use Rattle.core_laws.proofs.Memory.{Safe, dead_of}
use Rattle.core_laws.proofs.Resting.{good_of_run, server_no_host}
use Rattle.core_laws.proofs.FlightLists.{AllFlights, all_changed, all_joined, all_landed, all_lost, in_flights}

abbrev pub OwnFor : Purpose → Flight → Type 0
OwnFor (OfLog number) f = Unit {0}
OwnFor (InPlace cover) f = f.behalf ≡ f.server
OwnFor OfRecovery f = f.behalf ≡ f.server → ⊥

abbrev pub Own : Flight → Type 0
Own f = OwnFor f.purpose f

moved_own : (a : ℕ) (outcome : Outcome) (flights : Flights) → AllFlights Own flights → AllFlights Own (each_of_server a (flight_after outcome) flights)
moved_own a outcome flights all = all_changed Own a (flight_after outcome) (λ f h. go f f.present f.purpose refl h) flights all
  where
    go : (f : Flight) (b : Bool) (p : Purpose) → f.purpose ≡ p → OwnFor f.purpose f → Own (if b then record f { purpose = purpose_after outcome f.sector f.purpose } else f)
    go f false p e h = h
    go f true (OfLog number) e h = subst (λ q. Own (record f { purpose = purpose_after outcome f.sector q })) (sym e) tt
    go f true (InPlace cover) e h = subst (λ q. Own (record f { purpose = purpose_after outcome f.sector q })) (sym e) (subst (λ q. OwnFor q f) e h)
    go f true OfRecovery e h = subst (λ q. Own (record f { purpose = purpose_after outcome f.sector q })) (sym e) (subst (λ q. OwnFor q f) e h)

behind_own : (a : ℕ) (flights : Flights) → AllFlights Own flights → AllFlights Own (left_behind a flights)
behind_own a flights all = all_changed Own a (λ flight. record flight { present = false }) (λ f h. behind f f.purpose refl h) flights all
  where
    behind : (f : Flight) (p : Purpose) → f.purpose ≡ p → OwnFor f.purpose f → OwnFor f.purpose (record f { present = false })
    behind f (OfLog number) e h = subst (λ q. OwnFor q (record f { present = false })) (sym e) tt
    behind f (InPlace cover) e h = subst (λ q. OwnFor q (record f { present = false })) (sym e) (subst (λ q. OwnFor q f) e h)
    behind f OfRecovery e h = subst (λ q. OwnFor q (record f { present = false })) (sym e) (subst (λ q. OwnFor q f) e h)

issued_own : (s : State) (a sector : ℕ) (write : Write) → Safe s.core.servers → IsTrue (is_worker s.core a) → value_at (writes s.core a) sector ≡ Some write → Own (flight_of s.core a sector write)
issued_own s a sector write safe who e = go (wanted_is s.core.setting s.core.locks a (s.core.servers a) (stage s.core a) sector write e)
  where
    -- who works isn't dead, and isn't a server where it is the host
    other : {d : ℕ} → d ≡ a → IsTrue (is_dead (s.core.servers d).phase) × IsTrue (is_server d) → ⊥
    other own fell = idle (is_server a) (s.core.servers a).phase (a == host_party) (subst (λ n. IsTrue (is_dead (s.core.servers n).phase)) own fell.0)
        (server_no_host a (subst (λ n. IsTrue (is_server n)) own fell.1)) who
      where
        idle : (server : Bool) (p : Phase) (host : Bool) → IsTrue (is_dead p) → host ≡ false → IsTrue ((server && is_up p) || host) → ⊥
        idle server p true fallen none works = false≢true (sym none)
        idle true Dead false fallen none works = false≢true works
        idle false Dead false fallen none works = false≢true works
        idle server Off false fallen none works = false≢true fallen
        idle server Up false fallen none works = false≢true fallen
        idle server Still false fallen none works = false≢true fallen
        idle server (Doomed fate) false fallen none works = false≢true fallen

    own_as : (w : Write) → write ≡ w → OwnFor w.purpose (flight_of s.core a sector w) → Own (flight_of s.core a sector write)
    own_as w is p = subst (λ (x : Write). OwnFor x.purpose (flight_of s.core a sector x)) (sym is) p

    go : Wanted s.core.setting.logs s.core.setting.segments a (s.core.servers a) sector write → Own (flight_of s.core a sector write)
    go (Rescues recovery block has i is) = own_as (rescue_write recovery.dead block) is (λ own. other own (safe.saved a recovery.dead who (ap dead_of has)))
    go (Places cached dirt i d is) = own_as (cached_write a cached dirt) is refl
    go (NextOfLog number block n at is) = own_as (next_log_write a number block) is tt

own_turn : (s : State) (w : Work) → Safe s.core.servers → Turn s w → AllFlights Own s.core.flights → AllFlights Own w.flights
own_turn s w safe turns.Rests m = m
own_turn s w safe (turns.Stays a) m = m
own_turn s w safe (turns.Lines a under server step) m = m
own_turn s w safe (turns.Caches a sector block needs cover server e need got) m = m
own_turn s w safe (turns.Reclaims a outcome server e) m = m
own_turn s w safe (turns.Clears a block server e) m = m
own_turn s w safe (turns.Commits a outcome server e none) m = moved_own a outcome s.core.flights m
own_turn s w safe (turns.Mounts a under server off u read) m = m
own_turn s w safe (turns.Leaves a server up clean) m = m
own_turn s w safe (turns.Arms a arming server up) m = m
own_turn s w safe (turns.Stalls a server up) m = m
own_turn s w safe (turns.Settles a server) m = m
own_turn s w safe (turns.Asks a lock mode server e) m = m
own_turn s w safe (turns.Lowers a lock can) m = m
own_turn s w safe (turns.Releases a lock can) m = m
own_turn s w safe (turns.Relocks locks are same waits) m = m
own_turn s w safe (turns.Wants a up) m = m
own_turn s w safe (turns.Issues a sector write can e) m = all_joined Own (s.core.tickets, flight_of s.core a sector write) s.core.flights (issued_own s a sector write safe can.issuable.who e) m
own_turn s w safe (turns.Fades ticket flight e late) m = all_landed Own ticket s.core.flights m
own_turn s w safe (turns.Lands ticket flight e early present) m = all_landed Own ticket s.core.flights m
own_turn s w safe (turns.Drifts ticket flight e early present) m = all_landed Own ticket s.core.flights m
own_turn s w safe (turns.Breaks ticket flight new e early) m = all_landed Own ticket s.core.flights m
own_turn s w safe (turns.Fails a) m = m
own_turn s w safe (turns.Dooms a fate can) m = m
own_turn s w safe (turns.Resumes a can) m = m
own_turn s w safe (turns.Dies a fate server doomed) m = go fate.loses
  where
    go : (loses : Bool) → AllFlights Own (if loses then lost a s.core.flights else left_behind a s.core.flights)
    go true = all_lost Own a s.core.flights m
    go false = behind_own a s.core.flights m
own_turn s w safe (turns.Renews a can) m = m
own_turn s w safe (turns.Ticks can) m = m
own_turn s w safe (turns.Recovers dead by can) m = m
own_turn s w safe (turns.Loads by slot block recovery who has wants got) m = m
own_turn s w safe (turns.Looks by sector block recovery who has wants got) m = m
own_turn s w safe (turns.Finishes by recovery can has) m = m
own_turn s w safe turns.Halts m = tt

own_of_run : (setting : Setting) (disk : Sectors) (s : State) → Run (first_state setting disk) s → AllFlights Own s.core.flights
own_of_run setting disk = along setting disk (λ s. AllFlights Own s.core.flights) (λ s v run step m. own_turn s (work_of v) (good_of_run setting disk s run) (step_turn s v step) m) tt

pub own_behalf : (setting : Setting) (disk : Sectors) (s : State) → Run (first_state setting disk) s → (one : ℕ × Flight) → Among one s.core.flights → Own one.1
own_behalf setting disk s run one i = in_flights Own s.core.flights one i (own_of_run setting disk s run)
