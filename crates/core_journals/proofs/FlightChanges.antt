-- What each step makes of the writes in flight and of the clock: each write was in flight before, but for what is now issued; and the clock doesn't go back.
use Rattle.std.proofs.Common.{◌≡◌, ℕ, ◌≤◌, ◌+◌, Bool, true, false, if◌then◌else◌, [], ◌∷◌, Some, refl, ap, arith}
use Rattle.std.proofs.Math.Nat.{le_refl}
use Rattle.std.proofs.lemmas.Bool.{false≢true}
use Rattle.disk_definitions.proofs.Listed.{Among}
use Rattle.sector_bytes.specs.SectorMaps.{value_at, without}
use Rattle.core_definitions.specs.Cores.{writes}
use Rattle.core_definitions.specs.Flights.{Flight, Flights, InPlace, OfLog, OfRecovery, Purpose, each_of_server, left_behind, lost}
use Rattle.core_definitions.specs.LineEffects.{flight_after, purpose_after}
use Rattle.core_definitions.specs.Plans.{Outcome}
use Rattle.core_definitions.specs.Runs.{State}
use Rattle.core_definitions.specs.WriteEffects.{flight_of}
use Rattle.core_definitions.specs.WriteGuards.{CanIssue}
use Rattle.core_definitions.specs.Writes.{Write}
use Rattle.core_facts.proofs.Turns.{Work, Turn, Rests, Stays, Lines, Caches, Reclaims, Clears, Commits, Mounts, Leaves, Arms, Stalls, Settles, Asks, Lowers, Releases, Relocks, Wants, Issues, Fades, Lands, Drifts, Breaks, Fails, Dooms, Resumes, Dies, Renews, Ticks, Recovers, Loads, Looks, Finishes, Halts}
use Rattle.core_laws.proofs.FlightLists.{AllFlights, all_changed, all_flights, all_joined, all_landed, all_lost}

-- the same write, of a log or of a recovery as before; one in place may have come under another lock
pub record SameWrite (old new : Flight) : Type 0 where
  pub server : old.server ≡ new.server
  pub behalf : old.behalf ≡ new.behalf
  pub stamp : old.stamp ≡ new.stamp
  pub sector : old.sector ≡ new.sector
  pub block : old.block ≡ new.block
  pub log : (number : ℕ) → new.purpose ≡ OfLog number → old.purpose ≡ OfLog number
  pub rescue : new.purpose ≡ OfRecovery → old.purpose ≡ OfRecovery

-- it was in flight
pub record Was (s : State) (new : Flight) : Type 0 where
  pub old : ℕ × Flight
  pub there : Among old s.core.flights
  pub same : SameWrite old.1 new

-- or is issued
pub data FlightFrom (s : State) (new : Flight) : Type 0 where
  Flew : Was s new → FlightFrom s new
  New : (a sector : ℕ) (write : Write) → CanIssue s.core a sector → value_at (writes s.core a) sector ≡ Some write → new ≡ flight_of s.core a sector write → FlightFrom s new

same_write : (f : Flight) → SameWrite f f
same_write f = record { server = refl; behalf = refl; stamp = refl; sector = refl; block = refl; log = λ number e. e; rescue = λ e. e }

-- ---- lists of these

all_were : (s : State) → AllFlights (Was s) s.core.flights
all_were s = all_flights (Was s) s.core.flights (λ one i. record { old = one; there = i; same = same_write one.1 })

flown : (s : State) (flights : Flights) → AllFlights (Was s) flights → AllFlights (FlightFrom s) flights
flown s [] all = tt
flown s (one ∷ others) all = (Flew all.0, flown s others all.1)

abbrev is_log : Purpose → ℕ → Bool
is_log (OfLog n) number = true
is_log (InPlace cover) number = false
is_log OfRecovery number = false

abbrev pub is_rescue : Purpose → Bool
is_rescue (OfLog number) = false
is_rescue (InPlace cover) = false
is_rescue OfRecovery = true

moved_log : (outcome : Outcome) (sector : ℕ) (p : Purpose) (number : ℕ) → purpose_after outcome sector p ≡ OfLog number → p ≡ OfLog number
moved_log outcome sector (OfLog n) number e = e
moved_log outcome sector (InPlace cover) number e = absurd (false≢true (ap (λ p. is_log p number) e))
moved_log outcome sector OfRecovery number e = absurd (false≢true (ap (λ p. is_log p number) e))

moved_rescue : (outcome : Outcome) (sector : ℕ) (p : Purpose) → purpose_after outcome sector p ≡ OfRecovery → p ≡ OfRecovery
moved_rescue outcome sector (OfLog n) e = absurd (false≢true (ap is_rescue e))
moved_rescue outcome sector (InPlace cover) e = absurd (false≢true (ap is_rescue e))
moved_rescue outcome sector OfRecovery e = refl

committed_was : (s : State) (outcome : Outcome) (f : Flight) → Was s f → Was s (flight_after outcome f)
committed_was s outcome f w = go f.present
  where
    go : (b : Bool) → Was s (if b then record f { purpose = purpose_after outcome f.sector f.purpose } else f)
    go false = w
    go true = record {
      old = w.old;
      there = w.there;
      same = record {
        server = w.same.server;
        behalf = w.same.behalf;
        stamp = w.same.stamp;
        sector = w.same.sector;
        block = w.same.block;
        log = λ number e. w.same.log number (moved_log outcome f.sector f.purpose number e);
        rescue = λ e. w.same.rescue (moved_rescue outcome f.sector f.purpose e);
      };
    }

behind_was : (s : State) (f : Flight) → Was s f → Was s (record f { present = false })
behind_was s f w = record {
  old = w.old;
  there = w.there;
  same = record { server = w.same.server; behalf = w.same.behalf; stamp = w.same.stamp; sector = w.same.sector; block = w.same.block; log = w.same.log; rescue = w.same.rescue };
}

pub died_were : (s : State) (a : ℕ) (loses : Bool) → AllFlights (Was s) (if loses then lost a s.core.flights else left_behind a s.core.flights)
died_were s a true = all_lost (Was s) a s.core.flights (all_were s)
died_were s a false = all_changed (Was s) a (λ flight. record flight { present = false }) (behind_was s) s.core.flights (all_were s)

pub landed_were : (s : State) (ticket : ℕ) → AllFlights (Was s) (without s.core.flights ticket)
landed_were s ticket = all_landed (Was s) ticket s.core.flights (all_were s)

pub committed_were : (s : State) (a : ℕ) (outcome : Outcome) → AllFlights (Was s) (each_of_server a (flight_after outcome) s.core.flights)
committed_were s a outcome = all_changed (Was s) a (flight_after outcome) (committed_was s outcome) s.core.flights (all_were s)

pub here_were : (s : State) → AllFlights (Was s) s.core.flights
here_were s = all_were s

-- ---- each step

pub turn_flights : (s : State) (w : Work) → Turn s w → AllFlights (FlightFrom s) w.flights
turn_flights s w Rests = flown s s.core.flights (all_were s)
turn_flights s w (Stays a) = flown s s.core.flights (all_were s)
turn_flights s w (Lines a under server step) = flown s s.core.flights (all_were s)
turn_flights s w (Caches a sector block needs cover server e f got) = flown s s.core.flights (all_were s)
turn_flights s w (Reclaims a outcome server e) = flown s s.core.flights (all_were s)
turn_flights s w (Clears a block server e) = flown s s.core.flights (all_were s)
turn_flights s w (Commits a outcome server e cleared) = flown s _ (committed_were s a outcome)
turn_flights s w (Mounts a under server off u read) = flown s s.core.flights (all_were s)
turn_flights s w (Leaves a server up clean) = flown s s.core.flights (all_were s)
turn_flights s w (Arms a arming server up) = flown s s.core.flights (all_were s)
turn_flights s w (Stalls a server up) = flown s s.core.flights (all_were s)
turn_flights s w (Settles a server) = flown s s.core.flights (all_were s)
turn_flights s w (Asks a lock mode server e) = flown s s.core.flights (all_were s)
turn_flights s w (Lowers a lock can) = flown s s.core.flights (all_were s)
turn_flights s w (Releases a lock can) = flown s s.core.flights (all_were s)
turn_flights s w (Relocks locks are same wait) = flown s s.core.flights (all_were s)
turn_flights s w (Wants a up) = flown s s.core.flights (all_were s)
turn_flights s w (Issues a sector write can e) =
    all_joined (FlightFrom s) (s.core.tickets, flight_of s.core a sector write) s.core.flights (New a sector write can e refl) (flown s s.core.flights (all_were s))
turn_flights s w (Fades ticket flight e late) = flown s _ (landed_were s ticket)
turn_flights s w (Lands ticket flight e early present) = flown s _ (landed_were s ticket)
turn_flights s w (Drifts ticket flight e early present) = flown s _ (landed_were s ticket)
turn_flights s w (Breaks ticket flight new e early) = flown s _ (landed_were s ticket)
turn_flights s w (Fails a) = flown s s.core.flights (all_were s)
turn_flights s w (Dooms a fate can) = flown s s.core.flights (all_were s)
turn_flights s w (Resumes a can) = flown s s.core.flights (all_were s)
turn_flights s w (Dies a fate server p) = flown s _ (died_were s a fate.loses)
turn_flights s w (Renews a can) = flown s s.core.flights (all_were s)
turn_flights s w (Ticks can) = flown s s.core.flights (all_were s)
turn_flights s w (Recovers dead by can) = flown s s.core.flights (all_were s)
turn_flights s w (Loads by slot block recovery who has wants got) = flown s s.core.flights (all_were s)
turn_flights s w (Looks by sector block recovery who has wants got) = flown s s.core.flights (all_were s)
turn_flights s w (Finishes by recovery can has) = flown s s.core.flights (all_were s)
turn_flights s w Halts = tt

one_more : (n : ℕ) → n ≤ n + 1
one_more n = omega arith

pub turn_now : (s : State) (w : Work) → Turn s w → s.core.now ≤ w.now
turn_now s w Rests = le_refl s.core.now
turn_now s w (Stays a) = le_refl s.core.now
turn_now s w (Lines a under server step) = le_refl s.core.now
turn_now s w (Caches a sector block needs cover server e f got) = le_refl s.core.now
turn_now s w (Reclaims a outcome server e) = le_refl s.core.now
turn_now s w (Clears a block server e) = le_refl s.core.now
turn_now s w (Commits a outcome server e cleared) = le_refl s.core.now
turn_now s w (Mounts a under server off u read) = le_refl s.core.now
turn_now s w (Leaves a server up clean) = le_refl s.core.now
turn_now s w (Arms a arming server up) = le_refl s.core.now
turn_now s w (Stalls a server up) = le_refl s.core.now
turn_now s w (Settles a server) = le_refl s.core.now
turn_now s w (Asks a lock mode server e) = le_refl s.core.now
turn_now s w (Lowers a lock can) = le_refl s.core.now
turn_now s w (Releases a lock can) = le_refl s.core.now
turn_now s w (Relocks locks are same wait) = le_refl s.core.now
turn_now s w (Wants a up) = le_refl s.core.now
turn_now s w (Issues a sector write can e) = le_refl s.core.now
turn_now s w (Fades ticket flight e late) = le_refl s.core.now
turn_now s w (Lands ticket flight e early present) = le_refl s.core.now
turn_now s w (Drifts ticket flight e early present) = le_refl s.core.now
turn_now s w (Breaks ticket flight new e early) = le_refl s.core.now
turn_now s w (Fails a) = le_refl s.core.now
turn_now s w (Dooms a fate can) = le_refl s.core.now
turn_now s w (Resumes a can) = le_refl s.core.now
turn_now s w (Dies a fate server p) = le_refl s.core.now
turn_now s w (Renews a can) = le_refl s.core.now
turn_now s w (Ticks can) = one_more s.core.now
turn_now s w (Recovers dead by can) = le_refl s.core.now
turn_now s w (Loads by slot block recovery who has wants got) = le_refl s.core.now
turn_now s w (Looks by sector block recovery who has wants got) = le_refl s.core.now
turn_now s w (Finishes by recovery can has) = le_refl s.core.now
turn_now s w Halts = le_refl s.core.now
