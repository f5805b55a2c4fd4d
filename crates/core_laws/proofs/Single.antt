-- Over every run each ticket and each sector of the writes in flight stands once: event by event.
use Rattle.std.proofs.Common.{ℕ, ◌≡◌, Bool, true, false, if◌then◌else◌, [], Option, Some, None, refl, ◌==◌}
use Rattle.frang_base.specs.declared.lock.LockId.{LockId}
use Rattle.frang_base.specs.declared.op.Op.{Op}
use Rattle.frang_base.specs.declared.reply.Reply.{Reply}
use Rattle.frang_base.specs.declared.script.Line.{Line}
use Rattle.lock_definitions.specs.declared.claim.AskedFor.{AskedFor}
use Rattle.lock_definitions.specs.declared.claim.AskedFor.TheVariants.{Release, Downgrade}
use Rattle.lock_definitions.specs.Calls.{asked_for}
use Rattle.sector_bytes.specs.SectorMaps.{value_at}
use Rattle.sector_bytes.specs.Sectors.{Sectors}
use Rattle.core_definitions.specs.Settings.{Setting}
use Rattle.core_definitions.specs.Lines.{Stage, Asking, Fetching, Moving, Stopping, Growing, Clearing, Finishing, Under, operation_of}
use Rattle.core_definitions.specs.Flights.{Flight}
use Rattle.core_definitions.specs.Recoveries.{Recovery}
use Rattle.core_definitions.specs.Scripts.{host_party}
use Rattle.core_definitions.specs.Servers.{Phase, Off, Up, Still, Doomed, Dead, is_off}
use Rattle.core_definitions.specs.Writes.{Write}
use Rattle.core_definitions.specs.Cores.{Core, clean_at, due_at, next_of, stage, writes}
use Rattle.core_definitions.specs.Events.{Event, Begin, Ask, Fetch, Again, Clear, Commit, Answer, Give, Issue, Doom, Resume, Arrive, Lose, Die, Renew, Tick, Recover, Load, Look, Finish, HostLine, Close, Read, Show, End, Heard, Nothing, Got, GetFailed, Written, Late, PutFailed}
use Rattle.core_definitions.specs.LineEffects.{answered_under, answered_with, call_failed, committed_at}
use Rattle.core_definitions.specs.WriteEffects.{arrived_as, arrived_from, died_in, given_for, issued_as, landed}
use Rattle.core_definitions.specs.EndEffects.{finished_from, host_answered_line}
use Rattle.core_definitions.specs.Effects.{after}
use Rattle.core_definitions.specs.Runs.{State, Step, Event_, Enter, Hold, Flush, Relock, Note, Peek, PeekFails, Run, Stays, Goes, first_state}
use Rattle.std.specs.Map.{keys_of}
use Rattle.tree_definitions.specs.Transcript.{is_halt}
use Rattle.core_definitions.specs.Flights.{Flights, left_behind, lost}
use Rattle.core_definitions.specs.Plans.{Outcome}
use Rattle.core_definitions.specs.LineEffects.{flight_after, purpose_after}
use Rattle.core_definitions.specs.WriteEffects.{flight_of}
use Rattle.core_definitions.specs.WriteGuards.{CanIssue}
use Rattle.core_definitions.specs.Runs.{Makes}
use Rattle.core_laws.specs.Laws.{AreOnce}
use Rattle.core_laws.proofs.Flying.{AreSingle, each_same, of_issued, of_landed, of_lost, of_same, sectors_in, as_words}

abbrev Good : Core → Type 0
Good c = AreSingle c.flights c.tickets

either : (test : Bool) (d e : Core) → Good d → Good e → Good (if test then d else e)
either true d e k l = k
either false d e k l = l

none_flying : (tickets : ℕ) → AreSingle [] tickets
none_flying tickets = record { below = λ ticket i. absurd i; once = tt; alone = tt }

failed_good : (c : Core) (a : ℕ) → Good c → Good (call_failed c a)
failed_good c a g = either (a == host_party) _ _ g g

keeps_sector : (outcome : Outcome) (flight : Flight) → (flight_after outcome flight).sector ≡ flight.sector
keeps_sector outcome flight = go flight.present
  where
    go : (b : Bool) → (if b then record flight { purpose = purpose_after outcome flight.sector flight.purpose } else flight).sector ≡ flight.sector
    go true = refl
    go false = refl

committed_good : (c : Core) (a : ℕ) (at : Option Stage) → Good c → Good (committed_at c a at)
committed_good c a None g = g
committed_good c a (Some (Asking need)) g = g
committed_good c a (Some (Fetching needs)) g = g
committed_good c a (Some Moving) g = g
committed_good c a (Some Stopping) g = g
committed_good c a (Some (Growing needs seen)) g = g
committed_good c a (Some (Clearing block)) g = g
committed_good c a (Some (Finishing outcome)) g = of_same _ c.flights c.tickets (each_same a (flight_after outcome) (keeps_sector outcome) c.flights) g

answered_with_good : (c : Core) (a : ℕ) (under : Under) (answer : Reply) (operation : Option Op) → Good c → Good (answered_with c a under answer operation)
answered_with_good c a under answer None g = g
answered_with_good c a under answer (Some operation) g = g

answered_good : (c : Core) (a : ℕ) (under : Option Under) (answer : Option Reply) → Good c → Good (answered_under c a under answer)
answered_good c a None None g = g
answered_good c a None (Some answer) g = g
answered_good c a (Some under) None g = g
answered_good c a (Some under) (Some answer) g = answered_with_good c a under answer (operation_of under.line.what) g

given_good : (c : Core) (a : ℕ) (lock : LockId) (asked : Option AskedFor) → Good c → Good (given_for c a lock asked)
given_good c a lock None g = g
given_good c a lock (Some Downgrade) g = g
given_good c a lock (Some Release) g = g

issued_good : (c : Core) (a sector : ℕ) (write : Option Write) → CanIssue c a sector → Good c → Good (issued_as c a sector write)
issued_good c a sector None can g = g
issued_good c a sector (Some write) can g = of_issued c.flights c.tickets (flight_of c a sector write) can.issuable.alone g

arrived_as_good : (c : Core) (flight : Flight) (heard : Heard) → Good c → Good (arrived_as c flight heard)
arrived_as_good c flight Nothing g = g
arrived_as_good c flight (Got block) g = g
arrived_as_good c flight GetFailed g = g
arrived_as_good c flight Written g = either flight.present _ _ g g
arrived_as_good c flight Late g = g
arrived_as_good c flight (PutFailed new) g = failed_good c flight.server g

arrived_good : (c : Core) (ticket : ℕ) (heard : Heard) (flight : Option Flight) → Good c → Good (arrived_from c ticket heard flight)
arrived_good c ticket heard None g = g
arrived_good c ticket heard (Some flight) g = arrived_as_good (landed c ticket) flight heard (of_landed ticket c.flights c.tickets g)

death_good : (loses : Bool) (a : ℕ) (flights : Flights) (tickets : ℕ) → AreSingle flights tickets →
    AreSingle (if loses then lost a flights else left_behind a flights) tickets
death_good true a flights tickets g = of_lost a flights tickets g
death_good false a flights tickets g = of_same _ flights tickets (each_same a (λ flight. record flight { present = false }) (λ flight. refl) flights) g

died_good : (c : Core) (a : ℕ) (phase : Phase) → Good c → Good (died_in c a phase)
died_good c a Off g = g
died_good c a Up g = g
died_good c a Still g = g
died_good c a (Doomed fate) g = death_good fate.loses a c.flights c.tickets g
died_good c a Dead g = g

finished_good : (c : Core) (by : ℕ) (recovery : Option Recovery) → Good c → Good (finished_from c by recovery)
finished_good c by None g = g
finished_good c by (Some recovery) g = g

halted : (test : Bool) (flights : Flights) (tickets : ℕ) → AreSingle flights tickets → AreSingle (if test then [] else flights) tickets
halted true flights tickets g = none_flying tickets
halted false flights tickets g = g

host_good : (c : Core) (line : Option Line) → Good c → Good (host_answered_line c line)
host_good c None g = g
host_good c (Some line) g = halted (is_halt line.what) c.flights c.tickets g

fetch_good : (c : Core) (a sector : ℕ) (heard : Heard) → Good c → Good (after c (Fetch a sector) heard)
fetch_good c a sector (Got block) g = g
fetch_good c a sector Nothing g = either (is_off (c.servers a).phase) _ _ g (failed_good c a g)
fetch_good c a sector GetFailed g = either (is_off (c.servers a).phase) _ _ g (failed_good c a g)
fetch_good c a sector Written g = either (is_off (c.servers a).phase) _ _ g (failed_good c a g)
fetch_good c a sector Late g = either (is_off (c.servers a).phase) _ _ g (failed_good c a g)
fetch_good c a sector (PutFailed new) g = either (is_off (c.servers a).phase) _ _ g (failed_good c a g)

load_good : (c : Core) (by slot : ℕ) (heard : Heard) → Good c → Good (after c (Load by slot) heard)
load_good c by slot (Got block) g = g
load_good c by slot Nothing g = failed_good c by g
load_good c by slot GetFailed g = failed_good c by g
load_good c by slot Written g = failed_good c by g
load_good c by slot Late g = failed_good c by g
load_good c by slot (PutFailed new) g = failed_good c by g

look_good : (c : Core) (by sector : ℕ) (heard : Heard) → Good c → Good (after c (Look by sector) heard)
look_good c by sector (Got block) g = g
look_good c by sector Nothing g = failed_good c by g
look_good c by sector GetFailed g = failed_good c by g
look_good c by sector Written g = failed_good c by g
look_good c by sector Late g = failed_good c by g
look_good c by sector (PutFailed new) g = failed_good c by g

read_good : (c : Core) (sector : ℕ) (heard : Heard) → Good c → Good (after c (Read sector) heard)
read_good c sector (Got block) g = g
read_good c sector Nothing g = failed_good c host_party g
read_good c sector GetFailed g = failed_good c host_party g
read_good c sector Written g = failed_good c host_party g
read_good c sector Late g = failed_good c host_party g
read_good c sector (PutFailed new) g = failed_good c host_party g

event_good : (s : State) (event : Event) (heard : Heard) → Makes s event heard → Good s.core → Good (after s.core event heard)
event_good s (Begin a) heard m g = g
event_good s (Ask a lock mode) heard m g = g
event_good s (Fetch a sector) heard m g = fetch_good s.core a sector heard g
event_good s (Again a) heard m g = g
event_good s (Clear a block) heard m g = g
event_good s (Commit a) heard m g = committed_good s.core a (stage s.core a) g
event_good s (Answer a) heard m g = answered_good s.core a (s.core.servers a).under (due_at s.core a) g
event_good s (Give a lock) heard m g = given_good s.core a lock (asked_for s.core.locks a lock) g
event_good s (Issue a sector) heard m g = issued_good s.core a sector (value_at (writes s.core a) sector) m.can.can g
event_good s (Doom a) heard m g = g
event_good s (Resume a) heard m g = g
event_good s (Arrive ticket) heard m g = arrived_good s.core ticket heard (value_at s.core.flights ticket) g
event_good s (Lose ticket) heard m g = of_landed ticket s.core.flights s.core.tickets g
event_good s (Die a) heard m g = died_good s.core a (s.core.servers a).phase g
event_good s (Renew a) heard m g = g
event_good s Tick heard m g = g
event_good s (Recover dead by) heard m g = g
event_good s (Load by slot) heard m g = load_good s.core by slot heard g
event_good s (Look by sector) heard m g = look_good s.core by sector heard g
event_good s (Finish by) heard m g = finished_good s.core by (s.core.servers by).recovery g
event_good s (HostLine number) heard m g = host_good s.core (next_of s.core host_party) g
event_good s (Close a) heard m g = either (clean_at s.core a) _ _ g g
event_good s (Read sector) heard m g = read_good s.core sector heard g
event_good s (Show place) heard m g = g
event_good s End heard m g = g

step_good : (s v : State) → Step s v → Good s.core → Good v.core
step_good s v (Event_ event heard makes) g = event_good s event heard makes g
step_good s v (Enter a line can) g = g
step_good s v (Hold a on may) g = g
step_good s v (Flush a may) g = g
step_good s v (Relock locks going good same wait) g = g
step_good s v (Note line may) g = g
step_good s v (Peek sector going) g = g
step_good s v (PeekFails sector going) g = g

run_good : (s v : State) → Run s v → Good s.core → Good v.core
run_good s v Stays g = g
run_good s w (Goes {v = v} step run) g = run_good v w run (step_good s v step g)

pub tickets_once : (setting : Setting) (disk : Sectors) (s : State) → Run (first_state setting disk) s → AreOnce (keys_of s.core.flights)
tickets_once setting disk s run = as_words (keys_of s.core.flights) (run_good (first_state setting disk) s run (none_flying 0)).once

pub sectors_once : (setting : Setting) (disk : Sectors) (s : State) → Run (first_state setting disk) s → AreOnce (sectors_in s.core.flights)
sectors_once setting disk s run = as_words (sectors_in s.core.flights) (run_good (first_state setting disk) s run (none_flying 0)).alone
