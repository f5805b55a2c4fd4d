-- Over a run in which nothing stops a server: each event leaves it so, and every write in flight is of a present mount.
use Rattle.std.proofs.Common.{◌≡◌, ◌∙◌, ℕ, ◌+◌, ◌%◌, ◌==◌, Bool, true, false, not, ◌&&◌, ◌||◌, if◌then◌else◌, IsTrue, is_some, Option, Some, None, [], nat_eq, nat_lt, refl, sym, ap, subst}
use Rattle.std.specs.List.{list_any}
use Rattle.std.specs.Option.{option_map}
use Rattle.std.proofs.lemmas.Bool.{false≢true}
use Rattle.std.proofs.lemmas.Option.{none-some}
use mathlib.Core.Bool.{and-false}
use Rattle.frang_base.specs.Functions.{put}
use Rattle.frang_base.specs.declared.lock.LockId.{LockId}
use Rattle.frang_base.specs.declared.op.Op.{Op}
use Rattle.frang_base.specs.declared.reply.Reply.{Reply}
use Rattle.frang_base.specs.declared.script.Line.{Line}
use Rattle.lock_definitions.specs.declared.claim.AskedFor.{AskedFor}
use Rattle.lock_definitions.specs.declared.claim.AskedFor.TheVariants.{Release, Downgrade}
use Rattle.lock_definitions.specs.Calls.{asked_for, cleared}
use Rattle.sector_bytes.specs.SectorMaps.{value_at}
use Rattle.sector_bytes.specs.Sectors.{Sectors}
use Rattle.tree_definitions.specs.Transcript.{is_halt}
use Rattle.core_definitions.specs.Flights.{Flight}
use Rattle.core_definitions.specs.Lines.{Stage, Asking, Fetching, Moving, Stopping, Growing, Clearing, Finishing, Under, operation_of}
use Rattle.core_definitions.specs.Recoveries.{Recovery}
use Rattle.core_definitions.specs.Scripts.{host_party}
use Rattle.core_definitions.specs.Servers.{Phase, Off, Up, Still, Doomed, Dead, Server, asked_by, due_under, is_answering, is_off, is_still, is_up, own_answer_of, wanting_all, wanting_all_up}
use Rattle.core_definitions.specs.Writes.{Write}
use Rattle.core_definitions.specs.Cores.{Core, clean_at, due_at, next_of, stage, with_server, writes}
use Rattle.core_definitions.specs.Events.{Event, Begin, Ask, Fetch, Again, Clear, Commit, Answer, Give, Issue, Doom, Resume, Arrive, Lose, Die, Renew, Tick, Recover, Load, Look, Finish, HostLine, Close, Read, Show, End, Heard, Nothing, Got, GetFailed, Written, Late, PutFailed}
use Rattle.core_definitions.specs.LineGuards.{is_server}
use Rattle.core_definitions.specs.WriteGuards.{CanDoom, CanResume, is_at_last, is_crashing, is_faulted, is_held_back, is_issuable, is_past_lease, is_worker}
use Rattle.core_definitions.specs.LineEffects.{answered_under, answered_with, cleared_at, committed, committed_at, committed_by, flight_after, off_after, purpose_after}
use Rattle.core_definitions.specs.WriteEffects.{arrived_from, counted, died_in, flight_of, given_for, issued_as, landed, taken_in}
use Rattle.core_definitions.specs.EndEffects.{finished_from, host_answered_line, recovered}
use Rattle.core_definitions.specs.Effects.{MayGet, MayLoad, after}
use Rattle.core_definitions.specs.Faults.{failing}
use Rattle.core_definitions.specs.Runs.{State, Makes}
use Rattle.core_laws.proofs.FlightLists.{AllFlights, all_changed, all_joined, all_landed}
use Rattle.core_laws.proofs.Memory.{opened}
use Rattle.calm_runs.specs.Calm.{is_calm, stops}
use Rattle.calm_runs.proofs.Servers.{IsCalm, IsCalmUnder, acknowledged_calm, again_calm, answer_calm, begun_calm, fetched_calm, found_calm, not_crashing, not_still, same_calm, wanting_calm}

-- ---- what the core keeps

-- a write of a server's present mount, or of the host
pub record IsPresent (flight : Flight) : Type 0 where
  pub present : flight.present ≡ true
  pub party : IsTrue (is_server flight.server || flight.server == host_party)

pub record Calm (c : Core) : Type 0 where
  pub servers : (i : ℕ) → IsCalm (c.servers i)
  pub flights : AllFlights IsPresent c.flights

-- one server changes
changed : (c d : Core) (a : ℕ) (new : Server) → d.servers ≡ put c.servers a new → AllFlights IsPresent d.flights → IsCalm new → Calm c → Calm d
changed c d a new e flights own calm = record { servers = λ i. subst (λ f. IsCalm (f i)) (sym e) (go i (nat_eq i a)); flights = flights }
  where
    go : (i : ℕ) (b : Bool) → IsCalm (if b then new else c.servers i)
    go i true = own
    go i false = calm.servers i

-- and the writes stay
steady : (c : Core) (a : ℕ) (new : Server) → IsCalm new → Calm c → Calm (record c { servers = put c.servers a new })
steady c a new own calm = changed c (record c { servers = put c.servers a new }) a new refl calm.flights own calm

either : (test : Bool) (d e : Core) → Calm d → Calm e → Calm (if test then d else e)
either true d e k l = k
either false d e k l = l

-- ---- lines

committed_calm : (c : Core) (a : ℕ) (at : Option Stage) → Calm c → Calm (committed_at c a at)
committed_calm c a None calm = calm
committed_calm c a (Some (Asking need)) calm = calm
committed_calm c a (Some (Fetching needs)) calm = calm
committed_calm c a (Some Moving) calm = calm
committed_calm c a (Some Stopping) calm = calm
committed_calm c a (Some (Growing needs seen)) calm = calm
committed_calm c a (Some (Clearing block)) calm = calm
committed_calm c a (Some (Finishing outcome)) calm =
    let own : IsCalm (c.servers a) = calm.servers a in
    changed c (committed c a outcome) a (committed_by outcome (c.servers a)) refl (all_changed IsPresent a (flight_after outcome) (λ f h. moved f h f.present refl) c.flights calm.flights)
    (record { lives = own.lives; unarmed = own.unarmed; well = own.well; under = tt }) calm
  where
    moved : (f : Flight) → IsPresent f → (b : Bool) → f.present ≡ b → IsPresent (if b then record f { purpose = purpose_after outcome f.sector f.purpose } else f)
    moved f h true e = record { present = h.present; party = h.party }
    moved f h false e = h

answered_with_calm : (c : Core) (a : ℕ) (under : Under) (answer : Reply) (operation : Option Op) → operation_of under.line.what ≡ operation → IsCalmUnder (Some under) →
    (is_some under.fixed ≡ false → own_answer_of c.setting.logs c.flights a (c.servers a) under operation ≡ Some answer) → Calm c → Calm (answered_with c a under answer operation)
answered_with_calm c a under answer None e line own calm = calm
answered_with_calm c a under answer (Some operation) e line own calm =
    changed c (answered_with c a under answer (Some operation)) a _ refl calm.flights
    (answer_calm c a under (c.servers a) (calm.servers a) operation answer (sym (ap (asked_by stops) e) ∙ line) own) calm

answered_calm : (c : Core) (a : ℕ) (under : Option Under) (answer : Option Reply) → (c.servers a).under ≡ under → due_at c a ≡ answer → Calm c → Calm (answered_under c a under answer)
answered_calm c a None None u e calm = calm
answered_calm c a None (Some answer) u e calm = calm
answered_calm c a (Some under) None u e calm = calm
answered_calm c a (Some under) (Some answer) u e calm =
    answered_with_calm c a under answer (operation_of under.line.what) refl (subst IsCalmUnder u (calm.servers a).under)
    (opened (is_answering (c.servers a).phase) under.fixed (own_answer_of c.setting.logs c.flights a (c.servers a) under (operation_of under.line.what)) answer
    (sym (ap (λ o. if is_answering (c.servers a).phase then due_under c.setting.logs c.flights a (c.servers a) o else None) u) ∙ e))
    calm

-- ---- locks and writes

given_calm : (c : Core) (a : ℕ) (lock : LockId) (asked : Option AskedFor) → Calm c → Calm (given_for c a lock asked)
given_calm c a lock None calm = calm
given_calm c a lock (Some Downgrade) calm = record { servers = calm.servers; flights = calm.flights }
given_calm c a lock (Some Release) calm =
    changed c (given_for c a lock (Some Release)) a _ refl calm.flights (same_calm (c.servers a) _ refl refl refl refl (calm.servers a)) calm

issued_calm : (c : Core) (a sector : ℕ) (write : Option Write) → IsTrue (is_worker c a) → Calm c → Calm (issued_as c a sector write)
issued_calm c a sector None who calm = calm
issued_calm c a sector (Some write) who calm =
    let own : IsCalm (c.servers a) = calm.servers a in
    changed c (issued_as c a sector (Some write)) a _ refl
    (all_joined IsPresent (c.tickets, flight_of c a sector write) c.flights (record { present = refl; party = party (is_server a) (is_up (c.servers a).phase) (a == host_party) who }) calm.flights)
    (record { lives = own.lives; unarmed = ap counted own.unarmed; well = own.well; under = own.under }) calm
  where
    party : (s u h : Bool) → IsTrue ((s && u) || h) → IsTrue (s || h)
    party true u h w = refl
    party false u h w = w

landed_calm : (c : Core) (ticket : ℕ) → Calm c → Calm (landed c ticket)
landed_calm c ticket calm = record { servers = calm.servers; flights = all_landed IsPresent ticket c.flights calm.flights }

taken_calm : (c : Core) (flight : Flight) → Calm c → Calm (taken_in c flight)
taken_calm c flight calm =
    either flight.present _ _ (steady c flight.server _ (acknowledged_calm flight.sector flight.block flight.purpose (c.servers flight.server) (calm.servers flight.server)) calm) calm

arrived_calm : (c : Core) (ticket : ℕ) (heard : Heard) (flight : Option Flight) → value_at c.flights ticket ≡ flight → failing c (Arrive ticket) heard ≡ None → Calm c →
    Calm (arrived_from c ticket heard flight)
arrived_calm c ticket heard None e none calm = calm
arrived_calm c ticket Nothing (Some flight) e none calm = landed_calm c ticket calm
arrived_calm c ticket (Got block) (Some flight) e none calm = landed_calm c ticket calm
arrived_calm c ticket GetFailed (Some flight) e none calm = landed_calm c ticket calm
arrived_calm c ticket Written (Some flight) e none calm = taken_calm (landed c ticket) flight (landed_calm c ticket calm)
arrived_calm c ticket Late (Some flight) e none calm = landed_calm c ticket calm
arrived_calm c ticket (PutFailed new) (Some flight) e none calm =
    absurd (none-some flight.server (sym none ∙ ap (option_map (λ (f : Flight). f.server)) e))

-- ---- lives

none_of : (w x y z : Bool) → w ≡ false → x ≡ false → y ≡ false → z ≡ false → (w || x || y || z) ≡ false
none_of w x y z a b d e = rw (a, b, d, e) refl

never_doomed : (c : Core) (a : ℕ) → Calm c → CanDoom c a → ⊥
never_doomed c a calm can =
    false≢true (sym (none_of (is_crashing server) (is_held_back c a (writes c a)) (is_past_lease c a && not (clean_at c a)) (is_faulted server) crashes held past faulted) ∙ can.cause)
  where
    server : Server
    server = c.servers a

    own : IsCalm server
    own = calm.servers a

    crashes : is_crashing server ≡ false
    crashes = ap (λ t. is_up server.phase && t) (not_crashing server.under own.under) ∙ and-false (is_up server.phase)

    held : is_held_back c a (writes c a) ≡ false
    held = ap (λ arming. is_at_last arming && list_any (λ entry. is_issuable c a entry.0 (writes c a)) (writes c a)) own.unarmed

    past : (is_past_lease c a && not (clean_at c a)) ≡ false
    past = ap (λ t. (t && nat_lt server.expiry c.now) && not (clean_at c a)) (not_still server.phase own.lives)

    faulted : is_faulted server ≡ false
    faulted = ap (λ t. (is_up server.phase || is_still server.phase) && t) own.well ∙ and-false (is_up server.phase || is_still server.phase)

never_resumed : (c : Core) (a : ℕ) → Calm c → CanResume c a → ⊥
never_resumed c a calm can = false≢true (sym (ap (λ t. t && nat_lt (c.servers a).expiry c.now) (not_still (c.servers a).phase (calm.servers a).lives)) ∙ can.past)

died_calm : (c : Core) (a : ℕ) (phase : Phase) → IsTrue (is_off phase || is_up phase) → Calm c → Calm (died_in c a phase)
died_calm c a Off lives calm = calm
died_calm c a Up lives calm = calm
died_calm c a Still lives calm = calm
died_calm c a (Doomed fate) lives calm = absurd (false≢true lives)
died_calm c a Dead lives calm = calm

ticked_calm : (c : Core) → Calm c → Calm (after c Tick Nothing)
ticked_calm c calm = record { servers = λ i. go i ((c.now + 1) % c.setting.flush_ticks == 0); flights = calm.flights }
  where
    go : (i : ℕ) (b : Bool) → IsCalm (if b then wanting_all_up (c.servers i) else c.servers i)
    go i true = wanting_calm (c.servers i) (calm.servers i)
    go i false = calm.servers i

-- ---- recoveries and the host

finished_calm : (c : Core) (by : ℕ) (recovery : Option Recovery) → Calm c → Calm (finished_from c by recovery)
finished_calm c by None calm = calm
finished_calm c by (Some recovery) calm =
    let own : IsCalm (c.servers recovery.dead) = calm.servers recovery.dead in
    changed rid (finished_from c by (Some recovery)) recovery.dead (recovered (c.servers recovery.dead)) refl calm.flights
    (record { lives = refl; unarmed = own.unarmed; well = own.well; under = own.under })
    (steady c by (record (c.servers by) { recovery = None }) (same_calm (c.servers by) (record (c.servers by) { recovery = None }) refl refl refl refl (calm.servers by)) calm)
  where
    rid : Core
    rid = record c { servers = put c.servers by (record (c.servers by) { recovery = None }) }

host_calm : (c : Core) (line : Option Line) → Calm c → Calm (host_answered_line c line)
host_calm c None calm = calm
host_calm c (Some line) calm = record { servers = calm.servers; flights = go (is_halt line.what) }
  where
    go : (b : Bool) → AllFlights IsPresent (if b then [] else c.flights)
    go true = tt
    go false = calm.flights

closed_calm : (c : Core) (a : ℕ) → Calm c → Calm (after c (Close a) Nothing)
closed_calm c a calm = go (clean_at c a)
  where
    own : IsCalm (c.servers a)
    own = calm.servers a

    go : (b : Bool) → Calm (if b then record c { servers = put c.servers a (off_after (c.servers a)); locks = cleared c.locks a } else with_server c a (wanting_all (c.servers a)))
    go true =
        changed c (record c { servers = put c.servers a (off_after (c.servers a)); locks = cleared c.locks a }) a (off_after (c.servers a)) refl calm.flights
        (record { lives = refl; unarmed = refl; well = own.well; under = tt }) calm
    go false = steady c a (wanting_all (c.servers a)) (same_calm (c.servers a) (wanting_all (c.servers a)) refl refl refl refl own) calm

-- ---- gets, of which none fails

fetch_calm : (c : Core) (disk : Sectors) (a sector : ℕ) (heard : Heard) → MayGet disk sector heard → failing c (Fetch a sector) heard ≡ None → Calm c → Calm (after c (Fetch a sector) heard)
fetch_calm c disk a sector (Got block) may none calm = steady c a _ (fetched_calm a (stage c a) sector block (c.servers a) (calm.servers a)) calm
fetch_calm c disk a sector GetFailed may none calm = absurd (none-some a (sym none))
fetch_calm c disk a sector Nothing may none calm = absurd may
fetch_calm c disk a sector Written may none calm = absurd may
fetch_calm c disk a sector Late may none calm = absurd may
fetch_calm c disk a sector (PutFailed new) may none calm = absurd may

not_loaded : (disk : Sectors) (slot : ℕ) (heard : Heard) → ((sector : ℕ) → MayGet disk sector heard → ⊥) → (recovery : Option Recovery) → MayLoad disk slot recovery heard → ⊥
not_loaded disk slot heard never None may = may
not_loaded disk slot heard never (Some recovery) may = never _ may

load_calm : (c : Core) (disk : Sectors) (by slot : ℕ) (heard : Heard) → MayLoad disk slot (c.servers by).recovery heard → failing c (Load by slot) heard ≡ None → Calm c →
    Calm (after c (Load by slot) heard)
load_calm c disk by slot (Got block) may none calm = steady c by _ (same_calm (c.servers by) _ refl refl refl refl (calm.servers by)) calm
load_calm c disk by slot GetFailed may none calm = absurd (none-some by (sym none))
load_calm c disk by slot Nothing may none calm = absurd (not_loaded disk slot Nothing (λ sector h. h) (c.servers by).recovery may)
load_calm c disk by slot Written may none calm = absurd (not_loaded disk slot Written (λ sector h. h) (c.servers by).recovery may)
load_calm c disk by slot Late may none calm = absurd (not_loaded disk slot Late (λ sector h. h) (c.servers by).recovery may)
load_calm c disk by slot (PutFailed new) may none calm = absurd (not_loaded disk slot (PutFailed new) (λ sector h. h) (c.servers by).recovery may)

look_calm : (c : Core) (disk : Sectors) (by sector : ℕ) (heard : Heard) → MayGet disk sector heard → failing c (Look by sector) heard ≡ None → Calm c → Calm (after c (Look by sector) heard)
look_calm c disk by sector (Got block) may none calm = steady c by _ (same_calm (c.servers by) _ refl refl refl refl (calm.servers by)) calm
look_calm c disk by sector GetFailed may none calm = absurd (none-some by (sym none))
look_calm c disk by sector Nothing may none calm = absurd may
look_calm c disk by sector Written may none calm = absurd may
look_calm c disk by sector Late may none calm = absurd may
look_calm c disk by sector (PutFailed new) may none calm = absurd may

read_calm : (c : Core) (disk : Sectors) (sector : ℕ) (heard : Heard) → MayGet disk sector heard → failing c (Read sector) heard ≡ None → Calm c → Calm (after c (Read sector) heard)
read_calm c disk sector (Got block) may none calm = record { servers = calm.servers; flights = calm.flights }
read_calm c disk sector GetFailed may none calm = absurd (none-some host_party (sym none))
read_calm c disk sector Nothing may none calm = absurd may
read_calm c disk sector Written may none calm = absurd may
read_calm c disk sector Late may none calm = absurd may
read_calm c disk sector (PutFailed new) may none calm = absurd may

-- ---- each event

pub event_calm : (s : State) (event : Event) (heard : Heard) → Makes s event heard → failing s.core event heard ≡ None → IsTrue (is_calm s.core.setting.script) → Calm s.core →
    Calm (after s.core event heard)
event_calm s (Begin a) heard m none script calm =
    steady s.core a _ (begun_calm (s.core.servers a) (next_of s.core a) (found_calm _ s.core.setting.script script) (calm.servers a)) calm
event_calm s (Ask a lock mode) heard m none script calm = record { servers = calm.servers; flights = calm.flights }
event_calm s (Fetch a sector) heard m none script calm = fetch_calm s.core s.disk a sector heard m.hears none calm
event_calm s (Again a) heard m none script calm = steady s.core a _ (again_calm s.core.setting.logs (stage s.core a) (s.core.servers a) (calm.servers a)) calm
event_calm s (Clear a block) heard m none script calm =
    steady s.core a _ (same_calm (s.core.servers a) (cleared_at block (s.core.servers a)) refl refl refl refl (calm.servers a)) calm
event_calm s (Commit a) heard m none script calm = committed_calm s.core a (stage s.core a) calm
event_calm s (Answer a) heard m none script calm = answered_calm s.core a (s.core.servers a).under (due_at s.core a) refl refl calm
event_calm s (Give a lock) heard m none script calm = given_calm s.core a lock (asked_for s.core.locks a lock) calm
event_calm s (Issue a sector) heard m none script calm = issued_calm s.core a sector (value_at (writes s.core a) sector) m.can.can.issuable.who calm
event_calm s (Doom a) heard m none script calm = absurd (never_doomed s.core a calm m.can.can)
event_calm s (Resume a) heard m none script calm = absurd (never_resumed s.core a calm m.can.can)
event_calm s (Arrive ticket) heard m none script calm = arrived_calm s.core ticket heard (value_at s.core.flights ticket) refl none calm
event_calm s (Lose ticket) heard m none script calm = landed_calm s.core ticket calm
event_calm s (Die a) heard m none script calm = died_calm s.core a (s.core.servers a).phase (calm.servers a).lives calm
event_calm s (Renew a) heard m none script calm =
    changed s.core (after s.core (Renew a) heard) a _ refl calm.flights (same_calm (s.core.servers a) _ refl refl refl refl (calm.servers a)) calm
event_calm s Tick heard m none script calm = ticked_calm s.core calm
event_calm s (Recover dead by) heard m none script calm =
    changed s.core (after s.core (Recover dead by) heard) by _ refl calm.flights (same_calm (s.core.servers by) _ refl refl refl refl (calm.servers by)) calm
event_calm s (Load by slot) heard m none script calm = load_calm s.core s.disk by slot heard m.hears none calm
event_calm s (Look by sector) heard m none script calm = look_calm s.core s.disk by sector heard m.hears none calm
event_calm s (Finish by) heard m none script calm = finished_calm s.core by (s.core.servers by).recovery calm
event_calm s (HostLine number) heard m none script calm = host_calm s.core (next_of s.core host_party) calm
event_calm s (Close a) heard m none script calm = closed_calm s.core a calm
event_calm s (Read sector) heard m none script calm = read_calm s.core s.disk sector heard m.hears none calm
event_calm s (Show place) heard m none script calm = record { servers = calm.servers; flights = calm.flights }
event_calm s End heard m none script calm = record { servers = calm.servers; flights = calm.flights }

-- one that is Up wants everything written
pub flushed_calm : (c : Core) (a : ℕ) → Calm c → Calm (with_server c a (wanting_all_up (c.servers a)))
flushed_calm c a calm = steady c a (wanting_all_up (c.servers a)) (wanting_calm (c.servers a) (calm.servers a)) calm
