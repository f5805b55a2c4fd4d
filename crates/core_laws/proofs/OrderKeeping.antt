-- Over every run: what the core has by lock, sector, slot and ticket is in order. Event by event.
use Rattle.std.proofs.Common.{◌≡◌, ℕ, ◌<◌, Bool, true, false, not, ◌==◌, ◌+◌, ◌%◌, if◌then◌else◌, [], ◌∷◌, ◌++◌, Option, Some, None, nat_eq, filter, refl, sym, ap, subst, arith}
use Rattle.std.specs.List.{AllByRecursion}
use Rattle.std.specs.List.Sorted.{IsStrictlySortedBy}
use Rattle.std.specs.Map.{keys_of}
use Rattle.std.specs.Ordering.{nat_cmp}
use Rattle.std.specs.BTreeMap.{is_at}
use Rattle.sorted_entries.proofs.Sorted.{all_along}
use Rattle.frang_base.specs.Functions.{put}
use Rattle.frang_base.specs.declared.lock.LockId.{LockId}
use Rattle.frang_base.specs.declared.op.Op.{Op}
use Rattle.frang_base.specs.declared.reply.Reply.{Reply}
use Rattle.frang_base.specs.declared.script.Line.{Line}
use Rattle.frang_base.proofs.Lists.{all_append}
use Rattle.frang_base.proofs.Tests.{cmp_less}
use Rattle.tree_definitions.specs.Transcript.{is_halt}
use Rattle.lock_definitions.specs.declared.claim.AskedFor.{AskedFor}
use Rattle.lock_definitions.specs.declared.claim.AskedFor.TheVariants.{Release, Downgrade}
use Rattle.lock_definitions.specs.Calls.{asked_for}
use Rattle.sector_bytes.specs.SectorMaps.{Ascend, value_at, without}
use Rattle.sector_bytes.specs.Sectors.{Sectors}
use Rattle.sector_bytes.proofs.MapLaws.{ascend_with, ascend_without}
use Rattle.core_definitions.specs.Flights.{Flight, Flights, each_of_server, left_behind, lost}
use Rattle.core_definitions.specs.Lines.{Stage, Asking, Fetching, Moving, Stopping, Growing, Clearing, Finishing, Under, operation_of}
use Rattle.core_definitions.specs.Recoveries.{Recovery}
use Rattle.core_definitions.specs.Scripts.{host_party}
use Rattle.core_definitions.specs.Servers.{Phase, Off, Up, Still, Doomed, Dead, Server, is_off, wanting_all_up}
use Rattle.core_definitions.specs.Settings.{Setting}
use Rattle.core_definitions.specs.Writes.{Write}
use Rattle.core_definitions.specs.Cores.{Core, clean_at, due_at, next_of, stage, writes}
use Rattle.core_definitions.specs.Events.{Event, Begin, Ask, Fetch, Again, Clear, Commit, Answer, Give, Issue, Doom, Resume, Arrive, Lose, Die, Renew, Tick, Recover, Load, Look, Finish, HostLine, Close, Read, Show, End, Heard, Nothing, Got, GetFailed, Written, Late, PutFailed}
use Rattle.core_definitions.specs.LineEffects.{answered_under, answered_with, call_failed, committed_at, fetch_failed, flight_after}
use Rattle.core_definitions.specs.WriteEffects.{arrived_as, arrived_from, died_in, flight_of, given_for, issued_as, landed, taken_in}
use Rattle.core_definitions.specs.EndEffects.{finished_from, host_answered_line}
use Rattle.core_definitions.specs.Effects.{after}
use Rattle.core_definitions.specs.Runs.{State, Step, Event_, Enter, Hold, Flush, Relock, Note, Peek, PeekFails, Run, first_state}
use Rattle.core_laws.proofs.Along.{along}
use Rattle.core_laws.specs.Orders.{AreLinesInOrder, AreRecoveriesInOrder, IsInOrder, IsServerInOrder}
use Rattle.core_laws.proofs.Servers.{acknowledged_order, again_order, answer_order, bare_order, begun_order, cleared_order, committed_order, died_order, fetched_order, given_order, refused_order, rescued_order, wanting_order, wanting_up_order}
use Rattle.core_laws.proofs.Sorting.{ascend_changed, keys_changed, keys_filter, sorted_append, sorted_none, sorted_one}
use Rattle.core_laws.proofs.Stages.{stages_in_order}

-- ---- the tickets

-- they ascend, and are below the next one
record AreTickets (flights : Flights) (tickets : ℕ) : Type 0 where
  ordered : Ascend flights
  below : AllByRecursion (λ ticket. ticket < tickets) (keys_of flights)

each_tickets : (server : ℕ) (change : Flight → Flight) (flights : Flights) (tickets : ℕ) → AreTickets flights tickets →
    AreTickets (each_of_server server change flights) tickets
each_tickets server change flights tickets t = record {
  ordered = ascend_changed move keeps flights t.ordered;
  below = subst (AllByRecursion (λ ticket. ticket < tickets)) (sym (keys_changed move keeps flights)) t.below;
}
  where
    move : ℕ × Flight → ℕ × Flight
    move one = if one.1.server == server then (one.0, change one.1) else one

    keeps : (one : ℕ × Flight) → (move one).0 ≡ one.0
    keeps one = go (one.1.server == server)
      where
        go : (b : Bool) → (if b then (one.0, change one.1) else one).0 ≡ one.0
        go true = refl
        go false = refl

fewer_keys : (P : ℕ → Type 0) (test : ℕ × Flight → Bool) (flights : Flights) → AllByRecursion P (keys_of flights) →
    AllByRecursion P (keys_of (filter test flights))
fewer_keys P test [] all = tt
fewer_keys P test (one ∷ others) all = go (test one) (fewer_keys P test others all.1)
  where
    go : (b : Bool) → AllByRecursion P (keys_of (filter test others)) → AllByRecursion P (keys_of (if b then one ∷ filter test others else filter test others))
    go true rest = (all.0, rest)
    go false rest = rest

lost_tickets : (server : ℕ) (flights : Flights) (tickets : ℕ) → AreTickets flights tickets → AreTickets (lost server flights) tickets
lost_tickets server flights tickets t = record {
  ordered = keys_filter nat_cmp (λ one. not (one.1.server == server)) flights t.ordered;
  below = fewer_keys (λ ticket. ticket < tickets) (λ one. not (one.1.server == server)) flights t.below;
}

less_keys : (P : ℕ → Type 0) (ticket : ℕ) (flights : Flights) → AllByRecursion P (keys_of flights) → AllByRecursion P (keys_of (without flights ticket))
less_keys P ticket [] all = tt
less_keys P ticket (one ∷ others) all = go (is_at (nat_cmp ticket) one.0) (less_keys P ticket others all.1)
  where
    go : (b : Bool) → AllByRecursion P (keys_of (without others ticket)) → AllByRecursion P (keys_of (if b then others else one ∷ without others ticket))
    go true rest = all.1
    go false rest = (all.0, rest)

landed_tickets : (ticket : ℕ) (flights : Flights) (tickets : ℕ) → AreTickets flights tickets → AreTickets (without flights ticket) tickets
landed_tickets ticket flights tickets t = record { ordered = ascend_without ticket flights t.ordered; below = less_keys (λ n. n < tickets) ticket flights t.below }

issued_tickets : (flight : Flight) (flights : Flights) (tickets : ℕ) → AreTickets flights tickets → AreTickets (flights ++ (tickets, flight) ∷ []) (tickets + 1)
issued_tickets flight flights tickets t = record {
  ordered = subst (IsStrictlySortedBy nat_cmp) (sym (joined flights))
      (sorted_append nat_cmp (keys_of flights) (tickets ∷ []) t.ordered (sorted_one nat_cmp tickets) (all_along (λ ticket l. (cmp_less ticket tickets l, tt)) (keys_of flights) t.below));
  below = subst (AllByRecursion (λ ticket. ticket < tickets + 1)) (sym (joined flights)) (all_append (λ ticket. ticket < tickets + 1) (keys_of flights) (tickets ∷ []) (all_along (λ ticket l. grow ticket l) (keys_of flights) t.below) (last, tt));
}
  where
    joined : (flights : Flights) → keys_of (flights ++ (tickets, flight) ∷ []) ≡ keys_of flights ++ tickets ∷ []
    joined [] = refl
    joined (one ∷ others) = ap (λ ks. one.0 ∷ ks) (joined others)

    grow : (ticket : ℕ) → ticket < tickets → ticket < tickets + 1
    grow ticket l = omega (arith, l)

    last : tickets < tickets + 1
    last = omega arith

-- ---- what the core keeps

record Kept (c : Core) : Type 0 where
  servers : (a : ℕ) → IsServerInOrder (c.servers a)
  flights : AreTickets c.flights c.tickets
  read : Ascend c.read

put_order : (servers : ℕ → Server) (a : ℕ) (new : Server) → ((i : ℕ) → IsServerInOrder (servers i)) → IsServerInOrder new → (i : ℕ) →
    IsServerInOrder (put servers a new i)
put_order servers a new all o i = go (nat_eq i a)
  where
    go : (b : Bool) → IsServerInOrder (if b then new else servers i)
    go true = o
    go false = all i

-- one server changes
one_changed : (c : Core) (a : ℕ) (new : Server) → Kept c → IsServerInOrder new → Kept (record c { servers = put c.servers a new })
one_changed c a new k o = record { servers = put_order c.servers a new k.servers o; flights = k.flights; read = k.read }

-- the same servers, writes in flight and sectors read
same_kept : (c d : Core) → d.servers ≡ c.servers → d.flights ≡ c.flights → d.tickets ≡ c.tickets → d.read ≡ c.read → Kept c → Kept d
same_kept c d s f t r k = record {
  servers = subst (λ servers. (a : ℕ) → IsServerInOrder (servers a)) (sym s) k.servers;
  flights = subst (λ fs. AreTickets fs d.tickets) (sym f) (subst (AreTickets c.flights) (sym t) k.flights);
  read = subst Ascend (sym r) k.read;
}

either : (test : Bool) (d e : Core) → Kept d → Kept e → Kept (if test then d else e)
either true d e k l = k
either false d e k l = l

same_server : (server new : Server) → new.cache ≡ server.cache → new.staying ≡ server.staying → new.pending ≡ server.pending →
    new.under ≡ server.under → new.recovery ≡ server.recovery →
    IsServerInOrder server → IsServerInOrder new
same_server server new c s p u r o = record {
  cache = subst Ascend (sym c) o.cache;
  staying = subst (IsStrictlySortedBy nat_cmp) (sym s) o.staying;
  pending = subst (IsStrictlySortedBy nat_cmp) (sym p) o.pending;
  under = subst AreLinesInOrder (sym u) o.under;
  recovery = subst AreRecoveriesInOrder (sym r) o.recovery;
}

-- ---- effects by cases

failed_kept : (c : Core) (a : ℕ) → Kept c → Kept (call_failed c a)
failed_kept c a k =
    either (a == host_party) _ _ (same_kept c _ refl refl refl refl k) (one_changed c a _ k (same_server (c.servers a) _ refl refl refl refl refl (k.servers a)))

committed_kept : (c : Core) (a : ℕ) (at : Option Stage) → Kept c → Kept (committed_at c a at)
committed_kept c a None k = k
committed_kept c a (Some (Asking need)) k = k
committed_kept c a (Some (Fetching needs)) k = k
committed_kept c a (Some Moving) k = k
committed_kept c a (Some Stopping) k = k
committed_kept c a (Some (Growing needs seen)) k = k
committed_kept c a (Some (Clearing block)) k = k
committed_kept c a (Some (Finishing outcome)) k = record {
  servers = put_order c.servers a _ k.servers (committed_order outcome (c.servers a) (k.servers a));
  flights = each_tickets a (flight_after outcome) c.flights c.tickets k.flights;
  read = k.read;
}

answered_with_kept : (c : Core) (a : ℕ) (under : Under) (answer : Reply) (operation : Option Op) → Kept c → Kept (answered_with c a under answer operation)
answered_with_kept c a under answer None k = k
answered_with_kept c a under answer (Some operation) k = record {
  servers = put_order c.servers a _ k.servers (answer_order c under (c.servers a) (k.servers a) operation answer);
  flights = k.flights;
  read = k.read;
}

answered_kept : (c : Core) (a : ℕ) (under : Option Under) (answer : Option Reply) → Kept c → Kept (answered_under c a under answer)
answered_kept c a None None k = k
answered_kept c a None (Some answer) k = k
answered_kept c a (Some under) None k = k
answered_kept c a (Some under) (Some answer) k = answered_with_kept c a under answer (operation_of under.line.what) k

given_kept : (c : Core) (a : ℕ) (lock : LockId) (asked : Option AskedFor) → Kept c → Kept (given_for c a lock asked)
given_kept c a lock None k = k
given_kept c a lock (Some Downgrade) k = same_kept c _ refl refl refl refl k
given_kept c a lock (Some Release) k = record { servers = put_order c.servers a _ k.servers (given_order (c.servers a) lock (k.servers a)); flights = k.flights; read = k.read }

issued_kept : (c : Core) (a sector : ℕ) (write : Option Write) → Kept c → Kept (issued_as c a sector write)
issued_kept c a sector None k = k
issued_kept c a sector (Some write) k = record {
  servers = put_order c.servers a _ k.servers (same_server (c.servers a) _ refl refl refl refl refl (k.servers a));
  flights = issued_tickets (flight_of c a sector write) c.flights c.tickets k.flights;
  read = k.read;
}

landed_kept : (c : Core) (ticket : ℕ) → Kept c → Kept (landed c ticket)
landed_kept c ticket k = record { servers = k.servers; flights = landed_tickets ticket c.flights c.tickets k.flights; read = k.read }

taken_kept : (c : Core) (flight : Flight) → Kept c → Kept (taken_in c flight)
taken_kept c flight k =
    either flight.present _ _ (one_changed c flight.server _ k (acknowledged_order flight.sector flight.block flight.purpose (c.servers flight.server) (k.servers flight.server))) k

arrived_as_kept : (c : Core) (flight : Flight) (heard : Heard) → Kept c → Kept (arrived_as c flight heard)
arrived_as_kept c flight Nothing k = k
arrived_as_kept c flight (Got block) k = k
arrived_as_kept c flight GetFailed k = k
arrived_as_kept c flight Written k = taken_kept c flight k
arrived_as_kept c flight Late k = k
arrived_as_kept c flight (PutFailed new) k = failed_kept c flight.server k

arrived_kept : (c : Core) (ticket : ℕ) (heard : Heard) (flight : Option Flight) → Kept c → Kept (arrived_from c ticket heard flight)
arrived_kept c ticket heard None k = k
arrived_kept c ticket heard (Some flight) k = arrived_as_kept (landed c ticket) flight heard (landed_kept c ticket k)

died_kept : (c : Core) (a : ℕ) (phase : Phase) → Kept c → Kept (died_in c a phase)
died_kept c a Off k = k
died_kept c a Up k = k
died_kept c a Still k = k
died_kept c a (Doomed fate) k = record { servers = put_order c.servers a _ k.servers (died_order fate (c.servers a) (k.servers a)); flights = go fate.loses; read = k.read }
  where
    go : (b : Bool) → AreTickets (if b then lost a c.flights else left_behind a c.flights) c.tickets
    go true = lost_tickets a c.flights c.tickets k.flights
    go false = each_tickets a (λ flight. record flight { present = false }) c.flights c.tickets k.flights
died_kept c a Dead k = k

finished_kept : (c : Core) (by : ℕ) (recovery : Option Recovery) → Kept c → Kept (finished_from c by recovery)
finished_kept c by None k = k
finished_kept c by (Some recovery) k = record {
  servers = put_order rid recovery.dead _ rid_order (same_server (c.servers recovery.dead) _ refl refl refl refl refl (k.servers recovery.dead));
  flights = k.flights;
  read = k.read;
}
  where
    rid : ℕ → Server
    rid = put c.servers by (record (c.servers by) { recovery = None })

    rid_order : (i : ℕ) → IsServerInOrder (rid i)
    rid_order =
        put_order c.servers by (record (c.servers by) { recovery = None }) k.servers
        (let o : IsServerInOrder (c.servers by) = k.servers by in record { cache = o.cache; staying = o.staying; pending = o.pending; under = o.under; recovery = tt })

host_kept : (c : Core) (line : Option Line) → Kept c → Kept (host_answered_line c line)
host_kept c None k = k
host_kept c (Some line) k = record { servers = k.servers; flights = go (is_halt line.what); read = k.read }
  where
    go : (b : Bool) → AreTickets (if b then [] else c.flights) c.tickets
    go true = record { ordered = sorted_none nat_cmp; below = tt }
    go false = k.flights

-- ---- each event

fetch_failed_kept : (c : Core) (a : ℕ) → Kept c → Kept (fetch_failed c a)
fetch_failed_kept c a k = either (is_off (c.servers a).phase) _ _ (one_changed c a _ k (refused_order (c.servers a) (k.servers a))) (failed_kept c a k)

fetch_kept : (c : Core) (a sector : ℕ) (heard : Heard) → Kept c → Kept (after c (Fetch a sector) heard)
fetch_kept c a sector (Got block) k = one_changed c a _ k (fetched_order a (stage c a) sector block (c.servers a) (k.servers a))
fetch_kept c a sector Nothing k = fetch_failed_kept c a k
fetch_kept c a sector GetFailed k = fetch_failed_kept c a k
fetch_kept c a sector Written k = fetch_failed_kept c a k
fetch_kept c a sector Late k = fetch_failed_kept c a k
fetch_kept c a sector (PutFailed new) k = fetch_failed_kept c a k

load_kept : (c : Core) (by slot : ℕ) (heard : Heard) → Kept c → Kept (after c (Load by slot) heard)
load_kept c by slot (Got block) k =
    one_changed c by _ k (rescued_order (c.servers by) _ (λ r o. record { slots = ascend_with slot block r.slots o.slots; looked = o.looked }) (k.servers by))
load_kept c by slot Nothing k = failed_kept c by k
load_kept c by slot GetFailed k = failed_kept c by k
load_kept c by slot Written k = failed_kept c by k
load_kept c by slot Late k = failed_kept c by k
load_kept c by slot (PutFailed new) k = failed_kept c by k

look_kept : (c : Core) (by sector : ℕ) (heard : Heard) → Kept c → Kept (after c (Look by sector) heard)
look_kept c by sector (Got block) k =
    one_changed c by _ k (rescued_order (c.servers by) _ (λ r o. record { slots = o.slots; looked = ascend_with sector _ r.looked o.looked }) (k.servers by))
look_kept c by sector Nothing k = failed_kept c by k
look_kept c by sector GetFailed k = failed_kept c by k
look_kept c by sector Written k = failed_kept c by k
look_kept c by sector Late k = failed_kept c by k
look_kept c by sector (PutFailed new) k = failed_kept c by k

read_kept : (c : Core) (sector : ℕ) (heard : Heard) → Kept c → Kept (after c (Read sector) heard)
read_kept c sector (Got block) k = record { servers = k.servers; flights = k.flights; read = ascend_with sector block c.read k.read }
read_kept c sector Nothing k = failed_kept c host_party k
read_kept c sector GetFailed k = failed_kept c host_party k
read_kept c sector Written k = failed_kept c host_party k
read_kept c sector Late k = failed_kept c host_party k
read_kept c sector (PutFailed new) k = failed_kept c host_party k

ticked_kept : (c : Core) → Kept c → Kept (after c Tick Nothing)
ticked_kept c k = record { servers = λ i. go i ((c.now + 1) % c.setting.flush_ticks == 0); flights = k.flights; read = k.read }
  where
    go : (i : ℕ) (b : Bool) → IsServerInOrder (if b then wanting_all_up (c.servers i) else c.servers i)
    go i true = wanting_up_order (c.servers i) (k.servers i)
    go i false = k.servers i

close_kept : (c : Core) (a : ℕ) → Kept c → Kept (after c (Close a) Nothing)
close_kept c a k =
    either (clean_at c a) _ _
    (record { servers = put_order c.servers a _ k.servers (bare_order _ refl refl refl refl tt); flights = k.flights; read = k.read })
    (one_changed c a _ k (wanting_order (c.servers a) (k.servers a)))

event_kept : (c : Core) (event : Event) (heard : Heard) → Kept c → Kept (after c event heard)
event_kept c (Begin a) heard k = one_changed c a _ k (begun_order (c.servers a) (next_of c a) (k.servers a))
event_kept c (Ask a lock mode) heard k = same_kept c _ refl refl refl refl k
event_kept c (Fetch a sector) heard k = fetch_kept c a sector heard k
event_kept c (Again a) heard k = one_changed c a _ k (again_order c.setting.logs (stage c a) (c.servers a) (stages_in_order c.setting c.locks a (c.servers a) (k.servers a).under) (k.servers a))
event_kept c (Clear a block) heard k = one_changed c a _ k (cleared_order block (c.servers a) (k.servers a))
event_kept c (Commit a) heard k = committed_kept c a (stage c a) k
event_kept c (Answer a) heard k = answered_kept c a (c.servers a).under (due_at c a) k
event_kept c (Give a lock) heard k = given_kept c a lock (asked_for c.locks a lock) k
event_kept c (Issue a sector) heard k = issued_kept c a sector (value_at (writes c a) sector) k
event_kept c (Doom a) heard k = one_changed c a _ k (same_server (c.servers a) _ refl refl refl refl refl (k.servers a))
event_kept c (Resume a) heard k = record { servers = put_order c.servers a _ k.servers (bare_order _ refl refl refl refl (k.servers a).under); flights = k.flights; read = k.read }
event_kept c (Arrive ticket) heard k = arrived_kept c ticket heard (value_at c.flights ticket) k
event_kept c (Lose ticket) heard k = landed_kept c ticket k
event_kept c (Die a) heard k = died_kept c a (c.servers a).phase k
event_kept c (Renew a) heard k =
    record { servers = put_order c.servers a _ k.servers (same_server (c.servers a) _ refl refl refl refl refl (k.servers a)); flights = k.flights; read = k.read }
event_kept c Tick heard k = ticked_kept c k
event_kept c (Recover dead by) heard k =
    record { servers = put_order c.servers by _ k.servers (let o : IsServerInOrder (c.servers by) = k.servers by in record { cache = o.cache; staying = o.staying; pending = o.pending; under = o.under; recovery = record { slots = sorted_none nat_cmp; looked = sorted_none nat_cmp } }); flights = k.flights; read = k.read }
event_kept c (Load by slot) heard k = load_kept c by slot heard k
event_kept c (Look by sector) heard k = look_kept c by sector heard k
event_kept c (Finish by) heard k = finished_kept c by (c.servers by).recovery k
event_kept c (HostLine number) heard k = host_kept c (next_of c host_party) k
event_kept c (Close a) heard k = close_kept c a k
event_kept c (Read sector) heard k = read_kept c sector heard k
event_kept c (Show place) heard k = same_kept c _ refl refl refl refl k
event_kept c End heard k = same_kept c _ refl refl refl refl k

step_kept : (s v : State) → Step s v → Kept s.core → Kept v.core
step_kept s v (Event_ event heard makes) k = event_kept s.core event heard k
step_kept s v (Enter a line can) k = same_kept s.core v.core refl refl refl refl k
step_kept s v (Hold a on may) k = same_kept s.core v.core refl refl refl refl k
step_kept s v (Flush a may) k = one_changed s.core a _ k (wanting_up_order (s.core.servers a) (k.servers a))
step_kept s v (Relock locks going good same wait) k = same_kept s.core v.core refl refl refl refl k
step_kept s v (Note line may) k = k
step_kept s v (Peek sector going) k = k
step_kept s v (PeekFails sector going) k = failed_kept s.core host_party k

first_kept : (setting : Setting) (disk : Sectors) → Kept (first_state setting disk).core
first_kept setting disk = record {
  servers = λ a. bare_order _ refl refl refl refl tt;
  flights = record { ordered = sorted_none nat_cmp; below = tt };
  read = sorted_none nat_cmp;
}

pub order_of_run : (setting : Setting) (disk : Sectors) (s : State) → Run (first_state setting disk) s → IsInOrder s.core
order_of_run setting disk s run =
    let k : Kept s.core = along setting disk (λ v. Kept v.core) (λ v w before step k. step_kept v w step k) (first_kept setting disk) s run in
    record { servers = k.servers; flights = k.flights.ordered; read = k.read }
