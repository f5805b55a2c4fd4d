-- Over every run: how long leases and the writes in flight last. Event by event; a Tick comes only where no lease can be renewed, and no write of a server that is Up, or
-- of the host, is in flight.
use Rattle.std.proofs.Common.{◌≡◌, ℕ, ◌≤◌, ◌<◌, ◌⊎◌, inl, inr, Bool, true, false, ◌&&◌, ◌||◌, ◌==◌, ◌+◌, ◌-◌, ◌%◌, cond, if◌then◌else◌, IsTrue, is_some, List, [], ◌∷◌, Option, Some, None, nat_eq, nat_lt, refl, sym, ap, ◌∙◌, subst, arith}
use Rattle.std.proofs.lemmas.Bool.{false≢true, ltb-false, ltb-true, and_from, eq-eqb, or_parts, or_right, or_left, eqb-true}
use Rattle.std.specs.BTreeMap.{is_at}
use Rattle.std.specs.List.{Contains}
use Rattle.std.specs.Map.{keys_of}
use Rattle.std.specs.Ordering.{nat_cmp}
use Rattle.std.proofs.lemmas.Option.{same_Some, none-some}
use Rattle.std.proofs.Math.Nat.{le_refl}
use Rattle.disk_definitions.proofs.Listed.{Among}
use Rattle.frang_base.specs.Functions.{put}
use Rattle.frang_base.specs.declared.lock.LockId.{LockId}
use Rattle.frang_base.specs.declared.op.Op.{Op}
use Rattle.frang_base.specs.declared.op.Op.TheVariants as op
use Rattle.frang_base.specs.declared.reply.Reply.{Reply}
use Rattle.frang_base.specs.declared.reply.Reply.TheVariants as reply
use Rattle.frang_base.specs.declared.script.Line.{Line}
use Rattle.frang_base.proofs.Tests.{at_itself}
use Rattle.lock_definitions.specs.declared.claim.AskedFor.{AskedFor}
use Rattle.lock_definitions.specs.declared.claim.AskedFor.TheVariants.{Release, Downgrade}
use Rattle.lock_definitions.specs.Calls.{asked_for}
use Rattle.lock_definitions.specs.Lease.{IsInTime, write_stamp_of}
use Rattle.sector_bytes.specs.Blocks.{Block}
use Rattle.sector_bytes.specs.SectorMaps.{value_at, without}
use Rattle.sector_bytes.specs.Sectors.{Sectors}
use Rattle.sector_bytes.proofs.MapLaws.{found}
use Rattle.tree_definitions.specs.Touched.{is_ok, is_unmount}
use Rattle.tree_definitions.specs.Transcript.{is_halt}
use Rattle.core_definitions.specs.Flights.{Flight, Flights, InPlace, OfLog, OfRecovery, Purpose, each_of_server, has_flights, is_of_mount, left_behind, lost}
use Rattle.core_definitions.specs.Lines.{Stage, Asking, Fetching, Moving, Stopping, Growing, Clearing, Finishing, Under, operation_of}
use Rattle.core_definitions.specs.Logs.{is_read}
use Rattle.core_definitions.specs.Plans.{Outcome}
use Rattle.core_definitions.specs.Recoveries.{Recovery}
use Rattle.core_definitions.specs.Scripts.{host_party}
use Rattle.core_definitions.specs.Servers.{Phase, Off, Up, Still, Doomed, Dead, Server, due_if, due_under, is_answering, is_dead, is_off, is_still, is_up, own_answer, own_answer_of, wanting_all, wanting_all_up}
use Rattle.core_definitions.specs.Settings.{LogRules, Setting, lease_to}
use Rattle.core_definitions.specs.Writes.{Write, comes_clean}
use Rattle.core_definitions.specs.Cores.{Core, clean_at, due_at, expiry_of, next_of, stage, writes}
use Rattle.core_definitions.specs.Events.{Event, Begin, Ask, Fetch, Again, Clear, Commit, Answer, Give, Issue, Doom, Resume, Arrive, Lose, Die, Renew, Tick, Recover, Load, Look, Finish, HostLine, Close, Read, Show, End, Heard, Nothing, Got, GetFailed, Written, Late, PutFailed}
use Rattle.core_definitions.specs.LineGuards.{is_server}
use Rattle.core_definitions.specs.WriteGuards.{CanResume, is_flight, is_worker}
use Rattle.core_definitions.specs.Guards.{CanTick, is_by_gone}
use Rattle.core_definitions.specs.LineEffects.{again_by, answered_by, answered_open, answered_under, answered_with, begun_line, begun_with, cached_under, call_failed, committed, committed_at, cover_needed, fetch_failed, fetched_by, flight_after, off_after, purpose_after, slot_read, with_under}
use Rattle.core_definitions.specs.WriteEffects.{acknowledged, arrived_as, arrived_from, clean_now, counted, died_in, flight_of, given_for, issued_as, landed, ring_after, taken_in}
use Rattle.core_definitions.specs.EndEffects.{finished_by, finished_from, host_answered_line}
use Rattle.core_definitions.specs.Effects.{after}
use Rattle.core_definitions.specs.Runs.{State, Step, Event_, Enter, Hold, Flush, Relock, Note, Peek, PeekFails, Run, first_state, Makes}
use Rattle.core_laws.specs.Laws.{AreOnce}
use Rattle.core_laws.proofs.Along.{along}
use Rattle.core_laws.proofs.Flying.{Once, once_of}
use Rattle.core_laws.proofs.Kept.{setting_of_run}
use Rattle.core_laws.proofs.Membership.{contains_in, in_contains, into_map}
use Rattle.core_laws.proofs.Single.{tickets_once}
use Rattle.core_laws.proofs.Ashore.{acknowledged_phase, again_phase, ashore_of_run, begun_phase, clean_lands, fetched_phase, wanting_phase}
use Rattle.core_laws.proofs.FlightLists.{AllFlights, all_changed, all_flights, all_joined, all_landed, all_lost, in_flights}
use Rattle.core_laws.proofs.Memory.{opened, works}
use Rattle.core_laws.proofs.Resting.{server_no_host}

-- what counts of a moment: until when a lease lasts that begins then, and how long before its end a write may last arrive
record Moment : Type 0 where
  until : ℕ
  margin : ℕ

abbrev moment_of : Core → Moment
moment_of c = record { until = lease_to c.setting c.now; margin = c.setting.margin_ticks }

-- ---- the writes in flight

-- a write of the server's present mount may arrive in time to the margin before that, but for one tick
abbrev Lasts : ℕ → Moment → Flight → Type 0
Lasts a now flight = flight.server ≡ a → flight.present ≡ true → now.until ≤ flight.stamp + now.margin + 1

-- and no longer than to the margin before it
abbrev Ends : Moment → Flight → Type 0
Ends now flight = flight.stamp + now.margin ≤ now.until

none_last : (a : ℕ) (now : Moment) (flights : Flights) → has_flights flights a ≡ false → AllFlights (Lasts a now) flights
none_last a now [] h = tt
none_last a now (one ∷ others) h = (here, none_last a now others (or_parts (is_of_mount a one.1) (has_flights others a) h).1)
  where
    here : Lasts a now one.1
    here server present = absurd (false≢true (sym (or_parts (is_of_mount a one.1) (has_flights others a) h).0 ∙ and_from (one.1.server == a) one.1.present (eq-eqb one.1.server a server) present))

-- what changes neither server nor stamp, and makes no write one of the present mount
record IsMild (change : Flight → Flight) : Type 0 where
  server : (f : Flight) → (change f).server ≡ f.server
  stamp : (f : Flight) → (change f).stamp ≡ f.stamp
  present : (f : Flight) → (change f).present ≡ true → f.present ≡ true

moved_mild : (outcome : Outcome) → IsMild (flight_after outcome)
moved_mild outcome = record { server = λ f. server f f.present; stamp = λ f. stamp f f.present; present = λ f. present f f.present refl }
  where
    server : (f : Flight) (b : Bool) → (if b then record f { purpose = purpose_after outcome f.sector f.purpose } else f).server ≡ f.server
    server f true = refl
    server f false = refl

    stamp : (f : Flight) (b : Bool) → (if b then record f { purpose = purpose_after outcome f.sector f.purpose } else f).stamp ≡ f.stamp
    stamp f true = refl
    stamp f false = refl

    present : (f : Flight) (b : Bool) → f.present ≡ b →
        (if b then record f { purpose = purpose_after outcome f.sector f.purpose } else f).present ≡ true → f.present ≡ true
    present f true e h = h
    present f false e h = h

behind_mild : IsMild (λ flight. record flight { present = false })
behind_mild = record { server = λ f. refl; stamp = λ f. refl; present = λ f h. absurd (false≢true h) }

mild_lasts : (change : Flight → Flight) → IsMild change → (a : ℕ) (now : Moment) (f : Flight) → Lasts a now f → Lasts a now (change f)
mild_lasts change mild a now f l server present =
    subst (λ n. now.until ≤ n + now.margin + 1) (sym (mild.stamp f)) (l (sym (mild.server f) ∙ server) (mild.present f present))

mild_ends : (change : Flight → Flight) → IsMild change → (now : Moment) (f : Flight) → Ends now f → Ends now (change f)
mild_ends change mild now f e = subst (λ n. n + now.margin ≤ now.until) (sym (mild.stamp f)) e

-- ---- what the core keeps

record Leased (c : Core) : Type 0 where
  up : (a : ℕ) → IsTrue (is_server a) → IsTrue (is_up (c.servers a).phase) → lease_to c.setting c.now ≤ (c.servers a).expiry + 1
  most : (a : ℕ) → (c.servers a).expiry ≤ lease_to c.setting c.now
  writes : (a : ℕ) → IsTrue (works a (c.servers a)) → AllFlights (Lasts a (moment_of c)) c.flights
  stamps : AllFlights (Ends (moment_of c)) c.flights

-- the writes in flight are of those before
record AreOf (old new : Flights) : Type 0 where
  lasts : (a : ℕ) (now : Moment) → AllFlights (Lasts a now) old → AllFlights (Lasts a now) new
  ends : (now : Moment) → AllFlights (Ends now) old → AllFlights (Ends now) new

same_flights : (flights : Flights) → AreOf flights flights
same_flights flights = record { lasts = λ a now h. h; ends = λ now h. h }

none_left : (flights : Flights) → AreOf flights []
none_left flights = record { lasts = λ a now h. tt; ends = λ now h. tt }

each_are : (server : ℕ) (change : Flight → Flight) → IsMild change → (flights : Flights) → AreOf flights (each_of_server server change flights)
each_are server change mild flights = record {
  lasts = λ a now h. all_changed (Lasts a now) server change (mild_lasts change mild a now) flights h;
  ends = λ now h. all_changed (Ends now) server change (mild_ends change mild now) flights h;
}

lost_are : (server : ℕ) (flights : Flights) → AreOf flights (lost server flights)
lost_are server flights = record { lasts = λ a now h. all_lost (Lasts a now) server flights h; ends = λ now h. all_lost (Ends now) server flights h }

landed_are : (ticket : ℕ) (flights : Flights) → AreOf flights (without flights ticket)
landed_are ticket flights = record { lasts = λ a now h. all_landed (Lasts a now) ticket flights h; ends = λ now h. all_landed (Ends now) ticket flights h }

-- a lease begins now, and nothing of it is in flight
abbrev Begins : ℕ → Moment → Flights → Server → Type 0
Begins a now flights new = (new.expiry ≡ now.until) × AllFlights (Lasts a now) flights

at_least : (until expiry : ℕ) → expiry ≡ until → until ≤ expiry + 1
at_least until expiry e = omega (arith, e)

at_most : (until expiry : ℕ) → expiry ≡ until → expiry ≤ until
at_most until expiry e = omega (arith, e)

outlasts : (setting : Setting) → setting.margin_ticks < setting.lease_ticks
outlasts setting = ltb-true setting.margin_ticks setting.lease_ticks setting.lease_outlasts

worker : (s u h : Bool) → IsTrue ((s && u) || h) → (IsTrue s × IsTrue u) ⊎ IsTrue h
worker true true h w = inl (refl, refl)
worker true false h w = inr w
worker false u h w = inr w

-- each server as before, but for one
module _ (c d : Core) (a : ℕ) (new : Server) (servers : d.servers ≡ put c.servers a new) (now : moment_of d ≡ moment_of c) (are : AreOf c.flights d.flights)
    (most : new.expiry ≤ lease_to c.setting c.now) (own : IsTrue (is_up new.phase) → (IsTrue (is_up (c.servers a).phase) × (new.expiry ≡ (c.servers a).expiry)) ⊎ Begins a (moment_of c) d.flights new)
    (l : Leased c) where
  by_case : (P : ℕ → Server → Type 0) → P a new → ((i : ℕ) → P i (c.servers i)) → (i : ℕ) → P i (d.servers i)
  by_case P here there i = subst (λ f. P i (f i)) (sym servers) (go (nat_eq i a) refl)
    where
      go : (b : Bool) → nat_eq i a ≡ b → P i (if b then new else c.servers i)
      go true e = subst (λ n. P n new) (sym (eqb-true i a e)) here
      go false e = there i

  up_then : IsTrue (is_server a) → (IsTrue (is_up (c.servers a).phase) × (new.expiry ≡ (c.servers a).expiry)) ⊎ Begins a (moment_of c) d.flights new →
      lease_to c.setting c.now ≤ new.expiry + 1
  up_then server (inl stays) = subst (λ n. lease_to c.setting c.now ≤ n + 1) (sym stays.1) (l.up a server stays.0)
  up_then server (inr begins) = at_least (lease_to c.setting c.now) new.expiry begins.0

  own_then : IsTrue (is_server a) → (IsTrue (is_up (c.servers a).phase) × (new.expiry ≡ (c.servers a).expiry)) ⊎ Begins a (moment_of c) d.flights new →
      AllFlights (Lasts a (moment_of c)) d.flights
  own_then server (inl stays) =
      are.lasts a (moment_of c)
      (l.writes a (or_left (is_server a && is_up (c.servers a).phase) (a == host_party) (and_from (is_server a) (is_up (c.servers a).phase) server stays.0)))
  own_then server (inr begins) = begins.1

  works_then : IsTrue (works a new) → AllFlights (Lasts a (moment_of c)) d.flights
  works_then w = go (worker (is_server a) (is_up new.phase) (a == host_party) w)
    where
      go : (IsTrue (is_server a) × IsTrue (is_up new.phase)) ⊎ IsTrue (a == host_party) → AllFlights (Lasts a (moment_of c)) d.flights
      go (inl t) = own_then t.0 (own t.1)
      go (inr h) = are.lasts a (moment_of c) (l.writes a (or_right (is_server a && is_up (c.servers a).phase) (a == host_party) h))

  moved : Leased d
  moved = record {
    up = λ i server t. subst (λ n. n.until ≤ (d.servers i).expiry + 1) (sym now) (by_case (λ i s. IsTrue (is_server i) → IsTrue (is_up s.phase) → lease_to c.setting c.now ≤ s.expiry + 1) (λ server t. up_then server (own t)) l.up i server t);
    most = λ i. subst (λ n. (d.servers i).expiry ≤ n.until) (sym now) (by_case (λ i s. s.expiry ≤ lease_to c.setting c.now) most l.most i);
    writes = λ i w. subst (λ n. AllFlights (Lasts i n) d.flights) (sym now) (by_case (λ i s. IsTrue (works i s) → AllFlights (Lasts i (moment_of c)) d.flights) works_then (λ i w. are.lasts i (moment_of c) (l.writes i w)) i w);
    stamps = subst (λ n. AllFlights (Ends n) d.flights) (sym now) (are.ends (moment_of c) l.stamps);
  }

-- the moment and every server as before
calm : (c d : Core) → moment_of d ≡ moment_of c → ((i : ℕ) → d.servers i ≡ c.servers i) → AreOf c.flights d.flights → Leased c → Leased d
calm c d now same are l = record {
  up = λ i server t. subst (λ n. n.until ≤ (d.servers i).expiry + 1) (sym now)
      (subst (λ s. lease_to c.setting c.now ≤ s.expiry + 1) (sym (same i)) (l.up i server (ap (λ s. is_up s.phase) (sym (same i)) ∙ t)));
  most = λ i. subst (λ n. (d.servers i).expiry ≤ n.until) (sym now) (subst (λ s. s.expiry ≤ lease_to c.setting c.now) (sym (same i)) (l.most i));
  writes = λ i w. subst (λ n. AllFlights (Lasts i n) d.flights) (sym now) (are.lasts i (moment_of c) (l.writes i (ap (works i) (sym (same i)) ∙ w)));
  stamps = subst (λ n. AllFlights (Ends n) d.flights) (sym now) (are.ends (moment_of c) l.stamps);
}

-- one server changes, but neither its phase nor its expiry
steady : (c : Core) (a : ℕ) (new : Server) → new.phase ≡ (c.servers a).phase → new.expiry ≡ (c.servers a).expiry → Leased c →
    Leased (record c { servers = put c.servers a new })
steady c a new p e l =
    moved c (record c { servers = put c.servers a new }) a new refl refl (same_flights c.flights) (subst (λ n. n ≤ lease_to c.setting c.now) (sym e) (l.most a))
    (λ t. inl (ap is_up (sym p) ∙ t, e)) l

either : (test : Bool) (d e : Core) → Leased d → Leased e → Leased (if test then d else e)
either true d e k l = k
either false d e k l = l

-- ---- expiries that stay

begun_expiry : (server : Server) (line : Option Line) → (begun_line server line).expiry ≡ server.expiry
begun_expiry server None = refl
begun_expiry server (Some line) = go (operation_of line.what)
  where
    go : (operation : Option Op) → (begun_with server line operation).expiry ≡ server.expiry
    go None = refl
    go (Some operation) = refl

fetched_expiry : (a : ℕ) (at : Option Stage) (sector : ℕ) (block : Block) (server : Server) → (fetched_by a at sector block server).expiry ≡ server.expiry
fetched_expiry a at sector block server = go (is_off server.phase) (cover_needed at sector)
  where
    go : (b : Bool) (cover : Option LockId) →
        (if b then with_under server (slot_read a sector block) else cached_under server sector block cover).expiry ≡ server.expiry
    go true cover = refl
    go false None = refl
    go false (Some cover) = refl

again_expiry : (logs : LogRules) (at : Option Stage) (server : Server) → (again_by logs at server).expiry ≡ server.expiry
again_expiry logs None server = refl
again_expiry logs (Some (Asking need)) server = refl
again_expiry logs (Some (Fetching needs)) server = refl
again_expiry logs (Some Moving) server = refl
again_expiry logs (Some Stopping) server = refl
again_expiry logs (Some (Growing needs seen)) server = refl
again_expiry logs (Some (Clearing block)) server = refl
again_expiry logs (Some (Finishing outcome)) server = refl

acknowledged_expiry : (sector : ℕ) (block : Block) (purpose : Purpose) (server : Server) → (acknowledged sector block purpose server).expiry ≡ server.expiry
acknowledged_expiry sector block (OfLog number) server = refl
acknowledged_expiry sector block OfRecovery server = refl
acknowledged_expiry sector block (InPlace cover) server = go (comes_clean server sector block)
  where
    go : (b : Bool) → (if b then clean_now sector server else server).expiry ≡ server.expiry
    go true = refl
    go false = refl

wanting_expiry : (server : Server) → (wanting_all_up server).expiry ≡ server.expiry
wanting_expiry server = go (is_up server.phase)
  where
    go : (b : Bool) → (if b then wanting_all server else server).expiry ≡ server.expiry
    go true = refl
    go false = refl

-- ---- effects by cases

failed_leased : (c : Core) (a : ℕ) → Leased c → Leased (call_failed c a)
failed_leased c a l = either (a == host_party) _ _ (calm c _ refl (λ i. refl) (same_flights c.flights) l) (steady c a _ refl refl l)

committed_leased : (c : Core) (a : ℕ) (at : Option Stage) → Leased c → Leased (committed_at c a at)
committed_leased c a None l = l
committed_leased c a (Some (Asking need)) l = l
committed_leased c a (Some (Fetching needs)) l = l
committed_leased c a (Some Moving) l = l
committed_leased c a (Some Stopping) l = l
committed_leased c a (Some (Growing needs seen)) l = l
committed_leased c a (Some (Clearing block)) l = l
committed_leased c a (Some (Finishing outcome)) l =
    moved c (committed c a outcome) a _ refl refl (each_are a (flight_after outcome) (moved_mild outcome) c.flights) (l.most a) (λ t. inl (t, refl)) l

-- a server after an answer: its expiry stays, and it was Up where it is; or its lease begins, and it was Off
abbrev Answered : Moment → Server → Server → Type 0
Answered now old new =
    ((new.expiry ≡ old.expiry) × (IsTrue (is_up new.phase) → IsTrue (is_up old.phase))) ⊎ ((new.expiry ≡ now.until) × IsTrue (is_off old.phase))

module _ (c : Core) (a : ℕ) (under : Under) (server : Server) where
  abbrev done : Op → Reply → Server
  done operation answer = record (answered_open c under server operation answer) { under = None }

  mounted_answer : (off failed read : Bool) (answer : Reply) → is_off server.phase ≡ off →
      (if off then (if failed then Some reply.Io else due_if read reply.Mounted) else None) ≡ Some answer →
      Answered (moment_of c) server (done op.Mount answer)
  mounted_answer false failed read answer o e = absurd (none-some answer e)
  mounted_answer true true read answer o e = subst (λ x. Answered (moment_of c) server (done op.Mount x)) (same_Some reply.Io answer e) (inl (refl, λ t. t))
  mounted_answer true false false answer o e = absurd (none-some answer e)
  mounted_answer true false true answer o e = subst (λ x. Answered (moment_of c) server (done op.Mount x)) (same_Some reply.Mounted answer e) (inr (refl, o))

  open_answer : (operation : Op) (answer : Reply) → own_answer c.setting.logs c.flights a server under operation ≡ Some answer →
      Answered (moment_of c) server (done operation answer)
  open_answer (op.Create path) answer e = absurd (none-some answer e)
  open_answer (op.Mkdir path) answer e = absurd (none-some answer e)
  open_answer (op.Link path to) answer e = absurd (none-some answer e)
  open_answer (op.Symlink path target) answer e = absurd (none-some answer e)
  open_answer (op.Unlink path) answer e = absurd (none-some answer e)
  open_answer (op.Rmdir path) answer e = absurd (none-some answer e)
  open_answer (op.Rename path to) answer e = absurd (none-some answer e)
  open_answer (op.Write path off bytes) answer e = absurd (none-some answer e)
  open_answer (op.Fill path off len byte) answer e = absurd (none-some answer e)
  open_answer (op.Truncate path len) answer e = absurd (none-some answer e)
  open_answer (op.Read path off len) answer e = absurd (none-some answer e)
  open_answer (op.Stat path) answer e = absurd (none-some answer e)
  open_answer (op.List path) answer e = absurd (none-some answer e)
  open_answer (op.Readlink path) answer e = absurd (none-some answer e)
  open_answer (op.Time path) answer e = absurd (none-some answer e)
  open_answer op.Sync answer e = inl (refl, λ t. t)
  open_answer op.Mount answer e = mounted_answer (is_off server.phase) under.get_failed (is_read c.setting.logs under.slots) answer refl e
  open_answer op.Unmount answer e = inl (refl, λ t. absurd (false≢true t))
  open_answer op.Crash answer e = absurd (none-some answer e)
  open_answer (op.CrashAt k) answer e = inl (refl, λ t. t)
  open_answer (op.CutAt k) answer e = inl (refl, λ t. t)
  open_answer op.Stall answer e = inl (refl, λ t. absurd (false≢true t))

  answer_by : (operation : Op) (answer : Reply) → (is_some under.fixed ≡ false → own_answer c.setting.logs c.flights a server under operation ≡ Some answer) →
      Answered (moment_of c) server (answered_by c under server operation answer)
  answer_by operation answer own = go (is_some under.fixed) refl
    where
      fixed : (test : Bool) → Answered (moment_of c) server (record (if test then record server { owes = false } else server) { under = None })
      fixed true = inl (refl, λ t. t)
      fixed false = inl (refl, λ t. t)

      go : (b : Bool) → is_some under.fixed ≡ b →
          Answered (moment_of c) server (record (if b then (if is_unmount operation && is_ok answer then record server { owes = false } else server) else answered_open c under server operation answer) { under = None })
      go true e = fixed (is_unmount operation && is_ok answer)
      go false e = open_answer operation answer (own e)

-- of a server that is Off nothing is in flight
abbrev Rests : Core → ℕ → Type 0
Rests c a = IsTrue (is_off (c.servers a).phase || is_dead (c.servers a).phase) → has_flights c.flights a ≡ false

answered_with_leased : (c : Core) (a : ℕ) (under : Under) (answer : Reply) (operation : Option Op) → Rests c a →
    (is_some under.fixed ≡ false → own_answer_of c.setting.logs c.flights a (c.servers a) under operation ≡ Some answer) → Leased c → Leased (answered_with c a under answer operation)
answered_with_leased c a under answer None rests own l = l
answered_with_leased c a under answer (Some operation) rests own l = go (answer_by c a under (c.servers a) operation answer own)
  where
    new : Server
    new = answered_by c under (c.servers a) operation answer

    go : Answered (moment_of c) (c.servers a) new → Leased (answered_with c a under answer (Some operation))
    go (inl stays) =
        moved c (answered_with c a under answer (Some operation)) a new refl refl (same_flights c.flights) (subst (λ n. n ≤ lease_to c.setting c.now) (sym stays.0) (l.most a))
        (λ t. inl (stays.1 t, stays.0)) l
    go (inr begins) =
        moved c (answered_with c a under answer (Some operation)) a new refl refl (same_flights c.flights) (at_most (lease_to c.setting c.now) new.expiry begins.0)
        (λ t. inr (begins.0, none_last a (moment_of c) c.flights (rests (or_left (is_off (c.servers a).phase) (is_dead (c.servers a).phase) begins.1)))) l

answered_leased : (c : Core) (a : ℕ) (under : Option Under) (answer : Option Reply) → Rests c a → (c.servers a).under ≡ under → due_at c a ≡ answer → Leased c →
    Leased (answered_under c a under answer)
answered_leased c a None None rests u e l = l
answered_leased c a None (Some answer) rests u e l = l
answered_leased c a (Some under) None rests u e l = l
answered_leased c a (Some under) (Some answer) rests u e l =
    answered_with_leased c a under answer (operation_of under.line.what) rests
    (opened (is_answering (c.servers a).phase) under.fixed (own_answer_of c.setting.logs c.flights a (c.servers a) under (operation_of under.line.what)) answer
    (sym (ap (λ o. if is_answering (c.servers a).phase then due_under c.setting.logs c.flights a (c.servers a) o else None) u) ∙ e))
    l

given_leased : (c : Core) (a : ℕ) (lock : LockId) (asked : Option AskedFor) → Leased c → Leased (given_for c a lock asked)
given_leased c a lock None l = l
given_leased c a lock (Some Downgrade) l = calm c _ refl (λ i. refl) (same_flights c.flights) l
given_leased c a lock (Some Release) l = moved c (given_for c a lock (Some Release)) a _ refl refl (same_flights c.flights) (l.most a) (λ t. inl (t, refl)) l

-- a write that is issued has the stamp of its server's lease
module _ (c : Core) (a sector : ℕ) (write : Write) (who : IsTrue (is_worker c a)) (l : Leased c) where
  abbrev later : Core
  later = issued_as c a sector (Some write)

  abbrev put_in_flight : Flight
  put_in_flight = flight_of c a sector write

  same_at : (i : ℕ) → ((later.servers i).phase ≡ (c.servers i).phase) × ((later.servers i).expiry ≡ (c.servers i).expiry)
  same_at i = go (nat_eq i a) refl
    where
      new : Server
      new = record (c.servers a) { ring = ring_after write.purpose (c.servers a).ring; arming = counted (c.servers a).arming }

      go : (b : Bool) → nat_eq i a ≡ b →
          ((if b then new else c.servers i).phase ≡ (c.servers i).phase) × ((if b then new else c.servers i).expiry ≡ (c.servers i).expiry)
      go true e = (ap (λ n. (c.servers n).phase) (sym (eqb-true i a e)), ap (λ n. (c.servers n).expiry) (sym (eqb-true i a e)))
      go false e = (refl, refl)

  expiry_low : lease_to c.setting c.now ≤ expiry_of c a + 1
  expiry_low = go (a == host_party) refl (worker (is_server a) (is_up (c.servers a).phase) (a == host_party) who)
    where
      self : (n : ℕ) → n ≤ n + 1
      self n = omega arith

      go : (h : Bool) → (a == host_party) ≡ h → (IsTrue (is_server a) × IsTrue (is_up (c.servers a).phase)) ⊎ IsTrue (a == host_party) →
          lease_to c.setting c.now ≤ (if h then lease_to c.setting c.now else (c.servers a).expiry) + 1
      go true e w = self (lease_to c.setting c.now)
      go false e (inl t) = l.up a t.0 t.1
      go false e (inr h) = absurd (false≢true (sym e ∙ h))

  expiry_high : expiry_of c a ≤ lease_to c.setting c.now
  expiry_high = go (a == host_party)
    where
      go : (h : Bool) → (if h then lease_to c.setting c.now else (c.servers a).expiry) ≤ lease_to c.setting c.now
      go true = le_refl (lease_to c.setting c.now)
      go false = l.most a

  low : (until margin expiry : ℕ) → until ≤ expiry + 1 → until ≤ expiry - margin + margin + 1
  low until margin expiry h = omega (arith, h)

  high : (now lease margin expiry : ℕ) → margin < lease → expiry ≤ now + lease → expiry - margin + margin ≤ now + lease
  high now lease margin expiry h i = omega (arith, h, i)

  issue_leased : Leased later
  issue_leased = record {
    up = λ i server t. subst (λ n. lease_to c.setting c.now ≤ n + 1) (sym (same_at i).1) (l.up i server (ap is_up (sym (same_at i).0) ∙ t));
    most = λ i. subst (λ n. n ≤ lease_to c.setting c.now) (sym (same_at i).1) (l.most i);
    writes = λ i w. all_joined (Lasts i (moment_of c)) (c.tickets, put_in_flight) c.flights (λ server present. low (lease_to c.setting c.now) c.setting.margin_ticks (expiry_of c a) expiry_low)
        (l.writes i (ap (λ p. (is_server i && is_up p) || i == host_party) (sym (same_at i).0) ∙ w));
    stamps = all_joined (Ends (moment_of c)) (c.tickets, put_in_flight) c.flights (high c.now c.setting.lease_ticks c.setting.margin_ticks (expiry_of c a) (outlasts c.setting) expiry_high) l.stamps;
  }

issued_leased : (c : Core) (a sector : ℕ) (write : Option Write) → IsTrue (is_worker c a) → Leased c → Leased (issued_as c a sector write)
issued_leased c a sector None who l = l
issued_leased c a sector (Some write) who l = issue_leased c a sector write who l

landed_leased : (c : Core) (ticket : ℕ) → Leased c → Leased (landed c ticket)
landed_leased c ticket l = calm c (landed c ticket) refl (λ i. refl) (landed_are ticket c.flights) l

taken_leased : (c : Core) (flight : Flight) → Leased c → Leased (taken_in c flight)
taken_leased c flight l =
    either flight.present _ _
    (steady c flight.server _ (acknowledged_phase flight.sector flight.block flight.purpose (c.servers flight.server))
    (acknowledged_expiry flight.sector flight.block flight.purpose (c.servers flight.server)) l)
    l

arrived_as_leased : (c : Core) (flight : Flight) (heard : Heard) → Leased c → Leased (arrived_as c flight heard)
arrived_as_leased c flight Nothing l = l
arrived_as_leased c flight (Got block) l = l
arrived_as_leased c flight GetFailed l = l
arrived_as_leased c flight Written l = taken_leased c flight l
arrived_as_leased c flight Late l = l
arrived_as_leased c flight (PutFailed new) l = failed_leased c flight.server l

arrived_leased : (c : Core) (ticket : ℕ) (heard : Heard) (flight : Option Flight) → Leased c → Leased (arrived_from c ticket heard flight)
arrived_leased c ticket heard None l = l
arrived_leased c ticket heard (Some flight) l = arrived_as_leased (landed c ticket) flight heard (landed_leased c ticket l)

died_leased : (c : Core) (a : ℕ) (phase : Phase) → Leased c → Leased (died_in c a phase)
died_leased c a Off l = l
died_leased c a Up l = l
died_leased c a Still l = l
died_leased c a (Doomed fate) l = moved c (died_in c a (Doomed fate)) a _ refl refl (go fate.loses) (l.most a) (λ t. absurd (false≢true t)) l
  where
    go : (b : Bool) → AreOf c.flights (if b then lost a c.flights else left_behind a c.flights)
    go true = lost_are a c.flights
    go false = each_are a (λ flight. record flight { present = false }) behind_mild c.flights
died_leased c a Dead l = l

resumed_leased : (c : Core) (a : ℕ) → CanResume c a → Leased c → Leased (after c (Resume a) Nothing)
resumed_leased c a can l =
    moved c (after c (Resume a) Nothing) a _ refl refl (same_flights c.flights) (at_most (lease_to c.setting c.now) (lease_to c.setting c.now) refl)
    (λ t. inr (refl, none_last a (moment_of c) c.flights (clean_lands c.flights a (c.servers a) can.clean))) l

renewed_leased : (c : Core) (a : ℕ) → IsTrue (is_server a) → IsTrue (is_up (c.servers a).phase) → Leased c → Leased (after c (Renew a) Nothing)
renewed_leased c a server up l =
    moved c (after c (Renew a) Nothing) a _ refl refl (same_flights c.flights) (at_most (lease_to c.setting c.now) (lease_to c.setting c.now) refl)
    (λ t. inr (refl, l.writes a (or_left (is_server a && is_up (c.servers a).phase) (a == host_party) (and_from (is_server a) (is_up (c.servers a).phase) server up)))) l

finished_leased : (c : Core) (by : ℕ) (recovery : Option Recovery) → Leased c → Leased (finished_from c by recovery)
finished_leased c by None l = l
finished_leased c by (Some recovery) l =
    moved rid (finished_by c by recovery.dead) recovery.dead _ refl refl (same_flights c.flights) (l.most recovery.dead) (λ t. absurd (false≢true t))
    (steady c by (record (c.servers by) { recovery = None }) refl refl l)
  where
    rid : Core
    rid = record c { servers = put c.servers by (record (c.servers by) { recovery = None }) }

host_leased : (c : Core) (line : Option Line) → Leased c → Leased (host_answered_line c line)
host_leased c None l = l
host_leased c (Some line) l = calm c (host_answered_line c (Some line)) refl (λ i. refl) (go (is_halt line.what)) l
  where
    go : (b : Bool) → AreOf c.flights (if b then [] else c.flights)
    go true = none_left c.flights
    go false = same_flights c.flights

-- ---- a Tick

found_there : (flights : Flights) → Once (keys_of flights) → (one : ℕ × Flight) → Among one flights → value_at flights one.0 ≡ Some one.1
found_there [] o one i = absurd i
found_there (x ∷ xs) o one i = go (is_at (nat_cmp one.0) x.0) refl i (found_there xs o.1 one)
  where
    go : (b : Bool) → is_at (nat_cmp one.0) x.0 ≡ b → Among one (x ∷ xs) → (Among one xs → value_at xs one.0 ≡ Some one.1) →
        cond b (Some x.1) (value_at xs one.0) ≡ Some one.1
    go true e (inl same) rest = ap (λ z. Some z.1) (sym same)
    go true e (inr j) rest = absurd (o.0 (subst (λ n. Among n (keys_of xs)) (sym (found one.0 x.0 e)) (into_map (λ z. z.0) xs one j)))
    go false e (inl same) rest = absurd (false≢true (sym e ∙ ap (λ z. is_at (nat_cmp one.0) z.0) (sym same) ∙ at_itself one.0))
    go false e (inr j) rest = rest j

module _ (c : Core) (can : CanTick c) (once : Once (keys_of c.flights)) (l : Leased c) where
  -- a lease that could be renewed would be
  renewed_first : (a : ℕ) → IsTrue (is_server a) → IsTrue (is_up (c.servers a).phase) → lease_to c.setting c.now ≤ (c.servers a).expiry
  renewed_first a server up = go (nat_lt (c.servers a).expiry (lease_to c.setting c.now)) refl
    where
      go : (b : Bool) → nat_lt (c.servers a).expiry (lease_to c.setting c.now) ≡ b → lease_to c.setting c.now ≤ (c.servers a).expiry
      go true e = absurd (false≢true (can.quiet (Renew a) (record { server = server; up = up; less = e })))
      go false e = ltb-false (c.servers a).expiry (lease_to c.setting c.now) e

  -- a write that could arrive would, but for those of who is Still or Dead
  gone : (one : ℕ × Flight) → Among one c.flights → IsTrue (is_by_gone c one.1)
  gone one i =
      subst (λ f. IsTrue (is_flight (is_by_gone c) f)) at
      (can.quiet (Arrive one.0) (record { flying = ap is_some at }))
    where
      at : value_at c.flights one.0 ≡ Some one.1
      at = found_there c.flights once one i

  works_not : (phase : Phase) (s h : Bool) → IsTrue (s && (is_still phase || is_dead phase)) → (s ≡ true → h ≡ false) → IsTrue ((s && is_up phase) || h) → ⊥
  works_not phase false h g away w = false≢true g
  works_not Off true h g away w = false≢true g
  works_not Up true h g away w = false≢true g
  works_not Still true h g away w = false≢true (sym (away refl) ∙ w)
  works_not (Doomed fate) true h g away w = false≢true g
  works_not Dead true h g away w = false≢true (sym (away refl) ∙ w)

  none_of : (a : ℕ) → IsTrue (works a (c.servers a)) → (one : ℕ × Flight) → Among one c.flights → Lasts a (moment_of (after c Tick Nothing)) one.1
  none_of a w one i server present =
      absurd
      (works_not (c.servers a).phase (is_server a) (a == host_party)
      (subst (λ n. IsTrue (is_server n && (is_still (c.servers n).phase || is_dead (c.servers n).phase))) server (gone one i)) (server_no_host a) w)

  flushed_same : (i : ℕ) → (((after c Tick Nothing).servers i).phase ≡ (c.servers i).phase) × (((after c Tick Nothing).servers i).expiry ≡ (c.servers i).expiry)
  flushed_same i = go ((c.now + 1) % c.setting.flush_ticks == 0)
    where
      go : (b : Bool) → ((if b then wanting_all_up (c.servers i) else c.servers i).phase ≡ (c.servers i).phase) ×
          ((if b then wanting_all_up (c.servers i) else c.servers i).expiry ≡ (c.servers i).expiry)
      go true = (wanting_phase (c.servers i), wanting_expiry (c.servers i))
      go false = (refl, refl)

  ticked_leased : Leased (after c Tick Nothing)
  ticked_leased = record {
    up = λ i server t. later c.now c.setting.lease_ticks _ (subst (λ n. lease_to c.setting c.now ≤ n) (sym (flushed_same i).1) (renewed_first i server (ap is_up (sym (flushed_same i).0) ∙ t)));
    most = λ i. further c.now c.setting.lease_ticks _ (subst (λ n. n ≤ lease_to c.setting c.now) (sym (flushed_same i).1) (l.most i));
    writes = λ i w. all_flights (Lasts i (moment_of (after c Tick Nothing))) c.flights (none_of i (ap (λ p. (is_server i && is_up p) || i == host_party) (sym (flushed_same i).0) ∙ w));
    stamps = all_flights (Ends (moment_of (after c Tick Nothing))) c.flights (λ one i. further c.now c.setting.lease_ticks (one.1.stamp + c.setting.margin_ticks) (in_flights (Ends (moment_of c)) c.flights one i l.stamps));
  }
    where
      later : (now lease expiry : ℕ) → now + lease ≤ expiry → now + 1 + lease ≤ expiry + 1
      later now lease expiry h = omega (arith, h)

      further : (now lease n : ℕ) → n ≤ now + lease → n ≤ now + 1 + lease
      further now lease n h = omega (arith, h)

-- ---- each event

fetch_failed_leased : (c : Core) (a : ℕ) → Leased c → Leased (fetch_failed c a)
fetch_failed_leased c a l = either (is_off (c.servers a).phase) _ _ (steady c a _ refl refl l) (failed_leased c a l)

fetch_leased : (c : Core) (a sector : ℕ) (heard : Heard) → Leased c → Leased (after c (Fetch a sector) heard)
fetch_leased c a sector (Got block) l = steady c a _ (fetched_phase a (stage c a) sector block (c.servers a)) (fetched_expiry a (stage c a) sector block (c.servers a)) l
fetch_leased c a sector Nothing l = fetch_failed_leased c a l
fetch_leased c a sector GetFailed l = fetch_failed_leased c a l
fetch_leased c a sector Written l = fetch_failed_leased c a l
fetch_leased c a sector Late l = fetch_failed_leased c a l
fetch_leased c a sector (PutFailed new) l = fetch_failed_leased c a l

load_leased : (c : Core) (by slot : ℕ) (heard : Heard) → Leased c → Leased (after c (Load by slot) heard)
load_leased c by slot (Got block) l = steady c by _ refl refl l
load_leased c by slot Nothing l = failed_leased c by l
load_leased c by slot GetFailed l = failed_leased c by l
load_leased c by slot Written l = failed_leased c by l
load_leased c by slot Late l = failed_leased c by l
load_leased c by slot (PutFailed new) l = failed_leased c by l

look_leased : (c : Core) (by sector : ℕ) (heard : Heard) → Leased c → Leased (after c (Look by sector) heard)
look_leased c by sector (Got block) l = steady c by _ refl refl l
look_leased c by sector Nothing l = failed_leased c by l
look_leased c by sector GetFailed l = failed_leased c by l
look_leased c by sector Written l = failed_leased c by l
look_leased c by sector Late l = failed_leased c by l
look_leased c by sector (PutFailed new) l = failed_leased c by l

read_leased : (c : Core) (sector : ℕ) (heard : Heard) → Leased c → Leased (after c (Read sector) heard)
read_leased c sector (Got block) l = calm c _ refl (λ i. refl) (same_flights c.flights) l
read_leased c sector Nothing l = failed_leased c host_party l
read_leased c sector GetFailed l = failed_leased c host_party l
read_leased c sector Written l = failed_leased c host_party l
read_leased c sector Late l = failed_leased c host_party l
read_leased c sector (PutFailed new) l = failed_leased c host_party l

close_leased : (c : Core) (a : ℕ) → Leased c → Leased (after c (Close a) Nothing)
close_leased c a l =
    either (clean_at c a) _ _ (moved c _ a (off_after (c.servers a)) refl refl (same_flights c.flights) (l.most a) (λ t. absurd (false≢true t)) l)
    (steady c a (wanting_all (c.servers a)) refl refl l)

-- what is known of the state before an event
record Known (c : Core) : Type 0 where
  rests : (a : ℕ) → IsTrue (is_server a) → Rests c a
  once : Once (keys_of c.flights)

event_leased : (s : State) (event : Event) (heard : Heard) → Makes s event heard → Known s.core → Leased s.core → Leased (after s.core event heard)
event_leased s (Begin a) heard m k l = steady s.core a _ (begun_phase (s.core.servers a) (next_of s.core a)) (begun_expiry (s.core.servers a) (next_of s.core a)) l
event_leased s (Ask a lock mode) heard m k l = calm s.core _ refl (λ i. refl) (same_flights s.core.flights) l
event_leased s (Fetch a sector) heard m k l = fetch_leased s.core a sector heard l
event_leased s (Again a) heard m k l = steady s.core a _ (again_phase s.core.setting.logs (stage s.core a) (s.core.servers a)) (again_expiry s.core.setting.logs (stage s.core a) (s.core.servers a)) l
event_leased s (Clear a block) heard m k l = steady s.core a _ refl refl l
event_leased s (Commit a) heard m k l = committed_leased s.core a (stage s.core a) l
event_leased s (Answer a) heard m k l = answered_leased s.core a (s.core.servers a).under (due_at s.core a) (k.rests a m.can.can.server) refl refl l
event_leased s (Give a lock) heard m k l = given_leased s.core a lock (asked_for s.core.locks a lock) l
event_leased s (Issue a sector) heard m k l = issued_leased s.core a sector (value_at (writes s.core a) sector) m.can.can.issuable.who l
event_leased s (Doom a) heard m k l = moved s.core (after s.core (Doom a) heard) a _ refl refl (same_flights s.core.flights) (l.most a) (λ t. absurd (false≢true t)) l
event_leased s (Resume a) heard m k l = resumed_leased s.core a m.can.can l
event_leased s (Arrive ticket) heard m k l = arrived_leased s.core ticket heard (value_at s.core.flights ticket) l
event_leased s (Lose ticket) heard m k l = landed_leased s.core ticket l
event_leased s (Die a) heard m k l = died_leased s.core a (s.core.servers a).phase l
event_leased s (Renew a) heard m k l = renewed_leased s.core a m.can.can.server m.can.can.up l
event_leased s Tick heard m k l = ticked_leased s.core m.can.can k.once l
event_leased s (Recover dead by) heard m k l = moved s.core (after s.core (Recover dead by) heard) by _ refl refl (same_flights s.core.flights) (l.most by) (λ t. inl (t, refl)) l
event_leased s (Load by slot) heard m k l = load_leased s.core by slot heard l
event_leased s (Look by sector) heard m k l = look_leased s.core by sector heard l
event_leased s (Finish by) heard m k l = finished_leased s.core by (s.core.servers by).recovery l
event_leased s (HostLine number) heard m k l = host_leased s.core (next_of s.core host_party) l
event_leased s (Close a) heard m k l = close_leased s.core a l
event_leased s (Read sector) heard m k l = read_leased s.core sector heard l
event_leased s (Show place) heard m k l = calm s.core _ refl (λ i. refl) (same_flights s.core.flights) l
event_leased s End heard m k l = calm s.core _ refl (λ i. refl) (same_flights s.core.flights) l

step_leased : (s v : State) → Step s v → Known s.core → Leased s.core → Leased v.core
step_leased s v (Event_ event heard makes) k l = event_leased s event heard makes k l
step_leased s v (Enter a line can) k l = calm s.core v.core refl (λ i. refl) (same_flights s.core.flights) l
step_leased s v (Hold a on may) k l = calm s.core v.core refl (λ i. refl) (same_flights s.core.flights) l
step_leased s v (Flush a may) k l = steady s.core a _ (wanting_phase (s.core.servers a)) (wanting_expiry (s.core.servers a)) l
step_leased s v (Relock locks going are same wait) k l = calm s.core v.core refl (λ i. refl) (same_flights s.core.flights) l
step_leased s v (Note line may) k l = l
step_leased s v (Peek sector going) k l = l
step_leased s v (PeekFails sector going) k l = failed_leased s.core host_party l

leased_of_run : (setting : Setting) (disk : Sectors) (s : State) → Run (first_state setting disk) s → Leased s.core
leased_of_run setting disk =
    along setting disk (λ s. Leased s.core)
    (λ s v run step l. step_leased s v step (record { rests = ashore_of_run setting disk s run; once = once_of (keys_of s.core.flights) (tickets_once setting disk s run) }) l)
    (record { up = λ a server t. absurd (false≢true t); most = λ a. none setting.lease_ticks; writes = λ a w. tt; stamps = tt })
  where
    none : (n : ℕ) → 0 ≤ 0 + n
    none n = omega arith

-- ---- in the words of the laws

module _ (setting : Setting) (disk : Sectors) (s : State) (run : Run (first_state setting disk) s) where
  leased : Leased s.core
  leased = leased_of_run setting disk s run

  same : s.core.setting ≡ setting
  same = setting_of_run setting disk s run

  pub expiry_lasts : (a : ℕ) → IsTrue (is_server a) → IsTrue (is_up (s.core.servers a).phase) → lease_to setting s.core.now ≤ (s.core.servers a).expiry + 1
  expiry_lasts a server up = subst (λ t. lease_to t s.core.now ≤ (s.core.servers a).expiry + 1) same (leased.up a server up)

  pub expiry_ends : (a : ℕ) → (s.core.servers a).expiry ≤ lease_to setting s.core.now
  expiry_ends a = subst (λ t. (s.core.servers a).expiry ≤ lease_to t s.core.now) same (leased.most a)

  pub stamp_lasts : (one : ℕ × Flight) → Contains s.core.flights one → one.1.present ≡ true → IsTrue (is_worker s.core one.1.server) →
      lease_to setting s.core.now ≤ one.1.stamp + setting.margin_ticks + 1
  stamp_lasts one there present who =
      subst (λ t. lease_to t s.core.now ≤ one.1.stamp + t.margin_ticks + 1) same
      (in_flights (Lasts one.1.server (moment_of s.core)) s.core.flights one (contains_in s.core.flights one there) (leased.writes one.1.server who) refl present)

  pub stamp_in_time : (one : ℕ × Flight) → Contains s.core.flights one → one.1.present ≡ true → IsTrue (is_worker s.core one.1.server) →
      IsInTime one.1.stamp s.core.now
  stamp_in_time one there present who = early s.core.now setting.lease_ticks setting.margin_ticks one.1.stamp (outlasts setting) (stamp_lasts one there present who)
    where
      early : (now lease margin stamp : ℕ) → margin < lease → now + lease ≤ stamp + margin + 1 → now ≤ stamp
      early now lease margin stamp h i = omega (arith, h, i)

  pub stamp_ends : (one : ℕ × Flight) → Contains s.core.flights one → one.1.stamp ≤ write_stamp_of setting.margin_ticks (lease_to setting s.core.now)
  stamp_ends one there =
      subst (λ t. one.1.stamp ≤ write_stamp_of t.margin_ticks (lease_to t s.core.now)) same
      (most (lease_to s.core.setting s.core.now) s.core.setting.margin_ticks one.1.stamp (in_flights (Ends (moment_of s.core)) s.core.flights one (contains_in s.core.flights one there) leased.stamps))
    where
      most : (until margin stamp : ℕ) → stamp + margin ≤ until → stamp ≤ until - margin
      most until margin stamp h = omega (arith, h)
