-- Over every run: of a server that is Off or Dead no write of its present mount is in flight. Event by event.
use Rattle.std.proofs.Common.{◌≡◌, ℕ, ◌⊎◌, inl, inr, Bool, true, false, not, ◌&&◌, ◌||◌, ◌==◌, if◌then◌else◌, cond, IsTrue, is_some, [], ◌∷◌, ◌++◌, ◌+◌, ◌%◌, Option, Some, None, nat_eq, refl, sym, ap, ◌∙◌, subst, arith}
use Rattle.std.proofs.lemmas.Bool.{false≢true, and_parts, or_parts, or_from, or_right, both_ways, eqb-true}
use Rattle.std.proofs.lemmas.Bool.Decides.{nat_tests}
use Rattle.std.specs.BTreeMap.{is_at}
use Rattle.std.specs.Map.{remove_entry}
use Rattle.std.specs.Ordering.{nat_cmp}
use Rattle.std.proofs.lemmas.Option.{same_Some, none-some}
use mathlib.Core.Bool.{and-false}
use Rattle.frang_base.specs.Functions.{put}
use Rattle.frang_base.specs.declared.lock.LockId.{LockId}
use Rattle.frang_base.specs.declared.op.Op.{Op}
use Rattle.frang_base.specs.declared.op.Op.TheVariants as op
use Rattle.frang_base.specs.declared.reply.Reply.{Reply}
use Rattle.frang_base.specs.declared.reply.Reply.TheVariants as reply
use Rattle.frang_base.specs.declared.script.Line.{Line}
use Rattle.lock_definitions.specs.declared.claim.AskedFor.{AskedFor}
use Rattle.lock_definitions.specs.declared.claim.AskedFor.TheVariants.{Release, Downgrade}
use Rattle.lock_definitions.specs.Calls.{asked_for, cleared}
use Rattle.sector_bytes.specs.Blocks.{Block}
use Rattle.sector_bytes.specs.SectorMaps.{value_at, without}
use Rattle.sector_bytes.specs.Sectors.{Sectors}
use Rattle.tree_definitions.specs.Touched.{is_ok, is_unmount}
use Rattle.tree_definitions.specs.Transcript.{is_halt}
use Rattle.cache_definitions.specs.Caches.{any_cached, is_dirty}
use Rattle.core_definitions.specs.Flights.{Flight, Flights, InPlace, OfLog, OfRecovery, Purpose, each_of_server, has_flights, is_of_mount, left_behind, lost}
use Rattle.core_definitions.specs.Lines.{Stage, Asking, Fetching, Moving, Stopping, Growing, Clearing, Finishing, Under, operation_of}
use Rattle.core_definitions.specs.Logs.{is_read}
use Rattle.core_definitions.specs.Plans.{Outcome}
use Rattle.core_definitions.specs.Recoveries.{Recovery}
use Rattle.core_definitions.specs.Rings.{is_all_reached}
use Rattle.core_definitions.specs.Scripts.{host_party}
use Rattle.core_definitions.specs.Servers.{Doomed, Phase, Off, Up, Still, Dead, Server, due_if, due_under, is_answering, is_clean, is_dead, is_off, is_up, own_answer, own_answer_of, wanting_all, wanting_all_up}
use Rattle.core_definitions.specs.Settings.{LogRules, Setting}
use Rattle.core_definitions.specs.Writes.{Write, comes_clean}
use Rattle.core_definitions.specs.Cores.{Core, clean_at, due_at, next_of, stage, with_server, writes}
use Rattle.core_definitions.specs.Events.{Event, Begin, Ask, Fetch, Again, Clear, Commit, Answer, Give, Issue, Doom, Resume, Arrive, Lose, Die, Renew, Tick, Recover, Load, Look, Finish, HostLine, Close, Read, Show, End, Heard, Nothing, Got, GetFailed, Written, Late, PutFailed}
use Rattle.core_definitions.specs.LineGuards.{is_server}
use Rattle.core_definitions.specs.WriteGuards.{is_worker}
use Rattle.core_definitions.specs.LineEffects.{again_by, answered_by, answered_open, answered_under, answered_with, begun_line, begun_with, call_failed, committed, committed_at, fetch_failed, fetched_by, cached_under, cover_needed, slot_read, with_under, flight_after, off_after, purpose_after}
use Rattle.core_definitions.specs.WriteEffects.{acknowledged, arrived_as, arrived_from, clean_now, died_in, flight_of, given_for, issued_as, landed, taken_in}
use Rattle.core_definitions.specs.EndEffects.{finished_from, host_answered_line}
use Rattle.core_definitions.specs.Effects.{after}
use Rattle.core_definitions.specs.Runs.{State, Step, Event_, Enter, Hold, Flush, Relock, Note, Peek, PeekFails, Run, Stays, Goes, first_state, Makes}
use Rattle.core_laws.proofs.Memory.{Good, dead_of, given_due, is_resting, opened, up_rests_not}
use Rattle.core_laws.proofs.Resting.{first_good, server_no_host, step_good}

-- ---- lists of writes

pub none_landed : (ticket i : ℕ) (fs : Flights) → has_flights fs i ≡ false → has_flights (without fs ticket) i ≡ false
none_landed ticket i [] h = h
none_landed ticket i (x ∷ xs) h = go (is_at (nat_cmp ticket) x.0) (none_landed ticket i xs (or_parts (is_of_mount i x.1) (has_flights xs i) h).1)
  where
    here : is_of_mount i x.1 ≡ false
    here = (or_parts (is_of_mount i x.1) (has_flights xs i) h).0

    there : has_flights xs i ≡ false
    there = (or_parts (is_of_mount i x.1) (has_flights xs i) h).1

    go : (b : Bool) → has_flights (without xs ticket) i ≡ false → has_flights (cond b xs (x ∷ remove_entry (is_at (nat_cmp ticket)) xs)) i ≡ false
    go true rest = there
    go false rest = or_from (is_of_mount i x.1) (has_flights (without xs ticket) i) here rest

pub none_changed : (a i : ℕ) (change : Flight → Flight) → ((f : Flight) → is_of_mount i f ≡ false → is_of_mount i (change f) ≡ false) → (fs : Flights) → has_flights fs i ≡ false →
    has_flights (each_of_server a change fs) i ≡ false
none_changed a i change keeps [] h = h
none_changed a i change keeps (x ∷ xs) h =
    or_from _ (has_flights (each_of_server a change xs) i) (go (x.1.server == a)) (none_changed a i change keeps xs (or_parts (is_of_mount i x.1) (has_flights xs i) h).1)
  where
    go : (b : Bool) → is_of_mount i (if b then (x.0, change x.1) else x).1 ≡ false
    go true = keeps x.1 (or_parts (is_of_mount i x.1) (has_flights xs i) h).0
    go false = (or_parts (is_of_mount i x.1) (has_flights xs i) h).0

pub none_moved : (i : ℕ) (outcome : Outcome) (f : Flight) → is_of_mount i f ≡ false → is_of_mount i (flight_after outcome f) ≡ false
none_moved i outcome f h = go f.present refl
  where
    go : (b : Bool) → f.present ≡ b → is_of_mount i (if b then record f { purpose = purpose_after outcome f.sector f.purpose } else f) ≡ false
    go true e = h
    go false e = h

-- a server's own writes are all of an earlier mount
pub none_left_behind : (a : ℕ) (fs : Flights) → has_flights (left_behind a fs) a ≡ false
none_left_behind a [] = refl
none_left_behind a (x ∷ xs) = or_from _ (has_flights (left_behind a xs) a) (go (x.1.server == a) refl) (none_left_behind a xs)
  where
    go : (b : Bool) → (x.1.server == a) ≡ b → is_of_mount a (if b then (x.0, record x.1 { present = false }) else x).1 ≡ false
    go true e = and-false (x.1.server == a)
    go false e = ap (λ t. t && x.1.present) e

pub stays_behind : (i : ℕ) (f : Flight) → is_of_mount i f ≡ false → is_of_mount i (record f { present = false }) ≡ false
stays_behind i f h = and-false (f.server == i)

-- or gone
pub none_lost : (a : ℕ) (fs : Flights) → has_flights (lost a fs) a ≡ false
none_lost a [] = refl
none_lost a (x ∷ xs) = go (x.1.server == a) refl (none_lost a xs)
  where
    go : (b : Bool) → (x.1.server == a) ≡ b → has_flights (lost a xs) a ≡ false → has_flights (cond (not b) (x ∷ lost a xs) (lost a xs)) a ≡ false
    go true e rest = rest
    go false e rest = or_from (is_of_mount a x.1) (has_flights (lost a xs) a) (ap (λ t. t && x.1.present) e) rest

pub fewer_lost : (a i : ℕ) (fs : Flights) → has_flights fs i ≡ false → has_flights (lost a fs) i ≡ false
fewer_lost a i [] h = h
fewer_lost a i (x ∷ xs) h = go (x.1.server == a) (fewer_lost a i xs (or_parts (is_of_mount i x.1) (has_flights xs i) h).1)
  where
    go : (b : Bool) → has_flights (lost a xs) i ≡ false → has_flights (cond (not b) (x ∷ lost a xs) (lost a xs)) i ≡ false
    go true rest = rest
    go false rest = or_from (is_of_mount i x.1) (has_flights (lost a xs) i) (or_parts (is_of_mount i x.1) (has_flights xs i) h).0 rest

-- one more, of another server
pub none_joined : (i t : ℕ) (f : Flight) (fs : Flights) → (f.server == i) ≡ false → has_flights fs i ≡ false → has_flights (fs ++ (t, f) ∷ []) i ≡ false
none_joined i t f [] away h = or_from (is_of_mount i f) false (ap (λ b. b && f.present) away) refl
none_joined i t f (x ∷ xs) away h =
    or_from (is_of_mount i x.1) (has_flights (xs ++ (t, f) ∷ []) i) (or_parts (is_of_mount i x.1) (has_flights xs i) h).0
    (none_joined i t f xs away (or_parts (is_of_mount i x.1) (has_flights xs i) h).1)

-- ---- what the core keeps

abbrev pub Ashore : Core → Type 0
Ashore c = (i : ℕ) → (i == host_party) ≡ false → IsTrue (is_resting (c.servers i).phase) → has_flights c.flights i ≡ false

-- each server's phase is as before, and no write of a server that had none is new
calm : (c d : Core) → ((i : ℕ) → (d.servers i).phase ≡ (c.servers i).phase) → ((i : ℕ) → has_flights c.flights i ≡ false → has_flights d.flights i ≡ false) → Ashore c → Ashore d
calm c d same fewer g i away t = fewer i (g i away (ap is_resting (sym (same i)) ∙ t))

-- one server changes
changed : (c d : Core) (a : ℕ) (new : Server) → d.servers ≡ put c.servers a new → ((i : ℕ) → has_flights c.flights i ≡ false → has_flights d.flights i ≡ false) →
    (IsTrue (is_resting new.phase) → IsTrue (is_resting (c.servers a).phase) ⊎ (has_flights d.flights a ≡ false)) → Ashore c → Ashore d
changed c d a new e fewer rests g i away t = go (nat_eq i a) refl (subst (λ f. IsTrue (is_resting (f i).phase)) e t)
  where
    at_it : IsTrue (is_resting (c.servers a).phase) ⊎ (has_flights d.flights a ≡ false) → (a == host_party) ≡ false → has_flights d.flights a ≡ false
    at_it (inl t) off = fewer a (g a off t)
    at_it (inr h) off = h

    go : (b : Bool) → nat_eq i a ≡ b → IsTrue (is_resting (if b then new else c.servers i).phase) → has_flights d.flights i ≡ false
    go true f t =
        subst (λ k. has_flights d.flights k ≡ false) (sym (eqb-true i a f)) (at_it (rests t) (subst (λ k. (k == host_party) ≡ false) (eqb-true i a f) away))
    go false f t = fewer i (g i away t)

-- its phase stays, and the writes too
steady : (c : Core) (a : ℕ) (new : Server) → new.phase ≡ (c.servers a).phase → Ashore c → Ashore (record c { servers = put c.servers a new })
steady c a new p g = changed c (record c { servers = put c.servers a new }) a new refl (λ i h. h) (λ t. inl (ap is_resting (sym p) ∙ t)) g

-- ---- phases that stay

pub begun_phase : (server : Server) (line : Option Line) → (begun_line server line).phase ≡ server.phase
begun_phase server None = refl
begun_phase server (Some line) = go (operation_of line.what)
  where
    go : (operation : Option Op) → (begun_with server line operation).phase ≡ server.phase
    go None = refl
    go (Some operation) = refl

pub fetched_phase : (a : ℕ) (at : Option Stage) (sector : ℕ) (block : Block) (server : Server) → (fetched_by a at sector block server).phase ≡ server.phase
fetched_phase a at sector block server = go (is_off server.phase) (cover_needed at sector)
  where
    go : (b : Bool) (cover : Option LockId) → (if b then with_under server (slot_read a sector block) else cached_under server sector block cover).phase ≡ server.phase
    go true cover = refl
    go false None = refl
    go false (Some cover) = refl

pub again_phase : (logs : LogRules) (at : Option Stage) (server : Server) → (again_by logs at server).phase ≡ server.phase
again_phase logs None server = refl
again_phase logs (Some (Asking need)) server = refl
again_phase logs (Some (Fetching needs)) server = refl
again_phase logs (Some Moving) server = refl
again_phase logs (Some Stopping) server = refl
again_phase logs (Some (Growing needs seen)) server = refl
again_phase logs (Some (Clearing block)) server = refl
again_phase logs (Some (Finishing outcome)) server = refl

pub acknowledged_phase : (sector : ℕ) (block : Block) (purpose : Purpose) (server : Server) → (acknowledged sector block purpose server).phase ≡ server.phase
acknowledged_phase sector block (OfLog number) server = refl
acknowledged_phase sector block OfRecovery server = refl
acknowledged_phase sector block (InPlace cover) server = go (comes_clean server sector block)
  where
    go : (b : Bool) → (if b then clean_now sector server else server).phase ≡ server.phase
    go true = refl
    go false = refl

pub wanting_phase : (server : Server) → (wanting_all_up server).phase ≡ server.phase
wanting_phase server = go (is_up server.phase)
  where
    go : (b : Bool) → (if b then wanting_all server else server).phase ≡ server.phase
    go true = refl
    go false = refl

-- ---- effects by cases

either : (test : Bool) (d e : Core) → Ashore d → Ashore e → Ashore (if test then d else e)
either true d e k l = k
either false d e k l = l

failed_ashore : (c : Core) (a : ℕ) → Ashore c → Ashore (call_failed c a)
failed_ashore c a g = either (a == host_party) _ _ g (steady c a _ refl g)

committed_ashore : (c : Core) (a : ℕ) (at : Option Stage) → Ashore c → Ashore (committed_at c a at)
committed_ashore c a None g = g
committed_ashore c a (Some (Asking need)) g = g
committed_ashore c a (Some (Fetching needs)) g = g
committed_ashore c a (Some Moving) g = g
committed_ashore c a (Some Stopping) g = g
committed_ashore c a (Some (Growing needs seen)) g = g
committed_ashore c a (Some (Clearing block)) g = g
committed_ashore c a (Some (Finishing outcome)) g =
    changed c (committed c a outcome) a _ refl (λ i h. none_changed a i (flight_after outcome) (none_moved i outcome) c.flights h) (λ t. inl t) g

lands_clean : (d f r v : Bool) → IsTrue (not d && not f && r && not v) → f ≡ false
lands_clean true f r v h = absurd (false≢true h)
lands_clean false true r v h = absurd (false≢true h)
lands_clean false false r v h = refl

pub clean_lands : (flights : Flights) (a : ℕ) (server : Server) → IsTrue (is_clean flights a server) → has_flights flights a ≡ false
clean_lands flights a server h = lands_clean (any_cached is_dirty server.cache) (has_flights flights a) (is_all_reached server.ring) (is_some server.recovery) h

module _ (c : Core) (a : ℕ) (under : Under) (server : Server) where
  abbrev Rests : Server → Type 0
  Rests new = IsTrue (is_resting new.phase) → IsTrue (is_resting server.phase) ⊎ (has_flights c.flights a ≡ false)

  abbrev done : Op → Reply → Server
  done operation answer = record (answered_open c under server operation answer) { under = None }

  mounted_rests : (off failed read : Bool) (answer : Reply) → (if off then (if failed then Some reply.Io else due_if read reply.Mounted) else None) ≡ Some answer → Rests (done op.Mount answer)
  mounted_rests false failed read answer e = absurd (none-some answer e)
  mounted_rests true true read answer e = subst (λ x. Rests (done op.Mount x)) (same_Some reply.Io answer e) (λ t. inl t)
  mounted_rests true false false answer e = absurd (none-some answer e)
  mounted_rests true false true answer e = subst (λ x. Rests (done op.Mount x)) (same_Some reply.Mounted answer e) (λ t. absurd (false≢true t))

  open_rests : (operation : Op) (answer : Reply) → own_answer c.setting.logs c.flights a server under operation ≡ Some answer → Rests (done operation answer)
  open_rests (op.Create path) answer e = absurd (none-some answer e)
  open_rests (op.Mkdir path) answer e = absurd (none-some answer e)
  open_rests (op.Link path to) answer e = absurd (none-some answer e)
  open_rests (op.Symlink path target) answer e = absurd (none-some answer e)
  open_rests (op.Unlink path) answer e = absurd (none-some answer e)
  open_rests (op.Rmdir path) answer e = absurd (none-some answer e)
  open_rests (op.Rename path to) answer e = absurd (none-some answer e)
  open_rests (op.Write path off bytes) answer e = absurd (none-some answer e)
  open_rests (op.Fill path off len byte) answer e = absurd (none-some answer e)
  open_rests (op.Truncate path len) answer e = absurd (none-some answer e)
  open_rests (op.Read path off len) answer e = absurd (none-some answer e)
  open_rests (op.Stat path) answer e = absurd (none-some answer e)
  open_rests (op.List path) answer e = absurd (none-some answer e)
  open_rests (op.Readlink path) answer e = absurd (none-some answer e)
  open_rests (op.Time path) answer e = absurd (none-some answer e)
  open_rests op.Sync answer e = λ t. inl t
  open_rests op.Mount answer e = mounted_rests (is_off server.phase) under.get_failed (is_read c.setting.logs under.slots) answer e
  open_rests op.Unmount answer e =
      λ t. inr (clean_lands c.flights a server (and_parts (is_up server.phase) (is_clean c.flights a server) (given_due (is_up server.phase && is_clean c.flights a server) reply.Ok answer e)).1)
  open_rests op.Crash answer e = absurd (none-some answer e)
  open_rests (op.CrashAt k) answer e = λ t. inl t
  open_rests (op.CutAt k) answer e = λ t. inl t
  open_rests op.Stall answer e = λ t. absurd (false≢true t)

  fixed_rests : (test : Bool) → Rests (record (if test then record server { owes = false } else server) { under = None })
  fixed_rests true = λ t. inl t
  fixed_rests false = λ t. inl t

  answer_rests : (operation : Op) (answer : Reply) → (is_some under.fixed ≡ false → own_answer c.setting.logs c.flights a server under operation ≡ Some answer) →
      Rests (answered_by c under server operation answer)
  answer_rests operation answer own = go (is_some under.fixed) refl
    where
      go : (b : Bool) → is_some under.fixed ≡ b →
          Rests (record (if b then (if is_unmount operation && is_ok answer then record server { owes = false } else server) else answered_open c under server operation answer) { under = None })
      go true e = fixed_rests (is_unmount operation && is_ok answer)
      go false e = open_rests operation answer (own e)

answered_with_ashore : (c : Core) (a : ℕ) (under : Under) (answer : Reply) (operation : Option Op) →
    (is_some under.fixed ≡ false → own_answer_of c.setting.logs c.flights a (c.servers a) under operation ≡ Some answer) → Ashore c → Ashore (answered_with c a under answer operation)
answered_with_ashore c a under answer None own g = g
answered_with_ashore c a under answer (Some operation) own g = changed c (answered_with c a under answer (Some operation)) a _ refl (λ i h. h) (answer_rests c a under (c.servers a) operation answer own) g

answered_ashore : (c : Core) (a : ℕ) (under : Option Under) (answer : Option Reply) → (c.servers a).under ≡ under → due_at c a ≡ answer → Ashore c → Ashore (answered_under c a under answer)
answered_ashore c a None None u e g = g
answered_ashore c a None (Some answer) u e g = g
answered_ashore c a (Some under) None u e g = g
answered_ashore c a (Some under) (Some answer) u e g =
    answered_with_ashore c a under answer (operation_of under.line.what)
    (opened (is_answering (c.servers a).phase) under.fixed (own_answer_of c.setting.logs c.flights a (c.servers a) under (operation_of under.line.what)) answer
    (sym (ap (λ o. if is_answering (c.servers a).phase then due_under c.setting.logs c.flights a (c.servers a) o else None) u) ∙ e))
    g

given_ashore : (c : Core) (a : ℕ) (lock : LockId) (asked : Option AskedFor) → Ashore c → Ashore (given_for c a lock asked)
given_ashore c a lock None g = g
given_ashore c a lock (Some Downgrade) g = g
given_ashore c a lock (Some Release) g = changed c (given_for c a lock (Some Release)) a _ refl (λ i h. h) (λ t. inl t) g

pub put_phase : (servers : ℕ → Server) (a : ℕ) (new : Server) → new.phase ≡ (servers a).phase → (i : ℕ) → (put servers a new i).phase ≡ (servers i).phase
put_phase servers a new p i = go (nat_eq i a) refl
  where
    go : (b : Bool) → nat_eq i a ≡ b → (if b then new else servers i).phase ≡ (servers i).phase
    go true e = p ∙ ap (λ k. (servers k).phase) (sym (eqb-true i a e))
    go false e = refl

issued_ashore : (c : Core) (a sector : ℕ) (write : Option Write) → IsTrue (is_worker c a) → Ashore c → Ashore (issued_as c a sector write)
issued_ashore c a sector None who g = g
issued_ashore c a sector (Some write) who g = λ i away t. none_joined i c.tickets (flight_of c a sector write) c.flights (apart i away (before i t)) (g i away (before i t))
  where
    before : (i : ℕ) → IsTrue (is_resting ((issued_as c a sector (Some write)).servers i).phase) → IsTrue (is_resting (c.servers i).phase)
    before i t = ap is_resting (sym (put_phase c.servers a _ refl i)) ∙ t

    worker : (s u h : Bool) → IsTrue ((s && u) || h) → h ≡ false → IsTrue u
    worker s true h t e = refl
    worker s false true t e = absurd (false≢true (sym e))
    worker true false false t e = absurd (false≢true t)
    worker false false false t e = absurd (false≢true t)

    same : (i : ℕ) → (a == i) ≡ true → i ≡ a
    same i e = grind (arith, nat_tests, e)

    at_rest : (i : ℕ) → (i == host_party) ≡ false → IsTrue (is_resting (c.servers i).phase) → i ≡ a → ⊥
    at_rest i away t e =
        both_ways (is_resting (c.servers a).phase)
        (up_rests_not (c.servers a).phase (worker (is_server a) (is_up (c.servers a).phase) (a == host_party) who (subst (λ k. (k == host_party) ≡ false) e away)))
        (subst (λ k. IsTrue (is_resting (c.servers k).phase)) e t)

    apart : (i : ℕ) → (i == host_party) ≡ false → IsTrue (is_resting (c.servers i).phase) → (a == i) ≡ false
    apart i away t = go (a == i) refl
      where
        go : (b : Bool) → (a == i) ≡ b → b ≡ false
        go true e = absurd (at_rest i away t (same i e))
        go false e = refl

landed_ashore : (c : Core) (ticket : ℕ) → Ashore c → Ashore (landed c ticket)
landed_ashore c ticket g = calm c (landed c ticket) (λ i. refl) (λ i h. none_landed ticket i c.flights h) g

taken_ashore : (c : Core) (flight : Flight) → Ashore c → Ashore (taken_in c flight)
taken_ashore c flight g =
    either flight.present _ _ (steady c flight.server _ (acknowledged_phase flight.sector flight.block flight.purpose (c.servers flight.server)) g) g

arrived_as_ashore : (c : Core) (flight : Flight) (heard : Heard) → Ashore c → Ashore (arrived_as c flight heard)
arrived_as_ashore c flight Nothing g = g
arrived_as_ashore c flight (Got block) g = g
arrived_as_ashore c flight GetFailed g = g
arrived_as_ashore c flight Written g = taken_ashore c flight g
arrived_as_ashore c flight Late g = g
arrived_as_ashore c flight (PutFailed new) g = failed_ashore c flight.server g

arrived_ashore : (c : Core) (ticket : ℕ) (heard : Heard) (flight : Option Flight) → Ashore c → Ashore (arrived_from c ticket heard flight)
arrived_ashore c ticket heard None g = g
arrived_ashore c ticket heard (Some flight) g = arrived_as_ashore (landed c ticket) flight heard (landed_ashore c ticket g)

died_ashore : (c : Core) (a : ℕ) (phase : Phase) → Ashore c → Ashore (died_in c a phase)
died_ashore c a Off g = g
died_ashore c a Up g = g
died_ashore c a Still g = g
died_ashore c a (Doomed fate) g = changed c (died_in c a (Doomed fate)) a _ refl (λ i h. fewer fate.loses i h) (λ t. inr (gone fate.loses)) g
  where
    fewer : (loses : Bool) (i : ℕ) → has_flights c.flights i ≡ false → has_flights (if loses then lost a c.flights else left_behind a c.flights) i ≡ false
    fewer true i h = fewer_lost a i c.flights h
    fewer false i h = none_changed a i (λ flight. record flight { present = false }) (stays_behind i) c.flights h

    gone : (loses : Bool) → has_flights (if loses then lost a c.flights else left_behind a c.flights) a ≡ false
    gone true = none_lost a c.flights
    gone false = none_left_behind a c.flights
died_ashore c a Dead g = g

finished_ashore : (c : Core) (by : ℕ) (recovery : Option Recovery) → (c.servers by).recovery ≡ recovery → IsTrue (is_worker c by) → Good c → Ashore c → Ashore (finished_from c by recovery)
finished_ashore c by None e who good g = g
finished_ashore c by (Some recovery) e who good g =
    changed rid (finished_from c by (Some recovery)) recovery.dead _ refl (λ i h. h)
    (λ t. inl (ap is_resting (put_phase c.servers by (record (c.servers by) { recovery = None }) refl recovery.dead)
    ∙ or_right (is_off (c.servers recovery.dead).phase) (is_dead (c.servers recovery.dead).phase) (good.saved by recovery.dead who (ap dead_of e)).0))
    (steady c by (record (c.servers by) { recovery = None }) refl g)
  where
    rid : Core
    rid = record c { servers = put c.servers by (record (c.servers by) { recovery = None }) }

host_ashore : (c : Core) (line : Option Line) → Ashore c → Ashore (host_answered_line c line)
host_ashore c None g = g
host_ashore c (Some line) g = calm c (host_answered_line c (Some line)) (λ i. refl) (λ i h. go (is_halt line.what) i h) g
  where
    go : (b : Bool) (i : ℕ) → has_flights c.flights i ≡ false → has_flights (if b then [] else c.flights) i ≡ false
    go true i h = refl
    go false i h = h

-- ---- each event

fetch_failed_ashore : (c : Core) (a : ℕ) → Ashore c → Ashore (fetch_failed c a)
fetch_failed_ashore c a g = either (is_off (c.servers a).phase) _ _ (steady c a _ refl g) (failed_ashore c a g)

fetch_ashore : (c : Core) (a sector : ℕ) (heard : Heard) → Ashore c → Ashore (after c (Fetch a sector) heard)
fetch_ashore c a sector (Got block) g = steady c a _ (fetched_phase a (stage c a) sector block (c.servers a)) g
fetch_ashore c a sector Nothing g = fetch_failed_ashore c a g
fetch_ashore c a sector GetFailed g = fetch_failed_ashore c a g
fetch_ashore c a sector Written g = fetch_failed_ashore c a g
fetch_ashore c a sector Late g = fetch_failed_ashore c a g
fetch_ashore c a sector (PutFailed new) g = fetch_failed_ashore c a g

load_ashore : (c : Core) (by slot : ℕ) (heard : Heard) → Ashore c → Ashore (after c (Load by slot) heard)
load_ashore c by slot (Got block) g = steady c by _ refl g
load_ashore c by slot Nothing g = failed_ashore c by g
load_ashore c by slot GetFailed g = failed_ashore c by g
load_ashore c by slot Written g = failed_ashore c by g
load_ashore c by slot Late g = failed_ashore c by g
load_ashore c by slot (PutFailed new) g = failed_ashore c by g

look_ashore : (c : Core) (by sector : ℕ) (heard : Heard) → Ashore c → Ashore (after c (Look by sector) heard)
look_ashore c by sector (Got block) g = steady c by _ refl g
look_ashore c by sector Nothing g = failed_ashore c by g
look_ashore c by sector GetFailed g = failed_ashore c by g
look_ashore c by sector Written g = failed_ashore c by g
look_ashore c by sector Late g = failed_ashore c by g
look_ashore c by sector (PutFailed new) g = failed_ashore c by g

read_ashore : (c : Core) (sector : ℕ) (heard : Heard) → Ashore c → Ashore (after c (Read sector) heard)
read_ashore c sector (Got block) g = g
read_ashore c sector Nothing g = failed_ashore c host_party g
read_ashore c sector GetFailed g = failed_ashore c host_party g
read_ashore c sector Written g = failed_ashore c host_party g
read_ashore c sector Late g = failed_ashore c host_party g
read_ashore c sector (PutFailed new) g = failed_ashore c host_party g

ticked_ashore : (c : Core) → Ashore c → Ashore (after c Tick Nothing)
ticked_ashore c g = calm c (after c Tick Nothing) (λ i. go i ((c.now + 1) % c.setting.flush_ticks == 0)) (λ i h. h) g
  where
    go : (i : ℕ) (b : Bool) → (if b then wanting_all_up (c.servers i) else c.servers i).phase ≡ (c.servers i).phase
    go i true = wanting_phase (c.servers i)
    go i false = refl

close_ashore : (c : Core) (a : ℕ) → Ashore c → Ashore (after c (Close a) Nothing)
close_ashore c a g = go (clean_at c a) refl
  where
    go : (b : Bool) → clean_at c a ≡ b →
        Ashore (if b then record c { servers = put c.servers a (off_after (c.servers a)); locks = cleared c.locks a } else with_server c a (wanting_all (c.servers a)))
    go true e = changed c (record c { servers = put c.servers a (off_after (c.servers a)); locks = cleared c.locks a }) a _ refl (λ i h. h) (λ t. inr (clean_lands c.flights a (c.servers a) e)) g
    go false e = steady c a _ refl g

event_ashore : (s : State) (event : Event) (heard : Heard) → Makes s event heard → Good s.core → Ashore s.core → Ashore (after s.core event heard)
event_ashore s (Begin a) heard m good g = steady s.core a _ (begun_phase (s.core.servers a) (next_of s.core a)) g
event_ashore s (Ask a lock mode) heard m good g = g
event_ashore s (Fetch a sector) heard m good g = fetch_ashore s.core a sector heard g
event_ashore s (Again a) heard m good g = steady s.core a _ (again_phase s.core.setting.logs (stage s.core a) (s.core.servers a)) g
event_ashore s (Clear a block) heard m good g = steady s.core a _ refl g
event_ashore s (Commit a) heard m good g = committed_ashore s.core a (stage s.core a) g
event_ashore s (Answer a) heard m good g = answered_ashore s.core a (s.core.servers a).under (due_at s.core a) refl refl g
event_ashore s (Give a lock) heard m good g = given_ashore s.core a lock (asked_for s.core.locks a lock) g
event_ashore s (Issue a sector) heard m good g = issued_ashore s.core a sector (value_at (writes s.core a) sector) m.can.can.issuable.who g
event_ashore s (Doom a) heard m good g = changed s.core (after s.core (Doom a) heard) a _ refl (λ i h. h) (λ t. absurd (false≢true t)) g
event_ashore s (Resume a) heard m good g = changed s.core (after s.core (Resume a) heard) a _ refl (λ i h. h) (λ t. absurd (false≢true t)) g
event_ashore s (Arrive ticket) heard m good g = arrived_ashore s.core ticket heard (value_at s.core.flights ticket) g
event_ashore s (Lose ticket) heard m good g = landed_ashore s.core ticket g
event_ashore s (Die a) heard m good g = died_ashore s.core a (s.core.servers a).phase g
event_ashore s (Renew a) heard m good g = changed s.core (after s.core (Renew a) heard) a _ refl (λ i h. h) (λ t. inl t) g
event_ashore s Tick heard m good g = ticked_ashore s.core g
event_ashore s (Recover dead by) heard m good g = changed s.core (after s.core (Recover dead by) heard) by _ refl (λ i h. h) (λ t. inl t) g
event_ashore s (Load by slot) heard m good g = load_ashore s.core by slot heard g
event_ashore s (Look by sector) heard m good g = look_ashore s.core by sector heard g
event_ashore s (Finish by) heard m good g = finished_ashore s.core by (s.core.servers by).recovery refl m.can.can.who good g
event_ashore s (HostLine number) heard m good g = host_ashore s.core (next_of s.core host_party) g
event_ashore s (Close a) heard m good g = close_ashore s.core a g
event_ashore s (Read sector) heard m good g = read_ashore s.core sector heard g
event_ashore s (Show place) heard m good g = g
event_ashore s End heard m good g = g

step_ashore : (s v : State) → Step s v → Good s.core → Ashore s.core → Ashore v.core
step_ashore s v (Event_ event heard makes) good g = event_ashore s event heard makes good g
step_ashore s v (Enter a line can) good g = g
step_ashore s v (Hold a on may) good g = g
step_ashore s v (Flush a may) good g = steady s.core a _ (wanting_phase (s.core.servers a)) g
step_ashore s v (Relock locks going are same wait) good g = g
step_ashore s v (Note line may) good g = g
step_ashore s v (Peek sector going) good g = g
step_ashore s v (PeekFails sector going) good g = failed_ashore s.core host_party g

run_ashore : (s v : State) → Run s v → Good s.core → Ashore s.core → Ashore v.core
run_ashore s v Stays good g = g
run_ashore s w (Goes {v = v} step run) good g = run_ashore v w run (step_good s v step good) (step_ashore s v step good g)

pub ashore_of_run : (setting : Setting) (disk : Sectors) (s : State) → Run (first_state setting disk) s → (a : ℕ) → IsTrue (is_server a) →
    IsTrue (is_off (s.core.servers a).phase || is_dead (s.core.servers a).phase) → has_flights s.core.flights a ≡ false
ashore_of_run setting disk s run a server t = run_ashore (first_state setting disk) s run (first_good setting disk) (λ i away t. refl) a (server_no_host a server) t
