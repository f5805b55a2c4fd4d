-- Over every run: what a ring gives out stays within its windows, and each log number in flight is issued and not acknowledged. Event by event.
use Rattle.std.proofs.Common.{◌≡◌, ℕ, ◌≤◌, ◌⊎◌, inl, inr, Bool, true, false, ◌&&◌, ◌||◌, ◌==◌, ◌+◌, ◌%◌, if◌then◌else◌, IsTrue, is_some, [], ◌∷◌, Option, Some, None, nat_eq, refl, sym, ap, ◌∙◌, subst, arith}
use Rattle.std.proofs.lemmas.Bool.{or_left, eq-eqb, leb-true, ne_eqb, or_right, eqb-true}
use Rattle.std.proofs.lemmas.Bool.Decides.{nat_tests}
use Rattle.std.specs.List.{Contains}
use Rattle.std.proofs.lemmas.Option.{same_Some, none-some}
use Rattle.disk_definitions.proofs.Listed.{Among}
use Rattle.frang_base.specs.Functions.{put}
use Rattle.frang_base.specs.declared.lock.LockId.{LockId}
use Rattle.frang_base.specs.declared.op.Op.{Op}
use Rattle.frang_base.specs.declared.op.Op.TheVariants as op
use Rattle.frang_base.specs.declared.reply.Reply.{Reply}
use Rattle.frang_base.specs.declared.reply.Reply.TheVariants as reply
use Rattle.frang_base.specs.declared.script.Line.{Line}
use Rattle.lock_definitions.specs.declared.claim.AskedFor.{AskedFor}
use Rattle.lock_definitions.specs.declared.claim.AskedFor.TheVariants.{Release, Downgrade}
use Rattle.lock_definitions.specs.Calls.{asked_for}
use Rattle.ring_definitions.specs.Rings.{ring_at}
use Rattle.sector_bytes.specs.Blocks.{Block}
use Rattle.sector_bytes.specs.SectorMaps.{value_at}
use Rattle.sector_bytes.specs.Sectors.{Sectors}
use Rattle.tree_definitions.specs.Touched.{is_ok, is_unmount}
use Rattle.tree_definitions.specs.Transcript.{is_halt}
use Rattle.core_definitions.specs.Flights.{Flight, Flights, InPlace, OfLog, OfRecovery, Purpose, has_flights, left_behind, lost}
use Rattle.core_definitions.specs.Lines.{Stage, Asking, Fetching, Moving, Stopping, Growing, Clearing, Finishing, Under, operation_of}
use Rattle.core_definitions.specs.Logs.{end_of, is_read, log_sector}
use Rattle.core_definitions.specs.Plans.{Outcome}
use Rattle.core_definitions.specs.Recoveries.{Recovery}
use Rattle.core_definitions.specs.Scripts.{host_party}
use Rattle.core_definitions.specs.Servers.{Phase, Off, Up, Still, Doomed, Dead, Server, due_if, due_under, is_answering, is_dead, is_off, is_up, own_answer, own_answer_of, wanting_all, wanting_all_up}
use Rattle.core_definitions.specs.Settings.{LogRules, Setting}
use Rattle.core_definitions.specs.Writes.{Write, keeps_window, comes_clean}
use Rattle.core_definitions.specs.Cores.{Core, clean_at, due_at, next_of, stage, with_server, writes}
use Rattle.core_definitions.specs.Events.{Event, Begin, Ask, Fetch, Again, Clear, Commit, Answer, Give, Issue, Doom, Resume, Arrive, Lose, Die, Renew, Tick, Recover, Load, Look, Finish, HostLine, Close, Read, Show, End, Heard, Nothing, Got, GetFailed, Written, Late, PutFailed}
use Rattle.core_definitions.specs.LineGuards.{done_by, has_room_for, is_server}
use Rattle.core_definitions.specs.WriteGuards.{CanIssue, is_worker, is_write}
use Rattle.core_definitions.specs.LineEffects.{again_by, answered_by, answered_open, answered_under, answered_with, begun_line, begun_with, cached_under, call_failed, committed, committed_at, cover_needed, fetch_failed, fetched_by, flight_after, off_after, purpose_after, slot_read, with_under}
use Rattle.core_definitions.specs.WriteEffects.{acknowledged, arrived_as, arrived_from, clean_now, counted, died_in, flight_of, given_for, issued_as, landed, ring_after, taken_in}
use Rattle.core_definitions.specs.EndEffects.{finished_by, finished_from, host_answered_line}
use Rattle.core_definitions.specs.Effects.{after}
use Rattle.core_definitions.specs.Runs.{State, Step, Event_, Enter, Hold, Flush, Relock, Note, Peek, PeekFails, Run, first_state, Makes}
use Rattle.core_laws.specs.Facts.{IsInFlightWindow, KeepsWindows, log_slots}
use Rattle.core_laws.specs.Laws.{AreOnce}
use Rattle.core_laws.proofs.Flying.{sectors_in}
use Rattle.core_laws.proofs.Membership.{contains_in}
use Rattle.core_laws.proofs.Single.{sectors_once}
use Rattle.core_laws.proofs.Along.{along}
use Rattle.core_laws.proofs.Kept.{setting_of_run}
use Rattle.core_laws.proofs.Ashore.{ashore_of_run}
use Rattle.core_laws.proofs.FlightLists.{all_changed, all_joined, all_landed, all_lost, in_flights}
use Rattle.core_laws.proofs.LogFlights.{AllAtSlots, IsAtSlot, IsAtSlotFor, IsShipped, at_first, fewer_behind, fewer_changed, fewer_landed, fewer_lost, flies, is_log_flight, is_number, more_joined, none_flies, none_left, slot_of_found, slots_once, with_acknowledged, with_fewer, with_issued, with_record, without_reclaimable}
use Rattle.core_laws.proofs.Memory.{Good, dead_of, opened}
use Rattle.core_laws.proofs.Resting.{good_of_run}
use Rattle.core_laws.proofs.WantedWrites.{IsNextOfLog, next_of_log}

-- each ring beside what flies of its log, and each write of a log at the slot of its number
record Ships (c : Core) : Type 0 where
  shipped : (i : ℕ) → IsShipped c.setting.logs (flies c.flights i) (c.servers i).ring
  slots : AllAtSlots c.setting.logs c.flights

-- no number flies that didn't
abbrev NoMore : Core → Core → Type 0
NoMore c d = (i number : ℕ) → flies c.flights i number ≡ false → flies d.flights i number ≡ false

-- each ring is as before
calm : (c d : Core) → ((i : ℕ) → (d.servers i).ring ≡ (c.servers i).ring) → d.setting ≡ c.setting → NoMore c d → AllAtSlots d.setting.logs d.flights → Ships c → Ships d
calm c d same set fewer at g = record {
  shipped = λ i. subst (λ t. IsShipped t.logs (flies d.flights i) (d.servers i).ring) (sym set)
      (subst (IsShipped c.setting.logs (flies d.flights i)) (sym (same i)) (with_fewer c.setting.logs (flies c.flights i) (flies d.flights i) (c.servers i).ring (fewer i) (g.shipped i)));
  slots = at;
}

-- one server's ring changes
moved : (c d : Core) (a : ℕ) (new : Server) → d.servers ≡ put c.servers a new → d.setting ≡ c.setting → NoMore c d → AllAtSlots d.setting.logs d.flights →
    (IsShipped c.setting.logs (flies d.flights a) (c.servers a).ring → IsShipped c.setting.logs (flies d.flights a) new.ring) → Ships c → Ships d
moved c d a new e set fewer at own g = record {
  shipped = λ i. subst (λ t. IsShipped t.logs (flies d.flights i) (d.servers i).ring) (sym set)
      (subst (λ f. IsShipped c.setting.logs (flies d.flights i) (f i).ring) (sym e) (go i (nat_eq i a) refl));
  slots = at;
}
  where
    kept : (i : ℕ) → IsShipped c.setting.logs (flies d.flights i) (c.servers i).ring
    kept i = with_fewer c.setting.logs (flies c.flights i) (flies d.flights i) (c.servers i).ring (fewer i) (g.shipped i)

    go : (i : ℕ) (b : Bool) → nat_eq i a ≡ b → IsShipped c.setting.logs (flies d.flights i) (if b then new else c.servers i).ring
    go i true f = subst (λ k. IsShipped c.setting.logs (flies d.flights k) new.ring) (sym (eqb-true i a f)) (own (kept a))
    go i false f = kept i

-- its ring stays, and the writes too
steady : (c : Core) (a : ℕ) (new : Server) → new.ring ≡ (c.servers a).ring → Ships c → Ships (record c { servers = put c.servers a new })
steady c a new p g =
    moved c (record c { servers = put c.servers a new }) a new refl refl (λ i number h. h) g.slots (λ s. subst (IsShipped c.setting.logs (flies c.flights a)) (sym p) s) g

-- ---- rings that stay

begun_ring : (server : Server) (line : Option Line) → (begun_line server line).ring ≡ server.ring
begun_ring server None = refl
begun_ring server (Some line) = go (operation_of line.what)
  where
    go : (operation : Option Op) → (begun_with server line operation).ring ≡ server.ring
    go None = refl
    go (Some operation) = refl

fetched_ring : (a : ℕ) (at : Option Stage) (sector : ℕ) (block : Block) (server : Server) → (fetched_by a at sector block server).ring ≡ server.ring
fetched_ring a at sector block server = go (is_off server.phase) (cover_needed at sector)
  where
    go : (b : Bool) (cover : Option LockId) →
        (if b then with_under server (slot_read a sector block) else cached_under server sector block cover).ring ≡ server.ring
    go true cover = refl
    go false None = refl
    go false (Some cover) = refl

wanting_ring : (server : Server) → (wanting_all_up server).ring ≡ server.ring
wanting_ring server = go (is_up server.phase)
  where
    go : (b : Bool) → (if b then wanting_all server else server).ring ≡ server.ring
    go true = refl
    go false = refl

-- ---- effects by cases

either : (test : Bool) (d e : Core) → Ships d → Ships e → Ships (if test then d else e)
either true d e k l = k
either false d e k l = l

failed_ships : (c : Core) (a : ℕ) → Ships c → Ships (call_failed c a)
failed_ships c a g = either (a == host_party) _ _ (record { shipped = g.shipped; slots = g.slots }) (steady c a _ refl g)

again_shipped : (logs : LogRules) (fly : ℕ → Bool) (at : Option Stage) (server : Server) → IsShipped logs fly server.ring → IsShipped logs fly (again_by logs at server).ring
again_shipped logs fly None server s = s
again_shipped logs fly (Some (Asking need)) server s = s
again_shipped logs fly (Some (Fetching needs)) server s = s
again_shipped logs fly (Some Moving) server s = s
again_shipped logs fly (Some Stopping) server s = s
again_shipped logs fly (Some (Growing needs seen)) server s = s
again_shipped logs fly (Some (Clearing block)) server s = s
again_shipped logs fly (Some (Finishing outcome)) server s = without_reclaimable logs fly server.ring s

again_ships : (c : Core) (a : ℕ) → Ships c → Ships (after c (Again a) Nothing)
again_ships c a g = moved c (after c (Again a) Nothing) a _ refl refl (λ i number h. h) g.slots (λ s. again_shipped c.setting.logs (flies c.flights a) (stage c a) (c.servers a) s) g

number_stays : (a number : ℕ) (outcome : Outcome) (f : Flight) → is_log_flight a number f ≡ false → is_log_flight a number (flight_after outcome f) ≡ false
number_stays a number outcome f h = go f.present refl
  where
    same : (purpose : Purpose) → is_number number (purpose_after outcome f.sector purpose) ≡ is_number number purpose
    same (OfLog n) = refl
    same (InPlace cover) = refl
    same OfRecovery = refl

    go : (b : Bool) → f.present ≡ b → is_log_flight a number (if b then record f { purpose = purpose_after outcome f.sector f.purpose } else f) ≡ false
    go true e = ap (λ t. (f.server == a && f.present) && t) (same f.purpose) ∙ h
    go false e = h

slot_stays : (logs : LogRules) (outcome : Outcome) (f : Flight) → IsAtSlot logs f → IsAtSlot logs (flight_after outcome f)
slot_stays logs outcome f at = go f.present
  where
    by : (purpose : Purpose) → f.purpose ≡ purpose → IsAtSlot logs (record f { purpose = purpose_after outcome f.sector purpose })
    by (OfLog n) e = subst (λ p. IsAtSlot logs (record f { purpose = p })) e at
    by (InPlace cover) e = tt
    by OfRecovery e = tt

    go : (b : Bool) → IsAtSlot logs (if b then record f { purpose = purpose_after outcome f.sector f.purpose } else f)
    go true = by f.purpose refl
    go false = at

committed_ships : (c : Core) (a : ℕ) (at : Option Stage) → IsTrue (has_room_for c.setting.logs (c.servers a) (done_by at)) → Ships c → Ships (committed_at c a at)
committed_ships c a None room g = g
committed_ships c a (Some (Asking need)) room g = g
committed_ships c a (Some (Fetching needs)) room g = g
committed_ships c a (Some Moving) room g = g
committed_ships c a (Some Stopping) room g = g
committed_ships c a (Some (Growing needs seen)) room g = g
committed_ships c a (Some (Clearing block)) room g = g
committed_ships c a (Some (Finishing outcome)) room g =
    moved c (committed c a outcome) a _ refl refl (λ i number h. fewer_changed a (flight_after outcome) i number (number_stays i number outcome) c.flights h)
    (all_changed (IsAtSlot c.setting.logs) a (flight_after outcome) (slot_stays c.setting.logs outcome) c.flights g.slots)
    (λ s. with_record c.setting.logs (flies (committed c a outcome).flights a) (c.servers a).ring outcome.redo room s) g

-- the ring is as before; or it begins, at a server that was Off
abbrev Rings : Server → Server → Type 0
Rings old new = (new.ring ≡ old.ring) ⊎ ((end : ℕ) × (new.ring ≡ ring_at end) × IsTrue (is_off old.phase))

module _ (c : Core) (a : ℕ) (under : Under) (server : Server) where
  abbrev done : Op → Reply → Server
  done operation answer = record (answered_open c under server operation answer) { under = None }

  mounted_rings : (off failed read : Bool) (answer : Reply) → is_off server.phase ≡ off →
      (if off then (if failed then Some reply.Io else due_if read reply.Mounted) else None) ≡ Some answer →
      Rings server (done op.Mount answer)
  mounted_rings false failed read answer o e = absurd (none-some answer e)
  mounted_rings true true read answer o e = subst (λ x. Rings server (done op.Mount x)) (same_Some reply.Io answer e) (inl refl)
  mounted_rings true false false answer o e = absurd (none-some answer e)
  mounted_rings true false true answer o e = subst (λ x. Rings server (done op.Mount x)) (same_Some reply.Mounted answer e) (inr (end_of c.setting.logs under.slots, refl, o))

  open_rings : (operation : Op) (answer : Reply) → own_answer c.setting.logs c.flights a server under operation ≡ Some answer →
      Rings server (done operation answer)
  open_rings (op.Create path) answer e = absurd (none-some answer e)
  open_rings (op.Mkdir path) answer e = absurd (none-some answer e)
  open_rings (op.Link path to) answer e = absurd (none-some answer e)
  open_rings (op.Symlink path target) answer e = absurd (none-some answer e)
  open_rings (op.Unlink path) answer e = absurd (none-some answer e)
  open_rings (op.Rmdir path) answer e = absurd (none-some answer e)
  open_rings (op.Rename path to) answer e = absurd (none-some answer e)
  open_rings (op.Write path off bytes) answer e = absurd (none-some answer e)
  open_rings (op.Fill path off len byte) answer e = absurd (none-some answer e)
  open_rings (op.Truncate path len) answer e = absurd (none-some answer e)
  open_rings (op.Read path off len) answer e = absurd (none-some answer e)
  open_rings (op.Stat path) answer e = absurd (none-some answer e)
  open_rings (op.List path) answer e = absurd (none-some answer e)
  open_rings (op.Readlink path) answer e = absurd (none-some answer e)
  open_rings (op.Time path) answer e = absurd (none-some answer e)
  open_rings op.Sync answer e = inl refl
  open_rings op.Mount answer e = mounted_rings (is_off server.phase) under.get_failed (is_read c.setting.logs under.slots) answer refl e
  open_rings op.Unmount answer e = inl refl
  open_rings op.Crash answer e = absurd (none-some answer e)
  open_rings (op.CrashAt k) answer e = inl refl
  open_rings (op.CutAt k) answer e = inl refl
  open_rings op.Stall answer e = inl refl

  answer_rings : (operation : Op) (answer : Reply) →
      (is_some under.fixed ≡ false → own_answer c.setting.logs c.flights a server under operation ≡ Some answer) →
      Rings server (answered_by c under server operation answer)
  answer_rings operation answer own = go (is_some under.fixed) refl
    where
      fixed : (test : Bool) → Rings server (record (if test then record server { owes = false } else server) { under = None })
      fixed true = inl refl
      fixed false = inl refl

      go : (b : Bool) → is_some under.fixed ≡ b →
          Rings server (record (if b then (if is_unmount operation && is_ok answer then record server { owes = false } else server) else answered_open c under server operation answer) { under = None })
      go true e = fixed (is_unmount operation && is_ok answer)
      go false e = open_rings operation answer (own e)

-- of a server that is Off nothing flies
abbrev Rests : Core → ℕ → Type 0
Rests c a = IsTrue (is_off (c.servers a).phase || is_dead (c.servers a).phase) → has_flights c.flights a ≡ false

answered_with_ships : (c : Core) (a : ℕ) (under : Under) (answer : Reply) (operation : Option Op) → Rests c a →
    (is_some under.fixed ≡ false → own_answer_of c.setting.logs c.flights a (c.servers a) under operation ≡ Some answer) → Ships c → Ships (answered_with c a under answer operation)
answered_with_ships c a under answer None rests own g = g
answered_with_ships c a under answer (Some operation) rests own g =
    moved c (answered_with c a under answer (Some operation)) a new refl refl (λ i number h. h) g.slots (by (answer_rings c a under (c.servers a) operation answer own)) g
  where
    new : Server
    new = answered_by c under (c.servers a) operation answer

    by : Rings (c.servers a) new → IsShipped c.setting.logs (flies c.flights a) (c.servers a).ring → IsShipped c.setting.logs (flies c.flights a) new.ring
    by (inl same) s = subst (IsShipped c.setting.logs (flies c.flights a)) (sym same) s
    by (inr begun) s =
        subst (IsShipped c.setting.logs (flies c.flights a)) (sym begun.1)
        (at_first c.setting.logs (flies c.flights a) begun.0 (λ number. none_flies c.flights a number (rests (or_left (is_off (c.servers a).phase) (is_dead (c.servers a).phase) begun.2))))

answered_ships : (c : Core) (a : ℕ) (under : Option Under) (answer : Option Reply) → Rests c a → (c.servers a).under ≡ under → due_at c a ≡ answer →
    Ships c → Ships (answered_under c a under answer)
answered_ships c a None None rests u e g = g
answered_ships c a None (Some answer) rests u e g = g
answered_ships c a (Some under) None rests u e g = g
answered_ships c a (Some under) (Some answer) rests u e g =
    answered_with_ships c a under answer (operation_of under.line.what) rests
    (opened (is_answering (c.servers a).phase) under.fixed (own_answer_of c.setting.logs c.flights a (c.servers a) under (operation_of under.line.what)) answer
    (sym (ap (λ o. if is_answering (c.servers a).phase then due_under c.setting.logs c.flights a (c.servers a) o else None) u) ∙ e))
    g

given_ships : (c : Core) (a : ℕ) (lock : LockId) (asked : Option AskedFor) → Ships c → Ships (given_for c a lock asked)
given_ships c a lock None g = g
given_ships c a lock (Some Downgrade) g = record { shipped = g.shipped; slots = g.slots }
given_ships c a lock (Some Release) g = moved c (given_for c a lock (Some Release)) a _ refl refl (λ i number h. h) g.slots (λ s. s) g

-- ---- an issue

module _ (c : Core) (a sector : ℕ) (write : Write) (is : value_at (writes c a) sector ≡ Some write) (can : CanIssue c a sector) (g : Ships c) where
  abbrev flight : Flight
  flight = flight_of c a sector write

  abbrev later : Core
  later = issued_as c a sector (Some write)

  -- of another server, or of another number
  away : (purpose : Purpose) (i number : ℕ) → ((i ≡ a → ⊥) ⊎ (is_number number purpose ≡ false)) → (((a == i) && true) && is_number number purpose) ≡ false
  away purpose i number (inl apart) = ap (λ t. (t && true) && is_number number purpose) (ne_eqb a i (λ e. apart (sym e)))
  away purpose i number (inr n) = ap (λ t. ((a == i) && true) && t) n ∙ last_false (a == i)
    where
      last_false : (x : Bool) → ((x && true) && false) ≡ false
      last_false true = refl
      last_false false = refl

  joined : (i number : ℕ) → ((i ≡ a → ⊥) ⊎ (is_number number write.purpose ≡ false)) → flies c.flights i number ≡ false → flies later.flights i number ≡ false
  joined i number other h = more_joined i number c.tickets flight c.flights (away write.purpose i number other) h

  inside : (number : ℕ) → write.purpose ≡ OfLog number → number ≤ (c.servers a).ring.reached + c.setting.logs.in_flight
  inside number p =
      leb-true number ((c.servers a).ring.reached + c.setting.logs.in_flight)
      (subst (λ q. IsTrue (keeps_window c.setting.logs (c.servers a).ring q)) p (subst (λ w. IsTrue (is_write (λ x. keeps_window c.setting.logs (c.servers a).ring x.purpose) w)) is can.issuable.window))

  next : (number : ℕ) → write.purpose ≡ OfLog number → IsNextOfLog c.setting.logs a (c.servers a) sector number
  next number p = next_of_log c.setting c.locks a (c.servers a) (stage c a) sector write number is p

  own : (purpose : Purpose) → write.purpose ≡ purpose → IsShipped c.setting.logs (flies later.flights a) (ring_after purpose (c.servers a).ring)
  own (OfLog number) p =
      with_issued c.setting.logs (flies c.flights a) (flies later.flights a) (c.servers a).ring number (next number p).block (next number p).next (inside number p)
      (λ n apart h. joined a n (inr (ap (is_number n) p ∙ ne_eqb number n (λ e. apart (sym e)))) h) (g.shipped a)
  own (InPlace cover) p = with_fewer c.setting.logs (flies c.flights a) (flies later.flights a) (c.servers a).ring (λ n h. joined a n (inr (ap (is_number n) p)) h) (g.shipped a)
  own OfRecovery p = with_fewer c.setting.logs (flies c.flights a) (flies later.flights a) (c.servers a).ring (λ n h. joined a n (inr (ap (is_number n) p)) h) (g.shipped a)

  at_slot : (purpose : Purpose) → write.purpose ≡ purpose → IsAtSlotFor c.setting.logs a sector purpose
  at_slot (OfLog number) p = (next number p).at
  at_slot (InPlace cover) p = tt
  at_slot OfRecovery p = tt

  issue_ships : Ships later
  issue_ships = record {
    shipped = λ i. go i (nat_eq i a) refl;
    slots = all_joined (IsAtSlot c.setting.logs) (c.tickets, flight) c.flights (at_slot write.purpose refl) g.slots;
  }
    where
      new : Server
      new = record (c.servers a) { ring = ring_after write.purpose (c.servers a).ring; arming = counted (c.servers a).arming }

      apart : (i : ℕ) → nat_eq i a ≡ false → i ≡ a → ⊥
      apart i e f = absurd (grind (arith, nat_tests, e, f))

      go : (i : ℕ) (b : Bool) → nat_eq i a ≡ b → IsShipped c.setting.logs (flies later.flights i) (if b then new else c.servers i).ring
      go i true e = subst (λ k. IsShipped c.setting.logs (flies later.flights k) new.ring) (sym (eqb-true i a e)) (own write.purpose refl)
      go i false e = with_fewer c.setting.logs (flies c.flights i) (flies later.flights i) (c.servers i).ring (λ n h. joined i n (inl (apart i e)) h) (g.shipped i)

issued_ships : (c : Core) (a sector : ℕ) (write : Option Write) → value_at (writes c a) sector ≡ write → CanIssue c a sector → Ships c →
    Ships (issued_as c a sector write)
issued_ships c a sector None is can g = g
issued_ships c a sector (Some write) is can g = issue_ships c a sector write is can g

-- ---- an arrival

landed_ships : (c : Core) (ticket : ℕ) → Ships c → Ships (landed c ticket)
landed_ships c ticket g = calm c (landed c ticket) (λ i. refl) refl (λ i number h. fewer_landed ticket i number c.flights h) (all_landed (IsAtSlot c.setting.logs) ticket c.flights g.slots) g

acknowledged_ring : (sector : ℕ) (block : Block) (cover : LockId) (server : Server) → (acknowledged sector block (InPlace cover) server).ring ≡ server.ring
acknowledged_ring sector block cover server = go (comes_clean server sector block)
  where
    go : (b : Bool) → (if b then clean_now sector server else server).ring ≡ server.ring
    go true = refl
    go false = refl

module _ (c : Core) (ticket : ℕ) (flight : Flight) (is : value_at c.flights ticket ≡ Some flight) (once : AreOnce (sectors_in c.flights)) (g : Ships c) where
  abbrev without_it : Core
  without_it = landed c ticket

  -- what is acknowledged of a log doesn't fly any more
  landed_shipped : (purpose : Purpose) → flight.purpose ≡ purpose → IsShipped c.setting.logs (flies without_it.flights flight.server) (c.servers flight.server).ring →
      IsShipped c.setting.logs (flies without_it.flights flight.server) (acknowledged flight.sector flight.block purpose (c.servers flight.server)).ring
  landed_shipped (OfLog number) p s =
      with_acknowledged c.setting.logs (flies without_it.flights flight.server) (c.servers flight.server).ring number
      (none_left c.setting.logs c.flights ticket flight number is p once g.slots (slot_of_found c.setting.logs c.flights ticket flight is g.slots)) s
  landed_shipped (InPlace cover) p s = subst (IsShipped c.setting.logs (flies without_it.flights flight.server)) (sym (acknowledged_ring flight.sector flight.block cover (c.servers flight.server))) s
  landed_shipped OfRecovery p s = s

  taken_ships : Ships (taken_in without_it flight)
  taken_ships =
      either flight.present _ _
      (moved without_it (with_server without_it flight.server (acknowledged flight.sector flight.block flight.purpose (c.servers flight.server))) flight.server _ refl refl (λ i number h. h)
      (all_landed (IsAtSlot c.setting.logs) ticket c.flights g.slots) (landed_shipped flight.purpose refl) (landed_ships c ticket g))
      (landed_ships c ticket g)

  arrived_as_ships : (heard : Heard) → Ships (arrived_as without_it flight heard)
  arrived_as_ships Nothing = landed_ships c ticket g
  arrived_as_ships (Got block) = landed_ships c ticket g
  arrived_as_ships GetFailed = landed_ships c ticket g
  arrived_as_ships Written = taken_ships
  arrived_as_ships Late = landed_ships c ticket g
  arrived_as_ships (PutFailed new) = failed_ships without_it flight.server (landed_ships c ticket g)

arrived_ships : (c : Core) (ticket : ℕ) (heard : Heard) (flight : Option Flight) → value_at c.flights ticket ≡ flight →
    AreOnce (sectors_in c.flights) → Ships c → Ships (arrived_from c ticket heard flight)
arrived_ships c ticket heard None is once g = g
arrived_ships c ticket heard (Some flight) is once g = arrived_as_ships c ticket flight is once g heard

-- ---- the ends of mounts and recoveries

died_ships : (c : Core) (a : ℕ) (phase : Phase) → Ships c → Ships (died_in c a phase)
died_ships c a Off g = g
died_ships c a Up g = g
died_ships c a Still g = g
died_ships c a (Doomed fate) g = moved c (died_in c a (Doomed fate)) a _ refl refl (λ i number h. fewer fate.loses i number h) (at fate.loses) (λ s. s) g
  where
    fewer : (loses : Bool) (i number : ℕ) → flies c.flights i number ≡ false →
        flies (if loses then lost a c.flights else left_behind a c.flights) i number ≡ false
    fewer true i number h = fewer_lost a i number c.flights h
    fewer false i number h = fewer_behind a i number c.flights h

    at : (loses : Bool) → AllAtSlots c.setting.logs (if loses then lost a c.flights else left_behind a c.flights)
    at true = all_lost (IsAtSlot c.setting.logs) a c.flights g.slots
    at false = all_changed (IsAtSlot c.setting.logs) a (λ flight. record flight { present = false }) (λ f h. h) c.flights g.slots
died_ships c a Dead g = g

finished_ships : (c : Core) (by : ℕ) (recovery : Option Recovery) → (c.servers by).recovery ≡ recovery → IsTrue (is_worker c by) → Good c →
    ((a : ℕ) → IsTrue (is_server a) → Rests c a) → Ships c →
    Ships (finished_from c by recovery)
finished_ships c by None e who good rests g = g
finished_ships c by (Some recovery) e who good rests g =
    moved rid (finished_by c by recovery.dead) recovery.dead _ refl refl (λ i number h. h) g.slots
    (λ s. at_first c.setting.logs (flies c.flights recovery.dead) 0
    (λ number. none_flies c.flights recovery.dead number
    (rests recovery.dead dead.1 (or_right (is_off (c.servers recovery.dead).phase) (is_dead (c.servers recovery.dead).phase) dead.0))))
    (steady c by (record (c.servers by) { recovery = None }) refl g)
  where
    rid : Core
    rid = record c { servers = put c.servers by (record (c.servers by) { recovery = None }) }

    dead : IsTrue (is_dead (c.servers recovery.dead).phase) × IsTrue (is_server recovery.dead)
    dead = good.saved by recovery.dead who (ap dead_of e)

host_ships : (c : Core) (line : Option Line) → Ships c → Ships (host_answered_line c line)
host_ships c None g = g
host_ships c (Some line) g = calm c (host_answered_line c (Some line)) (λ i. refl) refl (λ i number h. fewer (is_halt line.what) i number h) (at (is_halt line.what)) g
  where
    fewer : (b : Bool) (i number : ℕ) → flies c.flights i number ≡ false → flies (if b then [] else c.flights) i number ≡ false
    fewer true i number h = refl
    fewer false i number h = h

    at : (b : Bool) → AllAtSlots c.setting.logs (if b then [] else c.flights)
    at true = tt
    at false = g.slots

-- ---- each event

-- the same rings and writes
same_ships : (c d : Core) → d.servers ≡ c.servers → d.flights ≡ c.flights → d.setting ≡ c.setting → Ships c → Ships d
same_ships c d servers flights setting g = record {
  shipped = λ i. subst (λ t. IsShipped t.logs (flies d.flights i) (d.servers i).ring) (sym setting)
      (subst (λ fs. IsShipped c.setting.logs (flies fs i) (d.servers i).ring) (sym flights) (subst (λ ss. IsShipped c.setting.logs (flies c.flights i) (ss i).ring) (sym servers) (g.shipped i)));
  slots = subst (λ fs. AllAtSlots d.setting.logs fs) (sym flights) (subst (λ t. AllAtSlots t.logs c.flights) (sym setting) g.slots);
}

fetch_failed_ships : (c : Core) (a : ℕ) → Ships c → Ships (fetch_failed c a)
fetch_failed_ships c a g = either (is_off (c.servers a).phase) _ _ (steady c a _ refl g) (failed_ships c a g)

fetch_ships : (c : Core) (a sector : ℕ) (heard : Heard) → Ships c → Ships (after c (Fetch a sector) heard)
fetch_ships c a sector (Got block) g = steady c a _ (fetched_ring a (stage c a) sector block (c.servers a)) g
fetch_ships c a sector Nothing g = fetch_failed_ships c a g
fetch_ships c a sector GetFailed g = fetch_failed_ships c a g
fetch_ships c a sector Written g = fetch_failed_ships c a g
fetch_ships c a sector Late g = fetch_failed_ships c a g
fetch_ships c a sector (PutFailed new) g = fetch_failed_ships c a g

load_ships : (c : Core) (by slot : ℕ) (heard : Heard) → Ships c → Ships (after c (Load by slot) heard)
load_ships c by slot (Got block) g = steady c by _ refl g
load_ships c by slot Nothing g = failed_ships c by g
load_ships c by slot GetFailed g = failed_ships c by g
load_ships c by slot Written g = failed_ships c by g
load_ships c by slot Late g = failed_ships c by g
load_ships c by slot (PutFailed new) g = failed_ships c by g

look_ships : (c : Core) (by sector : ℕ) (heard : Heard) → Ships c → Ships (after c (Look by sector) heard)
look_ships c by sector (Got block) g = steady c by _ refl g
look_ships c by sector Nothing g = failed_ships c by g
look_ships c by sector GetFailed g = failed_ships c by g
look_ships c by sector Written g = failed_ships c by g
look_ships c by sector Late g = failed_ships c by g
look_ships c by sector (PutFailed new) g = failed_ships c by g

read_ships : (c : Core) (sector : ℕ) (heard : Heard) → Ships c → Ships (after c (Read sector) heard)
read_ships c sector (Got block) g = same_ships c _ refl refl refl g
read_ships c sector Nothing g = failed_ships c host_party g
read_ships c sector GetFailed g = failed_ships c host_party g
read_ships c sector Written g = failed_ships c host_party g
read_ships c sector Late g = failed_ships c host_party g
read_ships c sector (PutFailed new) g = failed_ships c host_party g

ticked_ships : (c : Core) → Ships c → Ships (after c Tick Nothing)
ticked_ships c g = calm c (after c Tick Nothing) (λ i. go i ((c.now + 1) % c.setting.flush_ticks == 0)) refl (λ i number h. h) g.slots g
  where
    go : (i : ℕ) (b : Bool) → (if b then wanting_all_up (c.servers i) else c.servers i).ring ≡ (c.servers i).ring
    go i true = wanting_ring (c.servers i)
    go i false = refl

close_ships : (c : Core) (a : ℕ) → Ships c → Ships (after c (Close a) Nothing)
close_ships c a g = either (clean_at c a) _ _ (moved c _ a (off_after (c.servers a)) refl refl (λ i number h. h) g.slots (λ s. s) g) (steady c a (wanting_all (c.servers a)) refl g)

-- what is known of the state before an event
record Known (c : Core) : Type 0 where
  good : Good c
  rests : (a : ℕ) → IsTrue (is_server a) → Rests c a
  once : AreOnce (sectors_in c.flights)

event_ships : (s : State) (event : Event) (heard : Heard) → Makes s event heard → Known s.core → Ships s.core → Ships (after s.core event heard)
event_ships s (Begin a) heard m k g = steady s.core a _ (begun_ring (s.core.servers a) (next_of s.core a)) g
event_ships s (Ask a lock mode) heard m k g = same_ships s.core _ refl refl refl g
event_ships s (Fetch a sector) heard m k g = fetch_ships s.core a sector heard g
event_ships s (Again a) heard m k g = again_ships s.core a g
event_ships s (Clear a block) heard m k g = steady s.core a _ refl g
event_ships s (Commit a) heard m k g = committed_ships s.core a (stage s.core a) m.can.can.room g
event_ships s (Answer a) heard m k g = answered_ships s.core a (s.core.servers a).under (due_at s.core a) (k.rests a m.can.can.server) refl refl g
event_ships s (Give a lock) heard m k g = given_ships s.core a lock (asked_for s.core.locks a lock) g
event_ships s (Issue a sector) heard m k g = issued_ships s.core a sector (value_at (writes s.core a) sector) refl m.can.can g
event_ships s (Doom a) heard m k g = steady s.core a _ refl g
event_ships s (Resume a) heard m k g = moved s.core (after s.core (Resume a) heard) a _ refl refl (λ i number h. h) g.slots (λ t. t) g
event_ships s (Arrive ticket) heard m k g = arrived_ships s.core ticket heard (value_at s.core.flights ticket) refl k.once g
event_ships s (Lose ticket) heard m k g = landed_ships s.core ticket g
event_ships s (Die a) heard m k g = died_ships s.core a (s.core.servers a).phase g
event_ships s (Renew a) heard m k g = moved s.core (after s.core (Renew a) heard) a _ refl refl (λ i number h. h) g.slots (λ t. t) g
event_ships s Tick heard m k g = ticked_ships s.core g
event_ships s (Recover dead by) heard m k g = moved s.core (after s.core (Recover dead by) heard) by _ refl refl (λ i number h. h) g.slots (λ t. t) g
event_ships s (Load by slot) heard m k g = load_ships s.core by slot heard g
event_ships s (Look by sector) heard m k g = look_ships s.core by sector heard g
event_ships s (Finish by) heard m k g = finished_ships s.core by (s.core.servers by).recovery refl m.can.can.who k.good k.rests g
event_ships s (HostLine number) heard m k g = host_ships s.core (next_of s.core host_party) g
event_ships s (Close a) heard m k g = close_ships s.core a g
event_ships s (Read sector) heard m k g = read_ships s.core sector heard g
event_ships s (Show place) heard m k g = same_ships s.core _ refl refl refl g
event_ships s End heard m k g = same_ships s.core _ refl refl refl g

step_ships : (s v : State) → Step s v → Known s.core → Ships s.core → Ships v.core
step_ships s v (Event_ event heard makes) k g = event_ships s event heard makes k g
step_ships s v (Enter a line can) k g = same_ships s.core v.core refl refl refl g
step_ships s v (Hold a on may) k g = same_ships s.core v.core refl refl refl g
step_ships s v (Flush a may) k g = steady s.core a _ (wanting_ring (s.core.servers a)) g
step_ships s v (Relock locks going are same wait) k g = same_ships s.core v.core refl refl refl g
step_ships s v (Note line may) k g = g
step_ships s v (Peek sector going) k g = g
step_ships s v (PeekFails sector going) k g = failed_ships s.core host_party g

ships_of_run : (setting : Setting) (disk : Sectors) (s : State) → Run (first_state setting disk) s → Ships s.core
ships_of_run setting disk =
    along setting disk (λ s. Ships s.core)
    (λ s v run step g. step_ships s v step (record { good = good_of_run setting disk s run; rests = ashore_of_run setting disk s run; once = sectors_once setting disk s run }) g)
    (record { shipped = λ i. at_first setting.logs (λ number. false) 0 (λ number. refl); slots = tt })

-- ---- in the words of the facts

pub windows_kept : (setting : Setting) (disk : Sectors) (s : State) → Run (first_state setting disk) s → (a : ℕ) → KeepsWindows setting.logs (s.core.servers a).ring
windows_kept setting disk s run a = subst (λ t. KeepsWindows t.logs (s.core.servers a).ring) (setting_of_run setting disk s run) ((ships_of_run setting disk s run).shipped a).windows

flying_in : (flights : Flights) (one : ℕ × Flight) (number : ℕ) → Among one flights → one.1.present ≡ true → one.1.purpose ≡ OfLog number →
    flies flights one.1.server number ≡ true
flying_in [] one number i p q = absurd i
flying_in (x ∷ xs) one number (inl e) p q = subst (λ o. (is_log_flight one.1.server number o.1 || flies xs one.1.server number) ≡ true) e (or_left _ _ (both (eq-eqb one.1.server one.1.server refl) p (ap (is_number number) q ∙ eq-eqb number number refl)))
  where
    both : {x y z : Bool} → x ≡ true → y ≡ true → z ≡ true → ((x && y) && z) ≡ true
    both e f g = cc
flying_in (x ∷ xs) one number (inr i) p q = or_right (is_log_flight one.1.server number x.1) _ (flying_in xs one number i p q)

pub flights_within : (setting : Setting) (disk : Sectors) (s : State) → Run (first_state setting disk) s → (one : ℕ × Flight) (number : ℕ) →
    Contains s.core.flights one → one.1.present ≡ true →
    one.1.purpose ≡ OfLog number → IsInFlightWindow setting.logs (s.core.servers one.1.server).ring number
flights_within setting disk s run one number c p q =
    record { above = shipped.above number fly; within = then_le number _ _ (shipped.issued number fly) shipped.windows.window }
  where
    shipped : IsShipped setting.logs (flies s.core.flights one.1.server) (s.core.servers one.1.server).ring
    shipped = subst (λ t. IsShipped t.logs (flies s.core.flights one.1.server) (s.core.servers one.1.server).ring) (setting_of_run setting disk s run) ((ships_of_run setting disk s run).shipped one.1.server)

    fly : flies s.core.flights one.1.server number ≡ true
    fly = flying_in s.core.flights one number (contains_in s.core.flights one c) p q

    then_le : (x y z : ℕ) → x ≤ y → y ≤ z → x ≤ z
    then_le x y z h i = omega (arith, h, i)

pub slots_kept : (setting : Setting) (disk : Sectors) (s : State) → Run (first_state setting disk) s → (one : ℕ × Flight) (number : ℕ) →
    Contains s.core.flights one → one.1.purpose ≡ OfLog number →
    one.1.sector ≡ log_sector s.core.setting.logs one.1.server number
slots_kept setting disk s run one number c q =
    subst (IsAtSlotFor s.core.setting.logs one.1.server one.1.sector) q (in_flights (IsAtSlot s.core.setting.logs) s.core.flights one (contains_in s.core.flights one c) (ships_of_run setting disk s run).slots)

pub log_slots_once : (setting : Setting) (disk : Sectors) (s : State) → Run (first_state setting disk) s → (a : ℕ) →
    AreOnce (log_slots s.core.setting.logs a s.core.flights)
log_slots_once setting disk s run a = slots_once s.core.setting.logs a s.core.flights (ships_of_run setting disk s run).slots (sectors_once setting disk s run)
