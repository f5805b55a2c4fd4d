-- Event by event, but for those of lines, servers keep what is dirty.
use Rattle.std.proofs.Common.{◌≡◌, ◌≤◌, ◌==◌, ◌%◌, ◌+◌, ◌-◌, ◌∷◌, arith, length, nat_eq, nat_lt, slice_set, suc, ℕ, Bool, true, false, ◌&&◌, if◌then◌else◌, IsTrue, is_some, List, [], Option, Some, None, refl, sym, ap, ◌∙◌, subst, inl, inr, le_refl}
use Rattle.std.proofs.lemmas.Bool.{and_parts, false≢true, ne_eqb}
use Rattle.std.proofs.lemmas.Bool.Decides.{nat_tests}
use Rattle.std.proofs.lemmas.Option.{none-some, same_Some}
use Rattle.std.specs.Option.{option_map}
use Rattle.frang_base.specs.Functions.{member, put}
use Rattle.frang_base.specs.declared.lock.LockId.{LockId}
use Rattle.frang_base.proofs.Basics.{at_put}
use Rattle.frang_base.specs.declared.op.Op.{Op}
use Rattle.frang_base.specs.declared.op.Op.TheVariants as op
use Rattle.frang_base.specs.declared.reply.Reply.{Reply}
use Rattle.frang_base.specs.declared.reply.Reply.TheVariants as reply
use Rattle.frang_base.specs.declared.script.Line.{Line}
use Rattle.lock_definitions.specs.Calls.{asked_for, cleared}
use Rattle.lock_definitions.specs.declared.claim.AskedFor.{AskedFor}
use Rattle.lock_definitions.specs.declared.claim.AskedFor.TheVariants.{Release, Downgrade}
use Rattle.tree_definitions.specs.Touched.{is_ok, is_unmount}
use Rattle.disk_definitions.specs.declared.log_sector.LogSector.{LogSector}
use Rattle.ring_definitions.specs.Rings.{Ring, acked, first_waiting, passed, ring_at, sent}
use Rattle.sector_bytes.specs.Blocks.{Block}
use Rattle.sector_bytes.specs.SectorMaps.{value_at}
use Rattle.cache_definitions.specs.Caches.{dropped}
use Rattle.core_definitions.specs.Cores.{Core, clean_at, due_at, next_of, stage, with_server, writes}
use Rattle.core_definitions.specs.Effects.{after}
use Rattle.core_definitions.specs.EndEffects.{finished_from, host_answered_line, look_made, recovered, slot_loaded}
use Rattle.core_definitions.specs.Events.{Event, Begin, Ask, Fetch, Again, Clear, Commit, Answer, Give, Issue, Doom, Resume, Arrive, Lose, Die, Renew, Tick, Recover, Load, Look, Finish, HostLine, Close, Read, Show, End, Heard, Nothing, Got, GetFailed, Written, Late, PutFailed}
use Rattle.core_definitions.specs.Flights as core
use Rattle.core_definitions.specs.LineEffects.{again_by, answered_fixed, answered_open, answered_under, answered_with, begun_line, begun_with, call_failed, cached_under, cover_needed, failed_by, off_after, refused_under, slot_read, with_under}
use Rattle.core_definitions.specs.LineGuards.{done_by}
use Rattle.core_definitions.specs.Lines.{Stage, Asking, Fetching, Moving, Stopping, Growing, Clearing, Finishing, Under, operation_of}
use Rattle.core_definitions.specs.Logs.{end_of}
use Rattle.core_definitions.specs.Recoveries.{Recovery, recovery_of}
use Rattle.core_definitions.specs.Runs.{State as RunMoment, Makes, Step, Event_, Enter, Hold, Flush, Relock, Note, Peek, PeekFails}
use Rattle.core_definitions.specs.Rings.{is_all_reached, next_write}
use Rattle.core_definitions.specs.Scripts.{host_party}
use Rattle.core_definitions.specs.Servers as life
use Rattle.core_definitions.specs.Servers.{Server, due_if, due_under, is_answering, is_in_mount, is_off, is_still, is_up, own_answer, own_answer_of, wanting_all, wanting_all_up}
use Rattle.core_definitions.specs.Settings.{LogRules, lease_to, setting_of}
use Rattle.core_definitions.specs.WriteEffects.{acknowledged, fate_of, up_again, clean_now, counted, died_with, arrived_from, died_in, given_for, issued_as, landed, ring_after}
use Rattle.core_definitions.specs.Writes.{Write, comes_clean}
use Rattle.core_laws.proofs.Memory.{opened}
use Rattle.core_log_writes.proofs.Keeping.{acked_on}
use Rattle.core_world.proofs.Same.{put_as}
use Rattle.core_world.specs.Steps.{IsReached}
use Rattle.core_lives.specs.Cleared.{CachesShrink}
use Rattle.core_lives.proofs.Phases as phases
use Rattle.core_lives.proofs.Phases.{doomed_mounted, up_mounted}
use Rattle.core_lives.proofs.Shrinking.{lives_shrink}
use Rattle.core_facts.proofs.WriteKinds.{NextOfLog, Places, Rescues, Wanted, wanted_is}
use Rattle.core_laws.proofs.Resting.{good_of_run}
use Rattle.core_writes.specs.Issues.{is_log_purpose}
use Rattle.core_commit_steps.specs.Lasts.{KeepsReached}
use Rattle.core_runs.specs.Open.{is_line_step, is_of_lines}
use Rattle.core_run_lines.proofs.Keeping.{IsLeft, KeepsDirt, bare, cached_keeps, cleaned_keeps, keeps_itself, left_keeps, not_mounted, put_keeps, same, still_mounted}

abbrev pub AllKeep : Core → Core → Type 0
AllKeep c d = (n : ℕ) → KeepsDirt (c.servers n) (d.servers n)

all_same : (c : Core) → AllKeep c c
all_same c n = keeps_itself (c.servers n)

-- one server alone is another
one_left : (c : Core) (a : ℕ) (new : Server) → IsLeft (c.servers a) new → AllKeep c (with_server c a new)
one_left c a new left = put_keeps c.servers a new (left_keeps (c.servers a) new left)

-- ---- lines

begun_left : (server : Server) (line : Option Line) → IsLeft server (begun_line server line)
begun_left server None = same refl refl refl refl
begun_left server (Some line) = go (operation_of line.what)
  where
    go : (operation : Option Op) → IsLeft server (begun_with server line operation)
    go None = same refl refl refl refl
    go (Some operation) = same refl refl refl refl

again_left : (logs : LogRules) (server : Server) (at : Option Stage) → is_some (done_by at) ≡ false → IsLeft server (again_by logs at server)
again_left logs server None n = same refl refl refl refl
again_left logs server (Some (Asking need)) n = same refl refl refl refl
again_left logs server (Some (Fetching needs)) n = same refl refl refl refl
again_left logs server (Some Moving) n = same refl refl refl refl
again_left logs server (Some Stopping) n = same refl refl refl refl
again_left logs server (Some (Growing needs seen)) n = same refl refl refl refl
again_left logs server (Some (Clearing block)) n = same refl refl refl refl
again_left logs server (Some (Finishing outcome)) n = absurd (false≢true (sym n))

failed_all : (c : Core) (a : ℕ) → AllKeep c (call_failed c a)
failed_all c a = go (a == host_party)
  where
    go : (b : Bool) → AllKeep c (if b then record c { over = true } else with_server c a (failed_by (c.servers a)))
    go true = all_same c
    go false = one_left c a (failed_by (c.servers a)) (same refl refl refl refl)

fetch_all : (c : Core) (a sector : ℕ) (heard : Heard) → AllKeep c (after c (Fetch a sector) heard)
fetch_all c a sector heard = by heard
  where
    got : (block : Block) (off : Bool) → KeepsDirt (c.servers a) (if off then with_under (c.servers a) (slot_read a sector block) else cached_under (c.servers a) sector block (cover_needed (stage c a) sector))
    got block true = left_keeps (c.servers a) (with_under (c.servers a) (slot_read a sector block)) (same refl refl refl refl)
    got block false = cached_keeps (c.servers a) sector block (cover_needed (stage c a) sector)

    failed : (off : Bool) → AllKeep c (if off then with_server c a (with_under (c.servers a) refused_under) else call_failed c a)
    failed true = one_left c a (with_under (c.servers a) refused_under) (same refl refl refl refl)
    failed false = failed_all c a

    by : (h : Heard) → AllKeep c (after c (Fetch a sector) h)
    by (Got block) = put_keeps c.servers a (if is_off (c.servers a).phase then with_under (c.servers a) (slot_read a sector block) else cached_under (c.servers a) sector block (cover_needed (stage c a) sector)) (got block (is_off (c.servers a).phase))
    by Nothing = failed (is_off (c.servers a).phase)
    by GetFailed = failed (is_off (c.servers a).phase)
    by Written = failed (is_off (c.servers a).phase)
    by Late = failed (is_off (c.servers a).phase)
    by (PutFailed new) = failed (is_off (c.servers a).phase)

-- ---- answers

next_is : (n : ℕ) → nat_eq n ((n + 0) + 0) ≡ true
next_is n = grind (arith, nat_tests)

mounted_reached : (n : ℕ) → IsTrue (is_all_reached (ring_at n))
mounted_reached n = next_is n

module _ (c : Core) (a : ℕ) (under : Under) where
  abbrev old : Server
  old = c.servers a

  abbrev Leaves : Op → Reply → Type 0
  Leaves operation answer = IsLeft old (answered_open c under old operation answer)

  mount_left : (off failed read : Bool) (answer : Reply) → (if off then (if failed then Some reply.Io else due_if read reply.Mounted) else None) ≡ Some answer → Leaves op.Mount answer
  mount_left false failed read answer e = absurd (none-some answer e)
  mount_left true true read answer e = subst (λ x. Leaves op.Mount x) (same_Some reply.Io answer e) (same refl refl refl refl)
  mount_left true false false answer e = absurd (none-some answer e)
  mount_left true false true answer e = subst (λ x. Leaves op.Mount x) (same_Some reply.Mounted answer e) (bare refl (λ mounted. inr (mounted_reached (end_of c.setting.logs under.slots))))

  -- who stalls is up
  due_up : (up : Bool) (answer : Reply) → due_if up reply.Ok ≡ Some answer → IsTrue up
  due_up true answer e = refl
  due_up false answer e = absurd (none-some answer e)

  open_left : (operation : Op) (answer : Reply) → own_answer c.setting.logs c.flights a old under operation ≡ Some answer → Leaves operation answer
  open_left (op.Create path) answer e = same refl refl refl refl
  open_left (op.Mkdir path) answer e = same refl refl refl refl
  open_left (op.Link path to) answer e = same refl refl refl refl
  open_left (op.Symlink path target) answer e = same refl refl refl refl
  open_left (op.Unlink path) answer e = same refl refl refl refl
  open_left (op.Rmdir path) answer e = same refl refl refl refl
  open_left (op.Rename path to) answer e = same refl refl refl refl
  open_left (op.Write path off bytes) answer e = same refl refl refl refl
  open_left (op.Fill path off len byte) answer e = same refl refl refl refl
  open_left (op.Truncate path len) answer e = same refl refl refl refl
  open_left (op.Read path off len) answer e = same refl refl refl refl
  open_left (op.Stat path) answer e = same refl refl refl refl
  open_left (op.List path) answer e = same refl refl refl refl
  open_left (op.Readlink path) answer e = same refl refl refl refl
  open_left (op.Time path) answer e = same refl refl refl refl
  open_left op.Sync answer e = same refl refl refl refl
  open_left op.Mount answer e = mount_left (is_off old.phase) under.get_failed _ answer e
  open_left op.Unmount answer e = bare refl (not_mounted old (off_after old) refl)
  open_left op.Crash answer e = same refl refl refl refl
  open_left (op.CrashAt k) answer e = same refl refl refl refl
  open_left (op.CutAt k) answer e = same refl refl refl refl
  open_left op.Stall answer e = record { left = inl (refl, refl, refl); mounted = λ mounted. inl (up_mounted old.phase (due_up (is_up old.phase) answer e), λ h. h) }

  fixed_left : (test : Bool) → IsLeft old (if test then record old { owes = false } else old)
  fixed_left true = same refl refl refl refl
  fixed_left false = same refl refl refl refl

  no_line : (new : Server) → IsLeft old new → IsLeft old (record new { under = None })
  no_line new x = record { left = x.left; mounted = x.mounted }

answered_all : (c : Core) (a : ℕ) (under : Option Under) (answer : Option Reply) → (c.servers a).under ≡ under → due_at c a ≡ answer → AllKeep c (answered_under c a under answer)
answered_all c a None answer u e = all_same c
answered_all c a (Some under) None u e = all_same c
answered_all c a (Some under) (Some answer) u e = go (operation_of under.line.what) refl
  where
    own : is_some under.fixed ≡ false → own_answer_of c.setting.logs c.flights a (c.servers a) under (operation_of under.line.what) ≡ Some answer
    own =
        opened (is_answering (c.servers a).phase) under.fixed (own_answer_of c.setting.logs c.flights a (c.servers a) under (operation_of under.line.what)) answer
        (sym (ap (λ o. if is_answering (c.servers a).phase then due_under c.setting.logs c.flights a (c.servers a) o else None) u) ∙ e)

    by : (operation : Op) → operation_of under.line.what ≡ Some operation → (b : Bool) → is_some under.fixed ≡ b →
        (n : ℕ) → KeepsDirt (c.servers n) (put c.servers a (record (if b then answered_fixed (c.servers a) operation answer else answered_open c under (c.servers a) operation answer) { under = None }) n)
    by operation f true n =
        put_keeps c.servers a (record (answered_fixed (c.servers a) operation answer) { under = None })
        (left_keeps (c.servers a) (record (answered_fixed (c.servers a) operation answer) { under = None })
        (no_line c a under (answered_fixed (c.servers a) operation answer) (fixed_left c a under (is_unmount operation && is_ok answer))))
    by operation f false n =
        put_keeps c.servers a (record (answered_open c under (c.servers a) operation answer) { under = None })
        (left_keeps (c.servers a) (record (answered_open c under (c.servers a) operation answer) { under = None })
        (no_line c a under (answered_open c under (c.servers a) operation answer)
        (open_left c a under operation answer (subst (λ o. own_answer_of c.setting.logs c.flights a (c.servers a) under o ≡ Some answer) f (own n)))))

    go : (o : Option Op) → operation_of under.line.what ≡ o → AllKeep c (answered_with c a under answer o)
    go None f = all_same c
    go (Some operation) f = by operation f (is_some under.fixed) refl

-- ---- locks, writes and lives

given_all : (c : Core) (a : ℕ) (lock : LockId) (asked : Option AskedFor) → CachesShrink c.servers (given_for c a lock asked).servers → AllKeep c (given_for c a lock asked)
given_all c a lock None shrink = all_same c
given_all c a lock (Some Downgrade) shrink = all_same c
given_all c a lock (Some Release) shrink = λ n. record {
  cached = λ x kept e d. shrink n x kept e;
  pending = λ x kept e d m. ap (member x) (put_as (λ y. y.pending) c.servers a (record (c.servers a) { cache = dropped (c.servers a).cache lock }) refl n) ∙ m;
  reached = λ x kept e.
      subst (λ r. (c.servers n).ring.reached ≤ r.reached) (sym (put_as (λ y. y.ring) c.servers a (record (c.servers a) { cache = dropped (c.servers a).cache lock }) refl n)) (le_refl (c.servers n).ring.reached);
  mounted = at_put (λ y. KeepsReached (c.servers n) y) c.servers a (record (c.servers a) { cache = dropped (c.servers a).cache lock }) n
      (λ e. subst (λ m. KeepsReached (c.servers m) (record (c.servers a) { cache = dropped (c.servers a).cache lock })) (sym e) (still_mounted (c.servers a) (record (c.servers a) { cache = dropped (c.servers a).cache lock }) refl (λ h. h))) (λ away. still_mounted (c.servers n) (c.servers n) refl (λ h. h));
}

issued_ring : (server : Server) (p : core.Purpose) → server.ring.reached ≤ (ring_after p server.ring).reached
issued_ring server (core.OfLog number) = le_refl server.ring.reached
issued_ring server (core.InPlace cover) = le_refl server.ring.reached
issued_ring server core.OfRecovery = le_refl server.ring.reached

-- a log that is acknowledged to its end has nothing to issue
apart : (n k l : ℕ) → IsTrue (n == n + k + suc l) → ⊥
apart n k l h = false≢true (sym (ne_eqb n (n + k + suc l) (λ e. absurd (omega (arith, e)))) ∙ h)

none_waits : (ring : Ring) (number : ℕ) (block : Block) → next_write ring ≡ Some (number, block) → IsTrue (is_all_reached ring) → ⊥
none_waits ring number block following h = go ring.waiting refl
  where
    go : (waiting : List LogSector) → ring.waiting ≡ waiting → ⊥
    go [] e = none-some (number, block) (sym (ap (first_waiting (sent ring + 1)) e) ∙ following)
    go (x ∷ xs) e = apart ring.reached (length ring.above) (length xs) (subst (λ (ys : List LogSector). IsTrue (ring.reached == ring.reached + length ring.above + length ys)) e h)

module _ (c : Core) (a sector : ℕ) (write : Write) (wanted : value_at (writes c a) sector ≡ Some write) where
  of_log : (number : ℕ) → write.purpose ≡ core.OfLog number → IsTrue (is_all_reached (c.servers a).ring) → ⊥
  of_log number of h = go (wanted_is c.setting c.locks a (c.servers a) (stage c a) sector write wanted)
    where
      go : Wanted c.setting.logs c.setting.segments a (c.servers a) sector write → ⊥
      go (Rescues recovery block has there is) = false≢true (sym (ap (λ (x : Write). is_log_purpose x.purpose) is) ∙ ap is_log_purpose of)
      go (Places cached dirt there dirty is) = false≢true (sym (ap (λ (x : Write). is_log_purpose x.purpose) is) ∙ ap is_log_purpose of)
      go (NextOfLog n block following at is) = none_waits (c.servers a).ring n block following h

  issued_reached : (p : core.Purpose) → write.purpose ≡ p → IsTrue (is_all_reached (c.servers a).ring) → IsTrue (is_all_reached (ring_after p (c.servers a).ring))
  issued_reached (core.OfLog number) of h = absurd (of_log number of h)
  issued_reached (core.InPlace cover) of h = h
  issued_reached core.OfRecovery of h = h

issued_all : (c : Core) (a sector : ℕ) (write : Option Write) → value_at (writes c a) sector ≡ write → AllKeep c (issued_as c a sector write)
issued_all c a sector None wanted = all_same c
issued_all c a sector (Some write) wanted =
    put_keeps c.servers a (record (c.servers a) { ring = ring_after write.purpose (c.servers a).ring; arming = counted (c.servers a).arming })
    (record { cached = λ x kept e d. e; pending = λ x kept e d m. m; reached = λ x kept e. issued_ring (c.servers a) write.purpose; mounted = still_mounted (c.servers a) (record (c.servers a) { ring = ring_after write.purpose (c.servers a).ring; arming = counted (c.servers a).arming }) refl (issued_reached c a sector write wanted write.purpose refl) })

-- one that is acknowledged to its end stays so
acked_reached : (ring : Ring) (number : ℕ) → IsTrue (is_all_reached ring) → IsTrue (is_all_reached (acked ring number))
acked_reached ring number h = go (nat_lt ring.reached number)
  where
    late : (n l k : ℕ) → IsTrue (n == n + suc l + k) → ⊥
    late n l k e = false≢true (sym (ne_eqb n (n + suc l + k) (λ i. absurd (omega (arith, i)))) ∙ e)

    none_above : (above : List Bool) → ring.above ≡ above → IsTrue (is_all_reached (passed ring ring.reached (slice_set above (number - ring.reached - 1) true)))
    none_above [] e = subst (λ (xs : List Bool). IsTrue (ring.reached == ring.reached + length xs + length ring.waiting)) e h
    none_above (x ∷ xs) e = absurd (late ring.reached (length xs) (length ring.waiting) (subst (λ (ys : List Bool). IsTrue (ring.reached == ring.reached + length ys + length ring.waiting)) e h))

    go : (b : Bool) → IsTrue (is_all_reached (if b then passed ring ring.reached (slice_set ring.above (number - ring.reached - 1) true) else ring))
    go true = none_above ring.above refl
    go false = h

acknowledged_keeps : (sector : ℕ) (block : Block) (p : core.Purpose) (server : Server) → KeepsDirt server (acknowledged sector block p server)
acknowledged_keeps sector block (core.OfLog number) server = record { cached = λ x kept e d. e; pending = λ x kept e d m. m; reached = λ x kept e. acked_on server.ring number; mounted = still_mounted server (record server { ring = acked server.ring number }) refl (acked_reached server.ring number) }
acknowledged_keeps sector block core.OfRecovery server = left_keeps server (acknowledged sector block core.OfRecovery server) (same refl refl refl refl)
acknowledged_keeps sector block (core.InPlace cover) server = go (comes_clean server sector block)
  where
    go : (b : Bool) → KeepsDirt server (if b then clean_now sector server else server)
    go true = cleaned_keeps server sector
    go false = keeps_itself server

taken_all : (c : Core) (flight : core.Flight) (present : Bool) →
    AllKeep c (if present then with_server c flight.server (acknowledged flight.sector flight.block flight.purpose (c.servers flight.server)) else c)
taken_all c flight true =
    put_keeps c.servers flight.server (acknowledged flight.sector flight.block flight.purpose (c.servers flight.server)) (acknowledged_keeps flight.sector flight.block flight.purpose (c.servers flight.server))
taken_all c flight false = all_same c

arrived_all : (c : Core) (ticket : ℕ) (heard : Heard) (flight : Option core.Flight) → AllKeep c (arrived_from c ticket heard flight)
arrived_all c ticket heard None = all_same c
arrived_all c ticket Written (Some flight) = taken_all (landed c ticket) flight flight.present
arrived_all c ticket (PutFailed new) (Some flight) = failed_all (landed c ticket) flight.server
arrived_all c ticket Nothing (Some flight) = all_same c
arrived_all c ticket (Got block) (Some flight) = all_same c
arrived_all c ticket GetFailed (Some flight) = all_same c
arrived_all c ticket Late (Some flight) = all_same c

died_all : (c : Core) (a : ℕ) (phase : life.Phase) → AllKeep c (died_in c a phase)
died_all c a (life.Doomed fate) = put_keeps c.servers a (died_with fate (c.servers a)) (left_keeps (c.servers a) (died_with fate (c.servers a)) (bare refl (not_mounted (c.servers a) (died_with fate (c.servers a)) refl)))
died_all c a life.Off = all_same c
died_all c a life.Up = all_same c
died_all c a life.Still = all_same c
died_all c a life.Dead = all_same c

wanting_left : (server : Server) → IsLeft server (wanting_all_up server)
wanting_left server = go (is_up server.phase)
  where
    go : (b : Bool) → IsLeft server (if b then wanting_all server else server)
    go true = same refl refl refl refl
    go false = same refl refl refl refl

ticked_keeps : (c : Core) (b : Bool) (n : ℕ) → KeepsDirt (c.servers n) (if b then wanting_all_up (c.servers n) else c.servers n)
ticked_keeps c true n = left_keeps (c.servers n) (wanting_all_up (c.servers n)) (wanting_left (c.servers n))
ticked_keeps c false n = keeps_itself (c.servers n)

-- ---- recoveries and the end

loaded_all : (c : Core) (by slot : ℕ) (heard : Heard) → AllKeep c (after c (Load by slot) heard)
loaded_all c by slot (Got block) = one_left c by (record (c.servers by) { recovery = option_map (slot_loaded slot block) (c.servers by).recovery }) (same refl refl refl refl)
loaded_all c by slot Nothing = failed_all c by
loaded_all c by slot GetFailed = failed_all c by
loaded_all c by slot Written = failed_all c by
loaded_all c by slot Late = failed_all c by
loaded_all c by slot (PutFailed new) = failed_all c by

looked_all : (c : Core) (by sector : ℕ) (heard : Heard) → AllKeep c (after c (Look by sector) heard)
looked_all c by sector (Got block) = one_left c by (record (c.servers by) { recovery = option_map (look_made c sector block) (c.servers by).recovery }) (same refl refl refl refl)
looked_all c by sector Nothing = failed_all c by
looked_all c by sector GetFailed = failed_all c by
looked_all c by sector Written = failed_all c by
looked_all c by sector Late = failed_all c by
looked_all c by sector (PutFailed new) = failed_all c by

-- nothing is cached of who is recovered
ended_all : (c : Core) (by : ℕ) (recovery : Option Recovery) → ((r : Recovery) → recovery ≡ Some r → (c.servers r.dead).cache ≡ []) → AllKeep c (finished_from c by recovery)
ended_all c by None none = all_same c
ended_all c by (Some r) none = λ n.
    at_put (λ y. KeepsDirt (c.servers n) y) (put c.servers by (record (c.servers by) { recovery = None })) r.dead (recovered (c.servers r.dead)) n
    (λ e. left_keeps (c.servers n) (recovered (c.servers r.dead)) (bare (none r refl) (not_mounted (c.servers n) (recovered (c.servers r.dead)) refl)))
    (λ away. put_keeps c.servers by (record (c.servers by) { recovery = None }) (left_keeps (c.servers by) (record (c.servers by) { recovery = None }) (same refl refl refl refl)) n)

host_all : (c : Core) (line : Option Line) → AllKeep c (host_answered_line c line)
host_all c None = all_same c
host_all c (Some line) = all_same c

closed_all : (c : Core) (a : ℕ) (clean : Bool) →
    AllKeep c (if clean then record c { servers = put c.servers a (off_after (c.servers a)); locks = cleared c.locks a } else with_server c a (wanting_all (c.servers a)))
closed_all c a true = put_keeps c.servers a (off_after (c.servers a)) (left_keeps (c.servers a) (off_after (c.servers a)) (bare refl (not_mounted (c.servers a) (off_after (c.servers a)) refl)))
closed_all c a false = one_left c a (wanting_all (c.servers a)) (same refl refl refl refl)

read_all : (c : Core) (sector : ℕ) (heard : Heard) → AllKeep c (after c (Read sector) heard)
read_all c sector (Got block) = all_same c
read_all c sector Nothing = failed_all c host_party
read_all c sector GetFailed = failed_all c host_party
read_all c sector Written = failed_all c host_party
read_all c sector Late = failed_all c host_party
read_all c sector (PutFailed new) = failed_all c host_party

-- ---- each event

module _ (s : RunMoment) (r : IsReached s) (none : (by : ℕ) → Makes s (Finish by) Nothing → (recovery : Recovery) → (s.core.servers by).recovery ≡ Some recovery → (s.core.servers recovery.dead).cache ≡ []) where
  event_keeps : (event : Event) (heard : Heard) → Makes s event heard → is_of_lines s.core event ≡ false → AllKeep s.core (after s.core event heard)
  event_keeps (Begin a) heard m n = one_left s.core a (begun_line (s.core.servers a) (next_of s.core a)) (begun_left (s.core.servers a) (next_of s.core a))
  event_keeps (Ask a lock mode) heard m n = all_same s.core
  event_keeps (Fetch a sector) heard m n = fetch_all s.core a sector heard
  event_keeps (Again a) heard m n =
      one_left s.core a (again_by s.core.setting.logs (stage s.core a) (s.core.servers a)) (again_left s.core.setting.logs (s.core.servers a) (stage s.core a) n)
  event_keeps (Clear a block) heard m n = absurd (false≢true (sym n))
  event_keeps (Commit a) heard m n = absurd (false≢true (sym n))
  event_keeps (Answer a) heard m n = answered_all s.core a (s.core.servers a).under (due_at s.core a) refl refl
  event_keeps (Give a lock) heard m n = given_all s.core a lock (asked_for s.core.locks a lock) (lives_shrink s (Give a lock) heard r m refl)
  event_keeps (Issue a sector) heard m n = issued_all s.core a sector (value_at (writes s.core a) sector) refl
  event_keeps (Doom a) heard m n =
      one_left s.core a (record (s.core.servers a) { phase = life.Doomed (fate_of s.core a) })
      (record { left = inl (refl, refl, refl); mounted = λ mounted. inl (doomed_mounted s.core a (good_of_run (setting_of r.script r.segments r.number) r.disk s r.run) m.can.can, λ h. h) })
  event_keeps (Resume a) heard m n =
      put_keeps s.core.servers a (up_again s.core.setting s.core.now (s.core.servers a))
      (left_keeps (s.core.servers a) (up_again s.core.setting s.core.now (s.core.servers a))
      (bare refl (λ mounted. inl (phases.still_mounted (s.core.servers a).phase (and_parts (is_still (s.core.servers a).phase) (nat_lt (s.core.servers a).expiry s.core.now) m.can.can.past).0, λ h. h))))
  event_keeps (Arrive ticket) heard m n = arrived_all s.core ticket heard (value_at s.core.flights ticket)
  event_keeps (Lose ticket) heard m n = all_same s.core
  event_keeps (Die a) heard m n = died_all s.core a (s.core.servers a).phase
  event_keeps (Renew a) heard m n = one_left s.core a (record (s.core.servers a) { expiry = lease_to s.core.setting s.core.now }) (same refl refl refl refl)
  event_keeps Tick heard m n = ticked_keeps s.core ((s.core.now + 1) % s.core.setting.flush_ticks == 0)
  event_keeps (Recover dead by) heard m n = one_left s.core by (record (s.core.servers by) { recovery = Some (recovery_of dead) }) (same refl refl refl refl)
  event_keeps (Load by slot) heard m n = loaded_all s.core by slot heard
  event_keeps (Look by sector) heard m n = looked_all s.core by sector heard
  event_keeps (Finish by) heard m n = ended_all s.core by (s.core.servers by).recovery (none by (subst (Makes s (Finish by)) m.hears m))
  event_keeps (HostLine number) heard m n = host_all s.core (next_of s.core host_party)
  event_keeps (Close a) heard m n = closed_all s.core a (clean_at s.core a)
  event_keeps (Read sector) heard m n = read_all s.core sector heard
  event_keeps (Show place) heard m n = all_same s.core
  event_keeps End heard m n = all_same s.core

  pub step_keeps : (v : RunMoment) (step : Step s v) → is_line_step s v step ≡ false → AllKeep s.core v.core
  step_keeps v (Event_ event heard makes) n = event_keeps event heard makes n
  step_keeps v (Enter a line can) n = all_same s.core
  step_keeps v (Hold a on may) n = all_same s.core
  step_keeps v (Flush a may) n = one_left s.core a (wanting_all_up (s.core.servers a)) (wanting_left (s.core.servers a))
  step_keeps v (Relock locks going are alike wait) n = all_same s.core
  step_keeps v (Note line may) n = all_same s.core
  step_keeps v (Peek sector going) n = all_same s.core
  step_keeps v (PeekFails sector going) n = failed_all s.core host_party
