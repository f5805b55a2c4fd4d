-- What each step witnesses; and that a recovery begins, and who is Off mounts, only where that line is said.
use Rattle.std.proofs.Common.{◌≡◌, ℕ, ◌⊎◌, inl, inr, ◌<◌, ◌+◌, ◌%◌, Bool, true, false, not, ◌&&◌, ◌==◌, if◌then◌else◌, IsTrue, is_some, List, [], ◌∷◌, Option, Some, None, refl, sym, ap, ◌∙◌, subst}
use Rattle.std.specs.Option.{option_map}
use Rattle.std.specs.List.{slice_get}
use Rattle.std.proofs.lemmas.Bool.{and_parts, both_ways, false≢true, or_right}
use Rattle.std.proofs.lemmas.Option.{same_Some, none-some}
use Rattle.frang_base.specs.Functions.{put}
use Rattle.frang_base.proofs.Basics.{at_put}
use Rattle.frang_base.specs.declared.op.Op.{Op}
use Rattle.frang_base.specs.declared.op.Op.TheVariants as op
use Rattle.frang_base.specs.declared.lock.LockId.{LockId}
use Rattle.frang_base.specs.declared.reply.Reply.{Reply}
use Rattle.frang_base.specs.declared.reply.Reply.TheVariants as reply
use Rattle.frang_base.specs.declared.said.Said.{Said}
use Rattle.frang_base.specs.declared.said.Said.TheVariants as said
use Rattle.frang_base.specs.declared.script.Line.{Line}
use Rattle.frang_outside.specs.declared.act.Put.{Put}
use Rattle.frang_outside.specs.declared.act.Taken.TheVariants as taken
use Rattle.lock_definitions.specs.declared.claim.AskedFor.{AskedFor}
use Rattle.lock_definitions.specs.declared.claim.AskedFor.TheVariants.{Release, Downgrade}
use Rattle.lock_definitions.specs.Calls.{asked_for, cleared}
use Rattle.lock_definitions.specs.Lease.{IsInTime}
use Rattle.disk_definitions.specs.Logs.{greatest_operation}
use Rattle.sector_bytes.specs.Blocks.{Block}
use Rattle.sector_bytes.specs.SectorMaps.{value_at}
use Rattle.tree_definitions.specs.Touched.{is_mounted, is_ok, is_unmount}
use Rattle.tree_definitions.specs.Transcript.{is_node}
use Rattle.core_definitions.specs.Lines.{Stage, Asking, Fetching, Moving, Stopping, Growing, Clearing, Finishing, Under, operation_of}
use Rattle.core_definitions.specs.Flights.{Flight, InPlace, OfLog, OfRecovery, Purpose}
use Rattle.core_definitions.specs.Recoveries.{Recovery, recovery_of, redos}
use Rattle.core_definitions.specs.Scripts.{host_party}
use Rattle.core_definitions.specs.Servers.{Phase, Off, Up, Still, Doomed, Dead, Server, due_if, due_under, is_answering, is_clean, is_dead, is_in_mount, is_off, is_still, is_up, own_answer, own_answer_of, wanting_all, wanting_all_up}
use Rattle.core_definitions.specs.Settings.{LogRules}
use Rattle.core_definitions.specs.Logs.{is_read}
use Rattle.core_definitions.specs.Writes.{Write, comes_clean}
use Rattle.core_definitions.specs.Cores.{Core, clean_at, due_at, next_of, stage, tree_lines, with_server, writes}
use Rattle.core_definitions.specs.Events.{Event, Begin, Ask, Fetch, Again, Clear, Commit, Answer, Give, Issue, Doom, Resume, Arrive, Lose, Die, Renew, Tick, Recover, Load, Look, Finish, HostLine, Close, Read, Show, End, Heard, Nothing, Got, GetFailed, Written, Late, PutFailed}
use Rattle.core_definitions.specs.Effects.{Made, Says, MayArrive, after, id_of, put_of, reply_by, says_answer, says_node, says_recovered}
use Rattle.core_definitions.specs.EndGuards.{CanRecover}
use Rattle.core_definitions.specs.Guards.{Can}
use Rattle.core_definitions.specs.LineEffects.{again_by, answered_by, answered_fixed, answered_open, answered_under, answered_with, begun_line, begun_with, cached_under, call_failed, committed_at, cover_needed, failed_by, fetch_failed, fetched_by, off_after, refused_under, slot_read, with_under}
use Rattle.core_definitions.specs.WriteEffects.{acknowledged, acknowledged_for, arrived_from, clean_now, died_in, given_for, issued_as, landed, taken_in}
use Rattle.core_definitions.specs.EndEffects.{finished_from, host_answered_line, recovered, recovering}
use Rattle.core_definitions.specs.LineGuards.{is_server}
use Rattle.core_definitions.specs.WriteGuards.{is_worker}
use Rattle.core_definitions.specs.Runs.{State, Step, Event_, Enter, Hold, Flush, Relock, Note, Peek, PeekFails, Makes, is_note, goes_on}
use Rattle.core_facts.proofs.Phases.{doomed_mounted, mounted_dead_not, taker_works, up_mounted}
use Rattle.core_laws.proofs.Memory.{Safe, dead_of, given_due, opened, works}
use Rattle.core_laws.proofs.Resting.{server_no_host}
use Rattle.core_transcripts.proofs.Telling.{got_in, tree_nodes}
use Rattle.headline_definitions.specs.Runs.{witnessed_at, witnessed_by, witnessed_of_arrival}
use Rattle.headline_definitions.specs.Witnessed.{Witnessed, Acted, Broke, told}

-- ---- servers

-- it is Off, or Dead with its lease over
abbrev pub Out : ℕ → Server → Type 0
Out now server = IsTrue (is_off server.phase) ⊎ (IsTrue (is_dead server.phase) × (server.expiry < now))

-- who recovers nothing goes on doing so, and who is out stays so
pub record Rests (old new : Server) : Type 0 where
  pub idle : old.recovery ≡ None → new.recovery ≡ None
  pub out : (now : ℕ) → Out now old → Out now new

abbrev pub AllRest : Core → Core → Type 0
AllRest c d = (i : ℕ) → Rests (c.servers i) (d.servers i)

out_same : (now : ℕ) (old new : Server) → new.phase ≡ old.phase → new.expiry ≡ old.expiry → Out now old → Out now new
out_same now old new p e (inl off) = inl (ap is_off p ∙ off)
out_same now old new p e (inr dead) = inr (ap is_dead p ∙ dead.0, subst (λ n. n < now) (sym e) dead.1)

resting : (old new : Server) → new.recovery ≡ old.recovery → new.phase ≡ old.phase → new.expiry ≡ old.expiry → Rests old new
resting old new r p e = record { idle = λ x. r ∙ x; out = λ now o. out_same now old new p e o }

itself : (server : Server) → Rests server server
itself server = resting server server refl refl refl

one_rests : (c : Core) (a : ℕ) (new : Server) → Rests (c.servers a) new → (i : ℕ) → Rests (c.servers i) (put c.servers a new i)
one_rests c a new h i = at_put (Rests (c.servers i)) c.servers a new i (λ e. subst (λ k. Rests (c.servers k) new) (sym e) h) (λ n. itself (c.servers i))

one_same : (c : Core) (a : ℕ) (new : Server) → new.recovery ≡ (c.servers a).recovery → new.phase ≡ (c.servers a).phase → new.expiry ≡ (c.servers a).expiry → (i : ℕ) → Rests (c.servers i) (put c.servers a new i)
one_same c a new r p e i = one_rests c a new (resting (c.servers a) new r p e) i

all_same : (c d : Core) → d.servers ≡ c.servers → AllRest c d
all_same c d e i = subst (λ (f : ℕ → Server). Rests (c.servers i) (f i)) (sym e) (itself (c.servers i))

-- who is in a mount isn't out
mounted_out_not : (now : ℕ) (server : Server) → IsTrue (is_in_mount server.phase) → Out now server → ⊥
mounted_out_not now server m (inl off) = go server.phase m off
  where
    go : (p : Phase) → IsTrue (is_in_mount p) → IsTrue (is_off p) → ⊥
    go Off m o = false≢true m
    go Up m o = false≢true o
    go Still m o = false≢true o
    go (Doomed fate) m o = false≢true o
    go Dead m o = false≢true m
mounted_out_not now server m (inr dead) = both_ways (is_dead server.phase) (mounted_dead_not server.phase m) dead.0

still_mounted : (p : Phase) → IsTrue (is_still p) → IsTrue (is_in_mount p)
still_mounted Off s = absurd (false≢true s)
still_mounted Up s = absurd (false≢true s)
still_mounted Still s = refl
still_mounted (Doomed fate) s = absurd (false≢true s)
still_mounted Dead s = absurd (false≢true s)

awake : (old new : Server) → IsTrue (is_in_mount old.phase) → (old.recovery ≡ None → new.recovery ≡ None) → Rests old new
awake old new m idle = record { idle = idle; out = λ now o. absurd (mounted_out_not now old m o) }

-- ---- lines

begun_rests : (server : Server) (line : Option Line) → Rests server (begun_line server line)
begun_rests server None = itself server
begun_rests server (Some line) = go (operation_of line.what)
  where
    go : (o : Option Op) → Rests server (begun_with server line o)
    go None = itself server
    go (Some operation) = resting server _ refl refl refl

fetched_rests : (a sector : ℕ) (at : Option Stage) (block : Block) (server : Server) → Rests server (fetched_by a at sector block server)
fetched_rests a sector at block server = go (is_off server.phase) (cover_needed at sector)
  where
    go : (b : Bool) (o : Option LockId) → Rests server (if b then with_under server (slot_read a sector block) else cached_under server sector block o)
    go true o = resting server _ refl refl refl
    go false None = itself server
    go false (Some cover) = resting server _ refl refl refl

call_rests : (c d : Core) (a : ℕ) → d.servers ≡ c.servers → AllRest c (call_failed d a)
call_rests c d a e = go (a == host_party)
  where
    go : (b : Bool) → AllRest c (if b then record d { over = true } else with_server d a (failed_by (d.servers a)))
    go true = all_same c (record d { over = true }) e
    go false = λ i.
        subst (λ (f : ℕ → Server). Rests (f i) (put d.servers a (failed_by (d.servers a)) i)) e (one_same d a (failed_by (d.servers a)) refl refl refl i)

fetch_failed_rests : (c : Core) (a : ℕ) → AllRest c (fetch_failed c a)
fetch_failed_rests c a = go (is_off (c.servers a).phase)
  where
    go : (b : Bool) → AllRest c (if b then with_server c a (with_under (c.servers a) refused_under) else call_failed c a)
    go true = λ i. one_same c a _ refl refl refl i
    go false = call_rests c c a refl

again_rests : (logs : LogRules) (at : Option Stage) (server : Server) → Rests server (again_by logs at server)
again_rests logs None server = itself server
again_rests logs (Some (Asking need)) server = itself server
again_rests logs (Some (Fetching needs)) server = itself server
again_rests logs (Some Moving) server = resting server _ refl refl refl
again_rests logs (Some Stopping) server = itself server
again_rests logs (Some (Growing needs seen)) server = resting server _ refl refl refl
again_rests logs (Some (Clearing block)) server = itself server
again_rests logs (Some (Finishing outcome)) server = resting server _ refl refl refl

committed_rests : (c : Core) (a : ℕ) (at : Option Stage) → AllRest c (committed_at c a at)
committed_rests c a None i = itself (c.servers i)
committed_rests c a (Some (Asking need)) i = itself (c.servers i)
committed_rests c a (Some (Fetching needs)) i = itself (c.servers i)
committed_rests c a (Some Moving) i = itself (c.servers i)
committed_rests c a (Some Stopping) i = itself (c.servers i)
committed_rests c a (Some (Growing needs seen)) i = itself (c.servers i)
committed_rests c a (Some (Clearing block)) i = itself (c.servers i)
committed_rests c a (Some (Finishing outcome)) i = one_same c a _ refl refl refl i

-- ---- answers

-- an answer that isn't `mounted` leaves who is out so, and none begins a recovery
record RestsBut (mounted : Bool) (old new : Server) : Type 0 where
  idle : old.recovery ≡ None → new.recovery ≡ None
  out : mounted ≡ false → (now : ℕ) → Out now old → Out now new

rests_but : (mounted : Bool) (old new : Server) → Rests old new → RestsBut mounted old new
rests_but mounted old new r = record { idle = r.idle; out = λ e. r.out }

module _ (c : Core) (a : ℕ) (under : Under) where
  abbrev old : Server
  old = c.servers a

  abbrev left_by : Bool → Op → Reply → Server
  left_by fixed operation answer = record (if fixed then answered_fixed old operation answer else answered_open c under old operation answer) { under = None }

  same_left : (operation : Op) (answer : Reply) → left_by false operation answer ≡ record old { under = None } → RestsBut (is_mounted answer) old (left_by false operation answer)
  same_left operation answer e = subst (λ x. RestsBut (is_mounted answer) old x) (sym e) (rests_but (is_mounted answer) old _ (resting old _ refl refl refl))

  mounted_left : (off failed read : Bool) (answer : Reply) → (if off then (if failed then Some reply.Io else due_if read reply.Mounted) else None) ≡ Some answer →
      RestsBut (is_mounted answer) old (left_by false op.Mount answer)
  mounted_left false failed read answer e = absurd (none-some answer e)
  mounted_left true true read answer e = subst (λ x. RestsBut (is_mounted x) old (left_by false op.Mount x)) (same_Some reply.Io answer e) (same_left op.Mount reply.Io refl)
  mounted_left true false false answer e = absurd (none-some answer e)
  mounted_left true false true answer e =
      subst (λ x. RestsBut (is_mounted x) old (left_by false op.Mount x)) (same_Some reply.Mounted answer e) (record { idle = λ e. refl; out = λ e now o. absurd (false≢true (sym e)) })

  open_left : (operation : Op) (answer : Reply) → own_answer c.setting.logs c.flights a old under operation ≡ Some answer → RestsBut (is_mounted answer) old (left_by false operation answer)
  open_left (op.Create path) answer e = absurd (none-some answer e)
  open_left (op.Mkdir path) answer e = absurd (none-some answer e)
  open_left (op.Link path to) answer e = absurd (none-some answer e)
  open_left (op.Symlink path target) answer e = absurd (none-some answer e)
  open_left (op.Unlink path) answer e = absurd (none-some answer e)
  open_left (op.Rmdir path) answer e = absurd (none-some answer e)
  open_left (op.Rename path to) answer e = absurd (none-some answer e)
  open_left (op.Write path off bytes) answer e = absurd (none-some answer e)
  open_left (op.Fill path off len byte) answer e = absurd (none-some answer e)
  open_left (op.Truncate path len) answer e = absurd (none-some answer e)
  open_left (op.Read path off len) answer e = absurd (none-some answer e)
  open_left (op.Stat path) answer e = absurd (none-some answer e)
  open_left (op.List path) answer e = absurd (none-some answer e)
  open_left (op.Readlink path) answer e = absurd (none-some answer e)
  open_left (op.Time path) answer e = absurd (none-some answer e)
  open_left op.Sync answer e = same_left op.Sync answer refl
  open_left op.Mount answer e = mounted_left (is_off old.phase) under.get_failed (is_read c.setting.logs under.slots) answer e
  open_left op.Unmount answer e =
      rests_but (is_mounted answer) old _ (awake old _ (up_mounted old.phase (and_parts (is_up old.phase) _ (given_due (is_up old.phase && is_clean c.flights a old) reply.Ok answer e)).0) (λ x. refl))
  open_left op.Crash answer e = absurd (none-some answer e)
  open_left (op.CrashAt k) answer e = rests_but (is_mounted answer) old _ (resting old _ refl refl refl)
  open_left (op.CutAt k) answer e = rests_but (is_mounted answer) old _ (resting old _ refl refl refl)
  open_left op.Stall answer e = rests_but (is_mounted answer) old _ (awake old _ (up_mounted old.phase (given_due (is_up old.phase) reply.Ok answer e)) (λ x. x))

  fixed_left : (unmount ok mounted : Bool) → RestsBut mounted old (record (if unmount && ok then record old { owes = false } else old) { under = None })
  fixed_left true true mounted = rests_but mounted old _ (resting old _ refl refl refl)
  fixed_left true false mounted = rests_but mounted old _ (resting old _ refl refl refl)
  fixed_left false ok mounted = rests_but mounted old _ (resting old _ refl refl refl)

  answer_left : (operation : Op) (answer : Reply) → (is_some under.fixed ≡ false → own_answer c.setting.logs c.flights a old under operation ≡ Some answer) →
      RestsBut (is_mounted answer) old (answered_by c under old operation answer)
  answer_left operation answer own = go (is_some under.fixed) refl
    where
      go : (b : Bool) → is_some under.fixed ≡ b → RestsBut (is_mounted answer) old (left_by b operation answer)
      go true e = fixed_left (is_unmount operation) (is_ok answer) (is_mounted answer)
      go false e = open_left operation answer (own e)

-- all of them rest but for a server that answers `mounted`
pub record AllRestBut (a : ℕ) (mounted : Bool) (c d : Core) : Type 0 where
  pub idle : (i : ℕ) → (c.servers i).recovery ≡ None → (d.servers i).recovery ≡ None
  pub out : (i : ℕ) → (i ≡ a → mounted ≡ false) → (now : ℕ) → Out now (c.servers i) → Out now (d.servers i)

all_rest_but : (a : ℕ) (mounted : Bool) (c d : Core) → AllRest c d → AllRestBut a mounted c d
all_rest_but a mounted c d all = record { idle = λ i. (all i).idle; out = λ i n. (all i).out }

with_rests : (c : Core) (a : ℕ) (under : Under) (answer : Reply) (operation : Option Op) →
    (is_some under.fixed ≡ false → own_answer_of c.setting.logs c.flights a (c.servers a) under operation ≡ Some answer) → AllRestBut a (is_mounted answer) c (answered_with c a under answer operation)
with_rests c a under answer None own = all_rest_but a (is_mounted answer) c c (λ i. itself (c.servers i))
with_rests c a under answer (Some operation) own = record {
  idle = λ i. at_put (λ x. (c.servers i).recovery ≡ None → x.recovery ≡ None) c.servers a new i (λ e. subst (λ k. (c.servers k).recovery ≡ None → new.recovery ≡ None) (sym e) left.idle) (λ n e. e);
  out = λ i. at_put (λ x. (i ≡ a → is_mounted answer ≡ false) → (now : ℕ) → Out now (c.servers i) → Out now x) c.servers a new i
      (λ e no now o. left.out (no e) now (subst (λ k. Out now (c.servers k)) e o)) (λ n no now o. o);
}
  where
    new : Server
    new = answered_by c under (c.servers a) operation answer

    left : RestsBut (is_mounted answer) (c.servers a) new
    left = answer_left c a under operation answer own

-- ---- what is witnessed

-- lines that tell neither of answers nor of recoveries
abbrev pub is_quiet : Said → Bool
is_quiet (said.Answer server number r) = false
is_quiet (said.Recovering server by) = false
is_quiet (said.Recovered server kept) = false
is_quiet line = true

-- nothing, such a line, a put that came late, or a failed one that left the new sector
pub data IsQuiet : List Witnessed → Type 0 where
  Silent : IsQuiet []
  Told_ : (line : Said) → is_quiet line ≡ true → IsQuiet (Acted (Says line) ∷ [])
  Faded : (put : Put) → IsQuiet (Acted (Made put taken.Late) ∷ [])
  Failed : (sector : ℕ) (block : Block) → IsQuiet (Broke sector block ∷ [])

-- a recovery of this log begins, and nothing else changes of servers
pub record Beginning_ (c : Core) (dead by : ℕ) (d : Core) : Type 0 where
  pub others : (i : ℕ) → (i ≡ by → ⊥) → (c.servers i).recovery ≡ None → (d.servers i).recovery ≡ None
  pub own : (d.servers by).recovery ≡ Some (recovery_of dead)
  pub works : IsTrue (is_worker d by)
  pub out : (i now : ℕ) → Out now (c.servers i) → Out now (d.servers i)

-- one ends
pub record Ending_ (c : Core) (by dead : ℕ) (d : Core) : Type 0 where
  pub all : AllRest c d
  pub gone : (d.servers by).recovery ≡ None
  pub off : IsTrue (is_off (d.servers dead).phase)

-- by what it is: nothing that counts; an answer; a recovery begins, or ends; or a write in time
pub data Sees (s : State) (d : Core) : List Witnessed → Type 0 where
  Quiet : {ws : List Witnessed} → IsQuiet ws → AllRest s.core d → Sees s d ws
  Answers : (a number : ℕ) (r : Reply) → AllRestBut a (is_mounted r) s.core d → Sees s d (Acted (Says (said.Answer (id_of a) number r)) ∷ [])
  Begins : (dead by : ℕ) → CanRecover s.core dead by → d ≡ recovering s.core dead by → Beginning_ s.core dead by d → Sees s d (Acted (Says (said.Recovering (id_of dead) (id_of by))) ∷ [])
  Ends : (by : ℕ) (recovery : Recovery) → Can s.core (Finish by) → (s.core.servers by).recovery ≡ Some recovery → Ending_ s.core by recovery.dead d →
      Sees s d (Acted (Says (said.Recovered (id_of recovery.dead) (record { 0 = greatest_operation (redos s.core.setting.logs recovery) }))) ∷ [])
  Puts : (ticket : ℕ) (flight : Flight) → s.core.over ≡ false → value_at s.core.flights ticket ≡ Some flight → IsInTime flight.stamp s.core.now → AllRest s.core d →
      Sees s d (Acted (Made (put_of s.core.now flight) taken.Written) ∷ [])

-- ---- each event

module _ (s : State) (safe : Safe s.core.servers) where
  silent : (d : Core) → AllRest s.core d → Sees s d []
  silent d all = Quiet Silent all

  commit_sees : (a : ℕ) (under : Option Under) (answer : Option Reply) (d : Core) → AllRest s.core d → Sees s d (told (says_answer a under answer))
  commit_sees a None None d all = silent d all
  commit_sees a None (Some answer) d all = silent d all
  commit_sees a (Some under) None d all = silent d all
  commit_sees a (Some under) (Some answer) d all = Answers a under.line.number answer (all_rest_but a (is_mounted answer) s.core d all)

  answer_sees : (a : ℕ) (under : Option Under) (answer : Option Reply) → (s.core.servers a).under ≡ under → due_at s.core a ≡ answer → Sees s (answered_under s.core a under answer) (told (says_answer a under answer))
  answer_sees a None None u e = silent s.core (all_same s.core s.core refl)
  answer_sees a None (Some answer) u e = silent s.core (all_same s.core s.core refl)
  answer_sees a (Some under) None u e = silent s.core (all_same s.core s.core refl)
  answer_sees a (Some under) (Some answer) u e =
      Answers a under.line.number answer
      (with_rests s.core a under answer (operation_of under.line.what)
      (opened (is_answering (s.core.servers a).phase) under.fixed (own_answer_of s.core.setting.logs s.core.flights a (s.core.servers a) under (operation_of under.line.what)) answer
      (sym (ap (λ o. if is_answering (s.core.servers a).phase then due_under s.core.setting.logs s.core.flights a (s.core.servers a) o else None) u) ∙ e)))

  given_rests : (a : ℕ) (lock : LockId) (asked : Option AskedFor) → AllRest s.core (given_for s.core a lock asked)
  given_rests a lock None i = itself (s.core.servers i)
  given_rests a lock (Some Downgrade) i = itself (s.core.servers i)
  given_rests a lock (Some Release) i = one_same s.core a _ refl refl refl i

  issued_rests : (a sector : ℕ) (write : Option Write) → AllRest s.core (issued_as s.core a sector write)
  issued_rests a sector None i = itself (s.core.servers i)
  issued_rests a sector (Some write) i = one_same s.core a _ refl refl refl i

  doomed_rests : (a : ℕ) → Can s.core (Doom a) → AllRest s.core (after s.core (Doom a) Nothing)
  doomed_rests a can i =
      one_rests s.core a _ (awake (s.core.servers a) _ (doomed_mounted s.core a safe can.can) (λ e. e)) i

  resumed_rests : (a : ℕ) → Can s.core (Resume a) → AllRest s.core (after s.core (Resume a) Nothing)
  resumed_rests a can i =
      one_rests s.core a _ (awake (s.core.servers a) _ (still_mounted (s.core.servers a).phase (and_parts (is_still (s.core.servers a).phase) _ can.can.past).0) (λ e. refl)) i

  died_rests : (a : ℕ) (phase : Phase) → (s.core.servers a).phase ≡ phase → AllRest s.core (died_in s.core a phase)
  died_rests a Off p i = itself (s.core.servers i)
  died_rests a Up p i = itself (s.core.servers i)
  died_rests a Still p i = itself (s.core.servers i)
  died_rests a (Doomed fate) p i = one_rests s.core a _ (awake (s.core.servers a) _ (ap is_in_mount p) (λ e. refl)) i
  died_rests a Dead p i = itself (s.core.servers i)

  none_acknowledged : (sector : ℕ) (o : Option Recovery) → o ≡ None → option_map (acknowledged_for sector) o ≡ None
  none_acknowledged sector None e = refl
  none_acknowledged sector (Some r) e = absurd (none-some r (sym e))

  acknowledged_rests : (sector : ℕ) (block : Block) (purpose : Purpose) (server : Server) → Rests server (acknowledged sector block purpose server)
  acknowledged_rests sector block (OfLog number) server = resting server _ refl refl refl
  acknowledged_rests sector block (InPlace cover) server = go (comes_clean server sector block)
    where
      go : (b : Bool) → Rests server (if b then clean_now sector server else server)
      go true = resting server _ refl refl refl
      go false = itself server
  acknowledged_rests sector block OfRecovery server = record {
    idle = none_acknowledged sector server.recovery;
    out = λ now o. out_same now server (record server { recovery = option_map (acknowledged_for sector) server.recovery }) refl refl o;
  }

  taken_rests : (ticket : ℕ) (flight : Flight) → AllRest s.core (taken_in (landed s.core ticket) flight)
  taken_rests ticket flight = go flight.present
    where
      go : (b : Bool) → AllRest s.core (if b then with_server (landed s.core ticket) flight.server (acknowledged flight.sector flight.block flight.purpose (s.core.servers flight.server)) else landed s.core ticket)
      go true i = one_rests s.core flight.server _ (acknowledged_rests flight.sector flight.block flight.purpose (s.core.servers flight.server)) i
      go false i = itself (s.core.servers i)

  arrived_sees : (ticket : ℕ) (heard : Heard) (o : Option Flight) → s.core.over ≡ false → value_at s.core.flights ticket ≡ o → MayArrive s.core.now o heard →
      Sees s (arrived_from s.core ticket heard o) (witnessed_of_arrival s.core.now heard o)
  arrived_sees ticket heard None going e may = absurd may
  arrived_sees ticket Nothing (Some flight) going e may = absurd may
  arrived_sees ticket (Got block) (Some flight) going e may = absurd may
  arrived_sees ticket GetFailed (Some flight) going e may = absurd may
  arrived_sees ticket Written (Some flight) going e may = Puts ticket flight going e may (taken_rests ticket flight)
  arrived_sees ticket Late (Some flight) going e may = Quiet (Faded (put_of s.core.now flight)) (λ i. itself (s.core.servers i))
  arrived_sees ticket (PutFailed true) (Some flight) going e may = Quiet (Failed flight.sector flight.block) (call_rests s.core (landed s.core ticket) flight.server refl)
  arrived_sees ticket (PutFailed false) (Some flight) going e may = silent _ (call_rests s.core (landed s.core ticket) flight.server refl)

  flushed_rests : (i : ℕ) (test : Bool) → Rests (s.core.servers i) (if test then wanting_all_up (s.core.servers i) else s.core.servers i)
  flushed_rests i false = itself (s.core.servers i)
  flushed_rests i true = go (is_up (s.core.servers i).phase)
    where
      go : (b : Bool) → Rests (s.core.servers i) (if b then wanting_all (s.core.servers i) else s.core.servers i)
      go true = resting (s.core.servers i) _ refl refl refl
      go false = itself (s.core.servers i)

  recover_sees : (dead by : ℕ) → CanRecover s.core dead by → Sees s (after s.core (Recover dead by) Nothing) (Acted (Says (said.Recovering (id_of dead) (id_of by))) ∷ [])
  recover_sees dead by can = Begins dead by can refl (record {
    others = λ i n. at_put (λ x. (s.core.servers i).recovery ≡ None → x.recovery ≡ None) s.core.servers by new i (λ e. absurd (n e)) (λ m e. e);
    own = at_put (λ x. x.recovery ≡ Some (recovery_of dead)) s.core.servers by new by (λ e. refl) (λ m. absurd (m refl));
    works = at_put (λ x. IsTrue (works by x)) s.core.servers by new by (λ e. taker_works s.core dead by can) (λ m. absurd (m refl));
    out = λ i now. at_put (λ x. Out now (s.core.servers i) → Out now x) s.core.servers by new i
        (λ e o. out_same now (s.core.servers by) new refl refl (subst (λ k. Out now (s.core.servers k)) e o)) (λ m o. o);
  })
    where
      new : Server
      new = record (s.core.servers by) { recovery = Some (recovery_of dead) }

  changed_rests : (by : ℕ) (change : Recovery → Recovery) → AllRest s.core (with_server s.core by (record (s.core.servers by) { recovery = option_map change (s.core.servers by).recovery }))
  changed_rests by change i = one_rests s.core by _ (record {
    idle = none_changed (s.core.servers by).recovery;
    out = λ now o. out_same now (s.core.servers by) (record (s.core.servers by) { recovery = option_map change (s.core.servers by).recovery }) refl refl o;
  }) i
    where
      none_changed : (o : Option Recovery) → o ≡ None → option_map change o ≡ None
      none_changed None e = refl
      none_changed (Some r) e = absurd (none-some r (sym e))

  loaded_rests : (by slot : ℕ) (heard : Heard) → AllRest s.core (after s.core (Load by slot) heard)
  loaded_rests by slot (Got block) = changed_rests by _
  loaded_rests by slot Nothing = call_rests s.core s.core by refl
  loaded_rests by slot GetFailed = call_rests s.core s.core by refl
  loaded_rests by slot Written = call_rests s.core s.core by refl
  loaded_rests by slot Late = call_rests s.core s.core by refl
  loaded_rests by slot (PutFailed new) = call_rests s.core s.core by refl

  looked_rests : (by sector : ℕ) (heard : Heard) → AllRest s.core (after s.core (Look by sector) heard)
  looked_rests by sector (Got block) = changed_rests by _
  looked_rests by sector Nothing = call_rests s.core s.core by refl
  looked_rests by sector GetFailed = call_rests s.core s.core by refl
  looked_rests by sector Written = call_rests s.core s.core by refl
  looked_rests by sector Late = call_rests s.core s.core by refl
  looked_rests by sector (PutFailed new) = call_rests s.core s.core by refl

  read_rests : (sector : ℕ) (heard : Heard) → AllRest s.core (after s.core (Read sector) heard)
  read_rests sector (Got block) = λ i. itself (s.core.servers i)
  read_rests sector Nothing = call_rests s.core s.core host_party refl
  read_rests sector GetFailed = call_rests s.core s.core host_party refl
  read_rests sector Written = call_rests s.core s.core host_party refl
  read_rests sector Late = call_rests s.core s.core host_party refl
  read_rests sector (PutFailed new) = call_rests s.core s.core host_party refl

  fetched_all : (a sector : ℕ) (heard : Heard) → AllRest s.core (after s.core (Fetch a sector) heard)
  fetched_all a sector (Got block) = λ i. one_rests s.core a _ (fetched_rests a sector (stage s.core a) block (s.core.servers a)) i
  fetched_all a sector Nothing = fetch_failed_rests s.core a
  fetched_all a sector GetFailed = fetch_failed_rests s.core a
  fetched_all a sector Written = fetch_failed_rests s.core a
  fetched_all a sector Late = fetch_failed_rests s.core a
  fetched_all a sector (PutFailed new) = fetch_failed_rests s.core a

  finish_sees : (by : ℕ) (o : Option Recovery) → (s.core.servers by).recovery ≡ o → Can s.core (Finish by) → Sees s (finished_from s.core by o) (told (says_recovered s.core o))
  finish_sees by None e can = silent s.core (all_same s.core s.core refl)
  finish_sees by (Some r) e can = Ends by r can e (record { all = all; gone = gone; off = off })
    where
      idle : Server
      idle = record (s.core.servers by) { recovery = None }

      new : Server
      new = recovered (s.core.servers r.dead)

      rid : ℕ → Server
      rid = put s.core.servers by idle

      was : IsTrue (is_dead (s.core.servers r.dead).phase) × IsTrue (is_server r.dead)
      was = safe.saved by r.dead can.can.who (ap dead_of e)

      all : AllRest s.core (finished_from s.core by (Some r))
      all i =
          at_put (Rests (s.core.servers i)) rid r.dead new i (λ f. subst (λ k. Rests (s.core.servers k) new) (sym f) (record { idle = λ x. x; out = λ now o. inl refl }))
          (λ n. at_put (Rests (s.core.servers i)) s.core.servers by idle i
          (λ f. subst (λ k. Rests (s.core.servers k) idle) (sym f) (record { idle = λ x. refl; out = λ now o. out_same now (s.core.servers by) idle refl refl o })) (λ m. itself (s.core.servers i)))

      dead_has_none : (s.core.servers r.dead).recovery ≡ None
      dead_has_none = (safe.bare r.dead (server_no_host r.dead was.1) (or_right _ (is_dead (s.core.servers r.dead).phase) was.0)).recovery

      gone : (put rid r.dead new by).recovery ≡ None
      gone =
          at_put (λ x. x.recovery ≡ None) rid r.dead new by (λ f. dead_has_none)
          (λ n. at_put (λ x. x.recovery ≡ None) s.core.servers by idle by (λ f. refl) (λ m. absurd (m refl)))

      off : IsTrue (is_off (put rid r.dead new r.dead).phase)
      off = at_put (λ x. IsTrue (is_off x.phase)) rid r.dead new r.dead (λ f. refl) (λ n. absurd (n refl))

  closed_rests : (a : ℕ) → IsTrue (is_up (s.core.servers a).phase) → AllRest s.core (after s.core (Close a) Nothing)
  closed_rests a up = go (clean_at s.core a)
    where
      go : (b : Bool) → AllRest s.core (if b then record s.core { servers = put s.core.servers a (off_after (s.core.servers a)); locks = cleared s.core.locks a } else with_server s.core a (wanting_all (s.core.servers a)))
      go true i = one_rests s.core a _ (awake (s.core.servers a) _ (up_mounted (s.core.servers a).phase up) (λ e. refl)) i
      go false i = one_same s.core a _ refl refl refl i

  host_sees : (number : ℕ) (o : Option Line) → Sees s (host_answered_line s.core o) (Acted (Says (said.Answer (id_of host_party) number reply.Ok)) ∷ [])
  host_sees number None = Answers host_party number reply.Ok (all_rest_but host_party false s.core s.core (λ i. itself (s.core.servers i)))
  host_sees number (Some line) = Answers host_party number reply.Ok (all_rest_but host_party false s.core _ (λ i. itself (s.core.servers i)))

  node_quiet : (line : Said) → is_node line ≡ true → is_quiet line ≡ true
  node_quiet (said.Node path kind size links) e = refl
  node_quiet (said.Answer server number r) e = absurd (false≢true e)
  node_quiet (said.Dead server) e = refl
  node_quiet (said.Recovering server by) e = absurd (false≢true e)
  node_quiet (said.Recovered server kept) e = absurd (false≢true e)
  node_quiet (said.Renewed server) e = refl
  node_quiet (said.Redo op) e = refl
  node_quiet (said.Backup line) e = refl
  node_quiet (said.Locks line) e = refl
  node_quiet (said.Shown text) e = refl
  node_quiet said.End e = refl

  show_sees : (place : ℕ) (o : Option Said) → slice_get (tree_lines s.core) place ≡ o → Sees s (after s.core (Show place) Nothing) (told (says_node o))
  show_sees place None e = silent _ (λ i. itself (s.core.servers i))
  show_sees place (Some line) e =
      Quiet (Told_ line (node_quiet line (tree_nodes s.core.setting.segments s.core.read line (got_in (tree_lines s.core) place line e)))) (λ i. itself (s.core.servers i))

  event_sees : (event : Event) (heard : Heard) → s.core.over ≡ false → Makes s event heard → Sees s (after s.core event heard) (witnessed_by s.core event heard)
  event_sees (Begin a) heard going m = silent _ (λ i. one_rests s.core a _ (begun_rests (s.core.servers a) (next_of s.core a)) i)
  event_sees (Ask a lock mode) heard going m = silent _ (λ i. itself (s.core.servers i))
  event_sees (Fetch a sector) heard going m = silent _ (fetched_all a sector heard)
  event_sees (Again a) heard going m = silent _ (λ i. one_rests s.core a _ (again_rests s.core.setting.logs (stage s.core a) (s.core.servers a)) i)
  event_sees (Clear a block) heard going m = silent _ (λ i. one_same s.core a _ refl refl refl i)
  event_sees (Commit a) heard going m = commit_sees a (s.core.servers a).under (reply_by (stage s.core a)) _ (committed_rests s.core a (stage s.core a))
  event_sees (Answer a) heard going m = answer_sees a (s.core.servers a).under (due_at s.core a) refl refl
  event_sees (Give a lock) heard going m = silent _ (given_rests a lock (asked_for s.core.locks a lock))
  event_sees (Issue a sector) heard going m = silent _ (issued_rests a sector (value_at (writes s.core a) sector))
  event_sees (Doom a) heard going m = silent _ (doomed_rests a m.can)
  event_sees (Resume a) heard going m = Quiet (Told_ (said.Renewed (id_of a)) refl) (resumed_rests a m.can)
  event_sees (Arrive ticket) heard going m = arrived_sees ticket heard (value_at s.core.flights ticket) going refl m.hears
  event_sees (Lose ticket) heard going m = silent _ (λ i. itself (s.core.servers i))
  event_sees (Die a) heard going m = Quiet (Told_ (said.Dead (id_of a)) refl) (died_rests a (s.core.servers a).phase refl)
  event_sees (Renew a) heard going m = silent _ (λ i. one_rests s.core a _ (awake (s.core.servers a) _ (up_mounted (s.core.servers a).phase m.can.can.up) (λ e. e)) i)
  event_sees Tick heard going m = silent _ (λ i. flushed_rests i ((s.core.now + 1) % s.core.setting.flush_ticks == 0))
  event_sees (Recover dead by) heard going m = recover_sees dead by m.can.can
  event_sees (Load by slot) heard going m = silent _ (loaded_rests by slot heard)
  event_sees (Look by sector) heard going m = silent _ (looked_rests by sector heard)
  event_sees (Finish by) heard going m = finish_sees by (s.core.servers by).recovery refl m.can
  event_sees (HostLine number) heard going m = host_sees number (next_of s.core host_party)
  event_sees (Close a) heard going m = silent _ (closed_rests a m.can.can.up)
  event_sees (Read sector) heard going m = silent _ (read_rests sector heard)
  event_sees (Show place) heard going m = show_sees place (slice_get (tree_lines s.core) place) refl
  event_sees End heard going m = Quiet (Told_ said.End refl) (λ i. itself (s.core.servers i))

  note_quiet : (line : Said) → IsTrue (is_note line) → is_quiet line ≡ true
  note_quiet (said.Node path kind size links) e = refl
  note_quiet (said.Answer server number r) e = absurd (false≢true e)
  note_quiet (said.Dead server) e = refl
  note_quiet (said.Recovering server by) e = absurd (false≢true e)
  note_quiet (said.Recovered server kept) e = absurd (false≢true e)
  note_quiet (said.Renewed server) e = refl
  note_quiet (said.Redo op) e = refl
  note_quiet (said.Backup line) e = refl
  note_quiet (said.Locks line) e = refl
  note_quiet (said.Shown text) e = refl
  note_quiet said.End e = refl

  not_over : (b : Bool) → IsTrue (not b) → b ≡ false
  not_over false e = refl
  not_over true e = absurd (false≢true e)

  pub step_sees : (v : State) (step : Step s v) → Sees s v.core (witnessed_at s v step)
  step_sees v (Event_ event heard makes) = event_sees event heard (not_over s.core.over makes.can.going) makes
  step_sees v (Enter a line is) = silent _ (λ i. itself (s.core.servers i))
  step_sees v (Hold a on is) = silent _ (λ i. itself (s.core.servers i))
  step_sees v (Flush a is) = silent _ (λ i. one_rests s.core a _ (flushed_one (is_up (s.core.servers a).phase)) i)
    where
      flushed_one : (b : Bool) → Rests (s.core.servers a) (if b then wanting_all (s.core.servers a) else s.core.servers a)
      flushed_one true = resting (s.core.servers a) _ refl refl refl
      flushed_one false = itself (s.core.servers a)
  step_sees v (Relock locks going are same wait) = silent _ (λ i. itself (s.core.servers i))
  step_sees v (Note line may) = Quiet (Told_ line (note_quiet line (and_parts (is_note line) (goes_on s.core) may).0)) (λ i. itself (s.core.servers i))
  step_sees v (Peek sector going) = silent _ (λ i. itself (s.core.servers i))
  step_sees v (PeekFails sector going) = silent _ (call_rests s.core s.core host_party refl)
