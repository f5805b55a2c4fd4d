-- Who is Off or Dead has nothing in memory: event by event. Who recovers a log does so for a server that is Dead, and alone.
use Rattle.std.proofs.Common.{◌≡◌, ℕ, Bool, true, false, not, ◌&&◌, ◌||◌, ◌==◌, if◌then◌else◌, IsTrue, is_some, Option, Some, None, filter, nat_eq, refl, sym, ap, ◌∙◌, subst}
use Rattle.std.proofs.lemmas.Bool.{false≢true, and_parts, both_ways, eqb-true, or_right}
use Rattle.std.specs.Option.{option_map}
use Rattle.std.proofs.lemmas.Option.{same_Some, none-some}
use Rattle.frang_base.specs.Functions.{put}
use Rattle.frang_base.specs.declared.lock.LockId.{LockId}
use Rattle.frang_base.specs.declared.op.Op.{Op}
use Rattle.frang_base.specs.declared.op.Op.TheVariants as op
use Rattle.frang_base.specs.declared.reply.Reply.{Reply}
use Rattle.frang_base.specs.declared.reply.Reply.TheVariants as reply
use Rattle.frang_base.specs.declared.script.Line.{Line}
use Rattle.lock_definitions.specs.declared.claim.AskedFor.{AskedFor}
use Rattle.lock_definitions.specs.declared.claim.AskedFor.TheVariants.{Release, Downgrade}
use Rattle.sector_bytes.specs.Blocks.{Block}
use Rattle.tree_definitions.specs.Apply.{is_path_op}
use Rattle.tree_definitions.specs.Touched.{is_ok, is_unmount}
use Rattle.core_definitions.specs.Settings.{LogRules}
use Rattle.cache_definitions.specs.Caches.{cleaned}
use Rattle.core_definitions.specs.Logs.{is_read}
use Rattle.core_definitions.specs.Lines.{Stage, Asking, Fetching, Moving, Stopping, Growing, Clearing, Finishing, Under, operation_of}
use Rattle.core_definitions.specs.Flights.{Flight, InPlace, OfLog, OfRecovery, Purpose}
use Rattle.core_definitions.specs.Recoveries.{Recovery}
use Rattle.core_definitions.specs.Scripts.{host_party}
use Rattle.core_definitions.specs.Servers.{Arming, Phase, Off, Up, Still, Doomed, Dead, Server, answer_of, asks, due_if, due_under, is_answering, is_dead, is_off, is_still, is_up, own_answer, own_answer_of, stage_under, wanting_all, wanting_all_up}
use Rattle.core_definitions.specs.Writes.{Write, comes_clean}
use Rattle.core_definitions.specs.Cores.{Core, due_at, stage}
use Rattle.core_definitions.specs.Events.{Heard, Nothing, Got, GetFailed, Written, Late, PutFailed}
use Rattle.core_definitions.specs.LineGuards.{is_server}
use Rattle.core_definitions.specs.LineEffects.{again_by, answered_by, answered_open, answered_under, answered_with, begun_line, begun_with, cached_under, call_failed, committed_at, cover_needed, failed_by, fetched_by, slot_read, with_under}
use Rattle.core_definitions.specs.WriteEffects.{acknowledged, acknowledged_for, arrived_as, arrived_from, clean_now, counted, died_in, given_for, issued_as, landed, taken_in}
use Rattle.core_laws.specs.Facts.{HasNothing}

abbrev pub dead_of : Option Recovery → Option ℕ
dead_of recovery = option_map (λ r. r.dead) recovery

abbrev pub is_resting : Phase → Bool
is_resting phase = is_off phase || is_dead phase

-- Up, or the host
abbrev pub works : ℕ → Server → Bool
works i server = (is_server i && is_up server.phase) || i == host_party

-- ---- what an event does to a server, but for the begin and the end of a recovery

pub record Mild (i : ℕ) (old new : Server) : Type 0 where
  pub dead : IsTrue (is_dead old.phase) → IsTrue (is_dead new.phase)
  pub saves : (d : ℕ) → IsTrue (works i new) → dead_of new.recovery ≡ Some d → IsTrue (works i old) × (dead_of old.recovery ≡ Some d)
  pub bare : (i == host_party) ≡ false → (IsTrue (is_resting old.phase) → HasNothing old) → IsTrue (is_resting new.phase) → HasNothing new

kept : (i : ℕ) (old new : Server) → new.phase ≡ old.phase → dead_of new.recovery ≡ dead_of old.recovery → (IsTrue (is_resting old.phase) → HasNothing old → HasNothing new) → Mild i old new
kept i old new p r n = record {
  dead = λ h. ap is_dead p ∙ h;
  saves = λ d w e. (ap (λ q. (is_server i && is_up q) || i == host_party) (sym p) ∙ w, sym r ∙ e);
  bare = λ away b h. n (ap is_resting (sym p) ∙ h) (b (ap is_resting (sym p) ∙ h));
}

-- what is in memory is as before
pub unmoved : (i : ℕ) (old new : Server) → new.phase ≡ old.phase → new.cache ≡ old.cache → new.staying ≡ old.staying → new.staying_log ≡ old.staying_log → new.pending ≡ old.pending →
    new.recovery ≡ old.recovery → new.arming ≡ old.arming → Mild i old new
unmoved i old new p c s l q r a = kept i old new p (ap dead_of r) (λ h n. record {
  cache = c ∙ n.cache;
  staying = s ∙ n.staying;
  staying_log = l ∙ n.staying_log;
  pending = q ∙ n.pending;
  recovery = r ∙ n.recovery;
  arming = a ∙ n.arming;
})

pub self : (i : ℕ) (server : Server) → Mild i server server
self i server = unmoved i server server refl refl refl refl refl refl refl

-- it is neither Off nor Dead, and stays so
pub busy : (i : ℕ) (old new : Server) → is_resting old.phase ≡ false → new.phase ≡ old.phase → dead_of new.recovery ≡ dead_of old.recovery → Mild i old new
busy i old new n p r = kept i old new p r (λ h x. absurd (both_ways (is_resting old.phase) n h))

-- it isn't Dead, and has no recovery then
pub fresh : (i : ℕ) (old new : Server) → is_dead old.phase ≡ false → new.recovery ≡ None → (IsTrue (is_resting new.phase) → HasNothing new) → Mild i old new
fresh i old new n r h = record {
  dead = λ d. absurd (both_ways (is_dead old.phase) n d);
  saves = λ d w e. absurd (none-some d (sym (ap dead_of r) ∙ e));
  bare = λ away b t. h t;
}

-- it isn't Dead, and neither Off nor Dead nor Up then
pub leaving : (i : ℕ) (old new : Server) → is_dead old.phase ≡ false → is_resting new.phase ≡ false → is_up new.phase ≡ false → new.recovery ≡ old.recovery → Mild i old new
leaving i old new n r u e = record {
  dead = λ d. absurd (both_ways (is_dead old.phase) n d);
  saves = λ d w f. (host (is_server i) (is_up new.phase) (is_up old.phase) (i == host_party) u w, sym (ap dead_of e) ∙ f);
  bare = λ away b t. absurd (both_ways (is_resting new.phase) r t);
}
  where
    host : (s v w h : Bool) → v ≡ false → IsTrue ((s && v) || h) → IsTrue ((s && w) || h)
    host true v w h e t = or_right w h (subst (λ x. IsTrue (x || h)) e t)
    host false v w h e t = t

-- ---- phases

pub up_rests_not : (p : Phase) → IsTrue (is_up p) → is_resting p ≡ false
up_rests_not Off h = absurd (false≢true h)
up_rests_not Up h = refl
up_rests_not Still h = refl
up_rests_not (Doomed fate) h = refl
up_rests_not Dead h = absurd (false≢true h)

pub up_dead_not : (p : Phase) → IsTrue (is_up p) → is_dead p ≡ false
up_dead_not Off h = refl
up_dead_not Up h = refl
up_dead_not Still h = refl
up_dead_not (Doomed fate) h = refl
up_dead_not Dead h = absurd (false≢true h)

pub still_dead_not : (p : Phase) → IsTrue (is_still p) → is_dead p ≡ false
still_dead_not Off h = refl
still_dead_not Up h = refl
still_dead_not Still h = refl
still_dead_not (Doomed fate) h = refl
still_dead_not Dead h = absurd (false≢true h)

off_dead_not : (p : Phase) → IsTrue (is_off p) → is_dead p ≡ false
off_dead_not Off h = refl
off_dead_not Up h = refl
off_dead_not Still h = refl
off_dead_not (Doomed fate) h = refl
off_dead_not Dead h = absurd (false≢true h)

pub dead_is : (p : Phase) → IsTrue (is_dead p) → p ≡ Dead
dead_is Off h = absurd (false≢true h)
dead_is Up h = absurd (false≢true h)
dead_is Still h = absurd (false≢true h)
dead_is (Doomed fate) h = absurd (false≢true h)
dead_is Dead h = refl

-- a line over paths that has come somewhere is at a server that is Up
pub staged : (c : Core) (a : ℕ) (at : Stage) → stage c a ≡ Some at → IsTrue (is_up (c.servers a).phase)
staged c a at e = go (is_up (c.servers a).phase) (asks is_path_op (c.servers a)) (stage_under c.setting c.locks a (c.servers a).cache (c.servers a).under) e
  where
    go : (u k : Bool) (x : Option Stage) → (if u && k then x else None) ≡ Some at → IsTrue u
    go true k x e = refl
    go false k x e = absurd (none-some at e)

-- ---- what the servers keep

pub record Safe (servers : ℕ → Server) : Type 0 where
  pub bare : (i : ℕ) → (i == host_party) ≡ false → IsTrue (is_resting (servers i).phase) → HasNothing (servers i)
  pub saved : (by d : ℕ) → IsTrue (works by (servers by)) → dead_of (servers by).recovery ≡ Some d → IsTrue (is_dead (servers d).phase) × IsTrue (is_server d)
  pub one : (by other d e : ℕ) → IsTrue (works by (servers by)) → IsTrue (works other (servers other)) → dead_of (servers by).recovery ≡ Some d → dead_of (servers other).recovery ≡ Some e →
      by ≡ other

pub all_safe : (old new : ℕ → Server) → ((i : ℕ) → Mild i (old i) (new i)) → Safe old → Safe new
all_safe old new m g = record {
  bare = λ i away. (m i).bare away (g.bare i away);
  saved = λ by d w e. let o : IsTrue (works by (old by)) × (dead_of (old by).recovery ≡ Some d) = (m by).saves d w e in
      let s : IsTrue (is_dead (old d).phase) × IsTrue (is_server d) = g.saved by d o.0 o.1 in
      ((m d).dead s.0, s.1);
  one = λ by other d e w v f h.
      let o : IsTrue (works by (old by)) × (dead_of (old by).recovery ≡ Some d) = (m by).saves d w f in
      let p : IsTrue (works other (old other)) × (dead_of (old other).recovery ≡ Some e) = (m other).saves e v h in
      g.one by other d e o.0 p.0 o.1 p.1;
}

pub put_safe : (servers : ℕ → Server) (a : ℕ) (new : Server) → Safe servers → Mild a (servers a) new → Safe (put servers a new)
put_safe servers a new g m = all_safe servers (put servers a new) (λ i. go i (nat_eq i a) refl) g
  where
    go : (i : ℕ) (b : Bool) → nat_eq i a ≡ b → Mild i (servers i) (if b then new else servers i)
    go i true e = subst (λ k. Mild k (servers k) new) (sym (eqb-true i a e)) m
    go i false e = self i (servers i)

abbrev pub Good : Core → Type 0
Good c = Safe c.servers

pub either : (test : Bool) (d e : Core) → Good d → Good e → Good (if test then d else e)
either true d e k l = k
either false d e k l = l

-- a recovery that is changed stays that of the same server
pub rescued : (i : ℕ) (server : Server) (change : Recovery → Recovery) → ((r : Recovery) → (change r).dead ≡ r.dead) → Mild i server (record server { recovery = option_map change server.recovery })
rescued i server change keeps = kept i _ _ refl (go server.recovery) (λ h n. record {
  cache = n.cache;
  staying = n.staying;
  staying_log = n.staying_log;
  pending = n.pending;
  recovery = ap (option_map change) n.recovery;
  arming = n.arming;
})
  where
    go : (r : Option Recovery) → dead_of (option_map change r) ≡ dead_of r
    go None = refl
    go (Some r) = ap Some (keeps r)

-- ---- effects by cases

pub failed_good : (c : Core) (a : ℕ) → Good c → Good (call_failed c a)
failed_good c a g = either (a == host_party) _ _ g (put_safe c.servers a (failed_by (c.servers a)) g (unmoved a _ _ refl refl refl refl refl refl refl))

pub begun_mild : (a : ℕ) (server : Server) (line : Option Line) → Mild a server (begun_line server line)
begun_mild a server None = self a server
begun_mild a server (Some line) = go (operation_of line.what)
  where
    go : (operation : Option Op) → Mild a server (begun_with server line operation)
    go None = self a server
    go (Some operation) = unmoved a _ _ refl refl refl refl refl refl refl

pub fetched_mild : (a : ℕ) (at : Option Stage) (sector : ℕ) (block : Block) (server : Server) → (is_off server.phase ≡ false → IsTrue (is_up server.phase)) →
    Mild a server (fetched_by a at sector block server)
fetched_mild a at sector block server up = go (is_off server.phase) refl
  where
    under_cover : is_resting server.phase ≡ false → (cover : Option LockId) → Mild a server (cached_under server sector block cover)
    under_cover n None = self a server
    under_cover n (Some cover) = busy a _ _ n refl refl

    go : (b : Bool) → is_off server.phase ≡ b → Mild a server (if b then with_under server (slot_read a sector block) else cached_under server sector block (cover_needed at sector))
    go true e = unmoved a _ _ refl refl refl refl refl refl refl
    go false e = under_cover (up_rests_not server.phase (up e)) (cover_needed at sector)

pub again_mild : (logs : LogRules) (a : ℕ) (at : Option Stage) (server : Server) → Mild a server (again_by logs at server)
again_mild logs a None server = self a server
again_mild logs a (Some (Asking need)) server = self a server
again_mild logs a (Some (Fetching needs)) server = self a server
again_mild logs a (Some Moving) server = unmoved a _ _ refl refl refl refl refl refl refl
again_mild logs a (Some Stopping) server = self a server
again_mild logs a (Some (Growing needs seen)) server = unmoved a _ _ refl refl refl refl refl refl refl
again_mild logs a (Some (Clearing block)) server = self a server
again_mild logs a (Some (Finishing outcome)) server = unmoved a _ _ refl refl refl refl refl refl refl

pub committed_good : (c : Core) (a : ℕ) (at : Option Stage) → stage c a ≡ at → Good c → Good (committed_at c a at)
committed_good c a None e g = g
committed_good c a (Some (Asking need)) e g = g
committed_good c a (Some (Fetching needs)) e g = g
committed_good c a (Some Moving) e g = g
committed_good c a (Some Stopping) e g = g
committed_good c a (Some (Growing needs seen)) e g = g
committed_good c a (Some (Clearing block)) e g = g
committed_good c a (Some (Finishing outcome)) e g = put_safe c.servers a _ g (busy a _ _ (up_rests_not (c.servers a).phase (staged c a (Finishing outcome) e)) refl refl)

-- ---- an answer

pub given_due : (test : Bool) (x y : Reply) → due_if test x ≡ Some y → IsTrue test
given_due true x y e = refl
given_due false x y e = absurd (none-some y e)

module _ (c : Core) (a : ℕ) (under : Under) (server : Server) where
  abbrev done : Op → Reply → Server
  done operation answer = record (answered_open c under server operation answer) { under = None }

  armed_mild : (p : IsTrue (is_up server.phase)) (arming : Option Arming) → Mild a server (record server { arming = arming; under = None })
  armed_mild p arming = busy a _ _ (up_rests_not server.phase p) refl refl

  same_mild : Mild a server (record server { under = None })
  same_mild = unmoved a _ _ refl refl refl refl refl refl refl

  mounted_mild : (off failed read : Bool) (answer : Reply) → is_off server.phase ≡ off → (if off then (if failed then Some reply.Io else due_if read reply.Mounted) else None) ≡ Some answer →
      Mild a server (done op.Mount answer)
  mounted_mild false failed read answer o e = absurd (none-some answer e)
  mounted_mild true true read answer o e = subst (λ x. Mild a server (done op.Mount x)) (same_Some reply.Io answer e) same_mild
  mounted_mild true false false answer o e = absurd (none-some answer e)
  mounted_mild true false true answer o e =
      subst (λ x. Mild a server (done op.Mount x)) (same_Some reply.Mounted answer e) (fresh a _ _ (off_dead_not server.phase o) refl (λ h. absurd (false≢true h)))

  open_mild : (operation : Op) (answer : Reply) → own_answer c.setting.logs c.flights a server under operation ≡ Some answer → Mild a server (done operation answer)
  open_mild (op.Create path) answer e = absurd (none-some answer e)
  open_mild (op.Mkdir path) answer e = absurd (none-some answer e)
  open_mild (op.Link path to) answer e = absurd (none-some answer e)
  open_mild (op.Symlink path target) answer e = absurd (none-some answer e)
  open_mild (op.Unlink path) answer e = absurd (none-some answer e)
  open_mild (op.Rmdir path) answer e = absurd (none-some answer e)
  open_mild (op.Rename path to) answer e = absurd (none-some answer e)
  open_mild (op.Write path off bytes) answer e = absurd (none-some answer e)
  open_mild (op.Fill path off len byte) answer e = absurd (none-some answer e)
  open_mild (op.Truncate path len) answer e = absurd (none-some answer e)
  open_mild (op.Read path off len) answer e = absurd (none-some answer e)
  open_mild (op.Stat path) answer e = absurd (none-some answer e)
  open_mild (op.List path) answer e = absurd (none-some answer e)
  open_mild (op.Readlink path) answer e = absurd (none-some answer e)
  open_mild (op.Time path) answer e = absurd (none-some answer e)
  open_mild op.Sync answer e = same_mild
  open_mild op.Mount answer e = mounted_mild (is_off server.phase) under.get_failed (is_read c.setting.logs under.slots) answer refl e
  open_mild op.Unmount answer e =
      fresh a _ _ (up_dead_not server.phase (and_parts (is_up server.phase) _ (given_due _ reply.Ok answer e)).0) refl
      (λ h. record { cache = refl; staying = refl; staying_log = refl; pending = refl; recovery = refl; arming = refl })
  open_mild op.Crash answer e = absurd (none-some answer e)
  open_mild (op.CrashAt k) answer e = armed_mild (given_due (is_up server.phase) reply.Ok answer e) _
  open_mild (op.CutAt k) answer e = armed_mild (given_due (is_up server.phase) reply.Ok answer e) _
  open_mild op.Stall answer e = leaving a _ _ (up_dead_not server.phase (given_due (is_up server.phase) reply.Ok answer e)) refl refl refl

  fixed_mild : (test : Bool) → Mild a server (record (if test then record server { owes = false } else server) { under = None })
  fixed_mild true = unmoved a _ _ refl refl refl refl refl refl refl
  fixed_mild false = same_mild

  answer_mild : (operation : Op) (answer : Reply) → (is_some under.fixed ≡ false → own_answer c.setting.logs c.flights a server under operation ≡ Some answer) →
      Mild a server (answered_by c under server operation answer)
  answer_mild operation answer own = go (is_some under.fixed) refl
    where
      go : (b : Bool) → is_some under.fixed ≡ b →
          Mild a server (record (if b then (if is_unmount operation && is_ok answer then record server { owes = false } else server) else answered_open c under server operation answer) { under = None })
      go true e = fixed_mild (is_unmount operation && is_ok answer)
      go false e = open_mild operation answer (own e)

pub opened : (answering : Bool) (fixed own : Option Reply) (x : Reply) → (if answering then answer_of fixed own else None) ≡ Some x → is_some fixed ≡ false → own ≡ Some x
opened true (Some f) own x e n = absurd (false≢true (sym n))
opened true None own x e n = e
opened false fixed own x e n = absurd (none-some x e)

answered_with_good : (c : Core) (a : ℕ) (under : Under) (answer : Reply) (operation : Option Op) →
    (is_some under.fixed ≡ false → own_answer_of c.setting.logs c.flights a (c.servers a) under operation ≡ Some answer) → Good c → Good (answered_with c a under answer operation)
answered_with_good c a under answer None own g = g
answered_with_good c a under answer (Some operation) own g = put_safe c.servers a _ g (answer_mild c a under (c.servers a) operation answer own)

pub answered_good : (c : Core) (a : ℕ) (under : Option Under) (answer : Option Reply) → (c.servers a).under ≡ under → due_at c a ≡ answer → Good c → Good (answered_under c a under answer)
answered_good c a None None u e g = g
answered_good c a None (Some answer) u e g = g
answered_good c a (Some under) None u e g = g
answered_good c a (Some under) (Some answer) u e g =
    answered_with_good c a under answer (operation_of under.line.what)
    (opened (is_answering (c.servers a).phase) under.fixed (own_answer_of c.setting.logs c.flights a (c.servers a) under (operation_of under.line.what)) answer
    (sym (ap (λ o. if is_answering (c.servers a).phase then due_under c.setting.logs c.flights a (c.servers a) o else None) u) ∙ e))
    g

-- ---- locks, writes and lives

pub given_good : (c : Core) (a : ℕ) (lock : LockId) (asked : Option AskedFor) → IsTrue (is_up (c.servers a).phase) → Good c → Good (given_for c a lock asked)
given_good c a lock None up g = g
given_good c a lock (Some Downgrade) up g = g
given_good c a lock (Some Release) up g = put_safe c.servers a _ g (busy a _ _ (up_rests_not (c.servers a).phase up) refl refl)

pub issued_good : (c : Core) (a sector : ℕ) (write : Option Write) → Good c → Good (issued_as c a sector write)
issued_good c a sector None g = g
issued_good c a sector (Some write) g = put_safe c.servers a _ g (kept a _ _ refl refl (λ h n. record {
  cache = n.cache;
  staying = n.staying;
  staying_log = n.staying_log;
  pending = n.pending;
  recovery = n.recovery;
  arming = ap counted n.arming;
}))

clean_mild : (a sector : ℕ) (server : Server) (test : Bool) → Mild a server (if test then clean_now sector server else server)
clean_mild a sector server true = kept a _ _ refl refl (λ h n. record {
  cache = ap (λ x. cleaned x sector) n.cache;
  staying = ap (filter (λ s. not (s == sector))) n.staying;
  staying_log = n.staying_log;
  pending = ap (filter (λ s. not (s == sector))) n.pending;
  recovery = n.recovery;
  arming = n.arming;
})
clean_mild a sector server false = self a server

acknowledged_mild : (a sector : ℕ) (block : Block) (purpose : Purpose) (server : Server) → Mild a server (acknowledged sector block purpose server)
acknowledged_mild a sector block (OfLog number) server = unmoved a _ _ refl refl refl refl refl refl refl
acknowledged_mild a sector block (InPlace cover) server = clean_mild a sector server (comes_clean server sector block)
acknowledged_mild a sector block OfRecovery server = rescued a server (acknowledged_for sector) (λ r. refl)

taken_good : (c : Core) (flight : Flight) → Good c → Good (taken_in c flight)
taken_good c flight g = either flight.present _ _ (put_safe c.servers flight.server _ g (acknowledged_mild flight.server flight.sector flight.block flight.purpose (c.servers flight.server))) g

arrived_as_good : (c : Core) (flight : Flight) (heard : Heard) → Good c → Good (arrived_as c flight heard)
arrived_as_good c flight Nothing g = g
arrived_as_good c flight (Got block) g = g
arrived_as_good c flight GetFailed g = g
arrived_as_good c flight Written g = taken_good c flight g
arrived_as_good c flight Late g = g
arrived_as_good c flight (PutFailed new) g = failed_good c flight.server g

pub arrived_good : (c : Core) (ticket : ℕ) (heard : Heard) (flight : Option Flight) → Good c → Good (arrived_from c ticket heard flight)
arrived_good c ticket heard None g = g
arrived_good c ticket heard (Some flight) g = arrived_as_good (landed c ticket) flight heard g

pub died_good : (c : Core) (a : ℕ) (phase : Phase) → (c.servers a).phase ≡ phase → Good c → Good (died_in c a phase)
died_good c a Off p g = g
died_good c a Up p g = g
died_good c a Still p g = g
died_good c a (Doomed fate) p g =
    put_safe c.servers a _ g (fresh a _ _ (ap is_dead p) refl (λ h. record { cache = refl; staying = refl; staying_log = refl; pending = refl; recovery = refl; arming = refl }))
died_good c a Dead p g = g

pub wanting_mild : (a : ℕ) (server : Server) → Mild a server (wanting_all_up server)
wanting_mild a server = go (is_up server.phase) refl
  where
    go : (b : Bool) → is_up server.phase ≡ b → Mild a server (if b then wanting_all server else server)
    go true e = busy a _ _ (up_rests_not server.phase e) refl refl
    go false e = self a server
