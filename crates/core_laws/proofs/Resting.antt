-- Over every run: who is Off or Dead has nothing in memory. Event by event.
use Rattle.std.proofs.Common.{◌≡◌, ℕ, inl, inr, Bool, true, false, not, ◌&&◌, ◌||◌, ◌==◌, if◌then◌else◌, IsTrue, is_some, List, [], ◌∷◌, Option, Some, None, nat_eq, nat_lt, refl, sym, ap, ◌∙◌, subst, arith}
use Rattle.std.proofs.lemmas.Bool.{false≢true, and_from, or_right, or_left, and_parts, both_ways, eqb-true}
use Rattle.std.proofs.lemmas.Bool.Decides.{nat_tests}
use Rattle.std.specs.List.{list_any}
use Rattle.std.proofs.lemmas.Option.{same_Some, none-some}
use Rattle.disk_definitions.proofs.Listed.{Among}
use Rattle.frang_base.specs.Functions.{member, put}
use Rattle.frang_base.specs.declared.script.Line.{Line}
use Rattle.lock_definitions.specs.Calls.{asked_for}
use Rattle.lock_definitions.specs.Locks.{log_hold}
use Rattle.sector_bytes.specs.SectorMaps.{value_at}
use Rattle.sector_bytes.specs.Sectors.{Sectors}
use Rattle.tree_definitions.specs.Transcript.{is_crash, is_mount}
use Rattle.core_definitions.specs.Settings.{Setting}
use Rattle.core_definitions.specs.Lines.{Clearing}
use Rattle.core_definitions.specs.Recoveries.{Recovery, recovery_of}
use Rattle.core_definitions.specs.Scripts.{host_party}
use Rattle.core_definitions.specs.Servers.{Phase, Off, Up, Still, Doomed, Dead, Arming, Server, asks, is_dead, is_off, is_still, is_up, wanting_all_up}
use Rattle.core_definitions.specs.Cores.{Core, clean_at, due_at, next_of, parties, stage, writes}
use Rattle.core_definitions.specs.Events.{Event, Begin, Ask, Fetch, Again, Clear, Commit, Answer, Give, Issue, Doom, Resume, Arrive, Lose, Die, Renew, Tick, Recover, Load, Look, Finish, HostLine, Close, Read, Show, End, Heard, Nothing, Got, GetFailed, Written, Late, PutFailed}
use Rattle.core_definitions.specs.LineGuards.{CanFetch, is_server, needed_by, slots_under}
use Rattle.core_definitions.specs.WriteGuards.{CanDoom, CanResume, is_at_last, is_issuable}
use Rattle.core_definitions.specs.EndGuards.{CanClose, CanFinish, CanRecover, is_hold_over, is_recovering, none_up}
use Rattle.core_definitions.specs.LineEffects.{fetch_failed}
use Rattle.core_definitions.specs.EndEffects.{finished_from, host_answered_line, look_made, recovered, slot_loaded}
use Rattle.core_definitions.specs.Effects.{after}
use Rattle.core_definitions.specs.Runs.{State, Step, Event_, Enter, Hold, Flush, Relock, Note, Peek, PeekFails, Run, Stays, Goes, first_state, Makes}
use Rattle.core_laws.specs.Facts.{HasNothing}
use Rattle.core_laws.proofs.Guarding.{Of4, of_4}
use Rattle.core_laws.proofs.Parties.{worker_in_parties}
use Rattle.core_laws.proofs.Memory.{Good, Mild, Safe, again_mild, all_safe, answered_good, arrived_good, begun_mild, busy, committed_good, dead_is, dead_of, died_good, either, failed_good, fetched_mild, fresh, given_good, is_resting, issued_good, leaving, put_safe, rescued, self, staged, still_dead_not, unmoved, up_dead_not, up_rests_not, wanting_mild, works}

-- ---- fetches, dooms and returns

fetch_up : (off up : Bool) (m n k : Bool) → IsTrue ((up && m) || (off && n && k)) → off ≡ false → IsTrue up
fetch_up off true m n k h o = refl
fetch_up true false m n k h o = absurd (false≢true (sym o))
fetch_up false false m n k h o = absurd (false≢true h)

fetch_failed_good : (c : Core) (a : ℕ) → Good c → Good (fetch_failed c a)
fetch_failed_good c a g = either (is_off (c.servers a).phase) _ _ (put_safe c.servers a _ g (unmoved a _ _ refl refl refl refl refl refl refl)) (failed_good c a g)

fetch_good : (s : State) (a sector : ℕ) (heard : Heard) → CanFetch s.core a sector → Good s.core → Good (after s.core (Fetch a sector) heard)
fetch_good s a sector (Got block) can g =
    put_safe s.core.servers a _ g
    (fetched_mild a (stage s.core a) sector block (s.core.servers a)
    (fetch_up (is_off (s.core.servers a).phase) (is_up (s.core.servers a).phase) (member sector (needed_by (stage s.core a))) (asks is_mount (s.core.servers a))
    (member sector (slots_under s.core.setting.logs a (s.core.servers a).under)) can.lacks))
fetch_good s a sector Nothing can g = fetch_failed_good s.core a g
fetch_good s a sector GetFailed can g = fetch_failed_good s.core a g
fetch_good s a sector Written can g = fetch_failed_good s.core a g
fetch_good s a sector Late can g = fetch_failed_good s.core a g
fetch_good s a sector (PutFailed new) can g = fetch_failed_good s.core a g

pub server_no_host : (a : ℕ) → IsTrue (is_server a) → (a == host_party) ≡ false
server_no_host a h = grind (arith, nat_tests, h)

-- a server that is doomed isn't Dead: one that is has no arming
module _ (c : Core) (a : ℕ) (g : Good c) (can : CanDoom c a) where
  no_cause : (p : Phase) (arming : Option Arming) (k x y z f : Bool) → p ≡ Dead → arming ≡ None →
      IsTrue ((is_up p && k) || (is_at_last arming && x) || ((is_still p && y) && z) || ((is_up p || is_still p) && f)) → ⊥
  no_cause Dead None k x y z f d n h = absurd (false≢true h)
  no_cause Dead (Some arming) k x y z f d n h = absurd (none-some arming (sym n))
  no_cause Off arming k x y z f d n h = absurd (cc)
  no_cause Up arming k x y z f d n h = absurd (cc)
  no_cause Still arming k x y z f d n h = absurd (cc)
  no_cause (Doomed fate) arming k x y z f d n h = absurd (cc)

  doomed_alive : IsTrue (is_dead (c.servers a).phase) → ⊥
  doomed_alive d =
      no_cause (c.servers a).phase (c.servers a).arming (asks is_crash (c.servers a)) (list_any (λ entry. is_issuable c a entry.0 (writes c a)) (writes c a)) (nat_lt (c.servers a).expiry c.now)
      (not (clean_at c a)) (c.servers a).failed (dead_is (c.servers a).phase d)
      (g.bare a (server_no_host a can.server) (or_right (is_off (c.servers a).phase) (is_dead (c.servers a).phase) d)).arming can.cause

doom_good : (s : State) (a : ℕ) → CanDoom s.core a → Good s.core → Good (after s.core (Doom a) Nothing)
doom_good s a can g = put_safe s.core.servers a _ g (leaving a _ _ (go (is_dead (s.core.servers a).phase) refl) refl refl refl)
  where
    go : (b : Bool) → is_dead (s.core.servers a).phase ≡ b → b ≡ false
    go true e = absurd (doomed_alive s.core a g can e)
    go false e = refl

resume_good : (s : State) (a : ℕ) → CanResume s.core a → Good s.core → Good (after s.core (Resume a) Nothing)
resume_good s a can g =
    put_safe s.core.servers a _ g
    (fresh a _ _ (still_dead_not (s.core.servers a).phase (and_parts (is_still (s.core.servers a).phase) _ can.past).0) refl (λ h. absurd (false≢true h)))

-- ---- recoveries

-- what a working server has for a recovery is none while nobody recovers
some_any : (test : ℕ → Bool) (xs : List ℕ) (x : ℕ) → Among x xs → IsTrue (test x) → IsTrue (list_any test xs)
some_any test [] x i h = absurd i
some_any test (y ∷ ys) x (inl e) h = or_left (test y) (list_any test ys) (subst (λ k. IsTrue (test k)) e h)
some_any test (y ∷ ys) x (inr i) h = or_right (test y) (list_any test ys) (some_any test ys x i h)

pub negated : (b : Bool) → IsTrue (not b) → IsTrue b → ⊥
negated true n h = absurd (false≢true n)
negated false n h = absurd (false≢true h)

some_dead : (r : Option Recovery) (d : ℕ) → dead_of r ≡ Some d → IsTrue (is_some r)
some_dead None d e = absurd (none-some d e)
some_dead (Some r) d e = refl

module _ (c : Core) (dead by : ℕ) (g : Good c) (can : CanRecover c dead by) where
  abbrev taker : Server
  taker = record (c.servers by) { recovery = Some (recovery_of dead) }

  abbrev later : ℕ → Server
  later = put c.servers by taker

  recover_waits : Of4 (is_server dead) (is_dead (c.servers dead).phase) (nat_lt (c.servers dead).expiry c.now) (is_hold_over c.now (log_hold c.locks dead))
  recover_waits = of_4 (is_server dead) (is_dead (c.servers dead).phase) (nat_lt (c.servers dead).expiry c.now) (is_hold_over c.now (log_hold c.locks dead)) can.waits

  -- nobody who works has one
  none_else : (i d : ℕ) → IsTrue (works i (c.servers i)) → dead_of (c.servers i).recovery ≡ Some d → ⊥
  none_else i d w e =
      negated (list_any (is_recovering c) parties) can.none
      (some_any (is_recovering c) parties i (worker_in_parties c i w) (and_from (works i (c.servers i)) (is_some (c.servers i).recovery) w (some_dead (c.servers i).recovery d e)))

  by_up : (by == host_party) ≡ false → IsTrue (is_up (c.servers by).phase)
  by_up away = go (is_server by) (is_up (c.servers by).phase) (by == host_party) (none_up c) away can.taker
    where
      go : (s u h n : Bool) → h ≡ false → IsTrue ((s && u) || (h && n)) → IsTrue u
      go s true h n e t = refl
      go s false true n e t = absurd (false≢true (sym e))
      go true false false n e t = absurd (false≢true t)
      go false false false n e t = absurd (false≢true t)

  same_phase : (i : ℕ) → (later i).phase ≡ (c.servers i).phase
  same_phase i = go (nat_eq i by) refl
    where
      go : (b : Bool) → nat_eq i by ≡ b → (if b then taker else c.servers i).phase ≡ (c.servers i).phase
      go true e = ap (λ k. (c.servers k).phase) (sym (eqb-true i by e))
      go false e = refl

  -- only the taker has one
  is_taker : (i d : ℕ) → IsTrue (works i (later i)) → dead_of (later i).recovery ≡ Some d → (i ≡ by) × (dead ≡ d)
  is_taker i d = go (nat_eq i by) refl
    where
      go : (b : Bool) → nat_eq i by ≡ b → IsTrue (works i (if b then taker else c.servers i)) → dead_of (if b then taker else c.servers i).recovery ≡ Some d → (i ≡ by) × (dead ≡ d)
      go true e w f = (eqb-true i by e, same_Some dead d f)
      go false e w f = absurd (none_else i d w f)

  bare_then : (i : ℕ) → (i == host_party) ≡ false → IsTrue (is_resting (later i).phase) → HasNothing (later i)
  bare_then i away = go (nat_eq i by) refl
    where
      go : (b : Bool) → nat_eq i by ≡ b → IsTrue (is_resting (if b then taker else c.servers i).phase) → HasNothing (if b then taker else c.servers i)
      go true e t =
          absurd (both_ways (is_resting (c.servers by).phase) (up_rests_not (c.servers by).phase (by_up (subst (λ k. (k == host_party) ≡ false) (eqb-true i by e) away))) t)
      go false e t = g.bare i away t

  recover_good : Safe later
  recover_good = record {
    bare = bare_then;
    saved = λ i d w e. subst (λ k. IsTrue (is_dead (later k).phase) × IsTrue (is_server k)) (is_taker i d w e).1 (ap is_dead (same_phase dead) ∙ recover_waits.p1, recover_waits.p0);
    one = λ i other d e w v f h. (is_taker i d w f).0 ∙ sym (is_taker other e v h).0;
  }

-- ---- and their end

module _ (c : Core) (by : ℕ) (recovery : Recovery) (has : (c.servers by).recovery ≡ Some recovery) (w : IsTrue (works by (c.servers by))) (g : Good c) where
  abbrev rid : ℕ → Server
  rid = put c.servers by (record (c.servers by) { recovery = None })

  abbrev settled : ℕ → Server
  settled = put rid recovery.dead (recovered (c.servers recovery.dead))

  was : IsTrue (is_dead (c.servers recovery.dead).phase) × IsTrue (is_server recovery.dead)
  was = g.saved by recovery.dead w (ap dead_of has)

  dead_has_nothing : HasNothing (c.servers recovery.dead)
  dead_has_nothing =
      g.bare recovery.dead (server_no_host recovery.dead was.1) (or_right (is_off (c.servers recovery.dead).phase) (is_dead (c.servers recovery.dead).phase) was.0)

  rid_mild : Mild by (c.servers by) (record (c.servers by) { recovery = None })
  rid_mild = record {
    dead = λ h. h;
    saves = λ d v e. absurd (none-some d e);
    bare = λ away b t. let n : HasNothing (c.servers by) = b t in
        record { cache = n.cache; staying = n.staying; staying_log = n.staying_log; pending = n.pending; recovery = refl; arming = n.arming };
  }

  rid_safe : Safe rid
  rid_safe = put_safe c.servers by _ g rid_mild

  -- nobody who works has one then
  none_rid : (i d : ℕ) → IsTrue (works i (rid i)) → dead_of (rid i).recovery ≡ Some d → ⊥
  none_rid i d = go (nat_eq i by) refl
    where
      there : (i : ℕ) → i ≡ by → nat_eq i by ≡ true
      there i e = grind (arith, nat_tests, e)

      go : (b : Bool) → nat_eq i by ≡ b → IsTrue (works i (if b then record (c.servers by) { recovery = None } else c.servers i)) →
          dead_of (if b then record (c.servers by) { recovery = None } else c.servers i).recovery ≡ Some d → ⊥
      go true e v f = none-some d f
      go false e v f = both_ways (nat_eq i by) e (there i (g.one i by d recovery.dead v w f (ap dead_of has)))

  none_settled : (i d : ℕ) → IsTrue (works i (settled i)) → dead_of (settled i).recovery ≡ Some d → ⊥
  none_settled i d = go (nat_eq i recovery.dead) refl
    where
      go : (b : Bool) → nat_eq i recovery.dead ≡ b → IsTrue (works i (if b then recovered (c.servers recovery.dead) else rid i)) →
          dead_of (if b then recovered (c.servers recovery.dead) else rid i).recovery ≡ Some d → ⊥
      go true e v f = none-some d (sym (ap dead_of dead_has_nothing.recovery) ∙ f)
      go false e v f = none_rid i d v f

  bare_settled : (i : ℕ) → (i == host_party) ≡ false → IsTrue (is_resting (settled i).phase) → HasNothing (settled i)
  bare_settled i away = go (nat_eq i recovery.dead)
    where
      go : (b : Bool) → IsTrue (is_resting (if b then recovered (c.servers recovery.dead) else rid i).phase) → HasNothing (if b then recovered (c.servers recovery.dead) else rid i)
      go true t = let n : HasNothing (c.servers recovery.dead) = dead_has_nothing in
          record { cache = n.cache; staying = n.staying; staying_log = n.staying_log; pending = n.pending; recovery = n.recovery; arming = n.arming }
      go false t = rid_safe.bare i away t

  finish_good : Safe settled
  finish_good = record {
    bare = bare_settled;
    saved = λ i d v e. absurd (none_settled i d v e);
    one = λ i other d e v u f h. absurd (none_settled i d v f);
  }

finished_good : (c : Core) (by : ℕ) (recovery : Option Recovery) → (c.servers by).recovery ≡ recovery → CanFinish c by → Good c → Good (finished_from c by recovery)
finished_good c by None e can g = g
finished_good c by (Some recovery) e can g = finish_good c by recovery e can.who g

-- ---- each event

load_good : (c : Core) (by slot : ℕ) (heard : Heard) → Good c → Good (after c (Load by slot) heard)
load_good c by slot (Got block) g = put_safe c.servers by _ g (rescued by (c.servers by) (slot_loaded slot block) (λ r. refl))
load_good c by slot Nothing g = failed_good c by g
load_good c by slot GetFailed g = failed_good c by g
load_good c by slot Written g = failed_good c by g
load_good c by slot Late g = failed_good c by g
load_good c by slot (PutFailed new) g = failed_good c by g

look_good : (c : Core) (by sector : ℕ) (heard : Heard) → Good c → Good (after c (Look by sector) heard)
look_good c by sector (Got block) g = put_safe c.servers by _ g (rescued by (c.servers by) (look_made c sector block) (λ r. refl))
look_good c by sector Nothing g = failed_good c by g
look_good c by sector GetFailed g = failed_good c by g
look_good c by sector Written g = failed_good c by g
look_good c by sector Late g = failed_good c by g
look_good c by sector (PutFailed new) g = failed_good c by g

read_good : (c : Core) (sector : ℕ) (heard : Heard) → Good c → Good (after c (Read sector) heard)
read_good c sector (Got block) g = g
read_good c sector Nothing g = failed_good c host_party g
read_good c sector GetFailed g = failed_good c host_party g
read_good c sector Written g = failed_good c host_party g
read_good c sector Late g = failed_good c host_party g
read_good c sector (PutFailed new) g = failed_good c host_party g

host_good : (c : Core) (line : Option Line) → Good c → Good (host_answered_line c line)
host_good c None g = g
host_good c (Some line) g = g

ticked_good : (c : Core) → Good c → Good (after c Tick Nothing)
ticked_good c g = all_safe c.servers _ (λ i. go i _) g
  where
    go : (i : ℕ) (b : Bool) → Mild i (c.servers i) (if b then wanting_all_up (c.servers i) else c.servers i)
    go i true = wanting_mild i (c.servers i)
    go i false = self i (c.servers i)

close_good : (c : Core) (a : ℕ) → CanClose c a → Good c → Good (after c (Close a) Nothing)
close_good c a can g =
    either (clean_at c a) _ _
    (put_safe c.servers a _ g
    (fresh a _ _ (up_dead_not (c.servers a).phase can.up) refl (λ h. record { cache = refl; staying = refl; staying_log = refl; pending = refl; recovery = refl; arming = refl })))
    (put_safe c.servers a _ g (busy a _ _ (up_rests_not (c.servers a).phase can.up) refl refl))

event_good : (s : State) (event : Event) (heard : Heard) → Makes s event heard → Good s.core → Good (after s.core event heard)
event_good s (Begin a) heard m g = put_safe s.core.servers a _ g (begun_mild a (s.core.servers a) (next_of s.core a))
event_good s (Ask a lock mode) heard m g = g
event_good s (Fetch a sector) heard m g = fetch_good s a sector heard m.can.can g
event_good s (Again a) heard m g = put_safe s.core.servers a _ g (again_mild s.core.setting.logs a (stage s.core a) (s.core.servers a))
event_good s (Clear a block) heard m g =
    put_safe s.core.servers a _ g (busy a _ _ (up_rests_not (s.core.servers a).phase (staged s.core a (Clearing block) m.can.can.clear)) refl refl)
event_good s (Commit a) heard m g = committed_good s.core a (stage s.core a) refl g
event_good s (Answer a) heard m g = answered_good s.core a (s.core.servers a).under (due_at s.core a) refl refl g
event_good s (Give a lock) heard m g = given_good s.core a lock (asked_for s.core.locks a lock) m.can.can.up g
event_good s (Issue a sector) heard m g = issued_good s.core a sector (value_at (writes s.core a) sector) g
event_good s (Doom a) heard m g = doom_good s a m.can.can g
event_good s (Resume a) heard m g = resume_good s a m.can.can g
event_good s (Arrive ticket) heard m g = arrived_good s.core ticket heard (value_at s.core.flights ticket) g
event_good s (Lose ticket) heard m g = g
event_good s (Die a) heard m g = died_good s.core a (s.core.servers a).phase refl g
event_good s (Renew a) heard m g = put_safe s.core.servers a _ g (unmoved a _ _ refl refl refl refl refl refl refl)
event_good s Tick heard m g = ticked_good s.core g
event_good s (Recover dead by) heard m g = recover_good s.core dead by g m.can.can
event_good s (Load by slot) heard m g = load_good s.core by slot heard g
event_good s (Look by sector) heard m g = look_good s.core by sector heard g
event_good s (Finish by) heard m g = finished_good s.core by (s.core.servers by).recovery refl m.can.can g
event_good s (HostLine number) heard m g = host_good s.core (next_of s.core host_party) g
event_good s (Close a) heard m g = close_good s.core a m.can.can g
event_good s (Read sector) heard m g = read_good s.core sector heard g
event_good s (Show place) heard m g = g
event_good s End heard m g = g

pub step_good : (s v : State) → Step s v → Good s.core → Good v.core
step_good s v (Event_ event heard makes) g = event_good s event heard makes g
step_good s v (Enter a line can) g = g
step_good s v (Hold a on may) g = g
step_good s v (Flush a may) g = put_safe s.core.servers a _ g (wanting_mild a (s.core.servers a))
step_good s v (Relock locks going good same wait) g = g
step_good s v (Note line may) g = g
step_good s v (Peek sector going) g = g
step_good s v (PeekFails sector going) g = g

run_good : (s v : State) → Run s v → Good s.core → Good v.core
run_good s v Stays g = g
run_good s w (Goes {v = v} step run) g = run_good v w run (step_good s v step g)

pub first_good : (setting : Setting) (disk : Sectors) → Good (first_state setting disk).core
first_good setting disk = record {
  bare = λ i away t. record { cache = refl; staying = refl; staying_log = refl; pending = refl; recovery = refl; arming = refl };
  saved = λ by d w e. absurd (none-some d e);
  one = λ by other d e w v f h. absurd (none-some d f);
}

pub good_of_run : (setting : Setting) (disk : Sectors) (s : State) → Run (first_state setting disk) s → Good s.core
good_of_run setting disk s run = run_good (first_state setting disk) s run (first_good setting disk)

pub nothing_at_rest : (setting : Setting) (disk : Sectors) (s : State) → Run (first_state setting disk) s → (a : ℕ) → IsTrue (is_server a) →
    IsTrue (is_off (s.core.servers a).phase || is_dead (s.core.servers a).phase) → HasNothing (s.core.servers a)
nothing_at_rest setting disk s run a server t = (good_of_run setting disk s run).bare a (server_no_host a server) t
