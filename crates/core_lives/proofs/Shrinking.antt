-- The events on locks and lives cache nothing; so what is free of cleared blocks stays free.
use Rattle.std.proofs.Common.{◌≡◌, ℕ, ◌==◌, ◌%◌, ◌+◌, Bool, true, false, ◌&&◌, ◌||◌, if◌then◌else◌, IsTrue, is_some, [], Option, Some, None, refl, sym, ap, ◌∙◌, subst}
use Rattle.std.proofs.lemmas.Bool.{false≢true}
use Rattle.std.proofs.lemmas.Option.{none-some, same_Some}
use Rattle.frang_base.specs.Functions.{put}
use Rattle.frang_base.specs.declared.lock.LockId.{LockId}
use Rattle.frang_base.specs.declared.op.Op.{Op}
use Rattle.frang_base.specs.declared.op.Op.TheVariants as op
use Rattle.frang_base.specs.declared.reply.Reply.{Reply}
use Rattle.frang_base.specs.declared.reply.Reply.TheVariants as reply
use Rattle.frang_base.specs.declared.script.Line.{Line}
use Rattle.frang_base.proofs.Basics.{at_put}
use Rattle.lock_definitions.specs.Calls.{asked_for, cleared}
use Rattle.lock_definitions.specs.declared.claim.AskedFor.{AskedFor}
use Rattle.lock_definitions.specs.declared.claim.AskedFor.TheVariants.{Release, Downgrade}
use Rattle.lock_definitions.specs.Order.{is_lock}
use Rattle.tree_definitions.specs.Touched.{is_ok, is_unmount}
use Rattle.sector_bytes.specs.SectorMaps.{value_at, Ascend}
use Rattle.cache_definitions.specs.Caches.{Cache, CachedSector, dropped}
use Rattle.core_definitions.specs.Cores.{Core, clean_at, due_at, next_of, stage, with_server}
use Rattle.core_definitions.specs.Effects.{after}
use Rattle.core_definitions.specs.Events.{Begin, Ask, Fetch, Again, Clear, Commit, Answer, Give, Issue, Doom, Resume, Arrive, Lose, Die, Renew, Tick, Recover, Load, Look, Finish, HostLine, Close, Read, Show, End, Heard, Nothing, Got, GetFailed, Written, Late, PutFailed}
use Rattle.core_definitions.specs.EndEffects.{host_answered_line}
use Rattle.core_definitions.specs.LineEffects.{again_by, answered_fixed, answered_open, answered_under, answered_with, begun_line, begun_with, cached_under, call_failed, cover_needed, off_after, refused_under, slot_read, with_under}
use Rattle.core_definitions.specs.Lines.{Stage, Asking, Fetching, Moving, Stopping, Growing, Clearing, Finishing, Under, operation_of}
use Rattle.core_definitions.specs.Scripts.{host_party}
use Rattle.core_definitions.specs.Servers as life
use Rattle.core_definitions.specs.Servers.{Server, due_if, due_under, is_answering, is_off, is_up, own_answer, own_answer_of, wanting_all, wanting_all_up}
use Rattle.core_definitions.specs.Settings.{lease_to, setting_of}
use Rattle.core_definitions.specs.WriteEffects.{died_in, died_with, fate_of, flushed_at, given_for, up_again}
use Rattle.core_laws.proofs.Memory.{opened}
use Rattle.core_laws.proofs.OrderKeeping.{order_of_run}
use Rattle.sector_world.specs.HistoryBytes.{is_free}
use Rattle.sector_world.specs.Histories.{is_logged}
use Rattle.core_world.proofs.Cached.{dropped_at, unless_under}
use Rattle.core_lives.specs.Cleared.{CachesShrink, ClearedStayFree, LivesShrinkCaches}

-- ---- one cache

-- what is in the one is in the other
abbrev IsWithin : Cache → Cache → Type 0
IsWithin new old = (s : ℕ) (cached : CachedSector) → value_at new s ≡ Some cached → value_at old s ≡ Some cached

itself : (cache : Cache) → IsWithin cache cache
itself cache s cached e = e

nothing : (cache : Cache) → IsWithin [] cache
nothing cache s cached e = absurd (none-some cached e)

pub one_shrinks : (servers : ℕ → Server) (a : ℕ) (new : Server) → IsWithin new.cache (servers a).cache → CachesShrink servers (put servers a new)
one_shrinks servers a new within b s cached = at_put (λ x. value_at x.cache s ≡ Some cached → value_at (servers b).cache s ≡ Some cached) servers a new b
    (λ e i. subst (λ n. value_at (servers n).cache s ≡ Some cached) (sym e) (within s cached i)) (λ n i. i)

under_lock : (lock : LockId) (o : Option CachedSector) (cached : CachedSector) → unless_under lock o ≡ Some cached → o ≡ Some cached
under_lock lock None cached e = e
under_lock lock (Some kept) cached e = go (is_lock lock kept.cover) e
  where
    go : (b : Bool) → (if b then None else Some kept) ≡ Some cached → Some kept ≡ Some cached
    go true i = absurd (none-some cached i)
    go false i = i

dropped_within : (cache : Cache) (lock : LockId) → Ascend cache → IsWithin (dropped cache lock) cache
dropped_within cache lock sorted s cached e = under_lock lock (value_at cache s) cached (sym (dropped_at cache lock s sorted) ∙ e)

-- ---- lines

begun_within : (server : Server) (line : Option Line) → IsWithin (begun_line server line).cache server.cache
begun_within server None = itself server.cache
begun_within server (Some line) = go (operation_of line.what)
  where
    go : (operation : Option Op) → IsWithin (begun_with server line operation).cache server.cache
    go None = itself server.cache
    go (Some operation) = itself server.cache

again_within : (c : Core) (server : Server) (at : Option Stage) → IsWithin (again_by c.setting.logs at server).cache server.cache
again_within c server None = itself server.cache
again_within c server (Some (Asking need)) = itself server.cache
again_within c server (Some (Fetching needs)) = itself server.cache
again_within c server (Some Moving) = itself server.cache
again_within c server (Some Stopping) = itself server.cache
again_within c server (Some (Growing needs seen)) = itself server.cache
again_within c server (Some (Clearing block)) = itself server.cache
again_within c server (Some (Finishing outcome)) = itself server.cache

fetch_shrinks : (c : Core) (a sector : ℕ) (heard : Heard) → IsTrue (is_off (c.servers a).phase) → CachesShrink c.servers (after c (Fetch a sector) heard).servers
fetch_shrinks c a sector heard off = by heard
  where
    failed : CachesShrink c.servers (if is_off (c.servers a).phase then with_server c a (with_under (c.servers a) refused_under) else call_failed c a).servers
    failed = subst (λ b. CachesShrink c.servers (if b then with_server c a (with_under (c.servers a) refused_under) else call_failed c a).servers) (sym off)
        (one_shrinks c.servers a (with_under (c.servers a) refused_under) (itself (c.servers a).cache))

    by : (h : Heard) → CachesShrink c.servers (after c (Fetch a sector) h).servers
    by (Got block) = subst (λ b. CachesShrink c.servers
        (put c.servers a (if b then with_under (c.servers a) (slot_read a sector block) else cached_under (c.servers a) sector block (cover_needed (stage c a) sector)))) (sym off)
        (one_shrinks c.servers a (with_under (c.servers a) (slot_read a sector block)) (itself (c.servers a).cache))
    by Nothing = failed
    by GetFailed = failed
    by Written = failed
    by Late = failed
    by (PutFailed new) = failed

-- ---- answers

module _ (c : Core) (a : ℕ) (under : Under) where
  abbrev old : Server
  old = c.servers a

  abbrev Within : Op → Reply → Type 0
  Within operation answer = IsWithin (answered_open c under old operation answer).cache old.cache

  mount_within : (off failed read : Bool) (answer : Reply) → (if off then (if failed then Some reply.Io else due_if read reply.Mounted) else None) ≡ Some answer → Within op.Mount answer
  mount_within false failed read answer e = absurd (none-some answer e)
  mount_within true true read answer e = subst (λ x. Within op.Mount x) (same_Some reply.Io answer e) (itself old.cache)
  mount_within true false false answer e = absurd (none-some answer e)
  mount_within true false true answer e = subst (λ x. Within op.Mount x) (same_Some reply.Mounted answer e) (nothing old.cache)

  open_within : (operation : Op) (answer : Reply) → own_answer c.setting.logs c.flights a old under operation ≡ Some answer → Within operation answer
  open_within (op.Create path) answer e = itself old.cache
  open_within (op.Mkdir path) answer e = itself old.cache
  open_within (op.Link path to) answer e = itself old.cache
  open_within (op.Symlink path target) answer e = itself old.cache
  open_within (op.Unlink path) answer e = itself old.cache
  open_within (op.Rmdir path) answer e = itself old.cache
  open_within (op.Rename path to) answer e = itself old.cache
  open_within (op.Write path off bytes) answer e = itself old.cache
  open_within (op.Fill path off len byte) answer e = itself old.cache
  open_within (op.Truncate path len) answer e = itself old.cache
  open_within (op.Read path off len) answer e = itself old.cache
  open_within (op.Stat path) answer e = itself old.cache
  open_within (op.List path) answer e = itself old.cache
  open_within (op.Readlink path) answer e = itself old.cache
  open_within (op.Time path) answer e = itself old.cache
  open_within op.Sync answer e = itself old.cache
  open_within op.Mount answer e = mount_within (is_off old.phase) under.get_failed _ answer e
  open_within op.Unmount answer e = nothing old.cache
  open_within op.Crash answer e = itself old.cache
  open_within (op.CrashAt k) answer e = itself old.cache
  open_within (op.CutAt k) answer e = itself old.cache
  open_within op.Stall answer e = itself old.cache

  fixed_within : (test : Bool) → IsWithin (if test then record old { owes = false } else old).cache old.cache
  fixed_within true = itself old.cache
  fixed_within false = itself old.cache

answered_shrinks : (c : Core) (a : ℕ) (under : Option Under) (answer : Option Reply) → (c.servers a).under ≡ under → due_at c a ≡ answer →
    CachesShrink c.servers (answered_under c a under answer).servers
answered_shrinks c a None answer u e = λ b s cached i. i
answered_shrinks c a (Some under) None u e = λ b s cached i. i
answered_shrinks c a (Some under) (Some answer) u e = go (operation_of under.line.what) refl
  where
    own : is_some under.fixed ≡ false → own_answer_of c.setting.logs c.flights a (c.servers a) under (operation_of under.line.what) ≡ Some answer
    own = opened (is_answering (c.servers a).phase) under.fixed (own_answer_of c.setting.logs c.flights a (c.servers a) under (operation_of under.line.what)) answer
        (sym (ap (λ o. if is_answering (c.servers a).phase then due_under c.setting.logs c.flights a (c.servers a) o else None) u) ∙ e)

    by : (operation : Op) → operation_of under.line.what ≡ Some operation → (b : Bool) → is_some under.fixed ≡ b →
        CachesShrink c.servers (put c.servers a (record (if b then answered_fixed (c.servers a) operation answer else answered_open c under
        (c.servers a) operation answer) { under = None }))
    by operation f true n = one_shrinks c.servers a (record (answered_fixed (c.servers a) operation answer) { under = None })
        (fixed_within c a under (is_unmount operation && is_ok answer))
    by operation f false n = one_shrinks c.servers a (record (answered_open c under (c.servers a) operation answer) { under = None })
        (open_within c a under operation answer (subst (λ o. own_answer_of c.setting.logs c.flights a (c.servers a) under o ≡ Some answer) f (own n)))

    go : (o : Option Op) → operation_of under.line.what ≡ o → CachesShrink c.servers (answered_with c a under answer o).servers
    go None f = λ b s cached i. i
    go (Some operation) f = by operation f (is_some under.fixed) refl

-- ---- locks and lives

host_shrinks : (c : Core) (line : Option Line) → CachesShrink c.servers (host_answered_line c line).servers
host_shrinks c None = λ b s cached i. i
host_shrinks c (Some line) = λ b s cached i. i

given_shrinks : (c : Core) (a : ℕ) (lock : LockId) (asked : Option AskedFor) → Ascend (c.servers a).cache → CachesShrink c.servers (given_for c a lock asked).servers
given_shrinks c a lock None sorted = λ b s cached i. i
given_shrinks c a lock (Some Downgrade) sorted = λ b s cached i. i
given_shrinks c a lock (Some Release) sorted = one_shrinks c.servers a (record (c.servers a) { cache = dropped (c.servers a).cache lock })
    (dropped_within (c.servers a).cache lock sorted)

died_shrinks : (c : Core) (a : ℕ) (phase : life.Phase) → CachesShrink c.servers (died_in c a phase).servers
died_shrinks c a life.Off = λ b s cached i. i
died_shrinks c a life.Up = λ b s cached i. i
died_shrinks c a life.Still = λ b s cached i. i
died_shrinks c a (life.Doomed fate) = one_shrinks c.servers a (died_with fate (c.servers a)) (nothing (c.servers a).cache)
died_shrinks c a life.Dead = λ b s cached i. i

tick_shrinks : (c : Core) (now : ℕ) → CachesShrink c.servers (flushed_at c now)
tick_shrinks c now b s cached = go (now % c.setting.flush_ticks == 0) (is_up (c.servers b).phase)
  where
    go : (flushes up : Bool) → value_at (if flushes then (if up then wanting_all (c.servers b) else c.servers b) else c.servers b).cache s ≡ Some cached →
        value_at (c.servers b).cache s ≡ Some cached
    go true true i = i
    go true false i = i
    go false up i = i

close_shrinks : (c : Core) (a : ℕ) → CachesShrink c.servers (after c (Close a) Nothing).servers
close_shrinks c a = go (clean_at c a)
  where
    go : (b : Bool) → CachesShrink c.servers (if b then record c { servers = put c.servers a (off_after (c.servers a)); locks = cleared c.locks a } else with_server c a
        (wanting_all (c.servers a))).servers
    go true = one_shrinks c.servers a (off_after (c.servers a)) (nothing (c.servers a).cache)
    go false = one_shrinks c.servers a (wanting_all (c.servers a)) (itself (c.servers a).cache)

read_shrinks : (c : Core) (sector : ℕ) (heard : Heard) → CachesShrink c.servers (after c (Read sector) heard).servers
read_shrinks c sector (Got block) = λ b s cached i. i
read_shrinks c sector Nothing = λ b s cached i. i
read_shrinks c sector GetFailed = λ b s cached i. i
read_shrinks c sector Written = λ b s cached i. i
read_shrinks c sector Late = λ b s cached i. i
read_shrinks c sector (PutFailed new) = λ b s cached i. i

pub flushed_shrinks : (servers : ℕ → Server) (a : ℕ) → CachesShrink servers (put servers a (wanting_all_up (servers a)))
flushed_shrinks servers a = one_shrinks servers a (wanting_all_up (servers a)) (go (is_up (servers a).phase))
  where
    go : (b : Bool) → IsWithin (if b then wanting_all (servers a) else servers a).cache (servers a).cache
    go true = itself (servers a).cache
    go false = itself (servers a).cache

-- ---- the events

pub lives_shrink : LivesShrinkCaches
lives_shrink s (Begin a) heard r m h = one_shrinks s.core.servers a (begun_line (s.core.servers a) (next_of s.core a)) (begun_within (s.core.servers a) (next_of s.core a))
lives_shrink s (Ask a lock mode) heard r m h = λ b i cached e. e
lives_shrink s (Fetch a sector) heard r m h = fetch_shrinks s.core a sector heard (only (is_off (s.core.servers a).phase) h)
  where
    only : (b : Bool) → IsTrue (b || false) → IsTrue b
    only true g = refl
    only false g = g
lives_shrink s (Again a) heard r m h = one_shrinks s.core.servers a (again_by s.core.setting.logs (stage s.core a) (s.core.servers a))
    (again_within s.core (s.core.servers a) (stage s.core a))
lives_shrink s (Clear a block) heard r m h = absurd (false≢true h)
lives_shrink s (Commit a) heard r m h = absurd (false≢true h)
lives_shrink s (Answer a) heard r m h = answered_shrinks s.core a (s.core.servers a).under (due_at s.core a) refl refl
lives_shrink s (Give a lock) heard r m h =
    given_shrinks s.core a lock (asked_for s.core.locks a lock) ((order_of_run (setting_of r.script r.segments r.number) r.disk s r.run).servers a).cache
lives_shrink s (Issue a sector) heard r m h = absurd (false≢true h)
lives_shrink s (Doom a) heard r m h = one_shrinks s.core.servers a (record (s.core.servers a) { phase = life.Doomed (fate_of s.core a) }) (itself (s.core.servers a).cache)
lives_shrink s (Resume a) heard r m h = one_shrinks s.core.servers a (up_again s.core.setting s.core.now (s.core.servers a)) (nothing (s.core.servers a).cache)
lives_shrink s (Arrive ticket) heard r m h = absurd (false≢true h)
lives_shrink s (Lose ticket) heard r m h = absurd (false≢true h)
lives_shrink s (Die a) heard r m h = died_shrinks s.core a (s.core.servers a).phase
lives_shrink s (Renew a) heard r m h = one_shrinks s.core.servers a (record (s.core.servers a) { expiry = lease_to s.core.setting s.core.now }) (itself (s.core.servers a).cache)
lives_shrink s Tick heard r m h = tick_shrinks s.core (s.core.now + 1)
lives_shrink s (Recover dead by) heard r m h = absurd (false≢true h)
lives_shrink s (Load by slot) heard r m h = absurd (false≢true h)
lives_shrink s (Look by sector) heard r m h = absurd (false≢true h)
lives_shrink s (Finish by) heard r m h = absurd (false≢true h)
lives_shrink s (HostLine number) heard r m h = host_shrinks s.core (next_of s.core host_party)
lives_shrink s (Close a) heard r m h = close_shrinks s.core a
lives_shrink s (Read sector) heard r m h = read_shrinks s.core sector heard
lives_shrink s (Show place) heard r m h = λ b i cached e. e
lives_shrink s End heard r m h = λ b i cached e. e

-- ---- what is free

pub stay_free : ClearedStayFree
stay_free servers next w u shrink first logged history old a s cached e dirty plain bare =
    (λ i. is_free (first i) (history i) s) ∙ old a s cached (shrink a s cached e) dirty plain (sym (λ i. is_logged (logged i) (history i) s) ∙ bare)
