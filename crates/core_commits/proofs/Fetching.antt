-- A Fetch brings in the disk's sector; a failed one fails the server; and one of a mount changes only the line under way.
use Rattle.std.proofs.Common.{◌≡◌, ◌≢◌, ◌==◌, ◌&&◌, ◌||◌, ℕ, Bool, true, false, if◌then◌else◌, IsTrue, [], ◌∷◌, ◌++◌, Option, Some, nat_eq, refl, sym, ap, ◌∙◌, subst, inl, inr, ⊎_elim, arith}
use Rattle.std.proofs.lemmas.Bool.{cases_eq, eq-eqb, eqb-true, false≢true}
use Rattle.std.proofs.lemmas.Bool.Decides.{nat_tests}
use Rattle.std.proofs.lemmas.Cmp.{nat_cmp_total}
use Rattle.std.specs.BTreeMap.{is_at}
use Rattle.std.specs.Ordering.{nat_cmp}
use Rattle.frang_base.specs.Functions.{put, put2}
use Rattle.frang_base.proofs.Basics.{at_put, at_put2, put_other, put_same}
use Rattle.frang_base.specs.declared.lock.LockId.{LockId}
use Rattle.sector_bytes.specs.Blocks.{Block}
use Rattle.sector_bytes.specs.SectorMaps.{value_at, with_value}
use Rattle.sorted_entries.proofs.Sorted.{lookup-insert_entry}
use Rattle.cache_definitions.specs.Caches.{Cache, CachedSector, clean}
use Rattle.core_definitions.specs.Cores.{stage, with_server}
use Rattle.core_definitions.specs.Events.{Fetch, Got, GetFailed}
use Rattle.core_definitions.specs.LineEffects.{cached_under, call_failed, cover_needed, failed_by, fetched_by, refused_under, slot_read, with_under}
use Rattle.core_definitions.specs.LineGuards.{is_server}
use Rattle.core_definitions.specs.Runs.{State as RunMoment, Makes, next}
use Rattle.core_definitions.specs.Rings.{is_all_reached}
use Rattle.core_definitions.specs.Scripts.{host_party}
use Rattle.core_definitions.specs.Servers as life
use Rattle.core_definitions.specs.Servers.{Server}
use Rattle.sector_world.specs.Histories.{in_doubt, settled}
use Rattle.sector_world.specs.HistoryBytes.{is_free}
use Rattle.sector_world.specs.Bytes.{IsMarked}
use Rattle.sector_world.specs.Kinds.{Good}
use Rattle.sector_world.specs.Steps.{after}
use Rattle.sector_world.specs.Steps as sectors
use Rattle.sector_world.specs.Steps.Run.{goes, stays}
use Rattle.sector_world.specs.World.{World, Page, NoPage, CleanPage, DirtyPage, FreedPage, Absent, Clean, Up, block_at, cover, has_version}
use Rattle.core_world.specs.Events.{LeadsQuietly}
use Rattle.core_world.specs.Journals.{IsLogOf, Journal, sector_log}
use Rattle.core_world.specs.Steps.{IsWorldOf}
use Rattle.core_world.specs.Ties.{AreCached, AreLives, AreMarked, AreRescues, IsCachedAs, IsMarkedAs, IsNoPage, expiry_at, phase_of}
use Rattle.core_world.proofs.Giving.{up_is}
use Rattle.core_world.proofs.Same.{AreAlike, journals_alike, lives_alike, logged_alike, put_alike, put_as, readings_alike, rescues_alike}
use Rattle.core_commits.specs.Fetches.{FailedFetchesAreEvents, FetchesAreEvents, IsFetchable, MountsFetchNone}
use Rattle.core_commits.proofs.Reclaiming.{none_leads, under_keeps}

-- ---- a sector that comes in

at_test : (s t : ℕ) → is_at (nat_cmp s) t ≡ nat_eq t s
at_test s t = grind (arith, nat_tests)

value_with : (cache : Cache) (t : ℕ) (x : CachedSector) (s : ℕ) → value_at (with_value cache t x) s ≡ (if nat_eq t s then Some x else value_at cache s)
value_with cache t x s = lookup-insert_entry nat_cmp_total t x s cache ∙ ap (λ (b : Bool). if b then Some x else value_at cache s) (at_test s t)

-- what is so of each server and sector, and of the sector with its clean block, is so afterwards
module _ (servers : ℕ → Server) (a t : ℕ) (block : Block) (lock : LockId) where
  abbrev new : Server
  new = record (servers a) { cache = with_value (servers a).cache t (clean block lock) }

  abbrev then_ : ℕ → Server
  then_ = put servers a (record (servers a) { cache = with_value (servers a).cache t (clean block lock) })

  each : (P : ℕ → ℕ → Option CachedSector → Type 0) → ((b s : ℕ) → (b ≡ a → s ≢ t) → P b s (value_at (servers b).cache s)) → P a t (Some (clean block lock)) →
      (b s : ℕ) → P b s (value_at (then_ b).cache s)
  each P others here b s = ⊎_elim
      (λ e. subst (λ n. P n s (value_at (then_ n).cache s)) (sym e) (own (nat_eq t s) refl))
      (λ n. subst (P b s) (sym (ap (λ x. value_at x.cache s) (put_other servers a new b n))) (others b s (λ e. absurd (n e))))
      (cases_eq b a)
    where
      value_is : (m : Bool) → nat_eq t s ≡ m → value_at (then_ a).cache s ≡ (if m then Some (clean block lock) else value_at (servers a).cache s)
      value_is m e = ap (λ x. value_at x.cache s) (put_same servers a new) ∙ value_with (servers a).cache t (clean block lock) s ∙ ap (λ (x : Bool). if x then Some (clean block lock) else value_at (servers a).cache s) e

      own : (m : Bool) → nat_eq t s ≡ m → P a s (value_at (then_ a).cache s)
      own true e = subst (P a s) (sym (value_is true e)) (subst (λ n. P a n (Some (clean block lock))) (eqb-true t s e) here)
      own false e = subst (P a s) (sym (value_is false e)) (others a s (λ i j. false≢true (sym e ∙ eq-eqb t s (sym j))))

module _ (s : RunMoment) (w : World) (journal : ℕ → Journal) (a t : ℕ) (lock : LockId) (block : Block) (is : IsWorldOf s w journal) (g : Good w) (makes : Makes s (Fetch a t) (Got block))
    (f : IsFetchable s w a t lock) where
  abbrev servers : ℕ → Server
  servers = s.core.servers

  abbrev fresh : Server
  fresh = record (s.core.servers a) { cache = with_value (s.core.servers a).cache t (clean block lock) }

  up : w.phase a ≡ Up
  up = is.tied.lives.phase a ∙ up_is (servers a).phase f.up

  not_off : (p : life.Phase) → IsTrue (life.is_up p) → life.is_off p ≡ false
  not_off life.Off u = absurd (cc)
  not_off life.Up u = refl
  not_off life.Still u = refl
  not_off (life.Doomed fate) u = refl
  not_off life.Dead u = refl

  -- the server afterwards
  comes : fetched_by a (stage s.core a) t block (servers a) ≡ fresh
  comes =
      ap (λ (b : Bool). if b then with_under (servers a) (slot_read a t block) else cached_under (servers a) t block (cover_needed (stage s.core a) t)) (not_off (servers a).phase f.up)
      ∙ ap (cached_under (servers a) t block) f.needed

  alike : AreAlike (put servers a fresh) servers
  alike = put_alike servers a fresh (record { phase = refl; failed = refl; recovery = refl; ring = refl })

  -- it is the disk's
  block_is : block_at w t ≡ block
  block_is = is.tied.disk t f.no_log ∙ sym makes.hears

  -- a sector with a version
  module _ (kind : has_version w t ≡ true) where
    none_versioned : w.slot a t ≡ Absent
    none_versioned = subst (λ o. IsCachedAs true (cover w t) o (w.slot a t) (w.page a t)) f.absent
        (subst (λ x. IsCachedAs x (cover w t) (value_at (servers a).cache t) (w.slot a t) (w.page a t)) kind (is.tied.cached a t))

    versioned_cached : AreCached (put servers a fresh) (after w (sectors.Fetch a t))
    versioned_cached = each servers a t block lock (λ b n o. IsCachedAs (has_version w n) (cover w n) o (put2 w.slot a t (Clean (w.disk t)) b n) (w.page b n))
        (λ b n m. at_put2 (λ x. IsCachedAs (has_version w n) (cover w n) (value_at (servers b).cache n) x (w.page b n)) w.slot a t (Clean (w.disk t)) b n (λ e i. absurd (m e i)) (λ o. is.tied.cached b n))
        (subst (λ x. IsCachedAs x (cover w t) (Some (clean block lock)) (put2 w.slot a t (Clean (w.disk t)) a t) (w.page a t)) (sym kind)
        (f.covered, at_put2 (λ x. x ≡ Clean block) w.slot a t (Clean (w.disk t)) a t (λ e i. ap Clean (sym (ap (λ (b : Bool). if b then w.disk t else w.bytes t) kind) ∙ block_is)) (λ m. absurd (m refl refl))))

    versioned_marked : AreMarked (put servers a fresh) (after w (sectors.Fetch a t))
    versioned_marked b n =
        subst (λ r. IsMarkedAs r (w.acked b) (value_at (put servers a fresh b).cache n) (put2 w.slot a t (Clean (w.disk t)) b n) (w.page b n)) (sym (put_as (λ x. x.ring.reached) servers a fresh refl b))
        (each servers a t block lock (λ c k o. IsMarkedAs (servers c).ring.reached (w.acked c) o (put2 w.slot a t (Clean (w.disk t)) c k) (w.page c k)) (λ c k m. at_put2 (λ x. IsMarkedAs (servers c).ring.reached (w.acked c) (value_at (servers c).cache k) x (w.page c k)) w.slot a t (Clean (w.disk t)) c k (λ e i. absurd (m e i)) (λ o. is.tied.marked c k)) tt b n)

    versioned_comes : LeadsQuietly w (next s (Fetch a t) (Got block)) journal
    versioned_comes = record {
      leads = record {
        events = sectors.Fetch a t ∷ [];
        world = after w (sectors.Fetch a t);
        run = goes (record { up = up; held = λ none. f.held (ap (w.holds a) f.covered ∙ none); absent = none_versioned }) stays;
        is = subst (λ x. IsWorldOf (record { core = with_server s.core a x; disk = s.disk; record_ = s.record_ ++ [] }) (after w (sectors.Fetch a t)) journal) (sym comes) (record {
          tied = record {
            lives = lives_alike (put servers a fresh) servers alike (after w (sectors.Fetch a t)) s.core.now (put_as (λ x. x.expiry) servers a fresh refl) is.tied.lives;
            locks = is.tied.locks;
            cached = versioned_cached;
            marked = versioned_marked;
            flying = is.tied.flying;
            disk = is.tied.disk;
            rescues = λ e. rescues_alike (put servers a fresh) servers alike (after w (sectors.Fetch a t)) s.core.flights (is.tied.rescues e);
            logged = logged_alike (put servers a fresh) servers alike (after w (sectors.Fetch a t)) is.tied.logged;
          };
          journals = journals_alike (put servers a fresh) servers alike (after w (sectors.Fetch a t)) s.core.now s.core.flights s.disk journal is.journals;
          readings = readings_alike (put servers a fresh) servers alike (after w (sectors.Fetch a t)) s.core.setting.segments is.readings;
        });
      };
      story = record { servers = refl; opening = refl; logged = refl; first = refl; home = refl; history = refl };
      quiet = (tt, tt);
    }

  -- a sector of bytes
  module _ (kind : has_version w t ≡ false) where
    none_plain : (w.slot a t ≡ Absent) × IsNoPage (w.page a t)
    none_plain = subst (λ o. IsCachedAs false (cover w t) o (w.slot a t) (w.page a t)) f.absent
        (subst (λ x. IsCachedAs x (cover w t) (value_at (servers a).cache t) (w.slot a t) (w.page a t)) kind (is.tied.cached a t))

    -- a page that was freed would be of a free sector
    no_page : w.page a t ≡ NoPage
    no_page = ⊎_elim (λ e. e) (λ m. absurd (false≢true (sym (f.filled kind) ∙ freed (w.page a t) m.0 (w.last a) (in_doubt a (w.synced a) (settled w.history) t) (is_free w.first (settled w.history) t) m.1 (g.bytes.dirtied a t)))) none_plain.1
      where
        freed : (page : Page) (mark op : ℕ) (doubt free : Bool) → page ≡ FreedPage mark → IsMarked page op doubt free → free ≡ true
        freed NoPage mark op doubt free e i = absurd (cc)
        freed (CleanPage x) mark op doubt free e i = absurd (cc)
        freed (DirtyPage x m) mark op doubt free e i = absurd (cc)
        freed (FreedPage m) mark op doubt free e i = i.1

    plain_cached : AreCached (put servers a fresh) (after w (sectors.FetchBytes a t))
    plain_cached = each servers a t block lock (λ b n o. IsCachedAs (has_version w n) (cover w n) o (w.slot b n) (put2 w.page a t (CleanPage (w.bytes t)) b n))
        (λ b n m. at_put2 (λ x. IsCachedAs (has_version w n) (cover w n) (value_at (servers b).cache n) (w.slot b n) x) w.page a t (CleanPage (w.bytes t)) b n (λ e i. absurd (m e i)) (λ o. is.tied.cached b n))
        (subst (λ x. IsCachedAs x (cover w t) (Some (clean block lock)) (w.slot a t) (put2 w.page a t (CleanPage (w.bytes t)) a t)) (sym kind)
        (f.covered, none_plain.0, at_put2 (λ x. x ≡ CleanPage block) w.page a t (CleanPage (w.bytes t)) a t (λ e i. ap CleanPage (sym (ap (λ (b : Bool). if b then w.disk t else w.bytes t) kind) ∙ block_is)) (λ m. absurd (m refl refl))))

    plain_marked : AreMarked (put servers a fresh) (after w (sectors.FetchBytes a t))
    plain_marked b n =
        subst (λ r. IsMarkedAs r (w.acked b) (value_at (put servers a fresh b).cache n) (w.slot b n) (put2 w.page a t (CleanPage (w.bytes t)) b n)) (sym (put_as (λ x. x.ring.reached) servers a fresh refl b))
        (each servers a t block lock (λ c k o. IsMarkedAs (servers c).ring.reached (w.acked c) o (w.slot c k) (put2 w.page a t (CleanPage (w.bytes t)) c k)) (λ c k m. at_put2 (λ x. IsMarkedAs (servers c).ring.reached (w.acked c) (value_at (servers c).cache k) (w.slot c k) x) w.page a t (CleanPage (w.bytes t)) c k (λ e i. absurd (m e i)) (λ o. is.tied.marked c k)) tt b n)

    plain_comes : LeadsQuietly w (next s (Fetch a t) (Got block)) journal
    plain_comes = record {
      leads = record {
        events = sectors.FetchBytes a t ∷ [];
        world = after w (sectors.FetchBytes a t);
        run = goes (record { up = up; held = λ none. f.held (ap (w.holds a) f.covered ∙ none); absent = no_page; plain = kind; filled = f.filled kind }) stays;
        is = subst (λ x. IsWorldOf (record { core = with_server s.core a x; disk = s.disk; record_ = s.record_ ++ [] }) (after w (sectors.FetchBytes a t)) journal) (sym comes) (record {
          tied = record {
            lives = lives_alike (put servers a fresh) servers alike (after w (sectors.FetchBytes a t)) s.core.now (put_as (λ x. x.expiry) servers a fresh refl) is.tied.lives;
            locks = is.tied.locks;
            cached = plain_cached;
            marked = plain_marked;
            flying = is.tied.flying;
            disk = is.tied.disk;
            rescues = λ e. rescues_alike (put servers a fresh) servers alike (after w (sectors.FetchBytes a t)) s.core.flights (is.tied.rescues e);
            logged = logged_alike (put servers a fresh) servers alike (after w (sectors.FetchBytes a t)) is.tied.logged;
          };
          journals = journals_alike (put servers a fresh) servers alike (after w (sectors.FetchBytes a t)) s.core.now s.core.flights s.disk journal is.journals;
          readings = readings_alike (put servers a fresh) servers alike (after w (sectors.FetchBytes a t)) s.core.setting.segments is.readings;
        });
      };
      story = record { servers = refl; opening = refl; logged = refl; first = refl; home = refl; history = refl };
      quiet = (tt, tt);
    }

  pub comes_in : LeadsQuietly w (next s (Fetch a t) (Got block)) journal
  comes_in = go (has_version w t) refl
    where
      go : (v : Bool) → has_version w t ≡ v → LeadsQuietly w (next s (Fetch a t) (Got block)) journal
      go true e = versioned_comes e
      go false e = plain_comes e

pub fetches_are_events : FetchesAreEvents
fetches_are_events s w journal a t lock block is g makes f = comes_in s w journal a t lock block is g makes f

-- ---- a get that fails

-- a server is no host
no_host : (a : ℕ) → IsTrue (is_server a) → (a == host_party) ≡ false
no_host a server = grind (arith, nat_tests, server)

module _ (s : RunMoment) (w : World) (journal : ℕ → Journal) (a t : ℕ) (is : IsWorldOf s w journal) (server : IsTrue (is_server a)) (up : IsTrue (life.is_up (s.core.servers a).phase)) where
  abbrev failing : Server
  failing = failed_by (s.core.servers a)

  up_not_off : (p : life.Phase) → IsTrue (life.is_up p) → life.is_off p ≡ false
  up_not_off life.Off u = absurd (cc)
  up_not_off life.Up u = refl
  up_not_off life.Still u = refl
  up_not_off (life.Doomed fate) u = refl
  up_not_off life.Dead u = refl

  up_in_mount : (p : life.Phase) → IsTrue (life.is_up p) → (b : Bool) → (b || life.is_in_mount p) ≡ true
  up_in_mount life.Off u b = absurd (cc)
  up_in_mount life.Up u true = refl
  up_in_mount life.Up u false = refl
  up_in_mount life.Still u b = absurd (cc)
  up_in_mount (life.Doomed fate) u b = absurd (cc)
  up_in_mount life.Dead u b = absurd (cc)

  same : {X : Type 0} (f : Server → X) → f failing ≡ f (s.core.servers a) → (b : ℕ) → f (put s.core.servers a failing b) ≡ f (s.core.servers b)
  same f e b = put_as f s.core.servers a failing e b

  works : (by : ℕ) → IsTrue ((is_server by && life.is_up (put s.core.servers a failing by).phase) || by == host_party) → IsTrue ((is_server by && life.is_up (s.core.servers by).phase) || by == host_party)
  works by who = subst (λ p. IsTrue ((is_server by && life.is_up p) || by == host_party)) (same (λ x. x.phase) refl by) who

  -- who has failed has
  still_failed : (b : ℕ) → (s.core.servers b).failed ≡ true → (put s.core.servers a failing b).failed ≡ true
  still_failed b e = at_put (λ x. x.failed ≡ true) s.core.servers a failing b (λ i. up_in_mount (s.core.servers a).phase up (s.core.servers a).failed) (λ n. e)

  lives : AreLives s.core.now (put s.core.servers a failing) (after w (sectors.Fail a))
  lives = record {
    now = is.tied.lives.now;
    phase = λ b. is.tied.lives.phase b ∙ ap phase_of (sym (same (λ x. x.phase) refl b));
    expiry = λ b. is.tied.lives.expiry b ∙ ap (expiry_at s.core.now b) (sym (same (λ x. x.expiry) refl b));
    well = λ b e i. at_put (λ x. x ≡ false) w.sick a true b
        (λ j. absurd (false≢true (sym e ∙ at_put (λ x. x.failed ≡ true) s.core.servers a failing b (λ k. up_in_mount (s.core.servers a).phase up (s.core.servers a).failed) (λ n. absurd (n j)))))
        (λ n. is.tied.lives.well b (sym (ap (λ x. x.failed) (put_other s.core.servers a failing b n)) ∙ e) i);
  }

  rescues : AreRescues s.core.servers s.core.flights w → AreRescues (put s.core.servers a failing) s.core.flights (after w (sectors.Fail a))
  rescues old = record {
    under_way = λ by r who e. ⊎_elim (λ r. inl r)
        (λ stuck. inr (record { has_failed = still_failed by stuck.has_failed; sector = stuck.sector; block = stuck.block; looked = stuck.looked; unwritten = stuck.unwritten; unsent = stuck.unsent }))
        (old.under_way by r (works by who) (sym (same (λ x. x.recovery) refl by) ∙ e));
    known = λ r e. let k = old.known r e in (k.0, same (λ x. x.recovery) refl r.by ∙ k.1, k.2);
  }

  fails_is : (if life.is_off (s.core.servers a).phase then with_server s.core a (with_under (s.core.servers a) refused_under) else call_failed s.core a) ≡ with_server s.core a failing
  fails_is =
      ap (λ (b : Bool). if b then with_server s.core a (with_under (s.core.servers a) refused_under) else call_failed s.core a) (up_not_off (s.core.servers a).phase up)
      ∙ ap (λ (b : Bool). if b then record s.core { over = true } else with_server s.core a failing) (no_host a server)

  pub fails : LeadsQuietly w (next s (Fetch a t) GetFailed) journal
  fails = record {
    leads = record {
      events = sectors.Fail a ∷ [];
      world = after w (sectors.Fail a);
      run = goes tt stays;
      is = subst (λ x. IsWorldOf (record { core = x; disk = s.disk; record_ = s.record_ ++ [] }) (after w (sectors.Fail a)) journal) (sym fails_is) (record {
        tied = record {
          lives = lives;
          locks = is.tied.locks;
          cached = λ b n. subst (λ k. IsCachedAs (has_version w n) (cover w n) (value_at k n) (w.slot b n) (w.page b n)) (sym (same (λ x. x.cache) refl b)) (is.tied.cached b n);
          marked = λ b n. subst (λ k. IsMarkedAs (put s.core.servers a failing b).ring.reached (w.acked b) (value_at k n) (w.slot b n) (w.page b n)) (sym (same (λ x. x.cache) refl b))
              (subst (λ r. IsMarkedAs r (w.acked b) (value_at (s.core.servers b).cache n) (w.slot b n) (w.page b n)) (sym (same (λ x. x.ring.reached) refl b)) (is.tied.marked b n));
          flying = is.tied.flying;
          disk = is.tied.disk;
          rescues = λ e. rescues (is.tied.rescues e);
          logged = λ b i. is.tied.logged b (subst IsTrue (same (λ x. is_all_reached x.ring) refl b) i);
        };
        journals = λ b who.
            subst (λ p. IsLogOf p (put s.core.servers a failing b).ring s.core.now s.core.flights s.disk (sector_log w b) b (journal b)) (sym (same (λ x. x.phase) refl b))
            (subst (λ r. IsLogOf (s.core.servers b).phase r s.core.now s.core.flights s.disk (sector_log w b) b (journal b)) (sym (same (λ x. x.ring) refl b)) (is.journals b who));
        readings = λ by recovery who e. is.readings by recovery (works by who) (sym (same (λ x. x.recovery) refl by) ∙ e);
      });
    };
    story = record { servers = refl; opening = refl; logged = refl; first = refl; home = refl; history = refl };
    quiet = (tt, tt);
  }

pub failed_fetches_are_events : FailedFetchesAreEvents
failed_fetches_are_events s w journal a t is server up = fails s w journal a t is server up

-- ---- a mount

pub mounts_fetch_none : MountsFetchNone
mounts_fetch_none s w journal a t block is off = (
  none_leads w journal (next s (Fetch a t) (Got block))
      (subst (λ x. IsWorldOf (record { core = with_server s.core a x; disk = s.disk; record_ = s.record_ ++ [] }) w journal)
      (sym (ap (λ (b : Bool). if b then with_under (s.core.servers a) (slot_read a t block) else cached_under (s.core.servers a) t block (cover_needed (stage s.core a) t)) off))
      (under_keeps s w journal a is (slot_read a t block) (s.record_ ++ []))),
  none_leads w journal (next s (Fetch a t) GetFailed)
      (subst (λ x. IsWorldOf (record { core = x; disk = s.disk; record_ = s.record_ ++ [] }) w journal)
      (sym (ap (λ (b : Bool). if b then with_server s.core a (with_under (s.core.servers a) refused_under) else call_failed s.core a) off))
      (under_keeps s w journal a is refused_under (s.record_ ++ []))),
)
