-- A Clear is Clear of the eight sectors of its block: they have no version and are free, and their cover is the segment's lock.
use Rattle.std.proofs.Common.{◌≡◌, ◌⊎◌, ◌≤◌, ◌<◌, ◌/◌, ◌==◌, ℕ, Bool, true, false, if◌then◌else◌, IsTrue, List, [], ◌∷◌, Option, Some, None, map, nat_eq, refl, sym, ap, ◌∙◌, subst, inl, inr, ⊎_elim, arith}
use Rattle.std.proofs.lemmas.Bool.{cases_eq, eq-eqb, eqb-true, false≢true}
use Rattle.std.proofs.lemmas.Bool.Decides.{nat_tests}
use Rattle.std.proofs.lemmas.Cmp.{nat_cmp_total}
use Rattle.std.specs.BTreeMap.{is_at}
use Rattle.std.specs.Ordering.{nat_cmp}
use Rattle.std.specs.Prelude.{fold}
use Rattle.frang_base.specs.Functions.{member, put, put2}
use Rattle.frang_base.proofs.Basics.{at_put2, put_other, put_same}
use Rattle.frang_base.specs.declared.lock.LockId.{LockId}
use Rattle.frang_base.specs.declared.lock.LockId.TheVariants.{Segment}
use Rattle.tree_definitions.specs.Numbers.{below}
use Rattle.tree_definitions.specs.Touched.{shape_of}
use Rattle.tree_definitions.specs.Tree.{FileTree, node_at}
use Rattle.sector_bytes.specs.Blocks.{zero_block}
use Rattle.sector_bytes.specs.SectorMaps.{value_at}
use Rattle.sorted_entries.proofs.Sorted.{lookup-insert_entry}
use Rattle.cache_definitions.specs.Caches.{Cache, CachedSector, dirty}
use Rattle.ring_definitions.specs.Rings.{Ring, last}
use Rattle.disk_definitions.specs.declared.region.Region.TheVariants as region
use Rattle.disk_definitions.specs.Ask.{DirectoryAt}
use Rattle.disk_definitions.specs.Covers as by_naming
use Rattle.disk_definitions.specs.Meets.{is_directory_use}
use Rattle.disk_definitions.specs.Numbered.{sector_at, sector_in}
use Rattle.disk_definitions.specs.Regions.{sector_of}
use Rattle.disk_definitions.specs.Store.{is_unused}
use Rattle.disk_definitions.proofs.Free.{no_owner}
use Rattle.disk_definitions.proofs.RegionLaws.{region_found}
use Rattle.plan_fit.proofs.Kept.{in_small}
use Rattle.line_histories.specs.LinePlans.{store_on}
use Rattle.line_histories.proofs.Lists.{has_map, member_has}
use Rattle.line_histories.proofs.Owned.{below_less}
use Rattle.core_definitions.specs.Cores.{stage}
use Rattle.core_definitions.specs.Events as core
use Rattle.core_definitions.specs.Events.{Nothing}
use Rattle.core_definitions.specs.LineEffects.{cleared_at, zeroed}
use Rattle.core_definitions.specs.Lines.{Clearing}
use Rattle.core_definitions.specs.Runs.{State as RunMoment, next}
use Rattle.core_definitions.specs.Servers.{Server}
use Rattle.core_definitions.specs.Trees.{block_sectors}
use Rattle.sector_world.specs.Guards as guards
use Rattle.sector_world.specs.Histories.{settled}
use Rattle.sector_world.specs.HistoryBytes.{is_free}
use Rattle.sector_world.specs.Logged.{now_of}
use Rattle.sector_world.specs.Steps.{Run, after}
use Rattle.sector_world.specs.Steps.Event.{Clear}
use Rattle.sector_world.specs.Steps.Run.{goes, stays}
use Rattle.sector_world.specs.World.{World, Page, DirtyPage, Slot, Absent, Up, cover, has_version}
use Rattle.core_world.specs.Journals.{Journal}
use Rattle.core_world.specs.Steps.{IsWorldOf}
use Rattle.core_world.specs.Ties.{AreCached, AreLogged, AreMarked, IsCachedAs, IsMark, IsMarkedAs, IsSlotMark}
use Rattle.core_world.proofs.Giving.{up_is}
use Rattle.core_world.proofs.Same.{AreAlike, journals_alike, lives_alike, logged_alike, put_alike, put_as, readings_alike, rescues_alike}
use Rattle.core_commits.specs.Clears.{BlocksAreCleared, ClearsAreEvents, IsFreshBlock, IsReachedWithAll, LeadsByClears, cleared_pages, cleared_world}
use Rattle.core_commits.specs.Standing.{StandsWhole}
use Rattle.core_commits.proofs.Reclaiming.{up_of}

-- ---- sectors that are cleared

cleared_run : (w : World) (a : ℕ) (sectors : List ℕ) → ((s : ℕ) → member s sectors ≡ true → guards.CanClear w a s) → Run w (map (Clear a) sectors) (cleared_world w a sectors)
cleared_run w a [] may = stays
cleared_run w a (s ∷ sectors) may =
    goes (may s (ap (λ (b : Bool). if b then true else member s sectors) (eq-eqb s s refl)))
    (cleared_run (after w (Clear a s)) a sectors (λ t i. let k = may t (later (nat_eq s t) i) in record { up = k.up; held = k.held; plain = k.plain; free = k.free }))
  where
    later : (b : Bool) {m : Bool} → m ≡ true → (if b then true else m) ≡ true
    later true i = refl
    later false i = i

module _ (last_op a : ℕ) where
  page_else : (sectors : List ℕ) (page : ℕ → ℕ → Page) (b s : ℕ) → (b ≡ a → member s sectors ≡ true → ⊥) → cleared_pages last_op page a sectors b s ≡ page b s
  page_else [] page b s n = refl
  page_else (t ∷ sectors) page b s n =
      page_else sectors (put2 page a t (DirtyPage zero_block last_op)) b s (λ e i. n e (later (nat_eq t s) i))
      ∙ at_put2 (λ x. x ≡ page b s) page a t (DirtyPage zero_block last_op) b s (λ e i. absurd (n e (ap (λ (x : Bool). if x then true else member s sectors) (eq-eqb t s (sym i))))) (λ m. refl)
    where
      later : (b : Bool) {m : Bool} → m ≡ true → (if b then true else m) ≡ true
      later true i = refl
      later false i = i

  page_there : (sectors : List ℕ) (page : ℕ → ℕ → Page) (s : ℕ) → (page a s ≡ DirtyPage zero_block last_op) ⊎ (member s sectors ≡ true) → cleared_pages last_op page a sectors a s ≡ DirtyPage zero_block last_op
  page_there [] page s (inl e) = e
  page_there [] page s (inr e) = absurd (false≢true e)
  page_there (t ∷ sectors) page s d = page_there sectors (put2 page a t (DirtyPage zero_block last_op)) s (go (nat_eq t s) refl d)
    where
      put_it : t ≡ s → put2 page a t (DirtyPage zero_block last_op) a s ≡ DirtyPage zero_block last_op
      put_it e = at_put2 (λ x. x ≡ DirtyPage zero_block last_op) page a t (DirtyPage zero_block last_op) a s (λ i j. refl) (λ m. absurd (m refl (sym e)))

      go : (b : Bool) → nat_eq t s ≡ b → (page a s ≡ DirtyPage zero_block last_op) ⊎ ((if b then true else member s sectors) ≡ true) →
          (put2 page a t (DirtyPage zero_block last_op) a s ≡ DirtyPage zero_block last_op) ⊎ (member s sectors ≡ true)
      go true e d = inl (put_it (eqb-true t s e))
      go false e (inl i) = inl (at_put2 (λ x. x ≡ DirtyPage zero_block last_op) page a t (DirtyPage zero_block last_op) a s (λ p q. refl) (λ m. i))
      go false e (inr i) = inr i

at_test : (s t : ℕ) → is_at (nat_cmp s) t ≡ nat_eq t s
at_test s t = grind (arith, nat_tests)

-- the cache with these sectors zeroed
pub zeroed_at : (mark segment : ℕ) (sectors : List ℕ) (cache : Cache) (s : ℕ) →
    value_at (fold (zeroed mark segment) cache sectors) s ≡ (if member s sectors then Some (dirty zero_block (Segment segment) mark false) else value_at cache s)
zeroed_at mark segment [] cache s = refl
zeroed_at mark segment (t ∷ sectors) cache s =
    zeroed_at mark segment sectors (zeroed mark segment cache t) s
    ∙ ap (λ o. if member s sectors then Some (dirty zero_block (Segment segment) mark false) else o)
    (lookup-insert_entry nat_cmp_total t (dirty zero_block (Segment segment) mark false) s cache ∙ ap (λ (b : Bool). if b then Some (dirty zero_block (Segment segment) mark false) else value_at cache s) (at_test s t))
    ∙ by (member s sectors) (nat_eq t s)
  where
    by : (m b : Bool) → (if m then Some (dirty zero_block (Segment segment) mark false) else (if b then Some (dirty zero_block (Segment segment) mark false) else value_at cache s))
        ≡ (if (if b then true else m) then Some (dirty zero_block (Segment segment) mark false) else value_at cache s)
    by true true = refl
    by true false = refl
    by false true = refl
    by false false = refl

-- ---- a block

module _ (segments : ℕ) (w : World) (tree : FileTree) (a block : ℕ) (on : StandsWhole segments w tree) (is : IsFreshBlock segments w a block) where
  few : segments ≤ 64
  few = subst (λ k. k ≤ 64) on.count on.logical.of.few

  -- a sector of the block
  record IsOfBlock (s : ℕ) : Type 0 where
    part : ℕ
    low : part < 8
    here : sector_of (region.Small block part) ≡ s

  of_block : (s : ℕ) → member s (block_sectors block) ≡ true → IsOfBlock s
  of_block s e = let f = has_map (λ part. sector_of (region.Small block part)) (below 8) s (member_has s (block_sectors block) e) in record { part = f.0; low = below_less 8 f.0 f.1; here = f.2 }

  there : (s : ℕ) (x : IsOfBlock s) → sector_at segments s ≡ Some (DirectoryAt block x.part)
  there s x = subst (λ n. sector_at segments n ≡ Some (DirectoryAt block x.part)) x.here (ap sector_in (region_found segments (region.Small block x.part) few (in_small segments block x.part is.inside x.low)))

  pub covered : (s : ℕ) → member s (block_sectors block) ≡ true → cover w s ≡ Segment (block / 1024)
  covered s e =
      let x = of_block s e in
      on.follows.covers _ _ on.logical.of s (DirectoryAt block x.part) (there s x)
      ∙ ap (by_naming.small_cover on.now.stands.naming block) (no_owner (store_on segments (now_of w)) (node_at (shape_of tree)) on.now.stands.naming on.logical.of.pictures block (ap is_unused is.fresh))

  pub plain : (s : ℕ) → member s (block_sectors block) ≡ true → has_version w s ≡ false
  plain s e = let x = of_block s e in on.follows.kinds s (DirectoryAt block x.part) (there s x) ∙ ap is_directory_use is.fresh

  pub free : (s : ℕ) → member s (block_sectors block) ≡ true → is_free w.first (settled w.history) s ≡ true
  free s e = let x = of_block s e in on.follows.free s (DirectoryAt block x.part) (there s x) is.fresh

  pub cleared_all : w.phase a ≡ Up → Run w (map (Clear a) (block_sectors block)) (cleared_world w a (block_sectors block))
  cleared_all up = cleared_run w a (block_sectors block) (λ s e. record { up = up; held = ap (w.holds a) (covered s e) ∙ is.held; plain = plain s e; free = free s e })

  -- ---- the ties

  module _ (servers : ℕ → Server) (t : AreCached servers w) (marks : AreMarked servers w) (all : IsMark (servers a).ring.reached (w.acked a) (last (servers a).ring) (w.last a)) where
    abbrev sectors : List ℕ
    sectors = block_sectors block

    abbrev then_ : ℕ → Server
    then_ = put servers a (cleared_at block (servers a))

    abbrev v : World
    v = cleared_world w a (block_sectors block)

    abbrev zero : CachedSector
    zero = dirty zero_block (Segment (block / 1024)) (last (servers a).ring) false

    -- what is so of what stays and of what is cleared is so at each server and sector
    each : (P : ℕ → ℕ → Option CachedSector → Page → Type 0) → ((b s : ℕ) → P b s (value_at (servers b).cache s) (w.page b s)) →
        ((s : ℕ) → member s (block_sectors block) ≡ true → P a s (Some zero) (DirtyPage zero_block (w.last a))) →
        (b s : ℕ) → P b s (value_at (then_ b).cache s) (cleared_pages (w.last a) w.page a (block_sectors block) b s)
    each P stays_so cleared b s = ⊎_elim
        (λ e. subst (λ n. P n s (value_at (then_ n).cache s) (cleared_pages (w.last a) w.page a (block_sectors block) n s)) (sym e) (own (member s (block_sectors block)) refl))
        (λ n. subst (λ o. P b s o (cleared_pages (w.last a) w.page a (block_sectors block) b s)) (sym (ap (λ x. value_at x.cache s) (put_other servers a (cleared_at block (servers a)) b n)))
        (subst (P b s (value_at (servers b).cache s)) (sym (page_else (w.last a) a (block_sectors block) w.page b s (λ e. absurd (n e)))) (stays_so b s)))
        (cases_eq b a)
      where
        value_is : (m : Bool) → member s (block_sectors block) ≡ m → value_at (then_ a).cache s ≡ (if m then Some zero else value_at (servers a).cache s)
        value_is m e =
            ap (λ x. value_at x.cache s) (put_same servers a (cleared_at block (servers a)))
            ∙ zeroed_at (last (servers a).ring) (block / 1024) (block_sectors block) (servers a).cache s
            ∙ ap (λ (x : Bool). if x then Some zero else value_at (servers a).cache s) e

        own : (m : Bool) → member s (block_sectors block) ≡ m → P a s (value_at (then_ a).cache s) (cleared_pages (w.last a) w.page a (block_sectors block) a s)
        own true e =
            subst (λ o. P a s o (cleared_pages (w.last a) w.page a (block_sectors block) a s)) (sym (value_is true e))
            (subst (P a s (Some zero)) (sym (page_there (w.last a) a (block_sectors block) w.page s (inr e))) (cleared s e))
        own false e =
            subst (λ o. P a s o (cleared_pages (w.last a) w.page a (block_sectors block) a s)) (sym (value_is false e))
            (subst (P a s (value_at (servers a).cache s)) (sym (page_else (w.last a) a (block_sectors block) w.page a s (λ i j. false≢true (sym e ∙ j)))) (stays_so a s))

    no_slot : (o : Option CachedSector) (lock : LockId) (slot : Slot) (page : Page) → IsCachedAs false lock o slot page → slot ≡ Absent
    no_slot None lock slot page i = i.0
    no_slot (Some kept) lock slot page i = i.1

    absent : (s : ℕ) → member s (block_sectors block) ≡ true → w.slot a s ≡ Absent
    absent s e = no_slot (value_at (servers a).cache s) (cover w s) (w.slot a s) (w.page a s)
        (subst (λ x. IsCachedAs x (cover w s) (value_at (servers a).cache s) (w.slot a s) (w.page a s)) (plain s e) (t a s))

    pub cached_then : AreCached then_ v
    cached_then = each (λ b s o page. IsCachedAs (has_version w s) (cover w s) o (w.slot b s) page) t
        (λ s e. subst (λ x. IsCachedAs x (cover w s) (Some zero) (w.slot a s) (DirtyPage zero_block (w.last a))) (sym (plain s e)) (sym (covered s e), absent s e, (w.last a, refl)))

    ring_same : (b : ℕ) → (then_ b).ring.reached ≡ (servers b).ring.reached
    ring_same = put_as (λ x. x.ring.reached) servers a (cleared_at block (servers a)) refl

    pub marked_then : AreMarked then_ v
    marked_then b s = subst (λ r. IsMarkedAs r (w.acked b) (value_at (then_ b).cache s) (w.slot b s) (cleared_pages (w.last a) w.page a (block_sectors block) b s)) (sym (ring_same b))
        (each (λ n m o page. IsMarkedAs (servers n).ring.reached (w.acked n) o (w.slot n m) page) marks
        (λ m e. (subst (IsSlotMark (servers a).ring.reached (w.acked a) (last (servers a).ring)) (sym (absent m e)) tt, all)) b s)

-- ---- the event

-- the whole log is acknowledged on the one side where it is on the other
reached_alike : (servers : ℕ → Server) (w : World) (a : ℕ) → AreLogged servers w → IsReachedWithAll servers w a → IsMark (servers a).ring.reached (w.acked a) (last (servers a).ring) (w.last a)
reached_alike servers w a logged back = (λ l. logged a (all (servers a).ring.reached (last (servers a).ring) (below_last (servers a).ring) l), λ l. none (servers a).ring.reached (last (servers a).ring) (back l))
  where
    below_last : (r : Ring) → r.reached ≤ last r
    below_last r = omega arith

    all : (n m : ℕ) → n ≤ m → m ≤ n → IsTrue (n == m)
    all n m l k = grind (arith, nat_tests)

    none : (n m : ℕ) → IsTrue (n == m) → m ≤ n
    none n m e = grind (arith, nat_tests, e)

module _ (s : RunMoment) (w : World) (journal : ℕ → Journal) (tree : FileTree) (a block : ℕ) (is : IsWorldOf s w journal) (on : StandsWhole s.core.setting.segments w tree)
    (at : stage s.core a ≡ Some (Clearing block)) (fresh : IsFreshBlock s.core.setting.segments w a block) (back : IsReachedWithAll s.core.servers w a) where
  abbrev new : Server
  new = cleared_at block (s.core.servers a)

  alike : AreAlike (put s.core.servers a new) s.core.servers
  alike = put_alike s.core.servers a new (record { phase = refl; failed = refl; recovery = refl; ring = refl })

  abbrev u : World
  u = cleared_world w a (block_sectors block)

  up : w.phase a ≡ Up
  up = is.tied.lives.phase a ∙ up_is (s.core.servers a).phase (up_of s.core.setting s.core.locks a (s.core.servers a) (Clearing block) at)

  pub clears : LeadsByClears w a block (next s (core.Clear a block) Nothing) journal
  clears = record {
    untold = record {
      leads = record {
        events = map (Clear a) (block_sectors block);
        world = u;
        run = cleared_all s.core.setting.segments w tree a block on fresh up;
        is = record {
          tied = record {
            lives = lives_alike (put s.core.servers a new) s.core.servers alike u s.core.now (put_as (λ x. x.expiry) s.core.servers a new refl) is.tied.lives;
            locks = is.tied.locks;
            cached = cached_then s.core.setting.segments w tree a block on fresh s.core.servers is.tied.cached is.tied.marked (reached_alike s.core.servers w a is.tied.logged back);
            marked = marked_then s.core.setting.segments w tree a block on fresh s.core.servers is.tied.cached is.tied.marked (reached_alike s.core.servers w a is.tied.logged back);
            flying = is.tied.flying;
            disk = is.tied.disk;
            rescues = λ e. rescues_alike (put s.core.servers a new) s.core.servers alike u s.core.flights (is.tied.rescues e);
            logged = logged_alike (put s.core.servers a new) s.core.servers alike u is.tied.logged;
          };
          journals = journals_alike (put s.core.servers a new) s.core.servers alike u s.core.now s.core.flights s.disk journal is.journals;
          readings = readings_alike (put s.core.servers a new) s.core.servers alike u s.core.setting.segments is.readings;
        };
      };
      story = record { servers = refl; opening = refl; logged = refl; first = refl; home = refl; history = refl };
    };
    by = refl;
  }

pub blocks_are_cleared : BlocksAreCleared
blocks_are_cleared segments w tree a block on is up = cleared_all segments w tree a block on is up

pub clears_are_events : ClearsAreEvents
clears_are_events s w journal tree a block is on at fresh back = clears s w journal tree a block is on at fresh back
