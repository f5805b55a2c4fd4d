-- An Again that reclaims is Reclaim: what its server doesn't have dirty of its own operations is in place; and one that changes the set is none.
use Rattle.std.proofs.Common.{◌≡◌, ◌⊎◌, ◌==◌, ◌&&◌, ◌||◌, ℕ, ◌<◌, ◌≤◌, Bool, true, false, not, IsTrue, is_some, List, [], ◌∷◌, ◌++◌, Option, Some, None, nat_eq, nat_lt, if◌then◌else◌, inl, inr, refl, sym, ap, ◌∙◌, subst, ⊎_elim, arith}
use Rattle.std.proofs.lemmas.Bool.Decides.{nat_tests}
use Rattle.frang_base.proofs.Basics.{by_keep}
use Rattle.frang_base.specs.declared.change.Change.{Change}
use Rattle.sector_bytes.specs.Blocks.{version_of}
use Rattle.sector_bytes.specs.Replays.{change_at}
use Rattle.sector_world.specs.Histories.{Item, settled, own, is_own, redo_of, Each}
use Rattle.sector_world.specs.Histories.Item.{Done, Doubt}
use Rattle.sector_world.specs.World.{World, Page, Phase, Slot, cover, has_version}
use Rattle.sector_world.specs.World.Phase.{Off, Up, Dead}
use Rattle.sector_world.specs.World.Slot.{Absent, Clean, Dirty}
use Rattle.sector_world.specs.Guards.{IsBelow, AreBelow, CanReclaim, NotDirty}
use Rattle.sector_world.specs.Logged.{Covers, Pending}
use Rattle.sector_world.specs.Kinds.{Good}
use Rattle.sector_world.proofs.HistoryLaws.{AtMost, each_map, in_place_or}
use Rattle.std.proofs.lemmas.Bool.{eqb-true, false≢true}
use Rattle.std.specs.List.{list_all, list_any}
use Rattle.std.specs.Option.{IsSome, option_map, unwrap_or}
use Rattle.frang_base.specs.Functions.{put}
use Rattle.frang_base.specs.declared.lock.LockId.{LockId}
use Rattle.lock_definitions.specs.Locks.{Locks}
use Rattle.sector_bytes.specs.SectorMaps.{value_at}
use Rattle.tree_definitions.specs.Apply.{is_path_op}
use Rattle.cache_definitions.specs.declared.dirt.Dirt.{Dirt}
use Rattle.cache_definitions.specs.Caches.{Cache, CachedSector, is_dirty, is_dirty_at}
use Rattle.ring_definitions.specs.Rings.{Ring, oldest_of, reclaimed_of}
use Rattle.ring_definitions.specs.declared.ring.Named.{Named}
use Rattle.core_definitions.specs.Cores.{stage, with_server}
use Rattle.core_definitions.specs.Effects.{Deed}
use Rattle.core_definitions.specs.Events.{Again, Nothing}
use Rattle.core_definitions.specs.Flights.{Flights}
use Rattle.core_definitions.specs.LineEffects.{again_by, set_anew, set_grown, with_under}
use Rattle.core_definitions.specs.LineGuards.{CanAgain, is_grown, is_moved, is_oldest_in_place, is_server, may_reclaim}
use Rattle.core_definitions.specs.Lines.{Finishing, Stage, Under}
use Rattle.core_definitions.specs.Plans.{Outcome}
use Rattle.core_definitions.specs.Rings.{has_room, is_all_reached}
use Rattle.core_definitions.specs.Runs.{State as RunMoment, Makes, next}
use Rattle.core_definitions.specs.Scripts.{host_party}
use Rattle.core_definitions.specs.Servers as life
use Rattle.core_definitions.specs.Servers.{Server, asks, stage_of, stage_under}
use Rattle.core_definitions.specs.Settings.{LogRules, Setting}
use Rattle.sector_world.specs.Steps.{after, stays}
use Rattle.sector_world.specs.Steps.Event.{Reclaim}
use Rattle.core_world.specs.Events.{IsSameStory, LeadsQuietly}
use Rattle.core_world.specs.Journals.{Journal}
use Rattle.core_world.specs.Steps.{IsWorldOf}
use Rattle.core_world.specs.Ties.{AreCached, AreLives, AreLogged, AreMarked, AreRescues, AreTied, IsCachedAs, IsMarkedAs, IsRescueOf, IsSlotOf, IsStuck, expiry_at, phase_of}
use Rattle.core_world.proofs.Giving.{up_is}
use Rattle.core_world.proofs.Same.{AreAlike, journals_alike, lives_alike, logged_alike, marked_alike, put_alike, put_as, readings_alike, rescues_alike}
use Rattle.core_commits.specs.Agains.{AgainsReclaim, AreOldest, GrowthsAreNone, IsReclaim, MovesAreNone}

-- the server's operations above its floor and up to a number change nothing of the sector
abbrev pub NoneChanges : ℕ → ℕ → ℕ → ℕ → List Item → Type 0
NoneChanges a floor k s h = Each (λ c. c.by ≡ a → floor < c.op → c.op ≤ k → change_at c.changes s ≡ None) h

below_own : (a f k s v : ℕ) (h : List Item) → Each (λ c. c.by ≡ a → f < c.op → c.op ≤ k → IsBelow (change_at c.changes s) v) h → AreBelow k (own a f h) s v
below_own a f k s v [] all = tt
below_own a f k s v (Doubt m ∷ h) all = below_own a f k s v h all
below_own a f k s v (Done c ∷ h) all = let rest : AreBelow k (own a f h) s v = below_own a f k s v h all.1 in
    by_keep (λ x. AreBelow k x s v) (is_own a f c) (redo_of c) (own a f h) (λ e. ((λ l. all.0 (by e) (over e) l), rest)) (λ e. rest)
  where
    by : is_own a f c ≡ true → c.by ≡ a
    by e = eqb-true c.by a (first (nat_eq c.by a) e)
      where
        first : (x : Bool) → (if x then nat_lt f c.op else false) ≡ true → x ≡ true
        first true i = refl
        first false i = i

    over : is_own a f c ≡ true → f < c.op
    over e = grind (arith, nat_tests, second (nat_eq c.by a) e)
      where
        second : (x : Bool) → (if x then nat_lt f c.op else false) ≡ true → nat_lt f c.op ≡ true
        second true i = i
        second false i = absurd (cc)

below_of : (o : Option Change) (n : ℕ) → AtMost o n → IsBelow o n
below_of None n l = tt
below_of (Some x) n l = l

below_none : (o : Option Change) (n : ℕ) → o ≡ None → IsBelow o n
below_none None n e = tt
below_none (Some x) n e = absurd (cc)

not_covered : (p : Phase) (slot : Slot) (op : ℕ) → p ≡ Up → NotDirty slot → Covers p slot op → ⊥
not_covered Up Absent op e n c = c
not_covered Up (Clean block) op e n c = c
not_covered Up (Dirty block mark) op e n c = n
not_covered Off slot op e n c = absurd (cc)
not_covered Dead slot op e n c = absurd (cc)

module _ (w : World) (g : Good w) (a k : ℕ) (up : w.phase a ≡ Up) (more : w.floor a ≤ k) (there : k ≤ w.last a)
    (clean : (s : ℕ) → NotDirty (w.slot a s) ⊎ NoneChanges a (w.floor a) k s (settled w.history)) where
  in_place : (s : ℕ) → NotDirty (w.slot a s) → Each (λ c. c.by ≡ a → w.floor a < c.op → c.op ≤ k → IsBelow (change_at c.changes s) (version_of (w.disk s))) (settled w.history)
  in_place s n =
      each_map (λ c. Pending w s c ⊎ AtMost (change_at c.changes s) (version_of (w.disk s))) (λ c. c.by ≡ a → w.floor a < c.op → c.op ≤ k → IsBelow (change_at c.changes s) (version_of (w.disk s)))
      (λ c d e i j. ⊎_elim (λ p. absurd (not_covered (w.phase c.by) (w.slot c.by s) c.op (ap w.phase e ∙ up) (subst (λ b. NotDirty (w.slot b s)) (sym e) n) p.covered)) (λ l. below_of (change_at c.changes s) (version_of (w.disk s)) l) d)
      (settled w.history) (in_place_or w.opening w.durable s (Pending w s) (w.disk s) (settled w.history) (g.logged.place s) (g.logged.rising s))

  pub reclaim_guard : CanReclaim w a k
  reclaim_guard = record {
    up = up;
    more = more;
    there = there;
    written = λ s. subst (λ l. AreBelow k l s (version_of (w.disk s))) (sym (g.logged.logs a)) (below_own a (w.floor a) k s (version_of (w.disk s)) (settled w.history)
        (⊎_elim (in_place s) (λ n. each_map (λ c. c.by ≡ a → w.floor a < c.op → c.op ≤ k → change_at c.changes s ≡ None) (λ c. c.by ≡ a → w.floor a < c.op → c.op ≤ k → IsBelow (change_at c.changes s) (version_of (w.disk s)))
        (λ c f e i j. below_none (change_at c.changes s) (version_of (w.disk s)) (f e i j)) (settled w.history) n) (clean s)));
  }

-- ---- the core

-- a server whose line is under way is up
pub up_of : (setting : Setting) (locks : Locks) (a : ℕ) (server : Server) (at : Stage) → stage_of setting locks a server ≡ Some at → IsTrue (life.is_up server.phase)
up_of setting locks a server at e = go (life.is_up server.phase) (asks is_path_op server) e
  where
    go : (u p : Bool) → (if u && p then stage_under setting locks a server.cache server.under else None) ≡ Some at → IsTrue u
    go true p i = refl
    go false p i = absurd (cc)

-- one of which this is the same, but for the ring
module _ (servers : ℕ → Server) (a : ℕ) (ring : Ring) (reached : ring.reached ≡ (servers a).ring.reached) (all : is_all_reached ring ≡ is_all_reached (servers a).ring) (w : World) where
  abbrev new : Server
  new = record (servers a) { ring = ring }

  abbrev then_ : ℕ → Server
  then_ = put servers a (record (servers a) { ring = ring })

  same : {X : Type 0} (f : Server → X) → f new ≡ f (servers a) → (b : ℕ) → f (then_ b) ≡ f (servers b)
  same f e b = put_as f servers a new e b

  lives_on : (now : ℕ) → AreLives now servers w → AreLives now then_ w
  lives_on now g = record {
    now = g.now;
    phase = λ b. g.phase b ∙ ap phase_of (sym (same (λ x. x.phase) refl b));
    expiry = λ b. g.expiry b ∙ ap (expiry_at now b) (sym (same (λ x. x.expiry) refl b));
    well = λ b e. g.well b (sym (same (λ x. x.failed) refl b) ∙ e);
  }

  works : (by : ℕ) → IsTrue ((is_server by && life.is_up (then_ by).phase) || by == host_party) → IsTrue ((is_server by && life.is_up (servers by).phase) || by == host_party)
  works by who = subst (λ p. IsTrue ((is_server by && life.is_up p) || by == host_party)) (same (λ x. x.phase) refl by) who

  rescues_on : (flights : Flights) → AreRescues servers flights w → AreRescues then_ flights w
  rescues_on flights g = record {
    under_way = λ by r who e. subst (λ f. IsRescueOf by r w.rescue ⊎ IsStuck by flights f r) (sym (same (λ x. x.failed) refl by)) (g.under_way by r (works by who) (sym (same (λ x. x.recovery) refl by) ∙ e));
    known = λ r e. let k = g.known r e in (k.0, same (λ x. x.recovery) refl r.by ∙ k.1, k.2);
  }

  logged_on : AreLogged servers w → AreLogged then_ w
  logged_on g b t = g b (subst IsTrue (same (λ x. is_all_reached x.ring) all b) t)

  cached_on : AreCached servers w → AreCached then_ w
  cached_on g b s = subst (λ k. IsCachedAs (has_version w s) (cover w s) (value_at k s) (w.slot b s) (w.page b s)) (sym (same (λ x. x.cache) refl b)) (g b s)

  marked_on : AreMarked servers w → AreMarked then_ w
  marked_on g b s =
      subst (λ k. IsMarkedAs (then_ b).ring.reached (w.acked b) (value_at k s) (w.slot b s) (w.page b s)) (sym (same (λ x. x.cache) refl b))
      (subst (λ r. IsMarkedAs r (w.acked b) (value_at (servers b).cache s) (w.slot b s) (w.page b s)) (sym (same (λ x. x.ring.reached) reached b)) (g b s))

-- what the oldest records name isn't dirty
any_not : (xs : List Named) (cache : Cache) (s : ℕ) → IsTrue (list_all (λ x. not (is_dirty_at cache x.sector.0)) xs) → IsTrue (list_any (λ x. x.sector.0 == s) xs) → is_dirty_at cache s ≡ false
any_not [] cache s all some = absurd (cc)
any_not (x ∷ xs) cache s all some = go (x.sector.0 == s) refl (is_dirty_at cache x.sector.0) refl all some (any_not xs cache s)
  where
    go : (b : Bool) → (x.sector.0 == s) ≡ b → (d : Bool) → is_dirty_at cache x.sector.0 ≡ d → IsTrue (not d && list_all (λ y. not (is_dirty_at cache y.sector.0)) xs) → IsTrue (b || list_any (λ y. y.sector.0 == s) xs) →
        (IsTrue (list_all (λ y. not (is_dirty_at cache y.sector.0)) xs) → IsTrue (list_any (λ y. y.sector.0 == s) xs) → is_dirty_at cache s ≡ false) → is_dirty_at cache s ≡ false
    go b e true f i j rest = absurd (cc)
    go true e false f i j rest = sym (ap (is_dirty_at cache) (eqb-true x.sector.0 s e)) ∙ f
    go false e false f i j rest = rest i j

clean_slot : (v : Bool) (lock : LockId) (o : Option CachedSector) (slot : Slot) (page : Page) → IsCachedAs v lock o slot page → unwrap_or (option_map is_dirty o) false ≡ false → NotDirty slot
clean_slot true lock None slot page t e = subst NotDirty (sym t) tt
clean_slot true lock (Some kept) slot page t e = go kept.dirt t.1 e
  where
    go : (dirt : Option Dirt) → IsSlotOf dirt kept.block slot → is_some dirt ≡ false → NotDirty slot
    go None i f = subst NotDirty (sym i) tt
    go (Some dirt) i f = absurd (cc)
clean_slot false lock None slot page t e = subst NotDirty (sym t.0) tt
clean_slot false lock (Some kept) slot page t e = subst NotDirty (sym t.1) tt

none_of : (x : Option Change) → (IsSome x → ⊥) → x ≡ None
none_of None n = refl
none_of (Some x) n = absurd (n refl)

module _ (s : RunMoment) (w : World) (a k : ℕ) (outcome : Outcome) (t : AreTied s.core s.disk w) (g : Good w) (makes : Makes s (Again a) Nothing) (at : stage s.core a ≡ Some (Finishing outcome))
    (more : w.floor a ≤ k) (there : k ≤ w.last a) (oldest : AreOldest s.core.setting.logs (s.core.servers a).ring w a k) where
  abbrev logs : LogRules
  logs = s.core.setting.logs

  abbrev server : Server
  server = s.core.servers a

  up : w.phase a ≡ Up
  up = t.lives.phase a ∙ up_is server.phase (up_of s.core.setting s.core.locks a server (Finishing outcome) at)

  can_again : CanAgain s.core a
  can_again = makes.can.can

  named_in_place : IsTrue (is_oldest_in_place logs server)
  named_in_place = go (not (has_room logs server.ring outcome.redo)) (subst (λ x. IsTrue (is_moved x || is_grown x || may_reclaim logs server x)) at can_again.cause)
    where
      go : (b : Bool) → IsTrue (b && is_oldest_in_place logs server) → IsTrue (is_oldest_in_place logs server)
      go true i = i
      go false i = absurd (cc)

  -- a sector is dirty, or no operation up to the number changes it
  clean_or_unchanged : (n : ℕ) → NotDirty (w.slot a n) ⊎ NoneChanges a (w.floor a) k n (settled w.history)
  clean_or_unchanged n = go (is_dirty_at server.cache n) refl
    where
      go : (d : Bool) → is_dirty_at server.cache n ≡ d → NotDirty (w.slot a n) ⊎ NoneChanges a (w.floor a) k n (settled w.history)
      go false e = inl (clean_slot (has_version w n) (cover w n) (value_at server.cache n) (w.slot a n) (w.page a n) (t.cached a n) e)
      go true e = inr (each_map
          (λ c. c.by ≡ a → w.floor a < c.op → c.op ≤ k → IsSome (change_at c.changes n) → IsTrue (list_any (λ x. x.sector.0 == n) (oldest_of logs.quarter server.ring)))
          (λ c. c.by ≡ a → w.floor a < c.op → c.op ≤ k → change_at c.changes n ≡ None)
          (λ c named by above low. none_of (change_at c.changes n) (λ some. false≢true (sym (any_not (oldest_of logs.quarter server.ring) server.cache n named_in_place (named by above low some)) ∙ e)))
          (settled w.history) (oldest n))

  pub reclaims : IsReclaim s w a k
  reclaims = record {
    can = reclaim_guard w g a k up more there clean_or_unchanged;
    tied = subst (λ x. AreTied (with_server s.core a (again_by logs x server)) s.disk (after w (Reclaim a k))) (sym at) (record {
      lives = lives_on s.core.servers a ring refl refl (after w (Reclaim a k)) s.core.now t.lives;
      locks = t.locks;
      cached = cached_on s.core.servers a ring refl refl (after w (Reclaim a k)) t.cached;
      marked = marked_on s.core.servers a ring refl refl (after w (Reclaim a k)) t.marked;
      flying = t.flying;
      disk = t.disk;
      rescues = λ e. rescues_on s.core.servers a ring refl refl (after w (Reclaim a k)) s.core.flights (t.rescues e);
      logged = logged_on s.core.servers a ring refl refl (after w (Reclaim a k)) t.logged;
    });
  }
    where
      ring : Ring
      ring = reclaimed_of logs.quarter server.ring

pub agains_reclaim : AgainsReclaim
agains_reclaim s w a k outcome t g makes at more there oldest = reclaims s w a k outcome t g makes at more there oldest

-- ---- sets

module _ (s : RunMoment) (w : World) (journal : ℕ → Journal) (a : ℕ) (is : IsWorldOf s w journal) (change : Under → Under) where
  abbrev changed : Server
  changed = with_under (s.core.servers a) change

  alike : AreAlike (put s.core.servers a changed) s.core.servers
  alike = put_alike s.core.servers a changed (record { phase = refl; failed = refl; recovery = refl; ring = refl })

  cache_same : (b : ℕ) → (put s.core.servers a changed b).cache ≡ (s.core.servers b).cache
  cache_same = put_as (λ x. x.cache) s.core.servers a changed refl

  pub under_keeps : (record_ : List Deed) → IsWorldOf (record { core = with_server s.core a changed; disk = s.disk; record_ = record_ }) w journal
  under_keeps record_ = record {
    tied = record {
      lives = lives_alike (put s.core.servers a changed) s.core.servers alike w s.core.now (put_as (λ x. x.expiry) s.core.servers a changed refl) is.tied.lives;
      locks = is.tied.locks;
      cached = λ b n. subst (λ k. IsCachedAs (has_version w n) (cover w n) (value_at k n) (w.slot b n) (w.page b n)) (sym (cache_same b)) (is.tied.cached b n);
      marked = marked_alike (put s.core.servers a changed) s.core.servers alike w cache_same is.tied.marked;
      flying = is.tied.flying;
      disk = is.tied.disk;
      rescues = λ e. rescues_alike (put s.core.servers a changed) s.core.servers alike w s.core.flights (is.tied.rescues e);
      logged = logged_alike (put s.core.servers a changed) s.core.servers alike w is.tied.logged;
    };
    journals = journals_alike (put s.core.servers a changed) s.core.servers alike w s.core.now s.core.flights s.disk journal is.journals;
    readings = readings_alike (put s.core.servers a changed) s.core.servers alike w s.core.setting.segments is.readings;
  }

no_story : (w : World) → IsSameStory w w
no_story w = record { servers = refl; opening = refl; logged = refl; first = refl; home = refl; history = refl }

pub none_leads : (w : World) (journal : ℕ → Journal) (v : RunMoment) → IsWorldOf v w journal → LeadsQuietly w v journal
none_leads w journal v is = record { leads = record { events = []; world = w; run = stays; is = is }; story = no_story w; quiet = tt }

pub moves_are_none : MovesAreNone
moves_are_none s w journal a is at =
    none_leads w journal (next s (Again a) Nothing)
    (subst (λ x. IsWorldOf (record { core = with_server s.core a (again_by s.core.setting.logs x (s.core.servers a)); disk = s.disk; record_ = s.record_ ++ [] }) w journal) (sym at)
    (under_keeps s w journal a is set_anew (s.record_ ++ [])))

pub growths_are_none : GrowthsAreNone
growths_are_none s w journal a needs seen is at =
    none_leads w journal (next s (Again a) Nothing)
    (subst (λ x. IsWorldOf (record { core = with_server s.core a (again_by s.core.setting.logs x (s.core.servers a)); disk = s.disk; record_ = s.record_ ++ [] }) w journal) (sym at)
    (under_keeps s w journal a is (set_grown needs seen) (s.record_ ++ [])))
