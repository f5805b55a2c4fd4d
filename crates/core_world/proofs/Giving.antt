-- Give is Give, or Lower to a shared wish.
use Rattle.std.proofs.Common.{◌≡◌, ◌⊎◌, ℕ, ◌<◌, ◌≤◌, ◌==◌, Bool, true, false, not, ◌&&◌, ◌||◌, if◌then◌else◌, IsTrue, List, [], ◌∷◌, length, Option, Some, None, nat_eq, refl, sym, ap, ◌∙◌, subst, inl, inr, ⊎_elim, arith}
use Rattle.std.proofs.lemmas.Bool.{false≢true, not-true, or_parts, cases_eq, ltb-true}
use Rattle.std.proofs.lemmas.Bool.Decides.{nat_tests}
use Rattle.std.specs.List.{list_any, Contains}
use Rattle.std.specs.BTreeMap.{is_at}
use Rattle.std.specs.Ordering.{nat_cmp}
use Rattle.std.specs.Option.{is_some}
use Rattle.frang_base.specs.Functions.{put, put_lock}
use Rattle.frang_base.specs.Locks.{same_lock}
use Rattle.frang_base.proofs.Basics.{at_put, lock_of, lock_same, put_same}
use Rattle.frang_base.proofs.Tests.{same_tests}
use Rattle.frang_base.specs.declared.lock.LockId.{LockId}
use Rattle.frang_base.specs.declared.lock.Mode.{Mode}
use Rattle.frang_base.specs.declared.lock.Mode.TheVariants.{Shared, Sole}
use Rattle.lock_definitions.specs.Order.{is_lock}
use Rattle.lock_definitions.specs.Locks.{AreLocks, held}
use Rattle.lock_definitions.specs.Calls.{asked_for, asked_of, serves, is_wished_by_other}
use Rattle.lock_definitions.specs.declared.claim.AskedFor.{AskedFor}
use Rattle.lock_definitions.specs.declared.claim.AskedFor.TheVariants.{Release, Downgrade}
use Rattle.lock_definitions.proofs.LockOrder.{found_lock, is_lock_equiv}
use Rattle.sector_bytes.specs.Blocks.{Block}
use Rattle.sector_bytes.specs.SectorMaps.{value_at, Ascend}
use Rattle.sector_bytes.specs.Sectors.{Sectors}
use Rattle.cache_definitions.specs.declared.dirt.Dirt.{Dirt}
use Rattle.cache_definitions.specs.Caches.{Cache, CachedSector, any_cached, dropped, is_dirty, is_dirty_under}
use Rattle.core_definitions.specs.Flights as core
use Rattle.core_definitions.specs.Flights.{Flights, InPlace, has_flights_under, is_of_mount, is_under}
use Rattle.core_definitions.specs.Rings.{is_all_reached}
use Rattle.core_definitions.specs.Servers as life
use Rattle.core_definitions.specs.Servers.{Server}
use Rattle.core_definitions.specs.Cores.{Core}
use Rattle.core_definitions.specs.WriteGuards as core_guards
use Rattle.core_definitions.specs.WriteEffects.{given_for}
use Rattle.core_definitions.specs.Events.{Nothing}
use Rattle.core_definitions.specs.Events as core_events
use Rattle.core_definitions.specs.Runs.{State as RunMoment, next}
use Rattle.core_definitions.specs.Settings.{setting_of}
use Rattle.core_laws.proofs.Keeping.{locks_of_run}
use Rattle.core_laws.proofs.Membership.{contains_in}
use Rattle.core_laws.proofs.OrderKeeping.{order_of_run}
use Rattle.disk_definitions.proofs.Listed.{Among}
use Rattle.sector_world.specs.World.{World, Up, Slot, Absent, Page, NoPage, CleanPage, DirtyPage, FreedPage, cover, has_version}
use Rattle.sector_world.specs.Guards.{CanGive, NotDirty, NoDirtyPage}
use Rattle.sector_world.specs.Steps.{after, page_lowered, stays, goes}
use Rattle.sector_world.specs.Steps.Event.{Give, Lower}
use Rattle.sector_world.specs.Kinds.{Good}
use Rattle.core_world.specs.Ties.{AreTied, AreCached, AreMarked, IsCachedAs, IsDirtAs, IsMarkedAs, IsPageMark, IsSlotOf, IsPageOf, IsNoPage, IsFlying, phase_of}
use Rattle.core_world.specs.Events.{GivesAreEvents, LeadsQuietly, OwnAreFresh}
use Rattle.core_world.proofs.Tables.{held_released, held_downgraded}
use Rattle.core_world.proofs.Cached.{unless_under, dropped_at}
use Rattle.core_world.proofs.Same.{AreAlike, journals_alike, lives_alike, logged_alike, put_alike, put_as, readings_alike, rescues_alike}

-- ---- small

pub lock_tests : (l k : LockId) → is_lock l k ≡ same_lock k l
lock_tests l k = same_tests (is_lock l k) (same_lock k l) (λ e. subst (λ x. same_lock k x ≡ true) (found_lock l k e) (lock_same k)) (λ e. subst (λ x. is_lock x k ≡ true) (lock_of k l e) (is_lock_equiv.refl k))

-- where a server is up, so it is in the world
pub up_is : (p : life.Phase) → IsTrue (life.is_up p) → phase_of p ≡ Up
up_is life.Up t = refl
up_is life.Off t = absurd (cc)
up_is life.Still t = absurd (cc)
up_is (life.Doomed fate) t = absurd (cc)
up_is life.Dead t = absurd (cc)

none_kept : (test : CachedSector → Bool) (cache : Cache) → any_cached test cache ≡ false → (s : ℕ) (kept : CachedSector) → value_at cache s ≡ Some kept → test kept ≡ false
none_kept test [] none s kept e = absurd (cc)
none_kept test (entry ∷ entries) none s kept e = go (is_at (nat_cmp s) entry.0) e (none_kept test entries (or_parts (test entry.1) _ none).1 s kept)
  where
    go : (b : Bool) → (if b then Some entry.1 else value_at entries s) ≡ Some kept → (value_at entries s ≡ Some kept → test kept ≡ false) → test kept ≡ false
    go true i rest = let same : entry.1 ≡ kept = cc in subst (λ k. test k ≡ false) same (or_parts (test entry.1) _ none).0
    go false i rest = rest i

none_among : {X : Type 0} (test : X → Bool) (xs : List X) → list_any test xs ≡ false → (x : X) → Among x xs → test x ≡ false
none_among test [] none x i = absurd i
none_among test (y ∷ ys) none x (inl e) = subst (λ z. test z ≡ false) (sym e) (or_parts (test y) _ none).0
none_among test (y ∷ ys) none x (inr i) = none_among test ys (or_parts (test y) _ none).1 x i

-- ---- the guard

-- what isn't dirty under the lock isn't dirty in the world
clean_slot : (v : Bool) (k lock : LockId) (e : Option CachedSector) (slot : Slot) (page : Page) → IsCachedAs v k e slot page → ((kept : CachedSector) → e ≡ Some kept → is_dirty_under lock kept ≡ false) → k ≡ lock → NotDirty slot
clean_slot true k lock None slot page t clean at = subst NotDirty (sym t) tt
clean_slot false k lock None slot page t clean at = subst NotDirty (sym t.0) tt
clean_slot false k lock (Some kept) slot page t clean at = subst NotDirty (sym t.1) tt
clean_slot true k lock (Some kept) slot page t clean at = go kept.dirt refl t.1
  where
    under : is_lock lock kept.cover ≡ true
    under = subst (λ x. is_lock lock x ≡ true) (sym (t.0 ∙ at)) (is_lock_equiv.refl lock)

    go : (dirt : Option Dirt) → kept.dirt ≡ dirt → IsSlotOf dirt kept.block slot → NotDirty slot
    go None e i = subst NotDirty (sym i) tt
    go (Some dirt) e i = absurd (false≢true (sym (clean kept refl) ∙ ap (λ b. b && is_dirty kept) under ∙ ap is_some e))

clean_page : (v : Bool) (k lock : LockId) (e : Option CachedSector) (slot : Slot) (page : Page) → IsCachedAs v k e slot page → (v ≡ true → page ≡ NoPage) → ((kept : CachedSector) → e ≡ Some kept → is_dirty_under lock kept ≡ false) → k ≡ lock → NoDirtyPage page
clean_page true k lock e slot page t empty clean at = subst NoDirtyPage (sym (empty refl)) tt
clean_page false k lock None slot page t empty clean at = ⊎_elim (λ i. subst NoDirtyPage (sym i) tt) (λ i. subst NoDirtyPage (sym i.1) tt) t.1
clean_page false k lock (Some kept) slot page t empty clean at = go kept.dirt refl t.2
  where
    under : is_lock lock kept.cover ≡ true
    under = subst (λ x. is_lock lock x ≡ true) (sym (t.0 ∙ at)) (is_lock_equiv.refl lock)

    go : (dirt : Option Dirt) → kept.dirt ≡ dirt → IsPageOf dirt kept.block page → NoDirtyPage page
    go None e i = subst NoDirtyPage (sym i) tt
    go (Some dirt) e i = absurd (false≢true (sym (clean kept refl) ∙ ap (λ b. b && is_dirty kept) under ∙ ap is_some e))

-- a write of the world in time, its server's own, is one under its cover
flies_under : (flights : Flights) (now s : ℕ) (lock : LockId) (a stamp : ℕ) (block : Block) →
    ((one : ℕ × core.Flight) → Contains flights one → one.1.server ≡ a → now ≤ one.1.stamp → one.1.present ≡ true) →
    has_flights_under flights a lock ≡ false → IsFlying flights s lock a a stamp block → now ≤ stamp → ⊥
flies_under flights now s lock a stamp block fresh none f early =
    let present : f.one.1.present ≡ true = fresh f.one f.among f.server (subst (λ n. now ≤ n) (sym f.stamp_is) early) in
    let miss : (is_of_mount a f.one.1 && is_under lock f.one.1.purpose) ≡ false = none_among (λ one. is_of_mount a one.1 && is_under lock one.1.purpose) flights none f.one (contains_in flights f.one f.among) in
    false≢true (sym miss ∙ ap (λ p. is_of_mount a f.one.1 && is_under lock p) (f.place refl present) ∙ both (is_of_mount a f.one.1) (is_lock lock lock) (ofm present f.server) (is_lock_equiv.refl lock))
  where
    both : (x y : Bool) → x ≡ true → y ≡ true → x && y ≡ true
    both true true e i = refl
    both true false e i = absurd (false≢true i)
    both false y e i = absurd (false≢true e)

    itself : (n m : ℕ) → n ≡ m → (n == m) ≡ true
    itself n m e = grind (arith, nat_tests, e)

    ofm : f.one.1.present ≡ true → f.one.1.server ≡ a → is_of_mount a f.one.1 ≡ true
    ofm p e = both (f.one.1.server == a) f.one.1.present (itself f.one.1.server a e) p

module _ (c : Core) (disk : Sectors) (w : World) (a : ℕ) (lock : LockId) (t : AreTied c disk w) (going : c.over ≡ false) (g : Good w) (fresh : OwnAreFresh c a) (can : core_guards.CanGive c a lock) where
  no_dirt : (s : ℕ) (kept : CachedSector) → value_at (c.servers a).cache s ≡ Some kept → is_dirty_under lock kept ≡ false
  no_dirt s kept e = none_kept (is_dirty_under lock) (c.servers a).cache (not-true _ can.clean) s kept e

  sole_is : held c.locks a lock ≡ Some Sole → core_guards.is_sole c a lock ≡ true
  sole_is e = ap (λ m. serves m Sole) e

  all_if : (x y : Bool) → IsTrue (not x || y) → x ≡ true → IsTrue y
  all_if true y h e = h
  all_if false y h e = absurd (false≢true e)

  pub give_guard : CanGive w a lock
  give_guard = record {
    up = t.lives.phase a ∙ up_is (c.servers a).phase can.up;
    clean = λ s at. clean_slot (has_version w s) (cover w s) lock (value_at (c.servers a).cache s) (w.slot a s) (w.page a s) (t.cached a s) (no_dirt s) at;
    clean_bytes = λ s at. clean_page (has_version w s) (cover w s) lock (value_at (c.servers a).cache s) (w.slot a s) (w.page a s) (t.cached a s) (g.kinds.empty a s) (no_dirt s) at;
    landed = λ s f at there early own by. flies_under c.flights c.now s lock a f.stamp f.block fresh (not-true _ can.landed)
        (subst (λ x. IsFlying c.flights s x a a f.stamp f.block) at (subst (λ n. IsFlying c.flights s (cover w s) a n f.stamp f.block) (sym own ∙ by) (subst (λ n. IsFlying c.flights s (cover w s) n f.behalf f.stamp f.block) by ((t.flying going).flight s f there))))
        (subst (λ n. n ≤ f.stamp) t.lives.now early);
    landed_bytes = λ s f at there early by. flies_under c.flights c.now s lock a f.stamp f.block fresh (not-true _ can.landed)
        (subst (λ x. IsFlying c.flights s x a a f.stamp f.block) at (subst (λ n. IsFlying c.flights s (cover w s) n n f.stamp f.block) by ((t.flying going).bytes s f there)))
        (subst (λ n. n ≤ f.stamp) t.lives.now early);
    logged = λ e. t.logged a (all_if (core_guards.is_sole c a lock) (is_all_reached (c.servers a).ring) can.logged (sole_is (sym (t.locks.holds a lock) ∙ e)));
  }

-- ---- what is cached afterwards

given_as : (v : Bool) (k l : LockId) (e : Option CachedSector) (slot : Slot) (page : Page) → IsCachedAs v k e slot page →
    IsCachedAs v k (unless_under l e) (if same_lock k l then Absent else slot) (if same_lock k l then NoPage else page)
given_as true k l None slot page t = by (same_lock k l)
  where
    by : (b : Bool) → (if b then Absent else slot) ≡ Absent
    by true = refl
    by false = t
given_as false k l None slot page t = by (same_lock k l)
  where
    by : (b : Bool) → ((if b then Absent else slot) ≡ Absent) × IsNoPage (if b then NoPage else page)
    by true = (refl, inl refl)
    by false = t
given_as v k l (Some kept) slot page t = subst (λ b. IsCachedAs v k (if b then None else Some kept) (if same_lock k l then Absent else slot) (if same_lock k l then NoPage else page)) (sym (test v t)) (by v (same_lock k l) t)
  where
    test : (x : Bool) → IsCachedAs x k (Some kept) slot page → is_lock l kept.cover ≡ same_lock k l
    test true i = ap (is_lock l) i.0 ∙ lock_tests l k
    test false i = ap (is_lock l) i.0 ∙ lock_tests l k

    by : (x b : Bool) → IsCachedAs x k (Some kept) slot page → IsCachedAs x k (if b then None else Some kept) (if b then Absent else slot) (if b then NoPage else page)
    by true true i = refl
    by false true i = (refl, inl refl)
    by true false i = i
    by false false i = i

lowered_page : (v : Bool) (k : LockId) (e : Option CachedSector) (slot : Slot) (page : Page) (b : Bool) → IsCachedAs v k e slot page → IsCachedAs v k e slot (if b then page_lowered page else page)
lowered_page v k e slot page false t = t
lowered_page true k None slot page true t = t
lowered_page true k (Some kept) slot page true t = t
lowered_page false k None slot page true t = (t.0, ⊎_elim (λ i. inl (ap page_lowered i)) (λ i. inl (ap page_lowered i.1)) t.1)
lowered_page false k (Some kept) slot page true t = (t.0, t.1, go kept.dirt t.2)
  where
    go : (dirt : Option Dirt) → IsPageOf dirt kept.block page → IsPageOf dirt kept.block (page_lowered page)
    go None i = ap page_lowered i
    go (Some dirt) i = (i.0, ap page_lowered i.1)

-- marks stay where less is cached
marked_given : (reached acked : ℕ) (l : LockId) (e : Option CachedSector) (slot : Slot) (page : Page) (b : Bool) → IsMarkedAs reached acked e slot page →
    IsMarkedAs reached acked (unless_under l e) (if b then Absent else slot) (if b then NoPage else page)
marked_given reached acked l None slot page b t = tt
marked_given reached acked l (Some kept) slot page b t = by (is_lock l kept.cover) b
  where
    dirt : (o : Option Dirt) → IsDirtAs reached acked o Absent NoPage
    dirt None = tt
    dirt (Some d) = (tt, tt)

    by : (under at : Bool) → IsMarkedAs reached acked (if under then None else Some kept) (if at then Absent else slot) (if at then NoPage else page)
    by true at = tt
    by false true = dirt kept.dirt
    by false false = t

marked_lowered : (reached acked : ℕ) (e : Option CachedSector) (slot : Slot) (page : Page) (b : Bool) → IsMarkedAs reached acked e slot page → IsMarkedAs reached acked e slot (if b then page_lowered page else page)
marked_lowered reached acked e slot page false t = t
marked_lowered reached acked None slot page true t = tt
marked_lowered reached acked (Some kept) slot page true t = by kept.dirt t
  where
    lowered : (mark : ℕ) (p : Page) → IsPageMark reached acked mark p → IsPageMark reached acked mark (page_lowered p)
    lowered mark NoPage i = tt
    lowered mark (CleanPage block) i = tt
    lowered mark (DirtyPage block m) i = i
    lowered mark (FreedPage m) i = tt

    by : (o : Option Dirt) → IsDirtAs reached acked o slot page → IsDirtAs reached acked o slot (page_lowered page)
    by None i = tt
    by (Some d) i = (i.0, lowered d.mark page i.1)

pub put_held : (f h : ℕ → LockId → Option Mode) → ((b : ℕ) (k : LockId) → f b k ≡ h b k) → (a : ℕ) (l : LockId) (v : Option Mode) (b : ℕ) (k : LockId) → put_lock f a l v b k ≡ put_lock h a l v b k
put_held f h same a l v b k = ap (λ x. if nat_eq b a then (if same_lock k l then v else x) else x) (same b k)

-- ---- the step

abbrev dropping : Core → ℕ → LockId → Server
dropping c a lock = record (c.servers a) { cache = dropped (c.servers a).cache lock }

module _ (c : Core) (disk : Sectors) (w : World) (a : ℕ) (lock : LockId) (t : AreTied c disk w) (are : AreLocks c.locks) (inside : a < length c.locks.clerks) (sorted : (b : ℕ) → Ascend (c.servers b).cache) where
  abbrev new : Server
  new = dropping c a lock

  pub given_alike : AreAlike (put c.servers a new) c.servers
  given_alike = put_alike c.servers a new (record { phase = refl; failed = refl; recovery = refl; ring = refl })

  pub give_keeps : AreTied (given_for c a lock (Some Release)) disk (after w (Give a lock))
  give_keeps = record {
    lives = lives_alike (put c.servers a new) c.servers given_alike (after w (Give a lock)) c.now (put_as (λ x. x.expiry) c.servers a new refl) t.lives;
    locks = record {
      holds = λ b k. put_held w.holds (held c.locks) t.locks.holds a lock None b k ∙ held_released c.locks are a inside lock b k;
      taker = t.locks.taker;
      until = t.locks.until;
    };
    cached = cached;
    marked = marked;
    flying = t.flying;
    disk = t.disk;
    rescues = λ e. rescues_alike (put c.servers a new) c.servers given_alike (after w (Give a lock)) c.flights (t.rescues e);
    logged = logged_alike (put c.servers a new) c.servers given_alike (after w (Give a lock)) t.logged;
  }
    where
      own : (s : ℕ) → IsCachedAs (has_version w s) (cover w s) (value_at new.cache s) (if same_lock (cover w s) lock then Absent else w.slot a s) (if same_lock (cover w s) lock then NoPage else w.page a s)
      own s = subst (λ e. IsCachedAs (has_version w s) (cover w s) e (if same_lock (cover w s) lock then Absent else w.slot a s) (if same_lock (cover w s) lock then NoPage else w.page a s)) (sym (dropped_at (c.servers a).cache lock s (sorted a)))
          (given_as (has_version w s) (cover w s) lock (value_at (c.servers a).cache s) (w.slot a s) (w.page a s) (t.cached a s))

      own_marks : (s : ℕ) → IsMarkedAs (c.servers a).ring.reached (w.acked a) (value_at new.cache s) (if same_lock (cover w s) lock then Absent else w.slot a s) (if same_lock (cover w s) lock then NoPage else w.page a s)
      own_marks s = subst (λ e. IsMarkedAs (c.servers a).ring.reached (w.acked a) e (if same_lock (cover w s) lock then Absent else w.slot a s) (if same_lock (cover w s) lock then NoPage else w.page a s)) (sym (dropped_at (c.servers a).cache lock s (sorted a)))
          (marked_given (c.servers a).ring.reached (w.acked a) lock (value_at (c.servers a).cache s) (w.slot a s) (w.page a s) (same_lock (cover w s) lock) (t.marked a s))

      marked : AreMarked (put c.servers a new) (after w (Give a lock))
      marked b s = go (cases_eq b a)
        where
          go : (b ≡ a) ⊎ (b ≡ a → ⊥) → IsMarkedAs (put c.servers a new b).ring.reached (w.acked b) (value_at (put c.servers a new b).cache s)
              (put w.slot a (λ i. if same_lock (cover w i) lock then Absent else w.slot a i) b s) (put w.page a (λ i. if same_lock (cover w i) lock then NoPage else w.page a i) b s)
          go (inl e) = subst (λ n. IsMarkedAs (put c.servers a new n).ring.reached (w.acked n) (value_at (put c.servers a new n).cache s)
              (put w.slot a (λ i. if same_lock (cover w i) lock then Absent else w.slot a i) n s) (put w.page a (λ i. if same_lock (cover w i) lock then NoPage else w.page a i) n s)) (sym e)
              (subst (λ x. IsMarkedAs x.ring.reached (w.acked a) (value_at x.cache s) (put w.slot a (λ i. if same_lock (cover w i) lock then Absent else w.slot a i) a s)
              (put w.page a (λ i. if same_lock (cover w i) lock then NoPage else w.page a i) a s)) (sym (put_same c.servers a new))
              (subst (λ f. IsMarkedAs (c.servers a).ring.reached (w.acked a) (value_at new.cache s) (f s) (put w.page a (λ i. if same_lock (cover w i) lock then NoPage else w.page a i) a s))
              (sym (put_same w.slot a (λ i. if same_lock (cover w i) lock then Absent else w.slot a i)))
              (subst (λ f. IsMarkedAs (c.servers a).ring.reached (w.acked a) (value_at new.cache s) (if same_lock (cover w s) lock then Absent else w.slot a s) (f s))
              (sym (put_same w.page a (λ i. if same_lock (cover w i) lock then NoPage else w.page a i))) (own_marks s))))
          go (inr n) = at_put (λ x. IsMarkedAs x.ring.reached (w.acked b) (value_at x.cache s) (put w.slot a (λ i. if same_lock (cover w i) lock then Absent else w.slot a i) b s)
              (put w.page a (λ i. if same_lock (cover w i) lock then NoPage else w.page a i) b s)) c.servers a new b (λ e. absurd (n e))
              (λ m. at_put (λ x. IsMarkedAs (c.servers b).ring.reached (w.acked b) (value_at (c.servers b).cache s) (x s) (put w.page a (λ i. if same_lock (cover w i) lock then NoPage else w.page a i) b s))
              w.slot a (λ i. if same_lock (cover w i) lock then Absent else w.slot a i) b (λ e. absurd (n e))
              (λ m. at_put (λ x. IsMarkedAs (c.servers b).ring.reached (w.acked b) (value_at (c.servers b).cache s) (w.slot b s) (x s)) w.page a (λ i. if same_lock (cover w i) lock then NoPage else w.page a i) b
              (λ e. absurd (n e)) (λ m. t.marked b s)))

      cached : AreCached (put c.servers a new) (after w (Give a lock))
      cached b s = at_put3 b (cases_eq b a)
        where
          at_put3 : (b : ℕ) → (b ≡ a) ⊎ (b ≡ a → ⊥) → IsCachedAs (has_version w s) (cover w s) (value_at (put c.servers a new b).cache s)
              (put w.slot a (λ i. if same_lock (cover w i) lock then Absent else w.slot a i) b s) (put w.page a (λ i. if same_lock (cover w i) lock then NoPage else w.page a i) b s)
          at_put3 b (inl e) =
              at_put (λ x. IsCachedAs (has_version w s) (cover w s) (value_at x.cache s) (put w.slot a (λ i. if same_lock (cover w i) lock then Absent else w.slot a i) b s) (put w.page a (λ i. if same_lock (cover w i) lock then NoPage else w.page a i) b s))
              c.servers a new b
              (λ i. at_put (λ x. IsCachedAs (has_version w s) (cover w s) (value_at new.cache s) (x s) (put w.page a (λ i. if same_lock (cover w i) lock then NoPage else w.page a i) b s)) w.slot a (λ i. if same_lock (cover w i) lock then Absent else w.slot a i) b
              (λ j. at_put (λ x. IsCachedAs (has_version w s) (cover w s) (value_at new.cache s) (if same_lock (cover w s) lock then Absent else w.slot a s) (x s)) w.page a (λ i. if same_lock (cover w i) lock then NoPage else w.page a i) b
              (λ k. own s) (λ n. absurd (n e)))
              (λ n. absurd (n e)))
              (λ n. absurd (n e))
          at_put3 b (inr n) =
              at_put (λ x. IsCachedAs (has_version w s) (cover w s) (value_at x.cache s) (put w.slot a (λ i. if same_lock (cover w i) lock then Absent else w.slot a i) b s) (put w.page a (λ i. if same_lock (cover w i) lock then NoPage else w.page a i) b s))
              c.servers a new b (λ e. absurd (n e))
              (λ m. at_put (λ x. IsCachedAs (has_version w s) (cover w s) (value_at (c.servers b).cache s) (x s) (put w.page a (λ i. if same_lock (cover w i) lock then NoPage else w.page a i) b s)) w.slot a (λ i. if same_lock (cover w i) lock then Absent else w.slot a i) b
              (λ e. absurd (n e))
              (λ m. at_put (λ x. IsCachedAs (has_version w s) (cover w s) (value_at (c.servers b).cache s) (w.slot b s) (x s)) w.page a (λ i. if same_lock (cover w i) lock then NoPage else w.page a i) b
              (λ e. absurd (n e)) (λ m. t.cached b s)))

  pub lower_keeps : held c.locks a lock ≡ Some Sole → AreTied (given_for c a lock (Some Downgrade)) disk (after w (Lower a lock))
  lower_keeps sole = record {
    lives = t.lives;
    locks = record {
      holds = λ b k. put_held w.holds (held c.locks) t.locks.holds a lock (Some Shared) b k ∙ held_downgraded c.locks are a inside lock sole b k;
      taker = t.locks.taker;
      until = t.locks.until;
    };
    cached = λ b s. at_put (λ x. IsCachedAs (has_version w s) (cover w s) (value_at (c.servers b).cache s) (w.slot b s) (x s)) w.page a (λ i. if same_lock (cover w i) lock then page_lowered (w.page a i) else w.page a i) b
        (λ e. subst (λ n. IsCachedAs (has_version w s) (cover w s) (value_at (c.servers n).cache s) (w.slot n s) (if same_lock (cover w s) lock then page_lowered (w.page a s) else w.page a s)) (sym e)
        (lowered_page (has_version w s) (cover w s) (value_at (c.servers a).cache s) (w.slot a s) (w.page a s) (same_lock (cover w s) lock) (t.cached a s)))
        (λ n. t.cached b s);
    marked = λ b s. at_put (λ x. IsMarkedAs (c.servers b).ring.reached (w.acked b) (value_at (c.servers b).cache s) (w.slot b s) (x s)) w.page a
        (λ i. if same_lock (cover w i) lock then page_lowered (w.page a i) else w.page a i) b
        (λ e. subst (λ n. IsMarkedAs (c.servers n).ring.reached (w.acked n) (value_at (c.servers n).cache s) (w.slot n s) (if same_lock (cover w s) lock then page_lowered (w.page a s) else w.page a s)) (sym e)
        (marked_lowered (c.servers a).ring.reached (w.acked a) (value_at (c.servers a).cache s) (w.slot a s) (w.page a s) (same_lock (cover w s) lock) (t.marked a s)))
        (λ n. t.marked b s);
    flying = t.flying;
    disk = t.disk;
    rescues = t.rescues;
    logged = t.logged;
  }

-- ---- the event

asked_sole : (m : Option Mode) (shared sole : Bool) → asked_of m shared sole ≡ Some Downgrade → m ≡ Some Sole
asked_sole None shared sole e = absurd (cc)
asked_sole (Some Sole) shared sole e = refl
asked_sole (Some Shared) true true e = absurd (cc)
asked_sole (Some Shared) true false e = absurd (cc)
asked_sole (Some Shared) false true e = absurd (cc)
asked_sole (Some Shared) false false e = absurd (cc)

pub gives : GivesAreEvents
gives s w journal a lock r t g fresh makes = go (asked_for s.core.locks a lock) refl
  where
    are : AreLocks s.core.locks
    are = locks_of_run (setting_of r.script r.segments r.number) r.disk s r.run

    sorted : (b : ℕ) → Ascend (s.core.servers b).cache
    sorted b = ((order_of_run (setting_of r.script r.segments r.number) r.disk s r.run).servers b).cache

    can : core_guards.CanGive s.core a lock
    can = makes.can.can

    inside : a < length s.core.locks.clerks
    inside = subst (λ n. a < n) (sym are.servers) (ltb-true a 16 can.server)

    guard : CanGive w a lock
    guard = give_guard s.core s.disk w a lock t.tied (not-true _ makes.can.going) g fresh can

    given_over : Option AskedFor → RunMoment
    given_over o = record (next s (core_events.Give a lock) Nothing) { core = given_for s.core a lock o }

    released_leads : LeadsQuietly w (given_over (Some Release)) journal
    released_leads = record {
      leads = record {
        events = Give a lock ∷ [];
        world = after w (Give a lock);
        run = goes guard stays;
        is = record {
          tied = give_keeps s.core s.disk w a lock t.tied are inside sorted;
          journals = journals_alike (put s.core.servers a (dropping s.core a lock)) s.core.servers (given_alike s.core s.disk w a lock t.tied are inside sorted) (after w (Give a lock)) s.core.now s.core.flights s.disk journal t.journals;
          readings = readings_alike (put s.core.servers a (dropping s.core a lock)) s.core.servers (given_alike s.core s.disk w a lock t.tied are inside sorted) (after w (Give a lock)) s.core.setting.segments t.readings;
        };
      };
      story = record { servers = refl; opening = refl; logged = refl; first = refl; home = refl; history = refl };
      quiet = (tt, tt);
    }

    lowered_leads : held s.core.locks a lock ≡ Some Sole → LeadsQuietly w (given_over (Some Downgrade)) journal
    lowered_leads sole = record {
      leads = record {
        events = Lower a lock ∷ [];
        world = after w (Lower a lock);
        run = goes (record { give = guard; alone = t.tied.locks.holds a lock ∙ sole }) stays;
        is = record { tied = lower_keeps s.core s.disk w a lock t.tied are inside sorted sole; journals = t.journals; readings = t.readings };
      };
      story = record { servers = refl; opening = refl; logged = refl; first = refl; home = refl; history = refl };
      quiet = (tt, tt);
    }

    go : (asked : Option AskedFor) → asked_for s.core.locks a lock ≡ asked → LeadsQuietly w (given_over (asked_for s.core.locks a lock)) journal
    go None e = absurd (false≢true (sym (ap is_some e) ∙ can.asked))
    go (Some Release) e = subst (λ o. LeadsQuietly w (given_over o) journal) (sym e) released_leads
    go (Some Downgrade) e =
        subst (λ o. LeadsQuietly w (given_over o) journal) (sym e) (lowered_leads (asked_sole (held s.core.locks a lock) (is_wished_by_other s.core.locks a lock Shared) (is_wished_by_other s.core.locks a lock Sole) e))
