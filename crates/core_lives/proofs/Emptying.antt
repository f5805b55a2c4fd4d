-- A server with nothing to write gives its locks, one after another; then it has nothing cached.
use Rattle.std.proofs.Common.{◌≡◌, ◌≢◌, ◌⊎◌, ℕ, ◌≤◌, ◌==◌, Bool, true, false, not, ◌&&◌, if◌then◌else◌, IsTrue, List, [], ◌∷◌, ◌++◌, Option, Some, None, refl, sym, ap, ◌∙◌, subst, inl, inr, ⊎_elim, arith}
use Rattle.std.proofs.lemmas.Bool.{false≢true, or_parts}
use Rattle.std.proofs.lemmas.Bool.Decides.{nat_tests}
use Rattle.std.proofs.lemmas.Option.{none-some, same_Some}
use Rattle.std.specs.BTreeMap.{is_at}
use Rattle.std.specs.List.{Contains}
use Rattle.std.specs.Map.{keys_of, lookup}
use Rattle.std.specs.Option.{is_some, unwrap_or}
use Rattle.std.specs.Ordering.{nat_cmp}
use Rattle.frang_base.specs.Locks.{same_lock}
use Rattle.frang_base.specs.declared.lock.LockId.{LockId}
use Rattle.frang_base.specs.declared.lock.Mode.{Mode}
use Rattle.frang_base.specs.declared.lock.Mode.TheVariants.{Sole}
use Rattle.frang_base.proofs.Basics.{at_lock, put_other, put_same}
use Rattle.lock_definitions.specs.Locks.{Claims, claim_in, no_claim}
use Rattle.lock_definitions.specs.Order.{is_lock}
use Rattle.lock_definitions.proofs.LockOrder.{found_lock}
use Rattle.sector_bytes.specs.Blocks.{Block}
use Rattle.sector_bytes.specs.SectorMaps.{value_at}
use Rattle.sector_bytes.specs.Sectors.{Sectors}
use Rattle.cache_definitions.specs.declared.dirt.Dirt.{Dirt}
use Rattle.cache_definitions.specs.Caches.{Cache, CachedSector, any_cached, is_dirty}
use Rattle.disk_definitions.proofs.Listed.{Among}
use Rattle.core_definitions.specs.Cores.{Core, clean_at}
use Rattle.core_definitions.specs.Flights as core
use Rattle.core_definitions.specs.Flights.{Flights, has_flights, is_of_mount}
use Rattle.core_definitions.specs.Rings.{is_all_reached}
use Rattle.core_facts.specs.Stamps.{InTimeAreFresh}
use Rattle.core_laws.proofs.Membership.{contains_in}
use Rattle.sector_world.specs.Guards.{CanGive, NoDirtyPage, NotDirty}
use Rattle.sector_world.specs.Kinds.{Good}
use Rattle.sector_world.specs.Logged.{HeldIf}
use Rattle.sector_world.specs.Bytes.{PageHeld}
use Rattle.sector_world.specs.Steps.{Event, Run, after, stays, goes}
use Rattle.sector_world.specs.Steps.Event.{Give}
use Rattle.sector_world.specs.World.{World, Up, Slot, Absent, Clean, Dirty, Page, NoPage, CleanPage, DirtyPage, FreedPage, Flight, ByteFlight, cover, has_version}
use Rattle.core_world.specs.Quiet.{AllQuiet}
use Rattle.core_world.specs.Ties.{AreTied, IsCachedAs, IsFlying, IsPageOf, IsSlotOf}

-- ---- nothing to write, in the world

-- nothing of it is dirty, no write of its own is in time, and its whole log is acknowledged
pub record HasNothingToWrite (a : ℕ) (w : World) : Type 0 where
  pub up : w.phase a ≡ Up
  pub slots : (s : ℕ) → NotDirty (w.slot a s)
  pub pages : (s : ℕ) → NoDirtyPage (w.page a s)
  pub landed : (s : ℕ) (f : Flight) → w.flight s ≡ Some f → w.now ≤ f.stamp → f.by ≡ f.behalf → f.by ≢ a
  pub landed_bytes : (s : ℕ) (f : ByteFlight) → w.byte_flight s ≡ Some f → w.now ≤ f.stamp → f.by ≢ a
  pub logged : w.last a ≤ w.acked a

may_give : (a : ℕ) (w : World) (lock : LockId) → HasNothingToWrite a w → CanGive w a lock
may_give a w lock h = record {
  up = h.up;
  clean = λ s at. h.slots s;
  clean_bytes = λ s at. h.pages s;
  landed = λ s f at. h.landed s f;
  landed_bytes = λ s f at. h.landed_bytes s f;
  logged = λ e. h.logged;
}

-- giving a lock leaves it so
given_nothing : (a : ℕ) (w : World) (lock : LockId) → HasNothingToWrite a w → HasNothingToWrite a (after w (Give a lock))
given_nothing a w lock h = record {
  up = h.up;
  slots = λ s. subst (λ f. NotDirty (f s)) (sym (put_same w.slot a (λ i. if same_lock (cover w i) lock then Absent else w.slot a i))) (slot s (same_lock (cover w s) lock));
  pages = λ s. subst (λ f. NoDirtyPage (f s)) (sym (put_same w.page a (λ i. if same_lock (cover w i) lock then NoPage else w.page a i))) (page s (same_lock (cover w s) lock));
  landed = h.landed;
  landed_bytes = h.landed_bytes;
  logged = h.logged;
}
  where
    slot : (s : ℕ) (b : Bool) → NotDirty (if b then Absent else w.slot a s)
    slot s true = tt
    slot s false = h.slots s

    page : (s : ℕ) (b : Bool) → NoDirtyPage (if b then NoPage else w.page a s)
    page s true = tt
    page s false = h.pages s

-- ---- all its locks given

-- one run behind another
pub joined : (w u v : World) (es fs : List Event) → Run w es u → Run u fs v → Run w (es ++ fs) v
joined w u v [] fs stays next = next
joined w u v (e ∷ es) fs (goes can first) next = goes can (joined (after w e) u v es fs first next)

-- these locks are given, and nothing else is changed but what was cached under them
pub record GivesAll (a : ℕ) (locks : List LockId) (w : World) : Type 0 where
  pub events : List Event
  pub world : World
  pub run : Run w events world
  pub quiet : (segments : ℕ) → AllQuiet segments w events
  pub same : world ≡ record w { holds = world.holds; slot = world.slot; page = world.page }
  pub holds : (b : ℕ) → b ≢ a → (lock : LockId) → world.holds b lock ≡ w.holds b lock
  pub slots : (b : ℕ) → b ≢ a → world.slot b ≡ w.slot b
  pub pages : (b : ℕ) → b ≢ a → world.page b ≡ w.page b
  pub given : (lock : LockId) → Among lock locks → world.holds a lock ≡ None
  pub free : (lock : LockId) → w.holds a lock ≡ None → world.holds a lock ≡ None

pub all_given : (a : ℕ) (locks : List LockId) (w : World) → HasNothingToWrite a w → GivesAll a locks w
all_given a [] w h = record {
  events = [];
  world = w;
  run = stays;
  quiet = λ segments. tt;
  same = refl;
  holds = λ b n lock. refl;
  slots = λ b n. refl;
  pages = λ b n. refl;
  given = λ lock i. absurd i;
  free = λ lock e. e;
}
all_given a (lock ∷ locks) w h =
    let x : GivesAll a locks (after w (Give a lock)) = all_given a locks (after w (Give a lock)) (given_nothing a w lock h) in
    record {
      events = Give a lock ∷ x.events;
      world = x.world;
      run = goes (may_give a w lock h) x.run;
      quiet = λ segments. (tt, x.quiet segments);
      same = x.same;
      holds = λ b n k. x.holds b n k ∙ at_lock (λ m. m ≡ w.holds b k) w.holds a lock None b k (λ e f. absurd (n e)) (λ apart. refl);
      slots = λ b n. x.slots b n ∙ put_other w.slot a (λ i. if same_lock (cover w i) lock then Absent else w.slot a i) b n;
      pages = λ b n. x.pages b n ∙ put_other w.page a (λ i. if same_lock (cover w i) lock then NoPage else w.page a i) b n;
      given = λ k i. ⊎_elim (λ e. x.free k (at_lock (λ m. m ≡ None) w.holds a lock None a k (λ p q. refl) (λ apart. absurd (apart refl e)))) (λ at. x.given k at) i;
      free = λ k e. x.free k (at_lock (λ m. m ≡ None) w.holds a lock None a k (λ i j. refl) (λ apart. e));
    }

-- ---- then nothing is cached

slot_gone : (slot : Slot) (mode : Option Mode) → HeldIf slot mode → mode ≡ None → slot ≡ Absent
slot_gone Absent mode h e = refl
slot_gone (Clean block) mode h e = absurd (h e)
slot_gone (Dirty block mark) mode h e = absurd (none-some Sole (sym e ∙ h))

page_gone : (page : Page) (mode : Option Mode) → PageHeld page mode → mode ≡ None → page ≡ NoPage
page_gone NoPage mode h e = refl
page_gone (CleanPage block) mode h e = absurd (h e)
page_gone (DirtyPage block mark) mode h e = absurd (none-some Sole (sym e ∙ h))
page_gone (FreedPage mark) mode h e = absurd (none-some Sole (sym e ∙ h))

-- a server that holds no lock has nothing cached
pub record HasNothing (a : ℕ) (u : World) : Type 0 where
  pub holds : (lock : LockId) → u.holds a lock ≡ None
  pub slots : (s : ℕ) → u.slot a s ≡ Absent
  pub pages : (s : ℕ) → u.page a s ≡ NoPage

pub emptied : (a : ℕ) (u : World) → Good u → ((lock : LockId) → u.holds a lock ≡ None) → HasNothing a u
emptied a u g none = record {
  holds = none;
  slots = λ s. slot_gone (u.slot a s) (u.holds a (cover u s)) (g.logged.held a s) (none (cover u s));
  pages = λ s. page_gone (u.page a s) (u.holds a (cover u s)) (g.bytes.held a s) (none (cover u s));
}

-- ---- the locks of a server in the table

-- a lock that isn't listed isn't held
pub listed : (claims : Claims) (lock : LockId) → ((claim_in claims lock).held ≡ None) ⊎ Among lock (keys_of claims)
listed [] lock = inl refl
listed (entry ∷ claims) lock = go (is_lock lock entry.0) refl (listed claims lock)
  where
    go : (b : Bool) → is_lock lock entry.0 ≡ b → ((claim_in claims lock).held ≡ None) ⊎ Among lock (keys_of claims) →
        ((unwrap_or (if b then Some entry.1 else lookup (is_lock lock) claims) no_claim).held ≡ None) ⊎ Among lock (entry.0 ∷ keys_of claims)
    go true e rest = inr (inl (sym (found_lock lock entry.0 e)))
    go false e (inl none) = inl none
    go false e (inr i) = inr (inr i)

-- ---- nothing to write, in the core

none_kept : (cache : Cache) → any_cached is_dirty cache ≡ false → (s : ℕ) (kept : CachedSector) → value_at cache s ≡ Some kept → is_dirty kept ≡ false
none_kept [] none s kept e = absurd (none-some kept e)
none_kept (entry ∷ entries) none s kept e = go (is_at (nat_cmp s) entry.0) e (none_kept entries (or_parts (is_dirty entry.1) (any_cached is_dirty entries) none).1 s kept)
  where
    go : (b : Bool) → (if b then Some entry.1 else value_at entries s) ≡ Some kept → (value_at entries s ≡ Some kept → is_dirty kept ≡ false) → is_dirty kept ≡ false
    go true i rest = subst (λ k. is_dirty k ≡ false) (same_Some entry.1 kept i) (or_parts (is_dirty entry.1) (any_cached is_dirty entries) none).0
    go false i rest = rest i

none_of_mount : (a : ℕ) (flights : Flights) → has_flights flights a ≡ false → (one : ℕ × core.Flight) → Among one flights → is_of_mount a one.1 ≡ false
none_of_mount a [] none one i = absurd i
none_of_mount a (x ∷ xs) none one (inl e) = subst (λ (o : ℕ × core.Flight). is_of_mount a o.1 ≡ false) (sym e) (or_parts (is_of_mount a x.1) (has_flights xs a) none).0
none_of_mount a (x ∷ xs) none one (inr i) = none_of_mount a xs (or_parts (is_of_mount a x.1) (has_flights xs a) none).1 one i

-- what is in time of a server is of its present mount, so there is none
pub none_in_time : (c : Core) (a : ℕ) → InTimeAreFresh c a → has_flights c.flights a ≡ false → (one : ℕ × core.Flight) → Contains c.flights one → one.1.server ≡ a →
    c.now ≤ one.1.stamp → ⊥
none_in_time c a fresh none one there server early =
    false≢true (sym (none_of_mount a c.flights none one (contains_in c.flights one there))
    ∙ both (one.1.server == a) one.1.present (itself one.1.server a server) (fresh one there server early))
  where
    both : (x y : Bool) → x ≡ true → y ≡ true → x && y ≡ true
    both true y e i = i
    both false y e i = absurd (false≢true e)

    itself : (n m : ℕ) → n ≡ m → (n == m) ≡ true
    itself n m e = grind (arith, nat_tests, e)

slot_clean : (v : Bool) (k : LockId) (e : Option CachedSector) (slot : Slot) (page : Page) → IsCachedAs v k e slot page →
    ((kept : CachedSector) → e ≡ Some kept → is_dirty kept ≡ false) → NotDirty slot
slot_clean true k None slot page t clean = subst NotDirty (sym t) tt
slot_clean false k None slot page t clean = subst NotDirty (sym t.0) tt
slot_clean false k (Some kept) slot page t clean = subst NotDirty (sym t.1) tt
slot_clean true k (Some kept) slot page t clean = go kept.dirt refl t.1
  where
    go : (dirt : Option Dirt) → kept.dirt ≡ dirt → IsSlotOf dirt kept.block slot → NotDirty slot
    go None e i = subst NotDirty (sym i) tt
    go (Some dirt) e i = absurd (false≢true (sym (clean kept refl) ∙ ap is_some e))

page_clean : (v : Bool) (k : LockId) (e : Option CachedSector) (slot : Slot) (page : Page) → IsCachedAs v k e slot page → (v ≡ true → page ≡ NoPage) →
    ((kept : CachedSector) → e ≡ Some kept → is_dirty kept ≡ false) → NoDirtyPage page
page_clean true k e slot page t empty clean = subst NoDirtyPage (sym (empty refl)) tt
page_clean false k None slot page t empty clean = ⊎_elim (λ i. subst NoDirtyPage (sym i) tt) (λ i. subst NoDirtyPage (sym i.1) tt) t.1
page_clean false k (Some kept) slot page t empty clean = go kept.dirt refl t.2
  where
    go : (dirt : Option Dirt) → kept.dirt ≡ dirt → IsPageOf dirt kept.block page → NoDirtyPage page
    go None e i = subst NoDirtyPage (sym i) tt
    go (Some dirt) e i = absurd (false≢true (sym (clean kept refl) ∙ ap is_some e))

-- a clean server, in parts
pub record IsClean (c : Core) (a : ℕ) : Type 0 where
  pub cache : any_cached is_dirty (c.servers a).cache ≡ false
  pub landed : has_flights c.flights a ≡ false
  pub reached : IsTrue (is_all_reached (c.servers a).ring)
  pub alone : is_some (c.servers a).recovery ≡ false

pub clean_parts : (c : Core) (a : ℕ) → IsTrue (clean_at c a) → IsClean c a
clean_parts c a clean = go (any_cached is_dirty (c.servers a).cache) (has_flights c.flights a) (is_all_reached (c.servers a).ring)
    (is_some (c.servers a).recovery) refl refl refl refl clean
  where
    go : (x y z r : Bool) → any_cached is_dirty (c.servers a).cache ≡ x → has_flights c.flights a ≡ y → is_all_reached (c.servers a).ring ≡ z → is_some (c.servers a).recovery ≡ r →
        IsTrue (not x && not y && z && not r) → IsClean c a
    go false false true false e f g h t = record { cache = e; landed = f; reached = g; alone = h }
    go true y z r e f g h t = absurd (false≢true t)
    go false true z r e f g h t = absurd (false≢true t)
    go false false false r e f g h t = absurd (false≢true t)
    go false false true true e f g h t = absurd (false≢true t)

pub nothing_to_write : (c : Core) (disk : Sectors) (w : World) (a : ℕ) → AreTied c disk w → c.over ≡ false → Good w → InTimeAreFresh c a → IsClean c a → w.phase a ≡ Up →
    HasNothingToWrite a w
nothing_to_write c disk w a t going g fresh clean up = record {
  up = up;
  slots = λ s. slot_clean (has_version w s) (cover w s) (value_at (c.servers a).cache s) (w.slot a s) (w.page a s) (t.cached a s) (none_kept (c.servers a).cache clean.cache s);
  pages = λ s. page_clean (has_version w s) (cover w s) (value_at (c.servers a).cache s) (w.slot a s) (w.page a s) (t.cached a s) (g.kinds.empty a s)
      (none_kept (c.servers a).cache clean.cache s);
  landed = λ s f there early own by. late s (cover w s) f.by f.behalf f.stamp f.block ((t.flying going).flight s f there) by early;
  landed_bytes = λ s f there early by. late s (cover w s) f.by f.by f.stamp f.block ((t.flying going).bytes s f there) by early;
  logged = t.logged a clean.reached;
}
  where
    late : (s : ℕ) (lock : LockId) (by behalf stamp : ℕ) (block : Block) → IsFlying c.flights s lock by behalf stamp block → by ≡ a → w.now ≤ stamp → ⊥
    late s lock by behalf stamp block f own early =
        none_in_time c a fresh clean.landed f.one f.among (f.server ∙ own) (subst (λ n. n ≤ f.one.1.stamp) t.lives.now (subst (λ n. w.now ≤ n) (sym f.stamp_is) early))
