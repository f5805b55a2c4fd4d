-- What a line is planned over is of the one disk: its cached sectors, and the bitmaps of the segments in its set.
use Rattle.std.proofs.Common.{◌≡◌, ◌≤◌, ◌<◌, ℕ, Bool, true, false, not, if◌then◌else◌, is_some, List, [], ◌∷◌, Option, Some, None, map, filter, refl, sym, ap, ◌∙◌, subst, ⊎_elim}
use Rattle.std.proofs.lemmas.Bool.{false≢true}
use Rattle.std.specs.BTreeMap.{is_at}
use Rattle.std.specs.List.{Contains, cons_option, filter_map}
use Rattle.std.specs.List.Sorted.{IsStrictlySortedBy}
use Rattle.std.specs.Option.{option_and_then, option_map}
use Rattle.std.specs.Ordering.{is_eq, nat_cmp}
use Rattle.frang_base.specs.declared.bitmap.Bitmap.{Bitmap}
use Rattle.frang_base.specs.declared.lock.LockId.{LockId}
use Rattle.frang_base.specs.declared.lock.LockId.TheVariants.{Log, Segment, Node}
use Rattle.tree_definitions.specs.Tree.{FileTree}
use Rattle.tree_definitions.proofs.Pairs.{birth_exact, self}
use Rattle.lock_definitions.specs.Order.{is_lock}
use Rattle.lock_definitions.proofs.LockOrder.{found_lock, lock_itself}
use Rattle.sector_bytes.specs.Blocks.{Block}
use Rattle.sector_bytes.specs.SectorMaps.{Ascend, value_at}
use Rattle.sector_bytes.proofs.MapLaws.{AllAbove, found}
use Rattle.cache_definitions.specs.Caches.{Cache, CachedSector}
use Rattle.set_definitions.specs.Sets.{LockSet, has_lock, mode_in, segments_in}
use Rattle.set_definitions.specs.Usable.{usable}
use Rattle.disk_definitions.specs.declared.region.Region.TheVariants as region
use Rattle.disk_definitions.specs.Ask.{SegmentAt}
use Rattle.disk_definitions.specs.Bitmaps.{bitmap_in}
use Rattle.disk_definitions.specs.Held.{bitmap_of}
use Rattle.disk_definitions.specs.Numbered.{sector_at, sector_in}
use Rattle.disk_definitions.specs.OnDisk.{AreOfDisk}
use Rattle.disk_definitions.specs.Regions.{sector_of}
use Rattle.disk_definitions.specs.Written.{Cached}
use Rattle.disk_definitions.proofs.RegionLaws.{region_found}
use Rattle.plan_fit.proofs.Kept.{in_segment}
use Rattle.plan_laws.proofs.Covering.{has_cases, has_head, has_more, not_in_none}
use Rattle.line_laws.proofs.Zeroed.{each_below}
use Rattle.line_histories.proofs.Hands.{all_below}
use Rattle.core_definitions.specs.Lines.{bitmap_sector, missing_bitmaps}
use Rattle.core_definitions.specs.Plans.{Sight, bitmap_at, sight_of}
use Rattle.core_definitions.specs.Servers.{Server}
use Rattle.sector_world.specs.World.{World, cover, has_version}
use Rattle.core_world.specs.Ties.{AreCached, IsCachedAs}
use Rattle.core_world.specs.Sights.{AreStood}
use Rattle.core_commits.specs.Standing.{AreSegmentsOf, AreWhole, SightsAreOfTheDisk, StandsWhole, whole_disk}
use Rattle.core_commits.proofs.OneDisk.{whole_stood}

-- ---- cached sectors whose cover is in the set

module _ (set : LockSet) (s : ℕ) where
  abbrev usable_block : CachedSector → Option Block
  usable_block cached = if has_lock set cached.cover then Some cached.block else None

  none_above : (cache : Cache) → AllAbove s cache → value_at (usable set cache) s ≡ None
  none_above [] above = refl
  none_above (entry ∷ cache) above = go (has_lock set entry.1.cover) (none_above cache above.1)
    where
      go : (t : Bool) → value_at (usable set cache) s ≡ None → value_at (cons_option (if t then Some (entry.0, entry.1.block) else None) (usable set cache)) s ≡ None
      go true rest = ap (λ o. if is_eq o then Some entry.1.block else value_at (usable set cache) s) above.0 ∙ rest
      go false rest = rest

  pub usable_at : (cache : Cache) → Ascend cache → value_at (usable set cache) s ≡ option_and_then usable_block (value_at cache s)
  unfolding IsStrictlySortedBy
  usable_at [] sorted = refl
  usable_at (entry ∷ cache) sorted = go (has_lock set entry.1.cover) refl (is_at (nat_cmp s) entry.0) refl (usable_at cache sorted.1)
    where
      go : (t : Bool) → has_lock set entry.1.cover ≡ t → (u : Bool) → is_at (nat_cmp s) entry.0 ≡ u → value_at (usable set cache) s ≡ option_and_then usable_block (value_at cache s)
          → value_at (cons_option (if t then Some (entry.0, entry.1.block) else None) (usable set cache)) s ≡ option_and_then usable_block (if u then Some entry.1 else value_at cache s)
      go true has true at rest = ap (λ u. if u then Some entry.1.block else value_at (usable set cache) s) at ∙ sym (ap (λ t. if t then Some entry.1.block else None) has)
      go true has false at rest = ap (λ u. if u then Some entry.1.block else value_at (usable set cache) s) at ∙ rest
      go false has true at rest = none_above cache (subst (λ low. AllAbove low cache) (found s entry.0 at) sorted.0) ∙ sym (ap (λ t. if t then Some entry.1.block else None) has)
      go false has false at rest = rest

  -- a cached sector that is used
  pub record IsUsed (cache : Cache) (block : Block) : Type 0 where
    pub cached : CachedSector
    pub there : value_at cache s ≡ Some cached
    pub block_is : cached.block ≡ block
    pub under : has_lock set cached.cover ≡ true

  pub used_from : (cache : Cache) → Ascend cache → (block : Block) → value_at (usable set cache) s ≡ Some block → IsUsed cache block
  used_from cache sorted block e = go (value_at cache s) refl (sym (usable_at cache sorted) ∙ e)
    where
      go : (o : Option CachedSector) → value_at cache s ≡ o → option_and_then usable_block o ≡ Some block → IsUsed cache block
      go None i j = absurd (cc)
      go (Some cached) i j = by (has_lock set cached.cover) refl j
        where
          by : (t : Bool) → has_lock set cached.cover ≡ t → (if t then Some cached.block else None) ≡ Some block → IsUsed cache block
          by true q k = let same : cached.block ≡ block = cc in record { cached = cached; there = i; block_is = same; under = q }
          by false q k = absurd (cc)

  pub used_has : (cache : Cache) → Ascend cache → (cached : CachedSector) → value_at cache s ≡ Some cached → has_lock set cached.cover ≡ true → value_at (usable set cache) s ≡ Some cached.block
  used_has cache sorted cached there under =
      usable_at cache sorted ∙ ap (option_and_then usable_block) there ∙ ap (λ (t : Bool). if t then Some cached.block else None) under

-- ---- the segments of a set

set_has : (set : LockSet) (k : ℕ) → has_lock set (Segment k) ≡ true → Contains (segments_in set) k
set_has [] k e = absurd (false≢true e)
set_has ((Log n, mode) ∷ set) k e = set_has set k e
set_has ((Node n, mode) ∷ set) k e = set_has set k e
set_has ((Segment n, mode) ∷ set) k e = go (is_lock (Segment k) (Segment n)) refl e (set_has set k)
  where
    go : (b : Bool) → is_lock (Segment k) (Segment n) ≡ b → is_some (if b then Some mode else mode_in set (Segment k)) ≡ true → (has_lock set (Segment k) ≡ true → Contains (segments_in set) k) →
        Contains (n ∷ segments_in set) k
    go true q i rest = let same : Segment n ≡ Segment k = found_lock (Segment k) (Segment n) q in let at : n ≡ k = cc in subst (Contains (n ∷ segments_in set)) at (has_head n (segments_in set))
    go false q i rest = has_more n k (segments_in set) (rest i)

pub in_set : (set : LockSet) (k : ℕ) → Contains (segments_in set) k → has_lock set (Segment k) ≡ true
in_set [] k c = absurd (not_in_none k c)
in_set ((Log n, mode) ∷ set) k c = in_set set k c
in_set ((Node n, mode) ∷ set) k c = in_set set k c
in_set ((Segment n, mode) ∷ set) k c = ⊎_elim here (λ d. more (is_lock (Segment k) (Segment n)) (in_set set k d)) (has_cases n k (segments_in set) c)
  where
    more : (b : Bool) → has_lock set (Segment k) ≡ true → is_some (if b then Some mode else mode_in set (Segment k)) ≡ true
    more true e = refl
    more false e = e

    here : n ≡ k → is_some (if is_lock (Segment k) (Segment n) then Some mode else mode_in set (Segment k)) ≡ true
    here e = ap (λ (b : Bool). is_some (if b then Some mode else mode_in set (Segment k))) (ap (λ j. is_lock (Segment k) (Segment j)) e ∙ ap is_eq (lock_itself (Segment k)))

-- ---- bitmaps at hand

module _ (cached : Cached) (k : ℕ) where
  abbrev bits : ℕ → Option Bitmap
  bits j = option_and_then bitmap_in (value_at cached (sector_of (region.Segment j)))

  pub held_from : (xs : List ℕ) (bitmap : Bitmap) → bitmap_of (filter_map (bitmap_at cached) xs) k ≡ Some bitmap → Contains xs k × (bits k ≡ Some bitmap)
  held_from [] bitmap e = absurd (cc)
  held_from (x ∷ xs) bitmap e = go (bits x) refl e (held_from xs bitmap)
    where
      go : (o : Option Bitmap) → bits x ≡ o → bitmap_of (cons_option (option_map (λ b. (x, b)) o) (filter_map (bitmap_at cached) xs)) k ≡ Some bitmap →
          (bitmap_of (filter_map (bitmap_at cached) xs) k ≡ Some bitmap → Contains xs k × (bits k ≡ Some bitmap)) → Contains (x ∷ xs) k × (bits k ≡ Some bitmap)
      go None q i rest = let r = rest i in (has_more x k xs r.0, r.1)
      go (Some b) q i rest = by (is_at (nat_cmp k) x) refl i
        where
          by : (t : Bool) → is_at (nat_cmp k) x ≡ t → (if t then Some b else bitmap_of (filter_map (bitmap_at cached) xs) k) ≡ Some bitmap → Contains (x ∷ xs) k × (bits k ≡ Some bitmap)
          by true u j = let at : x ≡ k = found k x u in (subst (Contains (x ∷ xs)) at (has_head x xs), ap bits (sym at) ∙ q ∙ j)
          by false u j = let r = rest j in (has_more x k xs r.0, r.1)

  pub held_has : (xs : List ℕ) → Contains xs k → is_some (bits k) ≡ true → is_some (bitmap_of (filter_map (bitmap_at cached) xs) k) ≡ true
  held_has [] c e = absurd (not_in_none k c)
  held_has (x ∷ xs) c e = ⊎_elim (λ i. here i (bits k) refl e) (λ d. past (bits x) (held_has xs d e)) (has_cases x k xs c)
    where
      past : (o : Option Bitmap) → is_some (bitmap_of (filter_map (bitmap_at cached) xs) k) ≡ true → is_some (bitmap_of (cons_option (option_map (λ b. (x, b)) o) (filter_map (bitmap_at cached) xs)) k) ≡ true
      past None r = r
      past (Some b) r = by (is_at (nat_cmp k) x)
        where
          by : (t : Bool) → is_some (if t then Some b else bitmap_of (filter_map (bitmap_at cached) xs) k) ≡ true
          by true = refl
          by false = r

      here : x ≡ k → (o : Option Bitmap) → bits k ≡ o → is_some o ≡ true → is_some (bitmap_of (cons_option (option_map (λ b. (x, b)) (bits x)) (filter_map (bitmap_at cached) xs)) k) ≡ true
      here i None q j = absurd (cc)
      here i (Some b) q j =
          ap (λ o. is_some (bitmap_of (cons_option (option_map (λ v. (x, v)) o) (filter_map (bitmap_at cached) xs)) k)) (ap bits i ∙ q)
          ∙ ap (λ (t : Bool). is_some (if t then Some b else bitmap_of (filter_map (bitmap_at cached) xs) k)) (ap (is_at (nat_cmp k)) i ∙ self nat_cmp birth_exact k)

-- where none lacks, each passes
none_lacks : {X : Type 0} (f : ℕ → X) (test : ℕ → Bool) (xs : List ℕ) → map f (filter (λ k. not (test k)) xs) ≡ [] → (k : ℕ) → Contains xs k → test k ≡ true
none_lacks f test [] e k c = absurd (not_in_none k c)
none_lacks {X} f test (x ∷ xs) e k c = go (test x) refl e (none_lacks f test xs)
  where
    go : (b : Bool) → test x ≡ b → map f (if not b then x ∷ filter (λ k. not (test k)) xs else filter (λ k. not (test k)) xs) ≡ [] →
        (map f (filter (λ k. not (test k)) xs) ≡ [] → (k : ℕ) → Contains xs k → test k ≡ true) → test k ≡ true
    go true q i more = ⊎_elim (λ at. ap test (sym at) ∙ q) (λ d. more i k d) (has_cases x k xs c)
    go false q i more = absurd (cc)

-- ---- a sight

module _ (segments : ℕ) (servers : ℕ → Server) (w : World) (tree : FileTree) (a : ℕ) (set : LockSet) (on : StandsWhole segments w tree) (t : AreCached servers w) (stood : AreStood servers w)
    (long : AreWhole (servers a).cache) (sorted : Ascend (servers a).cache) (inside : AreSegmentsOf segments set) (none : missing_bitmaps set (servers a).cache ≡ []) where
  abbrev cache : Cache
  cache = (servers a).cache

  abbrev sight : Sight
  sight = sight_of segments set (servers a).cache

  few : segments ≤ 64
  few = subst (λ k. k ≤ 64) on.count on.logical.of.few

  as_cached : (s : ℕ) (block : Block) → value_at sight.cached s ≡ Some block → block ≡ whole_disk w s
  as_cached s block e = let u : IsUsed set s cache block = used_from set s cache sorted block e in sym u.block_is ∙ whole_stood servers w stood a s u.cached u.there (long s u.cached u.there)

  segment_here : (k : ℕ) → k < segments → sector_at segments (bitmap_sector k) ≡ Some (SegmentAt k)
  segment_here k l = ap sector_in (region_found segments (region.Segment k) few (in_segment segments k l))

  -- a cached bitmap is under its segment's lock
  under : (k : ℕ) → k < segments → (cached : CachedSector) → value_at cache (bitmap_sector k) ≡ Some cached → cached.cover ≡ Segment k
  under k l cached e =
      let s : ℕ = bitmap_sector k in
      (subst (λ v. IsCachedAs v (cover w s) (Some cached) (w.slot a s) (w.page a s)) (on.follows.kinds s (SegmentAt k) (segment_here k l))
      (subst (λ o. IsCachedAs (has_version w s) (cover w s) o (w.slot a s) (w.page a s)) e (t a s))).0
      ∙ on.follows.covers _ _ on.logical.of s (SegmentAt k) (segment_here k l)

  abbrev lacking : ℕ → ℕ × LockId
  lacking j = (bitmap_sector j, Segment j)

  -- each segment of the set is held
  pub held_there : (k : ℕ) → k < segments → has_lock set (Segment k) ≡ true → is_some (bitmap_of sight.held k) ≡ true
  held_there k l e = held_has sight.cached k (segments_in set) (set_has set k e) (go (value_at cache (bitmap_sector k)) refl (none_lacks lacking (λ j. is_some (value_at cache (bitmap_sector j))) (segments_in set) none k (set_has set k e)))
    where
      go : (o : Option CachedSector) → value_at cache (bitmap_sector k) ≡ o → is_some o ≡ true → is_some (option_and_then bitmap_in (value_at sight.cached (bitmap_sector k))) ≡ true
      go None q i = absurd (cc)
      go (Some cached) q i =
          ap (λ o. is_some (option_and_then bitmap_in o))
          (used_has set (bitmap_sector k) cache sorted cached q (ap (has_lock set) (under k l cached q) ∙ e))
          ∙ ap (λ block. is_some (bitmap_in block)) (whole_stood servers w stood a (bitmap_sector k) cached q (long (bitmap_sector k) cached q))
          ∙ on.whole.grammar.bitmaps k l

  pub of_disk : AreOfDisk sight.cached sight.held sight.all segments (whole_disk w)
  of_disk = record {
    as_cached = as_cached;
    as_held = λ k bitmap e. let r = held_from sight.cached k (segments_in set) bitmap e in (inside k (in_set set k r.0), there k bitmap r.1);
    all_held = (
      λ e k l. held_there k l (each_below (λ j. has_lock set (Segment j)) segments e k l),
      λ each. all_below (λ j. has_lock set (Segment j)) segments (λ k l. listed k (bitmap_of sight.held k) refl (each k l)),
    );
  }
    where
      there : (k : ℕ) (bitmap : Bitmap) → option_and_then bitmap_in (value_at sight.cached (bitmap_sector k)) ≡ Some bitmap → bitmap_in (whole_disk w (bitmap_sector k)) ≡ Some bitmap
      there k bitmap e = go (value_at sight.cached (bitmap_sector k)) refl e
        where
          go : (o : Option Block) → value_at sight.cached (bitmap_sector k) ≡ o → option_and_then bitmap_in o ≡ Some bitmap → bitmap_in (whole_disk w (bitmap_sector k)) ≡ Some bitmap
          go None q i = absurd (cc)
          go (Some block) q i = ap bitmap_in (sym (as_cached (bitmap_sector k) block q)) ∙ i

      listed : (k : ℕ) (o : Option Bitmap) → bitmap_of sight.held k ≡ o → is_some o ≡ true → has_lock set (Segment k) ≡ true
      listed k None q i = absurd (cc)
      listed k (Some bitmap) q i = in_set set k (held_from sight.cached k (segments_in set) bitmap q).0

pub sights_are_of_the_disk : SightsAreOfTheDisk
sights_are_of_the_disk segments servers w tree a set on t stood long sorted inside none = of_disk segments servers w tree a set on t stood long sorted inside none
