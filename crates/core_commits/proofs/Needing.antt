-- A sector that a line needs lies on the one disk, its cover at hand is its cover, and it isn't cached; a bitmap that lacks isn't either.
use Rattle.std.proofs.Common.{◌≡◌, ◌≢◌, ◌≤◌, ◌<◌, ℕ, Bool, true, false, not, if◌then◌else◌, is_some, IsTrue, List, [], ◌∷◌, Option, Some, None, map, filter, refl, sym, ap, ◌∙◌, subst, inr, ⊎_elim}
use Rattle.std.proofs.lemmas.Bool.{false≢true}
use Rattle.std.specs.BTreeMap.{is_at}
use Rattle.std.specs.List.{Contains, find}
use Rattle.std.specs.Option.{unwrap_or}
use Rattle.std.specs.Ordering.{nat_cmp}
use Rattle.frang_base.specs.declared.bitmap.Bitmap.{Bitmap}
use Rattle.frang_base.specs.declared.lock.LockId.{LockId}
use Rattle.frang_base.specs.declared.lock.LockId.TheVariants.{Segment}
use Rattle.frang_base.specs.declared.lock.Mode.{Mode}
use Rattle.frang_base.specs.declared.op.Op.{Op}
use Rattle.lock_definitions.specs.Calls.{serves}
use Rattle.lock_definitions.specs.Locks.{Locks, held}
use Rattle.lock_definitions.specs.Order.{is_lock}
use Rattle.lock_definitions.proofs.LockOrder.{found_lock}
use Rattle.sector_bytes.specs.SectorMaps.{Ascend, value_at}
use Rattle.sector_bytes.specs.Sectors.{Sectors}
use Rattle.sector_bytes.proofs.MapLaws.{found}
use Rattle.cache_definitions.specs.Caches.{Cache, CachedSector}
use Rattle.set_definitions.specs.Sets.{LockSet, has_lock, is_served, mode_in, segments_in, to_ask}
use Rattle.tree_definitions.specs.Live.{number_of as operation_number, script_time, time_in}
use Rattle.tree_definitions.specs.Touched.{shape_of}
use Rattle.tree_definitions.specs.Tree.{FileTree, node_at}
use Rattle.disk_definitions.specs.declared.region.Region.{Region}
use Rattle.disk_definitions.specs.declared.region.Region.TheVariants as region
use Rattle.disk_definitions.specs.Ask.{Ask, AtHand, InodeAt, DirectoryAt, SegmentAt, BytesAt, LargeAt, Needs, Sector, looks, number_of, run}
use Rattle.disk_definitions.specs.ChangeLaws.{FilesFit}
use Rattle.disk_definitions.specs.Covers as by_naming
use Rattle.disk_definitions.specs.FitPlans.{IsFitStore}
use Rattle.disk_definitions.specs.Held.{bitmap_of}
use Rattle.disk_definitions.specs.LookedAt.{looked_nodes}
use Rattle.disk_definitions.specs.Meets.{IsHandOf, is_directory_use}
use Rattle.disk_definitions.specs.Missing.{first_missing, is_at_hand}
use Rattle.disk_definitions.specs.Naming.{Naming}
use Rattle.disk_definitions.specs.Numbered.{sector_at, sector_in}
use Rattle.disk_definitions.specs.OnDisk.{AreOfDisk}
use Rattle.disk_definitions.specs.Plans.{Hand, Plan}
use Rattle.disk_definitions.specs.Regions.{region_of}
use Rattle.disk_definitions.specs.Replay.{is_log}
use Rattle.disk_definitions.specs.Store.{Store, store_of}
use Rattle.disk_definitions.specs.Written.{at_hand, hand_of, is_held, is_zeroed}
use Rattle.disk_definitions.proofs.Counts.{files_fit}
use Rattle.disk_definitions.proofs.RegionLaws.{region_found}
use Rattle.disk_definitions.proofs.Traces.{traces_meet}
use Rattle.plan_fit.proofs.DecodedEntries.{disks_fit}
use Rattle.plan_fit.proofs.FileNodes.{fit_file}
use Rattle.plan_fit.proofs.Kept.{in_inode, in_large, in_segment, in_small}
use Rattle.plan_laws.specs.Inside.{AreInside, IsInside}
use Rattle.plan_laws.proofs.Covering.{has_cases, has_head, has_more, not_in_none}
use Rattle.plan_laws.proofs.Deciding.{meets_where}
use Rattle.line_laws.proofs.Asked.{covers_among_are_true}
use Rattle.line_laws.proofs.AtHand.{agrees}
use Rattle.line_laws.proofs.Zeroed.{zero_places}
use Rattle.line_locks.proofs.Numbers.{numbers_tell}
use Rattle.line_sectors.proofs.AtHand.{missing_is, needs_is}
use Rattle.line_sectors.proofs.Needed.{lines_need_directories}
use Rattle.line_histories.specs.Files.{HoldsBytes}
use Rattle.line_histories.specs.LinePlans.{store_on}
use Rattle.line_histories.proofs.Filled.{IsInUse, in_use}
use Rattle.line_histories.proofs.Hands.{hand_is}
use Rattle.line_histories.proofs.LinesSound.{lines_are_sound}
use Rattle.line_histories.proofs.Looked.{lines_look}
use Rattle.line_histories.proofs.NearSegments.{lines_look_in_segments}
use Rattle.core_definitions.specs.Cores.{stage}
use Rattle.core_definitions.specs.LineEffects.{cover_needed}
use Rattle.core_definitions.specs.Lines.{Asking, Clearing, Fetching, Finishing, Growing, Moving, Stage, Stopping, Under, bitmap_sector, missing_bitmaps}
use Rattle.core_definitions.specs.Plans.{Sight, cover_of, needed_cover, nodes_looked_at}
use Rattle.core_definitions.specs.Runs.{State as RunMoment}
use Rattle.core_definitions.specs.Servers.{Server, is_up}
use Rattle.sector_world.specs.Histories.{settled}
use Rattle.sector_world.specs.HistoryBytes.{is_free}
use Rattle.sector_world.specs.Logged.{now_of}
use Rattle.sector_world.specs.World.{World, Page, Slot, cover, has_version}
use Rattle.core_world.specs.Ties.{AreTied, IsCachedAs}
use Rattle.core_world.specs.Sights.{AreStood}
use Rattle.core_commits.specs.Fetches.{IsFetchable}
use Rattle.core_commits.specs.Needs.{NeededSectorsComeIn}
use Rattle.core_commits.specs.Stages.{ComesTo, IsNeeded, NeedsSectors, nodes_of_line, program_in, sight_in}
use Rattle.core_commits.specs.Standing.{AreSegmentsOf, AreWhole, StandsWhole, whole_disk}
use Rattle.core_commits.proofs.Sighting.{held_there, in_set, of_disk, used_has}
use Rattle.core_commits.proofs.Staged.{fetching_lines_have_plans}

-- ---- a set that is held

pub served_mode : (locks : Locks) (a : ℕ) (set : LockSet) → to_ask locks a set ≡ None → (l : LockId) (m : Mode) → mode_in set l ≡ Some m → serves (held locks a l) m ≡ true
served_mode locks a [] none l m e = absurd (cc)
served_mode locks a (need ∷ set) none l m e = go (is_served locks a need) refl none (is_lock l need.0) refl e (λ n. served_mode locks a set n l m)
  where
    go : (s : Bool) → is_served locks a need ≡ s → (if not s then Some need else find (λ x. not (is_served locks a x)) set) ≡ None →
        (b : Bool) → is_lock l need.0 ≡ b → (if b then Some need.1 else mode_in set l) ≡ Some m →
        (to_ask locks a set ≡ None → mode_in set l ≡ Some m → serves (held locks a l) m ≡ true) → serves (held locks a l) m ≡ true
    go false i j b p q rest = absurd (cc)
    go true i j true p q rest =
        let same : need.1 ≡ m = cc in
        subst (λ k. serves (held locks a k) m ≡ true) (found_lock l need.0 p) (subst (λ x. serves (held locks a need.0) x ≡ true) same i)
    go true i j false p q rest = rest j q

pub some_held : (locks : Locks) (a : ℕ) (set : LockSet) → to_ask locks a set ≡ None → (l : LockId) → has_lock set l ≡ true → held locks a l ≢ None
some_held locks a set none l e n = go (mode_in set l) refl e
  where
    go : (o : Option Mode) → mode_in set l ≡ o → is_some o ≡ true → ⊥
    go None i j = false≢true j
    go (Some m) i j = false≢true (ap (λ o. serves o m) (sym n) ∙ served_mode locks a set none l m i)

-- ---- a bitmap that lacks

record IsLacking (test : ℕ → Bool) (xs : List ℕ) (s : ℕ) (lock : LockId) : Type 0 where
  segment : ℕ
  among : Contains xs segment
  passes : test segment ≡ true
  here : bitmap_sector segment ≡ s
  lock_is : Segment segment ≡ lock

lacking_from : (test : ℕ → Bool) (xs : List ℕ) (s : ℕ) (lock : LockId) → value_at (map (λ k. (bitmap_sector k, Segment k)) (filter test xs)) s ≡ Some lock → IsLacking test xs s lock
lacking_from test [] s lock e = absurd (cc)
lacking_from test (x ∷ xs) s lock e = go (test x) refl e (lacking_from test xs s lock)
  where
    more : IsLacking test xs s lock → IsLacking test (x ∷ xs) s lock
    more l = record { segment = l.segment; among = has_more x l.segment xs l.among; passes = l.passes; here = l.here; lock_is = l.lock_is }

    go : (b : Bool) → test x ≡ b → value_at (map (λ k. (bitmap_sector k, Segment k)) (if b then x ∷ filter test xs else filter test xs)) s ≡ Some lock →
        (value_at (map (λ k. (bitmap_sector k, Segment k)) (filter test xs)) s ≡ Some lock → IsLacking test xs s lock) → IsLacking test (x ∷ xs) s lock
    go false i j rest = more (rest j)
    go true i j rest = by (is_at (nat_cmp s) (bitmap_sector x)) refl j
      where
        by : (c : Bool) → is_at (nat_cmp s) (bitmap_sector x) ≡ c → (if c then Some (Segment x) else value_at (map (λ k. (bitmap_sector k, Segment k)) (filter test xs)) s) ≡ Some lock → IsLacking test (x ∷ xs) s lock
        by true p q = let same : Segment x ≡ lock = cc in record { segment = x; among = has_head x xs; passes = i; here = found s (bitmap_sector x) p; lock_is = same }
        by false p q = more (rest q)

-- ---- sectors of the disk

-- one of a small block as a directory's
abbrev as_placed : Sector → Sector
as_placed (BytesAt k part) = DirectoryAt k part
as_placed x = x

same_cover : (naming : Naming) (x : Sector) → by_naming.cover_of naming x ≡ by_naming.cover_of naming (as_placed x)
same_cover naming (InodeAt i) = refl
same_cover naming (DirectoryAt k part) = refl
same_cover naming (SegmentAt k) = refl
same_cover naming (BytesAt k part) = refl
same_cover naming (LargeAt g part) = refl

same_among : (sight : Sight) (nodes : List ℕ) (x : Sector) → cover_of nodes sight x ≡ cover_of nodes sight (as_placed x)
same_among sight nodes (InodeAt i) = refl
same_among sight nodes (DirectoryAt k part) = refl
same_among sight nodes (SegmentAt k) = refl
same_among sight nodes (BytesAt k part) = refl
same_among sight nodes (LargeAt g part) = refl

-- a sector that lies on the disk is in no log
pub not_log : (o : Option Region) (x : Sector) → sector_in o ≡ Some x → is_log o ≡ false
not_log None x e = refl
not_log (Some region.Param) x e = refl
not_log (Some (region.Log server slot)) x e = absurd (cc)
not_log (Some (region.Segment k)) x e = refl
not_log (Some (region.Inode i)) x e = refl
not_log (Some (region.Small k part)) x e = refl
not_log (Some (region.Large g part)) x e = refl

each_inside : (segments : ℕ) (xs : List Sector) → AreInside segments xs → (x : Sector) → Contains xs x → IsInside segments x
each_inside segments [] all x c = absurd (not_in_none x c)
each_inside segments (y ∷ ys) all x c = ⊎_elim (λ e. subst (IsInside segments) e all.0) (λ d. each_inside segments ys all.1 x d) (has_cases y x ys c)

-- ---- a sector that a plan needs

module _ (s : RunMoment) (w : World) (tree : FileTree) (a : ℕ) (on : StandsWhole s.core.setting.segments w tree) (t : AreTied s.core s.disk w)
    (stood : AreStood s.core.servers w) (long : AreWhole (s.core.servers a).cache) (sorted : Ascend (s.core.servers a).cache)
    (inside : (under : Under) → (s.core.servers a).under ≡ Some under → AreSegmentsOf s.core.setting.segments under.set) where
  abbrev segments : ℕ
  segments = s.core.setting.segments

  abbrev server : Server
  server = s.core.servers a

  abbrev cache : Cache
  cache = (s.core.servers a).cache

  abbrev disk : Sectors
  disk = whole_disk w

  abbrev naming : Naming
  naming = on.now.stands.naming

  abbrev b : Store
  b = store_on segments (whole_disk w)

  few : segments ≤ 64
  few = subst (λ k. k ≤ 64) on.count on.logical.of.few

  -- a sector of the disk that is needed under a lock of the set
  fetchable : (number : ℕ) (x : Sector) (lock : LockId) (set : LockSet) → IsTrue (is_up server.phase) → to_ask s.core.locks a set ≡ None → has_lock set lock ≡ true → cover_needed (stage s.core a) number ≡ Some lock →
      sector_at segments number ≡ Some x → lock ≡ by_naming.cover_of naming x → (lock ≡ cover w number → value_at cache number ≡ None) → (has_version w number ≡ false → is_free w.first (settled w.history) number ≡ false) →
      IsFetchable s w a number lock
  fetchable number x lock set up none has needed here covered absent filled =
      let true_cover : lock ≡ cover w number = covered ∙ sym (on.follows.covers _ naming on.logical.of number x here) in
      record {
        up = up;
        needed = needed;
        covered = true_cover;
        held = λ e. some_held s.core.locks a set none lock has (sym (t.locks.holds a lock) ∙ e);
        absent = absent true_cover;
        filled = filled;
        no_log = not_log (region_of segments number) x here;
      }

  module _ (under : Under) (is : server.under ≡ Some under) (operation : Op) (up : IsTrue (is_up server.phase)) (none : to_ask s.core.locks a under.set ≡ None) where
    abbrev set : LockSet
    set = under.set

    -- ---- a bitmap

    bitmap : (number : ℕ) (lock : LockId) → cover_needed (stage s.core a) number ≡ Some lock → value_at (missing_bitmaps set cache) number ≡ Some lock → IsFetchable s w a number lock
    bitmap number lock needed e =
        let l : IsLacking (λ k. not (is_some (value_at cache (bitmap_sector k)))) (segments_in set) number lock = lacking_from (λ k. not (is_some (value_at cache (bitmap_sector k)))) (segments_in set) number lock e in
        let has : has_lock set (Segment l.segment) ≡ true = in_set set l.segment l.among in
        let here : sector_at segments number ≡ Some (SegmentAt l.segment) =
        subst (λ n. sector_at segments n ≡ Some (SegmentAt l.segment)) l.here (ap sector_in (region_found segments (region.Segment l.segment) few (in_segment segments l.segment (inside under is l.segment has)))) in
        fetchable number (SegmentAt l.segment) lock set up none (ap (has_lock set) (sym l.lock_is) ∙ has) needed here (sym l.lock_is)
        (λ c. subst (λ n. value_at cache n ≡ None) l.here (lacks (value_at cache (bitmap_sector l.segment)) l.passes)) (λ plain. absurd (false≢true (sym plain ∙ on.follows.kinds number (SegmentAt l.segment) here)))
      where
        lacks : (o : Option CachedSector) → not (is_some o) ≡ true → o ≡ None
        lacks None q = refl
        lacks (Some kept) q = absurd (false≢true q)

    -- ---- a sector that the plan needs

    module _ (x : Sector) (comes : ComesTo s.core.setting server under operation (Needs x))
        (has : has_lock set (needed_cover segments (nodes_of_line s.core.setting server under operation) (sight_in s.core.setting server under) x) ≡ true) where
      abbrev sight : Sight
      sight = sight_in s.core.setting server under

      abbrev nodes : List ℕ
      nodes = nodes_of_line s.core.setting server under operation

      abbrev lock : LockId
      lock = needed_cover segments nodes sight x

      abbrev known : AtHand
      known = at_hand sight.cached sight.held

      abbrev p : Ask Plan
      p = program_in s.core.setting server under operation

      abbrev n : ℕ
      n = operation_number s.core.setting.run under.line.number

      abbrev time : ℕ
      time = time_in s.core.setting.run (script_time s.core.setting.script under.line.number)

      abbrev h : Hand
      h = hand_of sight.cached sight.held sight.all

      of : AreOfDisk sight.cached sight.held sight.all segments disk
      of = of_disk segments s.core.servers w tree a set on t.cached stood long sorted (inside under is) comes.bitmaps

      hand : IsHandOf h b (shape_of tree).segments
      hand = subst (IsHandOf h b) (sym on.whole.of.count)
          (hand_is segments disk sight.held of.as_held sight.all (is_zeroed sight.cached) of.all_held (λ k slot e l. zero_places sight.cached disk of.as_cached segments k slot e l))

      abbrev full : Store
      full = store_of segments disk

      same_looks : looks p full ≡ looks p b
      same_looks = (lines_are_sound.blind operation h b n time full.byte full.large_byte).0

      looks_inside : AreInside segments (looks p b)
      looks_inside = subst (λ k. AreInside k (looks p b)) on.whole.of.count (lines_are_sound.inside operation h b (shape_of tree) naming n time on.whole.of.of hand)

      missing : Contains (looks p full) x × (is_at_hand known x ≡ false)
      missing = missing_is known (looks p full) x (needs_is (first_missing known (looks p full)) (run p full) x
          (sym (meets_where p known full (agrees sight.cached sight.held segments disk of.as_cached on.whole.whole (looks p full) (subst (AreInside segments) (sym same_looks) looks_inside))) ∙ comes.met_is))

      looked : Contains (looks p b) x
      looked = subst (λ l. Contains l x) same_looks missing.0

      fit : FilesFit (node_at (shape_of tree))
      fit = files_fit b (node_at (shape_of tree)) naming on.whole.of.of.pictures (λ i y e k. (fit_file y (all_fit.nodes i y e).1 k).size)
        where
          all_fit : IsFitStore segments (store_of segments disk)
          all_fit = disks_fit disk segments on.whole.grammar on.whole.whole

      used_here : (y : Sector) → HoldsBytes b y → IsInUse segments b y
      used_here y holds = subst (λ m. IsInUse m b y) on.whole.of.count (in_use b (shape_of tree) naming on.whole.of.of fit y holds)

      -- it lies on the disk
      lies : (y : Sector) → Contains (looks p b) y → sector_at segments (number_of y) ≡ Some (as_placed y)
      lies (InodeAt i) c = ap sector_in (region_found segments (region.Inode i) few (in_inode segments i (each_inside segments (looks p b) looks_inside (InodeAt i) c)))
      lies (DirectoryAt k part) c =
          ap sector_in (region_found segments (region.Small k part) few (in_small segments k part (each_inside segments (looks p b) looks_inside (DirectoryAt k part) c)
          (lines_are_sound.parts operation h b n time (DirectoryAt k part) c)))
      lies (SegmentAt k) c =
          ap sector_in (region_found segments (region.Segment k) few (in_segment segments k (subst (λ m. k < m) on.whole.of.count (lines_look_in_segments b (shape_of tree) naming on.whole.of.of operation h n time hand k c))))
      lies (BytesAt k part) c = let u = used_here (BytesAt k part) (lines_look operation h b n time (BytesAt k part) c) in ap sector_in (region_found segments (region.Small k part) few (in_small segments k part u.1 u.2))
      lies (LargeAt g part) c = let u = used_here (LargeAt g part) (lines_look operation h b n time (LargeAt g part) c) in ap sector_in (region_found segments (region.Large g part) few (in_large segments g part u.1 u.2))

      here : sector_at segments (number_of x) ≡ Some (as_placed x)
      here = lies x looked

      -- the cover with which it is needed is its cover by the naming
      of_count : AreOfDisk sight.cached sight.held sight.all (shape_of tree).segments disk
      of_count = subst (λ k. AreOfDisk sight.cached sight.held sight.all k disk) (sym on.whole.of.count) of

      nodes_are : nodes ≡ looked_nodes p known
      nodes_are = subst (λ k. nodes_looked_at k p sight ≡ looked_nodes p known) on.whole.of.count (numbers_tell operation sight.cached sight.held sight.all disk (shape_of tree) n time of_count on.below).1

      lock_is : lock ≡ by_naming.cover_of naming (as_placed x)
      lock_is =
          ap (λ o. cover_of nodes sight (unwrap_or o x)) here
          ∙ sym (same_among sight nodes x)
          ∙ ap (λ l. cover_of l sight x) nodes_are
          ∙ covers_among_are_true operation sight.cached sight.held sight.all disk (shape_of tree) n time of_count on.below x (inr (traces_meet p known ∙ comes.met_is))
          ∙ ap (λ m. by_naming.cover_of m x) on.alike
          ∙ same_cover naming x

      segment_held : (k : ℕ) → x ≡ SegmentAt k → is_held sight.held k ≡ true
      segment_held k e = go (bitmap_of sight.held k) refl
          (held_there segments s.core.servers w tree a set on t.cached stood long sorted (inside under is) comes.bitmaps k (inside under is k has_it) has_it)
        where
          has_it : has_lock set (Segment k) ≡ true
          has_it = ap (has_lock set) (sym (lock_is ∙ ap (λ y. by_naming.cover_of naming (as_placed y)) e)) ∙ has

          go : (o : Option Bitmap) → bitmap_of sight.held k ≡ o → is_some o ≡ true → is_held sight.held k ≡ true
          go None q i = absurd (cc)
          go (Some bits) q i = rw q refl

      -- what is cached under a cover in the set is at hand
      at_hand_if : (y : Sector) → x ≡ y → (block : List ℕ) → value_at sight.cached (number_of y) ≡ Some block → is_at_hand known y ≡ true
      at_hand_if (InodeAt i) e block q = rw q refl
      at_hand_if (DirectoryAt k part) e block q = rw q refl
      at_hand_if (SegmentAt k) e block q = segment_held k e
      at_hand_if (BytesAt k part) e block q = rw q refl
      at_hand_if (LargeAt g part) e block q = rw q refl

      cover_is : (v : Bool) (c : LockId) (kept : CachedSector) (slot : Slot) (page : Page) → IsCachedAs v c (Some kept) slot page → kept.cover ≡ c
      cover_is true c kept slot page i = i.0
      cover_is false c kept slot page i = i.0

      absent : lock ≡ cover w (number_of x) → value_at cache (number_of x) ≡ None
      absent true_cover = go (value_at cache (number_of x)) refl
        where
          go : (o : Option CachedSector) → value_at cache (number_of x) ≡ o → o ≡ None
          go None q = refl
          go (Some kept) q =
              let its : kept.cover ≡ cover w (number_of x) = cover_is (has_version w (number_of x)) (cover w (number_of x)) kept (w.slot a (number_of x)) (w.page a (number_of x))
              (subst (λ o. IsCachedAs (has_version w (number_of x)) (cover w (number_of x)) o (w.slot a (number_of x)) (w.page a (number_of x))) q (t.cached a (number_of x))) in
              absurd (false≢true (sym missing.1 ∙ at_hand_if x refl kept.block (used_has set (number_of x) cache sorted kept q (ap (has_lock set) (its ∙ sym true_cover) ∙ has))))

      -- bytes of files were written
      on_now : (y : Sector) → HoldsBytes b y → HoldsBytes (store_on segments (now_of w)) y
      on_now y f = record { inode = f.inode; node = f.node; is = sym (on.nodes f.inode) ∙ f.is; kind = f.kind; index = f.index; below = f.below; here = f.here }

      filled : (y : Sector) → x ≡ y → sector_at segments (number_of y) ≡ Some (as_placed y) → has_version w (number_of y) ≡ false → is_free w.first (settled w.history) (number_of y) ≡ false
      filled (InodeAt i) e at plain = absurd (false≢true (sym plain ∙ on.follows.kinds (number_of (InodeAt i)) (InodeAt i) at))
      filled (SegmentAt k) e at plain = absurd (false≢true (sym plain ∙ on.follows.kinds (number_of (SegmentAt k)) (SegmentAt k) at))
      filled (DirectoryAt k part) e at plain = absurd (false≢true (sym plain ∙ on.follows.kinds (number_of (DirectoryAt k part)) (DirectoryAt k part) at ∙ ap is_directory_use (sym (on.uses k))
          ∙ lines_need_directories operation sight.cached sight.held sight.all segments n time disk (shape_of tree) naming k part of on.whole (comes.met_is ∙ ap (λ z. Needs z) e)))
      filled (BytesAt k part) e at plain = on.follows.filled (BytesAt k part) (on_now (BytesAt k part) (lines_look operation h b n time (BytesAt k part) (subst (Contains (looks p b)) e looked)))
      filled (LargeAt g part) e at plain = on.follows.filled (LargeAt g part) (on_now (LargeAt g part) (lines_look operation h b n time (LargeAt g part) (subst (Contains (looks p b)) e looked)))

      pub comes_in : cover_needed (stage s.core a) (number_of x) ≡ Some lock → IsFetchable s w a (number_of x) lock
      comes_in needed = fetchable (number_of x) (as_placed x) lock set up none has needed here lock_is absent (filled x refl here)

    one_value : (m : ℕ) (c : LockId) (number : ℕ) (lock : LockId) → value_at ((m, c) ∷ []) number ≡ Some lock → (m ≡ number) × (c ≡ lock)
    one_value m c number lock e = go (is_at (nat_cmp number) m) refl e
      where
        go : (q : Bool) → is_at (nat_cmp number) m ≡ q → (if q then Some c else None) ≡ Some lock → (m ≡ number) × (c ≡ lock)
        go true i j = (found number m i, cc)
        go false i j = absurd (cc)

    pub needed_comes : (needs : List (ℕ × LockId)) → IsNeeded s.core.setting server under operation needs → (number : ℕ) (lock : LockId) → cover_needed (stage s.core a) number ≡ Some lock → value_at needs number ≡ Some lock →
        IsFetchable s w a number lock
    needed_comes needs l number lock needed e =
        let q = one_value (number_of l.sector) (needed_cover segments (nodes_of_line s.core.setting server under operation) (sight_in s.core.setting server under) l.sector) number lock (sym (ap (λ xs. value_at xs number) l.only) ∙ e) in
        subst (λ c. IsFetchable s w a number c) q.1 (subst (λ m. IsFetchable s w a m (needed_cover segments (nodes_of_line s.core.setting server under operation) (sight_in s.core.setting server under) l.sector)) q.0
        (comes_in l.sector l.comes l.covered (ap (cover_needed (stage s.core a)) q.0 ∙ needed ∙ ap Some (sym q.1))))

  pub all_come : (number : ℕ) (lock : LockId) → cover_needed (stage s.core a) number ≡ Some lock → IsFetchable s w a number lock
  all_come number lock needed = go (stage s.core a) refl needed
    where
      of_needs : (needs : List (ℕ × LockId)) → NeedsSectors s.core.setting s.core.locks a server needs → value_at needs number ≡ Some lock → IsFetchable s w a number lock
      of_needs needs l e = ⊎_elim
          (λ q. bitmap l.line.under l.line.is l.line.operation l.line.up l.line.served number lock needed (ap (λ xs. value_at xs number) q ∙ e))
          (λ r. needed_comes l.line.under l.line.is l.line.operation l.line.up l.line.served needs r number lock needed e) l.which

      go : (at : Option Stage) → stage s.core a ≡ at → cover_needed at number ≡ Some lock → IsFetchable s w a number lock
      go None i e = absurd (cc)
      go (Some (Asking need)) i e = absurd (cc)
      go (Some Moving) i e = absurd (cc)
      go (Some Stopping) i e = absurd (cc)
      go (Some (Growing needs seen)) i e = absurd (cc)
      go (Some (Clearing block)) i e = absurd (cc)
      go (Some (Finishing outcome)) i e = absurd (cc)
      go (Some (Fetching needs)) i e = of_needs needs (fetching_lines_have_plans s.core.setting s.core.locks a server needs i) e

pub needed_sectors_come_in : NeededSectorsComeIn
needed_sectors_come_in s w tree a number lock on t stood long sorted inside needed = all_come s w tree a on t stood long sorted inside number lock needed
