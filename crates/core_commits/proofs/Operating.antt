-- A finished line may be done: the locks that its outcome uses are in its set, which is held; what it changes and reads is at hand, and so cached; and what it claims is clean zeros.
use Rattle.std.proofs.Common.{◌≡◌, ◌≢◌, ◌≤◌, ◌<◌, ℕ, Bool, true, false, not, ◌||◌, if◌then◌else◌, IsTrue, is_some, List, [], ◌∷◌, Option, Some, None, map, refl, sym, ap, ◌∙◌, subst, ⊎_elim}
use Rattle.std.proofs.lemmas.Bool.{false≢true}
use Rattle.std.proofs.lemmas.List.Elements.{Contains-append_cases}
use Rattle.std.specs.List.{Contains, cons_option, filter_map, list_any}
use Rattle.std.specs.Map.{keys_of}
use Rattle.std.specs.Option.{IsSome, option_and_then, option_map}
use Rattle.frang_base.specs.Functions.{member}
use Rattle.frang_base.specs.Locks.{has_lock, same_lock}
use Rattle.frang_base.proofs.Basics.{lock_of, lock_same}
use Rattle.frang_base.specs.declared.bitmap.Bitmap.{Bitmap}
use Rattle.frang_base.specs.declared.change.Change.{Change}
use Rattle.frang_base.specs.declared.lock.LockId.{LockId}
use Rattle.frang_base.specs.declared.lock.Mode.{Mode}
use Rattle.frang_base.specs.declared.lock.Mode.TheVariants.{Shared, Sole}
use Rattle.frang_base.specs.declared.op.Op.{Op}
use Rattle.lock_definitions.specs.Calls.{serves}
use Rattle.lock_definitions.specs.Locks.{Locks, held}
use Rattle.sector_bytes.specs.Blocks.{zero_block}
use Rattle.sector_bytes.specs.Replays.{change_at}
use Rattle.sector_bytes.specs.SectorMaps.{Ascend, value_at}
use Rattle.sector_bytes.specs.Sectors.{Sectors}
use Rattle.cache_definitions.specs.declared.dirt.Dirt.{Dirt}
use Rattle.cache_definitions.specs.Caches.{Cache, CachedSector}
use Rattle.set_definitions.specs.Sets.{LockSet, lacks, mode_in, segments_in}
use Rattle.set_definitions.specs.Sets as sets
use Rattle.tree_definitions.specs.Touched.{shape_of}
use Rattle.tree_definitions.specs.Tree.{FileTree, node_at}
use Rattle.disk_definitions.specs.declared.region.Region.TheVariants as region
use Rattle.disk_definitions.specs.Ask.{Ask, AtHand, InodeAt, DirectoryAt, SegmentAt, BytesAt, LargeAt, Sector, looks, number_of}
use Rattle.disk_definitions.specs.Bitmaps.{bitmap_in}
use Rattle.disk_definitions.specs.ChangeLaws.{FilesFit}
use Rattle.disk_definitions.specs.Covers as by_naming
use Rattle.disk_definitions.specs.FitPlans.{IsFitStore}
use Rattle.disk_definitions.specs.FoundLocks.{finish_locks, owns_at_hand}
use Rattle.disk_definitions.specs.Held.{bitmap_of}
use Rattle.disk_definitions.specs.LookedAt.{looked_nodes}
use Rattle.disk_definitions.specs.Meets.{is_directory_use}
use Rattle.disk_definitions.specs.Missing.{is_at_hand}
use Rattle.disk_definitions.specs.Naming.{Naming}
use Rattle.disk_definitions.specs.Lines.{plan_of_line}
use Rattle.disk_definitions.specs.Numbered.{sector_at, sector_in}
use Rattle.disk_definitions.specs.Standing.{IsInGrammar}
use Rattle.disk_definitions.proofs.Counts.{files_fit}
use Rattle.disk_definitions.proofs.RegionLaws.{region_found}
use Rattle.plan_fit.proofs.DecodedEntries.{disks_fit}
use Rattle.plan_fit.proofs.FileNodes.{fit_file}
use Rattle.plan_fit.proofs.Kept.{in_large, in_small}
use Rattle.disk_definitions.specs.OnDisk.{AreOfDisk}
use Rattle.disk_definitions.specs.Plans.{Lock, Plan}
use Rattle.disk_definitions.specs.Regions.{sector_of}
use Rattle.disk_definitions.specs.Store.{Store, store_of}
use Rattle.disk_definitions.specs.Written.{Cached, at_hand, is_held}
use Rattle.plan_laws.proofs.Filled.{filter_from}
use Rattle.plan_laws.proofs.Covering.{all_has, has_cases, has_head, has_more, not_in_none}
use Rattle.line_locks.specs.Same.{AreWithin, Have}
use Rattle.line_locks.proofs.AtHand.{finish_locks_found}
use Rattle.line_locks.proofs.Numbers.{numbers_tell}
use Rattle.line_histories.specs.Done.{IsThere}
use Rattle.line_histories.specs.Guards.{IsMoved}
use Rattle.line_histories.specs.Files.{HoldsBytes}
use Rattle.line_histories.specs.Following.{KeepsKinds, is_versioned}
use Rattle.line_histories.specs.LinePlans.{hand_on, lock_in, plain, sector_plan, segment_lock, sole_in, store_on}
use Rattle.line_histories.specs.Looked.{IsInFile}
use Rattle.line_histories.specs.Outcomes.{IsOfAPlan}
use Rattle.line_histories.specs.Owned.{LooksWhereItLies}
use Rattle.line_histories.proofs.Filled.{IsInUse, in_use}
use Rattle.line_histories.proofs.Looked.{lines_look}
use Rattle.line_histories.proofs.Outcomes.{outcomes_of_plans}
use Rattle.line_histories.proofs.EditedKinds.{lines_keep}
use Rattle.line_histories.proofs.Lists.{has_map, member_has}
use Rattle.line_histories.specs.Trees.{MayNumber}
use Rattle.core_definitions.specs.Plans as plans
use Rattle.core_definitions.specs.Plans.{Sight, bitmap_at, nodes_looked_at}
use Rattle.core_definitions.specs.Servers.{Server}
use Rattle.core_definitions.specs.Settings.{Setting}
use Rattle.sector_world.specs.Histories.{Commit, Each, settled}
use Rattle.sector_world.specs.HistoryBytes.{is_free}
use Rattle.sector_world.specs.Kinds.{Good}
use Rattle.sector_world.specs.Logged.{now_of}
use Rattle.sector_world.specs.Plans.{Outcome}
use Rattle.sector_world.specs.Steps.Event.{Fetch}
use Rattle.sector_world.specs.World.{World, Page, CleanPage, Slot, Absent, Clean, Dirty, Up, cover, has_version}
use Rattle.sector_world.proofs.Every.{good_run}
use Rattle.core_world.specs.Ties.{AreCached, AreHeld, IsCachedAs, IsPageOf, IsSlotOf}
use Rattle.core_world.specs.Sights.{AreStood}
use Rattle.core_commits.specs.Commits.{AreClaimed, AreClaimedClean, IsAtHand, MayBeFetched, block_in, fetched_world}
use Rattle.core_commits.specs.Finished.{IsOutcomeNow, number_in, time_of}
use Rattle.core_commits.specs.Operations.{FinishedLinesMayBeDone, MayBeDone, operation_in}
use Rattle.core_commits.specs.Stages.{IsFinished, nodes_of_line, program_in, sight_in}
use Rattle.core_commits.specs.Standing.{AreSegmentsOf, AreWhole, IsOfLines, StandsWhole, tree_now, whole_disk}
use Rattle.core_commits.specs.Zeros.{FreePagesAreZeros}
use Rattle.core_commits.proofs.Claiming.{sectors_are_fetched, slot_else, slot_there}
use Rattle.core_commits.proofs.Committing.{outcomes_may_be_done}
use Rattle.core_commits.proofs.Needing.{served_mode, some_held}
use Rattle.core_commits.proofs.Sighting.{IsUsed, held_from, in_set, of_disk, used_from}
use Rattle.core_commits.proofs.Zeroing.{free_sectors_are_zeros}
use Rattle.core_laws.proofs.Membership.{contains_in, in_contains}

-- ---- locks

lock_from : (l : LockId) (locks : List LockId) → IsTrue (has_lock l locks) → Contains locks l
lock_from l [] e = absurd (cc)
lock_from l (k ∷ locks) e = go (same_lock k l) refl e (lock_from l locks)
  where
    go : (b : Bool) → same_lock k l ≡ b → IsTrue (if b then true else has_lock l locks) → (IsTrue (has_lock l locks) → Contains locks l) → Contains (k ∷ locks) l
    go true i j rest = subst (Contains (k ∷ locks)) (lock_of k l i) (has_head k locks)
    go false i j rest = has_more k l locks (rest j)

none_lacks : (set : LockSet) (needs : List Lock) → list_any (lacks set) needs ≡ false → (need : Lock) → Contains needs need → serves (mode_in set need.0) need.1 ≡ true
none_lacks set [] e need c = absurd (not_in_none need c)
none_lacks set (x ∷ needs) e need c = go (serves (mode_in set x.0) x.1) refl e (none_lacks set needs)
  where
    go : (b : Bool) → serves (mode_in set x.0) x.1 ≡ b → (not b || list_any (lacks set) needs) ≡ false →
        (list_any (lacks set) needs ≡ false → (y : Lock) → Contains needs y → serves (mode_in set y.0) y.1 ≡ true) → serves (mode_in set need.0) need.1 ≡ true
    go false i j rest = absurd (cc)
    go true i j rest = ⊎_elim (λ q. subst (λ (y : Lock). serves (mode_in set y.0) y.1 ≡ true) q i) (λ d. rest j need d) (has_cases x need needs c)

some_served : (o : Option Mode) (m : Mode) → serves o m ≡ true → is_some o ≡ true
some_served None m e = absurd (false≢true e)
some_served (Some mode) m e = refl

sole_served : (o : Option Mode) → serves o Sole ≡ true → o ≡ Some Sole
sole_served None e = absurd (false≢true e)
sole_served (Some Sole) e = refl
sole_served (Some Shared) e = absurd (false≢true e)

sole_from : (need : Lock) (l : LockId) → sole_in need ≡ Some l → need ≡ (l, Sole)
sole_from (k, Sole) l e = let same : k ≡ l = cc in ap (λ x. (x, Sole)) same
sole_from (k, Shared) l e = absurd (cc)

has_among : (locks : List LockId) (l : LockId) → Contains locks l → IsTrue (has_lock l locks)
has_among [] l i = absurd (not_in_none l i)
has_among (k ∷ locks) l i = ⊎_elim
    (λ e. ap (λ (b : Bool). if b then true else has_lock l locks) (subst (λ x. same_lock x l ≡ true) (sym e) (lock_same l)))
    (λ d. go (same_lock k l) (has_among locks l d)) (has_cases k l locks i)
  where
    go : (b : Bool) → IsTrue (has_lock l locks) → IsTrue (if b then true else has_lock l locks)
    go true e = refl
    go false e = e

-- the keys of held bitmaps are segments of the set
keys_from : (cached : Cached) (xs : List ℕ) (k : ℕ) → Contains (keys_of (filter_map (bitmap_at cached) xs)) k → Contains xs k
keys_from cached [] k i = absurd (not_in_none k i)
keys_from cached (x ∷ xs) k i = go (option_and_then bitmap_in (value_at cached (sector_of (region.Segment x)))) i (keys_from cached xs k)
  where
    go : (b : Option Bitmap) → Contains (keys_of (cons_option (option_map (λ y. (x, y)) b) (filter_map (bitmap_at cached) xs))) k → (Contains (keys_of (filter_map (bitmap_at cached) xs)) k → Contains xs k) → Contains (x ∷ xs) k
    go None j rest = has_more x k xs (rest j)
    go (Some b) j rest = ⊎_elim (λ e. subst (Contains (x ∷ xs)) e (has_head x xs)) (λ d. has_more x k xs (rest d)) (has_cases x k (keys_of (filter_map (bitmap_at cached) xs)) j)

-- ---- bytes that are read are of files, and have no version

module _ (segments : ℕ) (when : ℕ → ℕ) (w : World) (tree : FileTree) (on : StandsWhole segments w tree) (hint : List ℕ) (n : ℕ) (operation : Op) (o : Outcome)
    (comes : sector_plan segments when hint n operation (now_of w) ≡ Some o) where
  abbrev b : Store
  b = store_on segments (now_of w)

  plan : IsOfAPlan plan_of_line segments when hint n operation (now_of w) o
  plan = outcomes_of_plans plan_of_line segments when hint n operation (now_of w) o comes

  abbrev program : Ask Plan
  program = plan_of_line (hand_on segments (now_of w) hint) n (when n) operation

  grammar : IsInGrammar segments (now_of w)
  grammar = subst (λ k. IsInGrammar k (now_of w)) (sym on.now.stands.segments ∙ on.logical.count) on.now.stands.grammar

  fit : FilesFit (node_at (shape_of tree))
  fit = files_fit b (node_at (shape_of tree)) on.now.stands.naming on.logical.of.pictures (λ i y e k. (fit_file y (all_fit.nodes i y e).1 k).size)
    where
      all_fit : IsFitStore segments (store_of segments (now_of w))
      all_fit = disks_fit (now_of w) segments grammar on.now.whole

  kind : (x : Sector) (number : ℕ) → plain x ≡ Some number → IsInFile b x → (y : Sector) → sector_at segments number ≡ Some y → has_version w number ≡ false
  kind x number e i y at = on.follows.kinds number y at ∙ none_here x number e i y at
    where
      used : (z : Sector) → HoldsBytes b z → IsInUse segments b z
      used z holds = subst (λ m. IsInUse m b z) on.logical.count (in_use b (shape_of tree) on.now.stands.naming on.logical.of fit z holds)

      few : segments ≤ 64
      few = subst (λ k. k ≤ 64) on.logical.count on.logical.of.few

      none_here : (x : Sector) (number : ℕ) → plain x ≡ Some number → IsInFile b x → (y : Sector) → sector_at segments number ≡ Some y → is_versioned b y ≡ false
      none_here (InodeAt i) number e f y at = absurd (cc)
      none_here (DirectoryAt k part) number e f y at = absurd (cc)
      none_here (SegmentAt k) number e f y at = absurd (cc)
      none_here (BytesAt k part) number e f y at =
          let u = used (BytesAt k part) f in
          let same : sector_of (region.Small k part) ≡ number = cc in
          let here : sector_at segments number ≡ Some (DirectoryAt k part) = ap (sector_at segments) (sym same) ∙ ap sector_in (region_found segments (region.Small k part) few (in_small segments k part u.1 u.2)) in
          let is : DirectoryAt k part ≡ y = (let z : Some (DirectoryAt k part) ≡ Some y = sym here ∙ at in cc) in
          ap (is_versioned b) (sym is) ∙ ap is_directory_use u.0
      none_here (LargeAt g part) number e f y at =
          let u = used (LargeAt g part) f in
          let same : sector_of (region.Large g part) ≡ number = cc in
          let here : sector_at segments number ≡ Some (LargeAt g part) = ap (sector_at segments) (sym same) ∙ ap sector_in (region_found segments (region.Large g part) few (in_large segments g part u.1 u.2)) in
          let is : LargeAt g part ≡ y = (let z : Some (LargeAt g part) ≡ Some y = sym here ∙ at in cc) in
          ap (is_versioned b) (sym is)

  pub lines_read_bytes : LooksWhereItLies segments on.now.stands.naming o → (s : ℕ) → IsTrue (member s o.reads) → has_version w s ≡ false
  lines_read_bytes lies s e =
      let r = filter_from plain (looks program b) s (member_has s (filter_map plain (looks program b)) (subst (λ (q : Outcome). member s q.reads ≡ true) plan.comes.outcome e)) in
      let at = lies.read s e in
      kind r.0 s r.2 (lines_look operation (hand_on segments (now_of w) hint) b n (when n) r.0 r.1) at.sector at.here

-- ---- a finished line

module _ (setting : Setting) (when : ℕ → ℕ) (locks : Locks) (servers : ℕ → Server) (a : ℕ) (w : World) (first_tree : FileTree) (numbers : List ℕ) (outcome : plans.Outcome) (claimed : List ℕ)
    (lines : IsOfLines setting.segments when first_tree numbers w) (on : StandsWhole setting.segments w (tree_now when first_tree w)) (g : Good w) (zeros : FreePagesAreZeros w) (t : AreCached servers w)
    (holds : AreHeld locks w) (stood : AreStood servers w) (long : AreWhole (servers a).cache) (sorted : Ascend (servers a).cache) (up : w.phase a ≡ Up) (f : IsFinished setting locks a (servers a) outcome)
    (inside : AreSegmentsOf setting.segments f.line.under.set)
    (out : IsOutcomeNow setting.segments when w (sight_in setting (servers a) f.line.under) on.now.stands.naming (number_in setting f.line.under.line.number) f.line.operation f.finish)
    (number : w.last a < number_in setting f.line.under.line.number) (may : MayNumber numbers (number_in setting f.line.under.line.number) first_tree)
    (others : Each (λ e. e.op ≢ number_in setting f.line.under.line.number) (settled w.history))
    (all : AreClaimed (operation_in w a (number_in setting f.line.under.line.number) claimed (keys_of (sight_in setting (servers a) f.line.under).held) f.line.operation out.o) claimed)
    (clean : AreClaimedClean (servers a).cache (operation_in w a (number_in setting f.line.under.line.number) claimed (keys_of (sight_in setting (servers a) f.line.under).held) f.line.operation out.o)) where
  abbrev segments : ℕ
  segments = setting.segments

  abbrev set : LockSet
  set = f.line.under.set

  abbrev cache : Cache
  cache = (servers a).cache

  abbrev sight : Sight
  sight = sight_in setting (servers a) f.line.under

  abbrev known : AtHand
  known = at_hand sight.cached sight.held

  abbrev p : Ask Plan
  p = program_in setting (servers a) f.line.under f.line.operation

  abbrev n : ℕ
  n = number_in setting f.line.under.line.number

  abbrev time : ℕ
  time = time_of setting f.line.under.line.number

  abbrev hint : List ℕ
  hint = keys_of sight.held

  abbrev disk : Sectors
  disk = whole_disk w

  abbrev shape : FileTree
  shape = shape_of (tree_now when first_tree w)

  abbrev naming : Naming
  naming = on.now.stands.naming

  abbrev o : Outcome
  o = out.o

  abbrev v : World
  v = fetched_world w a claimed

  abbrev c : Commit
  c = operation_in w a n claimed hint f.line.operation out.o

  -- ---- the locks

  of : AreOfDisk sight.cached sight.held sight.all segments disk
  of = of_disk segments servers w (tree_now when first_tree w) a set on t stood long sorted inside f.comes.bitmaps

  of_count : AreOfDisk sight.cached sight.held sight.all shape.segments disk
  of_count = subst (λ k. AreOfDisk sight.cached sight.held sight.all k disk) (sym on.whole.of.count) of

  nodes_are : nodes_of_line setting (servers a) f.line.under f.line.operation ≡ looked_nodes p known
  nodes_are = subst (λ k. nodes_looked_at k p sight ≡ looked_nodes p known) on.whole.of.count (numbers_tell f.line.operation sight.cached sight.held sight.all disk shape n time of_count on.below).1

  abbrev found : List Lock
  found = finish_locks (owns_at_hand sight.cached) sight.held (looked_nodes p known) f.finish.reply f.finish.edits

  none_lacking : list_any (lacks set) found ≡ false
  none_lacking = subst (λ nodes. list_any (lacks set) (finish_locks (owns_at_hand sight.cached) sight.held nodes f.finish.reply f.finish.edits) ≡ false) nodes_are f.has_locks

  back : AreWithin f.finish.locks found
  back = (finish_locks_found f.line.operation sight.cached sight.held sight.all disk shape n time of_count on.below f.finish f.comes.met_is).back

  -- a lock of the plan is in the set
  in_the_set : (need : Lock) → Contains f.finish.locks need → sets.has_lock set need.0 ≡ true
  in_the_set need i = go need (all_has (Have found) f.finish.locks back need i)
    where
      go : (need : Lock) → Have found need → sets.has_lock set need.0 ≡ true
      go (l, Shared) q = some_served (mode_in set l) q.0 (none_lacks set found none_lacking (l, q.0) q.1)
      go (l, Sole) q = some_served (mode_in set l) Sole (none_lacks set found none_lacking (l, Sole) q)

  uses : (l : LockId) → IsTrue (has_lock l o.uses) → w.holds a l ≢ None
  uses l e none = some_held locks a set f.line.served l
      (⊎_elim from_plan from_held (Contains-append_cases (map lock_in f.finish.locks) (map segment_lock hint) l (subst (λ xs. Contains xs l) out.says.uses (lock_from l o.uses e)))) (sym (holds.holds a l) ∙ none)
    where
      from_plan : Contains (map lock_in f.finish.locks) l → sets.has_lock set l ≡ true
      from_plan i = let r = has_map lock_in f.finish.locks l i in ap (sets.has_lock set) (sym r.2) ∙ in_the_set r.0 r.1

      from_held : Contains (map segment_lock hint) l → sets.has_lock set l ≡ true
      from_held i = let r = has_map segment_lock hint l i in ap (sets.has_lock set) (sym r.2) ∙ in_set set r.0 (keys_from sight.cached (segments_in set) r.0 r.1)

  alone : (l : LockId) → IsTrue (has_lock l o.alone) → w.holds a l ≡ Some Sole
  alone l e =
      let r = filter_from sole_in f.finish.locks l (subst (λ xs. Contains xs l) out.says.alone (lock_from l o.alone e)) in
      let q : Have found (l, Sole) = subst (Have found) (sole_from r.0 l r.2) (all_has (Have found) f.finish.locks back r.0 r.1) in
      holds.holds a l ∙ sole_served (held locks a l) (served_mode locks a set f.line.served l Sole (sole_served (mode_in set l) (none_lacks set found none_lacking (l, Sole) q)))

  -- ---- what is at hand is cached

  cached_at : (s : ℕ) → IsThere sight.cached sight.held s → is_some (value_at cache s) ≡ true
  cached_at s there = go there.sector there.here there.there
    where
      by : (number : ℕ) (block : List ℕ) → s ≡ number → value_at sight.cached number ≡ Some block → is_some (value_at cache s) ≡ true
      by number block e q = let u : IsUsed set number cache block = used_from set number cache sorted block q in ap (λ m. is_some (value_at cache m)) e ∙ ap is_some u.there

      held_block : (k : ℕ) → s ≡ number_of (SegmentAt k) → (bits : Option Bitmap) → bitmap_of sight.held k ≡ bits → is_held sight.held k ≡ true → is_some (value_at cache s) ≡ true
      held_block k e None q i = absurd (let z : is_held sight.held k ≡ false = rw q refl in false≢true (sym z ∙ i))
      held_block k e (Some bits) q i = from (value_at sight.cached (sector_of (region.Segment k))) refl (held_from sight.cached k (segments_in set) bits q).1
        where
          from : (found : Option (List ℕ)) → value_at sight.cached (sector_of (region.Segment k)) ≡ found → option_and_then bitmap_in found ≡ Some bits → is_some (value_at cache s) ≡ true
          from None j m = absurd (cc)
          from (Some block) j m = by (sector_of (region.Segment k)) block e j

      go : (x : Sector) → s ≡ number_of x → is_at_hand known x ≡ true → is_some (value_at cache s) ≡ true
      go (SegmentAt k) e i = held_block k e (bitmap_of sight.held k) refl i
      go (InodeAt k) e i = found_in (value_at sight.cached (sector_of (region.Inode k))) refl
        where
          found_in : (found : Option (List ℕ)) → value_at sight.cached (sector_of (region.Inode k)) ≡ found → is_some (value_at cache s) ≡ true
          found_in (Some block) q = by (sector_of (region.Inode k)) block e q
          found_in None q = absurd (let z : is_at_hand known (InodeAt k) ≡ false = rw q refl in false≢true (sym z ∙ i))
      go (DirectoryAt k part) e i = found_in (value_at sight.cached (sector_of (region.Small k part))) refl
        where
          found_in : (found : Option (List ℕ)) → value_at sight.cached (sector_of (region.Small k part)) ≡ found → is_some (value_at cache s) ≡ true
          found_in (Some block) q = by (sector_of (region.Small k part)) block e q
          found_in None q = absurd (let z : is_at_hand known (DirectoryAt k part) ≡ false = rw q refl in false≢true (sym z ∙ i))
      go (BytesAt k part) e i = found_in (value_at sight.cached (sector_of (region.Small k part))) refl
        where
          found_in : (found : Option (List ℕ)) → value_at sight.cached (sector_of (region.Small k part)) ≡ found → is_some (value_at cache s) ≡ true
          found_in (Some block) q = by (sector_of (region.Small k part)) block e q
          found_in None q = absurd (let z : is_at_hand known (BytesAt k part) ≡ false = rw q refl in false≢true (sym z ∙ i))
      go (LargeAt k part) e i = found_in (value_at sight.cached (sector_of (region.Large k part))) refl
        where
          found_in : (found : Option (List ℕ)) → value_at sight.cached (sector_of (region.Large k part)) ≡ found → is_some (value_at cache s) ≡ true
          found_in (Some block) q = by (sector_of (region.Large k part)) block e q
          found_in None q = absurd (let z : is_at_hand known (LargeAt k part) ≡ false = rw q refl in false≢true (sym z ∙ i))

  -- ---- what is claimed may be fetched

  claims_plain : (s : ℕ) → o.claims s ≡ true → has_version w s ≡ false
  claims_plain s e = let m = out.keeps.claimed s e in on.follows.kinds s (DirectoryAt m.block m.part) m.here ∙ ap is_directory_use m.free

  claims_free : (s : ℕ) → o.claims s ≡ true → is_free w.first (settled w.history) s ≡ true
  claims_free s e = let m = out.keeps.claimed s e in on.follows.free s (DirectoryAt m.block m.part) m.here m.free

  claims_held : (s : ℕ) → o.claims s ≡ true → w.holds a (cover w s) ≢ None
  claims_held s e none = go (o.moves s) refl (out.keeps.claimed s e).moved
    where
      go : (new : Option LockId) → o.moves s ≡ new → is_some new ≡ true → ⊥
      go None i j = false≢true j
      go (Some new) i j =
          let m : IsMoved segments naming o.alone s new = out.keeps.moved s new i in
          let sole : w.holds a (cover w s) ≡ Some Sole = ap (w.holds a) (on.follows.covers _ naming on.logical.of s m.sector m.here) ∙ alone (by_naming.cover_of naming m.sector) (has_among o.alone (by_naming.cover_of naming m.sector) m.old) in
          let z : None ≡ Some Sole = sym none ∙ sole in absurd (cc)

  plain_slot : (s : ℕ) (x : Option CachedSector) (slot : Slot) (page : Page) → IsCachedAs false (cover w s) x slot page → slot ≡ Absent
  plain_slot s None slot page i = i.0
  plain_slot s (Some kept) slot page i = i.1

  fetched : MayBeFetched w a claimed
  fetched s i =
      let e : o.claims s ≡ true = all.only s i in
      (plain_slot s (value_at cache s) (w.slot a s) (w.page a s) (subst (λ x. IsCachedAs x (cover w s) (value_at cache s) (w.slot a s) (w.page a s)) (claims_plain s e) (t a s)), claims_held s e)

  good_then : Good v
  good_then = good_run w (map (Fetch a) claimed) v (sectors_are_fetched w a claimed up all.once fetched) g

  -- ---- the kinds of what it changes and writes

  kinds : KeepsKinds w.logged (settled w.history) c
  kinds = lines_keep segments when w.opening first_tree numbers (settled w.history) c w.logged lines.times lines.stands (out.comes, lines.legal.live) (may, others, lines.distinct) (λ s. refl) on.follows.kinds

  -- ---- what it changes, reads and claims is at hand

  slot_some : (s : ℕ) (x : Option CachedSector) (slot : Slot) (page : Page) → is_some x ≡ true → IsCachedAs true (cover w s) x slot page → slot ≢ Absent
  slot_some s None slot page some i e = absurd (false≢true some)
  slot_some s (Some kept) slot page some i e = go kept.dirt i.1
    where
      go : (dirt : Option Dirt) → IsSlotOf dirt kept.block slot → ⊥
      go None j = let z : Absent ≡ Clean kept.block = sym e ∙ j in absurd (cc)
      go (Some dirt) j = let z : Absent ≡ Dirty kept.block j.0 = sym e ∙ j.1 in absurd (cc)

  changed : (s : ℕ) (x : Change) → change_at o.changes s ≡ Some x → v.slot a s ≢ Absent
  changed s x e = by (o.claims s) refl (kinds.named s (ap is_some e))
    where
      there : is_some (value_at cache s) ≡ true
      there = cached_at s (out.says.looked s (out.keeps.based s x e).0)

      by : (b : Bool) → o.claims s ≡ b → (if b then true else has_version w s) ≡ true → v.slot a s ≢ Absent
      by true q i none = let z : Absent ≡ Clean (w.disk s) = sym none ∙ slot_there w.disk a claimed w.slot s all.once (contains_in claimed s (all.all s q)) in absurd (cc)
      by false q i none =
          slot_some s (value_at cache s) (w.slot a s) (w.page a s) there (subst (λ b. IsCachedAs b (cover w s) (value_at cache s) (w.slot a s) (w.page a s)) i (t a s))
          (sym (slot_else w.disk a claimed w.slot a s (λ j m. false≢true (sym q ∙ all.only s (in_contains claimed s m)))) ∙ none)

  page_some : (s : ℕ) (x : Option CachedSector) (slot : Slot) (page : Page) → is_some x ≡ true → IsCachedAs false (cover w s) x slot page → IsSome (block_in page)
  page_some s None slot page some i = absurd (false≢true some)
  page_some s (Some kept) slot page some i = go kept.dirt i.2
    where
      go : (dirt : Option Dirt) → IsPageOf dirt kept.block page → IsSome (block_in page)
      go None j = ap (λ x. is_some (block_in x)) j
      go (Some dirt) j = ap (λ x. is_some (block_in x)) j.1

  read : (s : ℕ) → IsTrue (member s o.reads) → IsSome (block_in (w.page a s))
  read s e = page_some s (value_at cache s) (w.slot a s) (w.page a s) (cached_at s (out.says.read s e))
      (subst (λ b. IsCachedAs b (cover w s) (value_at cache s) (w.slot a s) (w.page a s)) (reads_plain s e) (t a s))
    where
      reads_plain : (s : ℕ) → IsTrue (member s o.reads) → has_version w s ≡ false
      reads_plain s e = lines_read_bytes segments when w (tree_now when first_tree w) on hint n f.line.operation o out.comes out.lies s e

  cleared : (s : ℕ) → o.claims s ≡ true → w.page a s ≡ CleanPage zero_block
  cleared s e =
      let k = clean s e in
      let i : IsCachedAs false (cover w s) (Some k.0) (w.slot a s) (w.page a s) =
      subst (λ x. IsCachedAs x (cover w s) (Some k.0) (w.slot a s) (w.page a s)) (claims_plain s e) (subst (λ x. IsCachedAs (has_version w s) (cover w s) x (w.slot a s) (w.page a s)) k.1 (t a s)) in
      subst (λ d. IsPageOf d k.0.block (w.page a s)) k.2 i.2 ∙ ap CleanPage (free_sectors_are_zeros servers w t zeros a s k.0 k.1 (claims_plain s e) (claims_free s e))

  hand : IsAtHand v a o
  hand = record { uses = uses; alone = alone; changed = changed; read = read; cleared = cleared }

  pub may_be_done : MayBeDone w a n claimed hint f.line.operation o
  may_be_done = record {
    fetched = fetched;
    good = good_then;
    can = outcomes_may_be_done segments v a n hint f.line.operation shape naming o good_then up number on.logical out.keeps out.owns out.lies on.follows hand kinds;
  }

pub finished_lines_may_be_done : FinishedLinesMayBeDone
finished_lines_may_be_done setting when locks servers a w first_tree numbers outcome claimed lines on g zeros t holds stood long sorted up f inside out number may others all clean =
    may_be_done setting when locks servers a w first_tree numbers outcome claimed lines on g zeros t holds stood long sorted up f inside out number may others all clean
