-- A finished line is an outcome over the logical sectors: it is one over the one disk, which has the same sectors with versions, and zeros at unused blocks.
use Rattle.std.proofs.Common.{◌≡◌, ◌<◌, ◌^◌, ℕ, false, IsTrue, List, [], ◌∷◌, Option, Some, None, refl, sym, ap, ◌∙◌, subst, ⊎_elim}
use Rattle.std.specs.List.{AllByRecursion, cons_option, filter_map}
use Rattle.std.specs.List.Sorted.{IsStrictlySortedBy}
use Rattle.std.specs.Map.{keys_of}
use Rattle.std.specs.Option.{option_and_then, option_map}
use Rattle.std.specs.Ordering.{nat_cmp}
use Rattle.std.specs.declared.cmp.Ordering.TheVariants.{Less}
use Rattle.frang_base.specs.declared.bitmap.Bitmap.{Bitmap}
use Rattle.frang_base.specs.declared.lock.LockId.{LockId}
use Rattle.frang_base.specs.declared.lock.LockId.TheVariants.{Log, Segment, Node}
use Rattle.frang_base.specs.declared.op.Op.{Op}
use Rattle.lock_definitions.specs.Locks.{Locks}
use Rattle.lock_definitions.specs.Order.{lock_cmp}
use Rattle.sector_bytes.specs.Blocks.{zero_block}
use Rattle.sector_bytes.specs.SectorMaps.{Ascend, value_at}
use Rattle.set_definitions.specs.Sets.{segment_of, segments_in}
use Rattle.tree_definitions.specs.Tree.{FileTree}
use Rattle.tree_definitions.specs.Touched.{shape_of}
use Rattle.disk_definitions.specs.declared.region.Region.TheVariants as region
use Rattle.disk_definitions.specs.Allowed.{IsAllowed}
use Rattle.disk_definitions.specs.Ask.{Has, Sector, BytesAt, DirectoryAt, InodeAt, LargeAt, SegmentAt, meet}
use Rattle.disk_definitions.specs.Bitmaps.{bitmap_in}
use Rattle.disk_definitions.specs.Lines.{plan_of_line}
use Rattle.disk_definitions.specs.Meets.{is_directory_use}
use Rattle.disk_definitions.specs.Naming.{Naming}
use Rattle.disk_definitions.specs.Numbered.{sector_at}
use Rattle.disk_definitions.specs.OnDisk.{AreOfDisk}
use Rattle.disk_definitions.specs.Plans.Plan.{Finishes}
use Rattle.disk_definitions.specs.Regions.{sector_of}
use Rattle.disk_definitions.specs.Store.{Store}
use Rattle.disk_definitions.specs.Store.Use.{Fresh}
use Rattle.disk_definitions.specs.Written.{Cached, at_hand, hand_of}
use Rattle.line_laws.specs.Laws.{HasPath}
use Rattle.core_definitions.specs.Plans as plans
use Rattle.core_definitions.specs.Plans.{Sight, bitmap_at}
use Rattle.core_definitions.specs.Servers.{Server}
use Rattle.core_definitions.specs.Settings.{Setting}
use Rattle.sector_world.specs.Histories.{settled}
use Rattle.sector_world.specs.HistoryBytes.{is_free}
use Rattle.sector_world.specs.Kinds.{Good}
use Rattle.sector_world.specs.Logged.{now_of}
use Rattle.sector_world.specs.Plans.{Outcome, looks}
use Rattle.sector_world.specs.World.{World, has_version}
use Rattle.line_histories.specs.Done.{IsOutcomeOf}
use Rattle.line_histories.specs.Following.{is_versioned}
use Rattle.line_histories.specs.LinePlans.{sector_plan, store_on}
use Rattle.line_histories.specs.Owned.{IsCoveredAt, LooksWhereItLies}
use Rattle.line_histories.proofs.Done.{line_done_is_made, line_done_is_outcome}
use Rattle.line_histories.proofs.Framed.{lines_framed}
use Rattle.line_histories.proofs.Guarded.{lines_guarded}
use Rattle.line_histories.proofs.Lying.{lines_lie}
use Rattle.line_histories.proofs.Owned.{lines_own}
use Rattle.line_sectors.specs.Looks.{IsOfFresh}
use Rattle.line_sectors.proofs.Versions.{lines_look_at_versions}
use Rattle.core_world.specs.Ties.{AreCached}
use Rattle.core_world.specs.Sights.{AreStood, shown_at}
use Rattle.core_commits.specs.Finished.{FinishedLinesAreOutcomes, IsOutcomeNow, number_in, time_of}
use Rattle.core_commits.specs.Stages.{IsFinished, sight_in}
use Rattle.core_commits.specs.Standing.{AreSegmentsOf, AreWhole, StandsWhole, whole_block, whole_disk}
use Rattle.core_commits.proofs.Claiming.{plain_is_zero}
use Rattle.core_commits.proofs.OneDisk.{stays_whole}
use Rattle.core_commits.proofs.Sighting.{of_disk}
use Rattle.disk_definitions.proofs.WrittenFields.{length_zeros}

-- ---- the held segments ascend

segments_above : (segment : ℕ) (locks : List LockId) → AllByRecursion (λ lock. lock_cmp (Segment segment) lock ≡ Less) locks → AllByRecursion (λ k. nat_cmp segment k ≡ Less) (filter_map segment_of locks)
segments_above segment [] all = tt
segments_above segment (Log n ∷ locks) all = segments_above segment locks all.1
segments_above segment (Segment n ∷ locks) all = (all.0, segments_above segment locks all.1)
segments_above segment (Node n ∷ locks) all = segments_above segment locks all.1

segments_sorted : (locks : List LockId) → IsStrictlySortedBy lock_cmp locks → IsStrictlySortedBy nat_cmp (filter_map segment_of locks)
unfolding IsStrictlySortedBy
segments_sorted [] s = tt
segments_sorted (Log n ∷ locks) s = segments_sorted locks s.1
segments_sorted (Segment n ∷ locks) s = (segments_above n locks s.0, segments_sorted locks s.1)
segments_sorted (Node n ∷ locks) s = segments_sorted locks s.1

module _ (cached : Cached) where
  held_above : (k : ℕ) (xs : List ℕ) → AllByRecursion (λ j. nat_cmp k j ≡ Less) xs → AllByRecursion (λ j. nat_cmp k j ≡ Less) (keys_of (filter_map (bitmap_at cached) xs))
  held_above k [] all = tt
  held_above k (x ∷ xs) all = go (option_and_then bitmap_in (value_at cached (sector_of (region.Segment x)))) (held_above k xs all.1)
    where
      go : (o : Option Bitmap) → AllByRecursion (λ j. nat_cmp k j ≡ Less) (keys_of (filter_map (bitmap_at cached) xs)) →
          AllByRecursion (λ j. nat_cmp k j ≡ Less) (keys_of (cons_option (option_map (λ b. (x, b)) o) (filter_map (bitmap_at cached) xs)))
      go None rest = rest
      go (Some b) rest = (all.0, rest)

  held_sorted : (xs : List ℕ) → IsStrictlySortedBy nat_cmp xs → IsStrictlySortedBy nat_cmp (keys_of (filter_map (bitmap_at cached) xs))
  unfolding IsStrictlySortedBy
  held_sorted [] s = tt
  held_sorted (x ∷ xs) s = go (option_and_then bitmap_in (value_at cached (sector_of (region.Segment x)))) (held_sorted xs s.1)
    where
      go : (o : Option Bitmap) → IsStrictlySortedBy nat_cmp (keys_of (filter_map (bitmap_at cached) xs)) →
          IsStrictlySortedBy nat_cmp (keys_of (cons_option (option_map (λ b. (x, b)) o) (filter_map (bitmap_at cached) xs)))
      go None rest = rest
      go (Some b) rest = (held_above x xs s.0, rest)

-- ---- what is looked at

module _ (segments : ℕ) (when : ℕ → ℕ) (w : World) (tree : FileTree) (on : StandsWhole segments w tree) (g : Good w) where
  abbrev naming : Naming
  naming = on.now.stands.naming

  abbrev old : Store
  old = store_on segments (whole_disk w)

  abbrev new : Store
  new = store_on segments (now_of w)

  -- by what the one disk says and by what the logical sectors say
  same_kind : (x : Sector) → is_versioned old x ≡ is_versioned new x
  same_kind (InodeAt i) = refl
  same_kind (SegmentAt k) = refl
  same_kind (DirectoryAt k p) = ap is_directory_use (on.uses k)
  same_kind (BytesAt k p) = ap is_directory_use (on.uses k)
  same_kind (LargeAt k p) = refl

  fresh_same : (s : ℕ) (x : Sector) → sector_at segments s ≡ Some x → IsOfFresh old x → whole_disk w s ≡ now_of w s
  fresh_same s (InodeAt i) at f = absurd f
  fresh_same s (SegmentAt k) at f = absurd f
  fresh_same s (BytesAt k p) at f = absurd f
  fresh_same s (LargeAt k p) at f = absurd f
  fresh_same s (DirectoryAt k p) at f =
      let unused : new.use_of k ≡ Fresh = sym (on.uses k) ∙ f in
      let plain : has_version w s ≡ false = on.follows.kinds s (DirectoryAt k p) at ∙ ap is_directory_use unused in
      ap (λ v. whole_block (shown_at v (is_free w.first (settled w.history) s) (now_of w s) (w.truth s))) plain
      ∙ ap (λ v. whole_block (shown_at false v (now_of w s) (w.truth s))) (on.follows.free s (DirectoryAt k p) at unused)
      ∙ stays_whole zero_block (length_zeros 512)
      ∙ sym (plain_is_zero w g s plain)

  module _ (hint : List ℕ) (n : ℕ) (operation : Op) (o : Outcome) (comes : sector_plan segments when hint n operation (whole_disk w) ≡ Some o) where
    lies : LooksWhereItLies segments naming o
    lies = lines_lie segments when hint n operation (whole_disk w) (shape_of tree) naming o on.whole comes

    pub agree : (s : ℕ) → IsTrue (looks o s) → whole_disk w s ≡ now_of w s
    agree s look =
        let c : IsCoveredAt segments naming o.uses s = lies.looked s look in
        ⊎_elim (λ v. on.same s (on.follows.kinds s c.sector c.here ∙ sym (same_kind c.sector) ∙ v)) (λ f. fresh_same s c.sector c.here f)
        (lines_look_at_versions segments when hint n operation (whole_disk w) (shape_of tree) naming o on.whole comes s c.sector look c.here)

    pub comes_now : sector_plan segments when hint n operation (now_of w) ≡ Some o
    comes_now = lines_framed segments when hint n operation (whole_disk w) (now_of w) o comes agree

-- ---- a finished line

module _ (setting : Setting) (when : ℕ → ℕ) (locks : Locks) (servers : ℕ → Server) (a : ℕ) (w : World) (tree : FileTree) (outcome : plans.Outcome)
    (on : StandsWhole setting.segments w tree) (g : Good w) (t : AreCached servers w) (stood : AreStood servers w) (long : AreWhole (servers a).cache) (sorted : Ascend (servers a).cache)
    (f : IsFinished setting locks a (servers a) outcome) (inside : AreSegmentsOf setting.segments f.line.under.set) (ordered : IsStrictlySortedBy lock_cmp (keys_of f.line.under.set))
    (allowed : IsAllowed f.line.operation) (path : HasPath f.line.operation) (small : number_in setting f.line.under.line.number < 2 ^ 64)
    (timely : when (number_in setting f.line.under.line.number) < 2 ^ 64) (time : when (number_in setting f.line.under.line.number) ≡ time_of setting f.line.under.line.number) where
  abbrev pub sight : Sight
  sight = sight_in setting (servers a) f.line.under

  abbrev pub n : ℕ
  n = number_in setting f.line.under.line.number

  abbrev pub segs : ℕ
  segs = setting.segments

  pub of : AreOfDisk sight.cached sight.held sight.all segs (whole_disk w)
  of = of_disk segs servers w tree a f.line.under.set on t stood long sorted inside f.comes.bitmaps

  pub ascends : Ascend sight.held
  ascends = held_sorted sight.cached (segments_in f.line.under.set) (segments_sorted (keys_of f.line.under.set) ordered)

  pub met : meet (plan_of_line (hand_of sight.cached sight.held sight.all) n (when n) f.line.operation) (at_hand sight.cached sight.held) ≡ Has (Finishes f.finish)
  met = subst (λ m. meet (plan_of_line (hand_of sight.cached sight.held sight.all) n m f.line.operation) (at_hand sight.cached sight.held) ≡ Has (Finishes f.finish)) (sym time) f.comes.met_is

  abbrev pub Over : Type 0
  Over = (o : Outcome) × (sector_plan segs when (keys_of sight.held) n f.line.operation (whole_disk w) ≡ Some o) × IsOutcomeOf segs sight.cached sight.held f.finish o

  pub over : Over
  over = line_done_is_outcome f.line.operation sight.cached sight.held sight.all segs when n (whole_disk w) (shape_of tree) on.now.stands.naming f.finish allowed path small timely ascends of on.whole met

  now_too : sector_plan segs when (keys_of sight.held) n f.line.operation (now_of w) ≡ Some over.0
  now_too = comes_now segs when w tree on g (keys_of sight.held) n f.line.operation over.0 over.1

  pub is_outcome : IsOutcomeNow segs when w sight on.now.stands.naming n f.line.operation f.finish
  is_outcome = record {
    o = over.0;
    comes = now_too;
    says = over.2;
    made = line_done_is_made f.line.operation sight.cached sight.held sight.all segs when n (whole_disk w) (shape_of tree) on.now.stands.naming f.finish over.0 allowed path small timely ascends of on.whole met over.1;
    keeps = lines_guarded segs when (keys_of sight.held) n f.line.operation (now_of w) (shape_of tree) on.now.stands.naming over.0 on.logical now_too;
    owns = lines_own segs when (keys_of sight.held) n f.line.operation (whole_disk w) (shape_of tree) on.now.stands.naming over.0 on.whole small timely over.1;
    lies = lines_lie segs when (keys_of sight.held) n f.line.operation (whole_disk w) (shape_of tree) on.now.stands.naming over.0 on.whole over.1;
  }

pub finished_lines_are_outcomes : FinishedLinesAreOutcomes
finished_lines_are_outcomes setting when locks servers a w tree outcome on g t stood long sorted f inside ordered allowed path small timely time =
    is_outcome setting when locks servers a w tree outcome on g t stood long sorted f inside ordered allowed path small timely time
