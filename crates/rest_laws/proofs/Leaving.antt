-- After a legal history of lines a disk with the logical sectors and the known bytes stands for its tree.
use Rattle.std.proofs.Common.{ℕ, ◌≡◌, ◌≤◌, ◌+◌, Bool, true, false, Option, List, [], ◌∷◌, if◌then◌else◌, refl, sym, ◌∙◌, ap, subst}
use Rattle.std.specs.List.Sorted.{IsStrictlySortedBy}
use Rattle.std.specs.Ordering.{nat_cmp}
use Rattle.frang_base.specs.declared.lock.LockId.{LockId}
use Rattle.tree_definitions.specs.Touched.{shape_of, shaped}
use Rattle.tree_definitions.specs.Tree.{FileTree}
use Rattle.tree_definitions.specs.WellFormed.{IsWellFormed, names_in, one_at}
use Rattle.tree_laws.proofs.Changes.{same_dir, same_links}
use Rattle.tree_laws.proofs.ShapeKeeping.{names_stay, well_shape}
use Rattle.tree_laws.proofs.ShapeNodes.{count_stays, found, keys_stay}
use Rattle.sector_bytes.specs.Blocks.{Block}
use Rattle.sector_bytes.specs.Sectors.{Sectors}
use Rattle.sector_world.specs.Histories.{Each, Item, is_logged, logical}
use Rattle.sector_world.specs.Histories.Item.{Done, Doubt}
use Rattle.sector_world.specs.Plans.{IsByPlan, Legal}
use Rattle.sector_world.specs.Trees.{Distinct, tree_of}
use Rattle.disk_definitions.specs.declared.region.Region.TheVariants as region
use Rattle.disk_definitions.specs.Ask.{DirectoryAt, InodeAt, SegmentAt}
use Rattle.disk_definitions.specs.Meets.{IsOfTree}
use Rattle.disk_definitions.specs.Numbered.{sector_in}
use Rattle.disk_definitions.specs.OnDisk.{StandsBelow}
use Rattle.disk_definitions.specs.Regions.{sector_of}
use Rattle.disk_definitions.specs.Standing.{StandsFor}
use Rattle.disk_definitions.specs.Store.{store_of}
use Rattle.disk_definitions.proofs.RegionLaws.{region_found}
use Rattle.plan_fit.proofs.Kept.{in_inode, in_segment, in_small}
use Rattle.plan_fit.proofs.Uses.{is_metadata}
use Rattle.line_histories.specs.Following.{Follows, KindsFollow, store_after}
use Rattle.line_histories.specs.LinePlans.{sector_plan, store_on}
use Rattle.line_histories.specs.Standing.{HasZeros, StandsForShape, StandsNumbered}
use Rattle.line_histories.specs.Trees.{AreTimes, MayNumber, performed}
use Rattle.line_histories.proofs.Disks.{blank_of}
use Rattle.line_histories.proofs.Following.{all_follow}
use Rattle.line_histories.proofs.Runs.{histories_of_one_tree, numbered}
use Rattle.byte_trees.specs.Deeds.{Deed, items, tree_after}
use Rattle.byte_trees.specs.Standing.{HasItsBytes, HaveTheSameVersioned}
use Rattle.byte_trees.proofs.Whole.{stands_with_its_bytes}
use Rattle.stop_laws.specs.Along.{HasShape}
use Rattle.stop_laws.specs.Known.{KnowsCells}
use Rattle.stop_laws.specs.Paired.{AreLines}
use Rattle.stop_laws.proofs.Lines.{shapes_follow}
use Rattle.rest_laws.specs.Histories.{HistoriesLeaveTheirTree, IsAfter}

-- a sector that has a version from the start has one
stays_logged : (first : ℕ → Bool) (h : List Item) (s : ℕ) → first s ≡ true → is_logged first h s ≡ true
stays_logged first [] s e = e
stays_logged first (Done c ∷ h) s e = go (c.claims s) (stays_logged first h s e)
  where
    go : (b : Bool) → is_logged first h s ≡ true → (if b then true else is_logged first h s) ≡ true
    go true e = refl
    go false e = e
stays_logged first (Doubt m ∷ h) s e = stays_logged first h s e

-- a tree is well-formed where its shape is
well_by_shape : (t : FileTree) → IsWellFormed (shape_of t) → IsWellFormed t
well_by_shape t well = record {
  births = subst (IsStrictlySortedBy nat_cmp) (keys_stay t) well.births;
  names = λ dir entries blocks is. well.names dir entries blocks (found t dir ∙ ap shaped is);
  rooted = sym (same_dir t 0) ∙ well.rooted;
  links = λ b. sym (ap (λ k. k + one_at 0 b) (count_stays (names_in b) t (names_stay b))) ∙ well.links b ∙ same_links t b;
}

module _ (segments : ℕ) (when : ℕ → ℕ) (opening : ℕ → Block) (first_tree : FileTree) (numbers : List ℕ) (home : ℕ → LockId) (logged : ℕ → Bool) (first : ℕ → Option Block)
    (deeds : List Deed) (other : ℕ → Block) (times : AreTimes when) (begins : StandsNumbered segments opening (numbered first_tree numbers))
    (legal : Legal (sector_plan segments when) opening (items deeds)) (distinct : Distinct (MayNumber numbers) first_tree (items deeds)) (by_plan : Each IsByPlan (items deeds))
    (lines : AreLines when deeds) (follows : Follows segments opening home logged first []) (zero_logged : logged 0 ≡ true)
    (knows : KnowsCells segments opening logged first first_tree deeds) (after : IsAfter opening logged first (items deeds) other) where
  abbrev h : List Item
  h = items deeds

  -- the logical sectors, zeros where there is no version
  abbrev disk : Sectors
  disk = logical opening (items deeds)

  abbrev tree : FileTree
  tree = tree_after first_tree deeds

  abbrev performed_tree : FileTree
  performed_tree = tree_of (performed when) first_tree (items deeds)

  stands : StandsForShape segments disk performed_tree
  stands = (histories_of_one_tree segments when opening first_tree numbers (items deeds) times begins legal distinct).stands

  shape : HasShape when first_tree deeds
  shape = shapes_follow segments when opening first_tree numbers deeds times begins legal distinct lines

  well : IsWellFormed tree
  well = well_by_shape tree (subst IsWellFormed (sym shape) (well_shape performed_tree stands.well_formed))

  kinds : KindsFollow segments opening logged h
  kinds = (all_follow segments when opening first_tree numbers h home logged first times begins legal distinct by_plan follows).kinds

  -- ---- under the shape of the entries' tree
  below : StandsBelow disk (shape_of tree)
  below = subst (StandsBelow disk) (sym shape) stands.below

  same_segments : tree.segments ≡ segments
  same_segments = ap (λ (t : FileTree). t.segments) shape ∙ stands.as_many

  segments_are : below.stands.param.segments ≡ segments
  segments_are = sym below.stands.segments ∙ same_segments

  of_shape : IsOfTree (store_on segments disk) (shape_of tree) below.stands.naming
  of_shape = subst (λ k. IsOfTree (store_on k disk) (shape_of tree) below.stands.naming) same_segments
      (blank_of disk tree (record { well_formed = well; as_many = refl; below = below; zeros = subst (λ k. HasZeros k disk) (sym (ap (λ (t : FileTree). t.segments) shape)) stands.zeros }))

  few : segments ≤ 64
  few = subst (λ k. k ≤ 64) same_segments of_shape.few

  -- ---- the sectors with versions
  same : HaveTheSameVersioned segments disk other
  same = record {
    parameters = after.versioned 0 (stays_logged logged h 0 zero_logged);
    bitmaps = λ k l. after.versioned (sector_of (region.Segment k)) (kinds (sector_of (region.Segment k)) (SegmentAt k) (ap sector_in (region_found segments (region.Segment k) few (in_segment segments k l))));
    inodes = λ i l. after.versioned (sector_of (region.Inode i)) (kinds (sector_of (region.Inode i)) (InodeAt i) (ap sector_in (region_found segments (region.Inode i) few (in_inode segments i l))));
    directories = λ k p l lp d. after.versioned (sector_of (region.Small k p))
        (kinds (sector_of (region.Small k p)) (DirectoryAt k p) (ap sector_in (region_found segments (region.Small k p) few (in_small segments k p l lp)))
        ∙ is_metadata ((store_after segments opening h).use_of k) d);
  }

  pub stands_after : StandsFor other tree
  stands_after =
      stands_with_its_bytes disk other tree below well (subst (λ k. HaveTheSameVersioned k disk other) (sym segments_are) same)
      (subst (λ k. HasItsBytes (store_of k other) tree below.stands.naming) (sym segments_are) (knows below.stands.naming of_shape other after.known))

pub histories_leave_their_tree : HistoriesLeaveTheirTree
histories_leave_their_tree segments when opening first_tree numbers home logged first deeds disk times begins legal distinct by_plan lines follows zero_logged knows after =
    stands_after segments when opening first_tree numbers home logged first deeds disk times begins legal distinct by_plan lines follows zero_logged knows after
