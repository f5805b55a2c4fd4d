-- The replayed disk has the sectors with versions that stand for the shape, so with its bytes it stands for the tree.
use Rattle.std.proofs.Common.{ℕ, ◌≡◌, ◌≤◌, ◌<◌, ◌*◌, ◌/◌, ◌%◌, ⊎_elim, Bool, true, false, if◌then◌else◌, is_some, List, [], ◌∷◌, refl, sym, ◌∙◌, ap, subst}
use Rattle.std.proofs.lemmas.Bool.{cases_lt, le-ltb}
use Rattle.tree_definitions.specs.Touched.{shape_of}
use Rattle.tree_definitions.specs.Tree.{FileTree, node_at}
use Rattle.tree_definitions.specs.WellFormed.{IsWellFormed}
use Rattle.sector_bytes.specs.Blocks.{zero_block}
use Rattle.sector_bytes.specs.Sectors.{Sectors}
use Rattle.sector_world.specs.Histories.{Item, is_logged, logical, settled}
use Rattle.sector_world.specs.Histories.Item.{Done, Doubt}
use Rattle.sector_world.specs.Claims.{left, replayed}
use Rattle.sector_world.specs.Kinds.{Good}
use Rattle.sector_world.specs.Planned.{IsLegal}
use Rattle.sector_world.specs.Trees.{Distinct, Stand, tree_of, with_versions}
use Rattle.sector_world.specs.World.{World}
use Rattle.sector_world.proofs.Holding.{holds_good}
use Rattle.disk_definitions.specs.declared.region.Region.TheVariants as region
use Rattle.disk_definitions.specs.Inodes.{inode_in}
use Rattle.disk_definitions.specs.Regions.{sector_of}
use Rattle.disk_definitions.proofs.RegionLaws.{region_found}
use Rattle.disk_definitions.specs.Standing.{IsMetadata, StandsFor}
use Rattle.disk_definitions.specs.Store.{Store, directory_at, segment_at, store_of, use_in}
use Rattle.disk_definitions.specs.Store.Use.{Fresh}
use Rattle.disk_definitions.specs.ChangeLaws.{FilesFit, SaysTheSame}
use Rattle.disk_definitions.proofs.Counts.{pictures_go_by_what_counts}
use Rattle.disk_definitions.specs.Ask.{InodeAt, DirectoryAt, SegmentAt}
use Rattle.disk_definitions.specs.Meets.{IsOfTree}
use Rattle.disk_definitions.specs.OnDisk.{StandsBelow}
use Rattle.plan_fit.specs.Says.{InodesSay, PlacesSay, SegmentsSay}
use Rattle.plan_fit.proofs.Kept.{in_inode, in_segment, in_small, inodes_kept, places_kept, segments_kept}
use Rattle.plan_fit.proofs.Uses.{is_metadata}
use Rattle.disk_definitions.specs.Numbered.{sector_in}
use Rattle.line_histories.specs.LinePlans.{sector_plan, store_on}
use Rattle.line_histories.specs.Following.{Follows, KindsFollow, store_after}
use Rattle.line_histories.specs.Standing.{HasZeros, StandsForShape, StandsNumbered}
use Rattle.line_histories.specs.Trees.{AreTimes, MayNumber, performed}
use Rattle.line_histories.proofs.Disks.{blank_of, files_fit_now}
use Rattle.line_histories.proofs.Following.{all_follow_in_worlds}
use Rattle.line_histories.proofs.Runs.{worlds_of_one_tree}
use Rattle.byte_trees.specs.Standing.{HasItsBytes, HaveTheSameVersioned}
use Rattle.byte_trees.proofs.Whole.{stands_with_its_bytes}
use Rattle.stop_laws.specs.BytesStop.{HasBytesWhenReplayed, AStopLeavesTheTree}

-- a sector that has a version from the start has one
stays_logged : (first : ℕ → Bool) (h : List Item) (s : ℕ) → first s ≡ true → is_logged first h s ≡ true
stays_logged first [] s e = e
stays_logged first (Done c ∷ h) s e = go (c.claims s) (stays_logged first h s e)
  where
    go : (b : Bool) → is_logged first h s ≡ true → (if b then true else is_logged first h s) ≡ true
    go true e = refl
    go false e = e
stays_logged first (Doubt m ∷ h) s e = stays_logged first h s e

module _ (segments : ℕ) (when : ℕ → ℕ) (first_tree : FileTree) (numbers : List ℕ) (w : World) (times : AreTimes when) (begins : StandsNumbered segments w.opening (record { tree = first_tree; numbers = numbers }))
    (legal : IsLegal (sector_plan segments when) w) (distinct : Distinct (MayNumber numbers) first_tree (settled w.history)) (good : Good w) (follows : Follows segments w.opening w.home w.logged w.first [])
    (zero_logged : w.logged 0 ≡ true) where
  abbrev h : List Item
  h = left w w.servers

  abbrev disk : Sectors
  disk = with_versions w (left w w.servers) (replayed w w.servers)

  abbrev other : Sectors
  other = replayed w w.servers

  stand : Stand FileTree (StandsForShape segments) (performed when) first_tree w
  stand = worlds_of_one_tree segments when first_tree numbers w times begins legal distinct good

  abbrev last_tree : FileTree
  last_tree = tree_of (performed when) first_tree (left w w.servers)

  kinds : KindsFollow segments w.opening w.logged h
  kinds = (all_follow_in_worlds segments when first_tree numbers w times begins legal distinct good follows).1.kinds

  -- ---- sectors with versions
  same : (s : ℕ) → is_logged w.logged h s ≡ true → other s ≡ disk s
  same s e = sym (ap (λ (b : Bool). if b then other s else zero_block) e)

  logical_is : (s : ℕ) → is_logged w.logged h s ≡ true → disk s ≡ logical w.opening h s
  logical_is s e = sym (same s e) ∙ (holds_good w good).recoverable s e

  few : segments ≤ 64
  few = subst (λ k. k ≤ 64) stand.replay.as_many (blank_of disk last_tree (record { well_formed = stand.replay.well_formed; as_many = refl; below = stand.replay.below; zeros = stand.replay.zeros })).few

  segment_logged : (k : ℕ) → k < segments → is_logged w.logged h (sector_of (region.Segment k)) ≡ true
  segment_logged k l = kinds (sector_of (region.Segment k)) (SegmentAt k) (ap sector_in (region_found segments (region.Segment k) few (in_segment segments k l)))

  inode_logged : (i : ℕ) → i < 64 * segments → is_logged w.logged h (sector_of (region.Inode i)) ≡ true
  inode_logged i l = kinds (sector_of (region.Inode i)) (InodeAt i) (ap sector_in (region_found segments (region.Inode i) few (in_inode segments i l)))

  -- the uses of blocks are those after the history
  abbrev here : Store
  here = store_of segments (with_versions w (left w w.servers) (replayed w w.servers))

  segments_are : stand.replay.below.stands.param.segments ≡ segments
  segments_are = sym stand.replay.below.stands.segments ∙ stand.replay.as_many

  in_segments : SegmentsSay segments (logical w.opening h) here.bit here.use_of here.large_bit
  in_segments = segments_kept segments disk (logical w.opening h) here.bit here.use_of here.large_bit (λ k l. sym (logical_is (sector_of (region.Segment k)) (segment_logged k l))) (record {
    grammar = subst (λ n. (k : ℕ) → k < n → is_some (segment_at disk k) ≡ true) segments_are stand.replay.below.stands.grammar.bitmaps;
    bits = λ i. refl;
    uses = λ k. refl;
    large_bits = λ g. refl;
  })

  small_logged : (k p : ℕ) → k < 1024 * segments → p < 8 → IsMetadata (here.use_of k) → is_logged w.logged h (sector_of (region.Small k p)) ≡ true
  small_logged k p l lp d =
      kinds (sector_of (region.Small k p)) (DirectoryAt k p) (ap sector_in (region_found segments (region.Small k p) few (in_small segments k p l lp)))
      ∙ is_metadata ((store_after segments w.opening h).use_of k) (subst IsMetadata (sym (in_segments.uses k)) d)

  same_versioned : HaveTheSameVersioned segments disk other
  same_versioned = record {
    parameters = same 0 (stays_logged w.logged h 0 zero_logged);
    bitmaps = λ k l. same (sector_of (region.Segment k)) (segment_logged k l);
    inodes = λ i l. same (sector_of (region.Inode i)) (inode_logged i l);
    directories = λ k p l lp d. same (sector_of (region.Small k p)) (small_logged k p l lp d);
  }

  -- ---- the tree
  module _ (tree : FileTree) (well : IsWellFormed tree) (shape : shape_of tree ≡ shape_of last_tree) (bytes : HasBytesWhenReplayed segments w tree) where
    below : StandsBelow disk (shape_of tree)
    below = subst (StandsBelow disk) (sym shape) stand.replay.below

    segments_is : below.stands.param.segments ≡ segments
    segments_is = sym below.stands.segments ∙ ap (λ (t : FileTree). t.segments) shape ∙ stand.replay.as_many

    same_segments : tree.segments ≡ last_tree.segments
    same_segments = ap (λ (t : FileTree). t.segments) shape

    of_shape : IsOfTree (store_on segments disk) (shape_of tree) below.stands.naming
    of_shape = subst (λ k. IsOfTree (store_on k disk) (shape_of tree) below.stands.naming) (same_segments ∙ stand.replay.as_many)
        (blank_of disk tree (record { well_formed = well; as_many = refl; below = below; zeros = subst (λ k. HasZeros k disk) (sym same_segments) stand.replay.zeros }))

    -- so it is of what the history says: inodes, segments and directories are the same
    in_inodes : InodesSay segments (logical w.opening h) here.inode
    in_inodes = inodes_kept segments disk (logical w.opening h) here.inode (λ k l. sym (logical_is (sector_of (region.Inode k)) (inode_logged k l)))
        (record { grammar = subst (λ n. (k : ℕ) → k < 64 * n → is_some (inode_in (disk (sector_of (region.Inode k)))) ≡ true) segments_are stand.replay.below.stands.grammar.inodes; inodes = λ k. refl })

    in_places : PlacesSay segments here.use_of (logical w.opening h) here.place
    in_places = places_kept segments here.use_of disk (logical w.opening h) here.place (λ k p l lp d. sym (logical_is (sector_of (region.Small k p)) (small_logged k p l lp d))) (record {
      grammar = subst (λ n. (k p : ℕ) → k < 1024 * n → p < 8 → IsMetadata ((store_of n disk).use_of k) → is_some (directory_at disk k p) ≡ true) segments_are stand.replay.below.stands.grammar.directories;
      places = λ k q l lq d. refl;
    })

    past_fresh : (k : ℕ) → 1024 * segments ≤ k → here.use_of k ≡ Fresh
    past_fresh k l = ap (λ (t : Bool). if t then use_in (segment_at disk (k / 1024)) (k % 1024) else Fresh) (le-ltb k (1024 * segments) l)

    says : SaysTheSame (store_on segments disk) (store_after segments w.opening h)
    says = record {
      inode = in_inodes.inodes;
      bit = in_segments.bits;
      uses = in_segments.uses;
      large_bits = in_segments.large_bits;
      places = λ k q lq d. ⊎_elim (λ l. in_places.places k q l lq d) (λ l. absurd (subst IsMetadata (past_fresh k l) d)) (cases_lt k (1024 * segments));
      bytes = λ k j l d. refl;
      large_bytes = λ g j l d. refl;
    }

    fits : FilesFit (node_at (shape_of tree))
    fits = files_fit_now disk tree (record { well_formed = well; as_many = refl; below = below; zeros = subst (λ k. HasZeros k disk) (sym same_segments) stand.replay.zeros })

    of_after : IsOfTree (store_after segments w.opening h) (shape_of tree) below.stands.naming
    of_after = record {
      well_formed = of_shape.well_formed;
      few = of_shape.few;
      pictures = pictures_go_by_what_counts (store_on segments disk) (store_after segments w.opening h) (node_at (shape_of tree)) below.stands.naming of_shape.pictures fits says;
      root = of_shape.root;
      births = of_shape.births;
      inodes = λ k e. of_shape.inodes k (sym (in_segments.bits k) ∙ e);
      blocks = λ k l. in_segments.uses k ∙ of_shape.blocks k l;
      larges = λ k e. of_shape.larges k (sym (in_segments.large_bits k) ∙ e);
    }

    pub stop_stands : StandsFor other tree
    stop_stands =
        stands_with_its_bytes disk other tree below well (subst (λ k. HaveTheSameVersioned k disk other) (sym segments_is) same_versioned)
        (subst (λ k. HasItsBytes (store_of k other) tree below.stands.naming) (sym segments_is) (bytes below.stands.naming of_after))

pub a_stop_leaves : AStopLeavesTheTree
a_stop_leaves segments when first_tree numbers w times begins legal distinct good follows zero_logged tree well shape bytes =
    stop_stands segments when first_tree numbers w times begins legal distinct good follows zero_logged tree well shape bytes
