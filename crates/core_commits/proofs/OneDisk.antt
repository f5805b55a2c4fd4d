-- What is cached is of one disk, whatever the covers; and it stands for the tree to which the history leads.
use Rattle.std.proofs.Common.{◌≡◌, ◌≤◌, ◌<◌, ◌*◌, ◌/◌, ◌%◌, ◌==◌, ⊎_elim, ℕ, Bool, true, false, if◌then◌else◌, List, [], ◌∷◌, Option, Some, None, length, refl, sym, ◌∙◌, ap, subst}
use Rattle.std.proofs.lemmas.Bool.{cases_lt, eq-eqb, eqb-true, le-ltb}
use Rattle.frang_base.proofs.Basics.{by_test}
use Rattle.tree_definitions.specs.Touched.{shape_of}
use Rattle.tree_definitions.specs.Tree.{FileTree, node_at}
use Rattle.tree_laws.proofs.ShapeNodes.{again}
use Rattle.sector_bytes.specs.Blocks.{Block, version_of, zero_block}
use Rattle.sector_bytes.specs.Sectors.{Sectors}
use Rattle.cache_definitions.specs.declared.dirt.Dirt.{Dirt}
use Rattle.disk_definitions.specs.declared.region.Region.TheVariants as region
use Rattle.disk_definitions.specs.Params.{param_in}
use Rattle.disk_definitions.proofs.WrittenFields.{length_zeros}
use Rattle.disk_definitions.specs.Regions.{sector_of}
use Rattle.disk_definitions.proofs.RegionLaws.{region_found}
use Rattle.disk_definitions.specs.Naming.{Naming, Pictures}
use Rattle.disk_definitions.specs.Standing.{HasVersionsUpTo, IsInGrammar, IsMetadata, StandsFor}
use Rattle.disk_definitions.specs.Store.{Store, segment_at, store_of, use_in}
use Rattle.disk_definitions.specs.Store.Use.{Fresh}
use Rattle.disk_definitions.specs.ChangeLaws.{FilesFit, SaysTheSame}
use Rattle.disk_definitions.proofs.Counts.{pictures_go_by_what_counts}
use Rattle.disk_definitions.specs.Ask.{InodeAt, DirectoryAt, SegmentAt}
use Rattle.disk_definitions.specs.Meets.{IsOfTree, is_directory_use}
use Rattle.disk_definitions.specs.Numbered.{sector_at, sector_in}
use Rattle.disk_definitions.specs.OnDisk.{StandsBelow}
use Rattle.plan_fit.specs.Says.{InodesSay, PlacesSay, SegmentsSay}
use Rattle.plan_fit.proofs.Kept.{in_inode, in_segment, in_small, inodes_kept, places_kept, segments_kept}
use Rattle.plan_fit.proofs.Uses.{is_metadata}
use Rattle.line_laws.specs.Stores.{with_bytes}
use Rattle.line_laws.proofs.OfDisk.{of_tree}
use Rattle.line_laws.proofs.Shaping.{shapes_stand}
use Rattle.line_histories.specs.Following.{Follows}
use Rattle.line_histories.specs.Guards.{IsClear}
use Rattle.line_histories.specs.LinePlans.{store_on}
use Rattle.line_histories.specs.Standing.{HasZeros, StandsForShape}
use Rattle.line_histories.specs.Trees.{performed}
use Rattle.line_histories.proofs.Disks.{blank_of, files_fit_now}
use Rattle.line_histories.proofs.Following.{all_follow_in_worlds}
use Rattle.line_histories.proofs.Runs.{worlds_of_one_tree}
use Rattle.sector_world.specs.Histories.{Item, is_logged, settled}
use Rattle.sector_world.specs.Histories.Item.{Done, Doubt}
use Rattle.sector_world.specs.HistoryBytes.{is_free}
use Rattle.sector_world.specs.World.{World, Slot, Page, cover, has_version}
use Rattle.sector_world.specs.Logged.{now_of, IsCopy}
use Rattle.sector_world.specs.Bytes.{IsCopyPage}
use Rattle.sector_world.specs.Kinds.{Good}
use Rattle.sector_world.specs.Trees.{Stand}
use Rattle.core_world.specs.Ties.{IsCachedAs, IsSlotOf, IsPageOf}
use Rattle.core_world.specs.Sights.{shown_at, stood}
use Rattle.core_commits.specs.Standing.{AllIsStood, IsOfLines, StandsWhole, TheDiskStands, WholeIsStood, tree_now, whole_block, whole_disk}
use Rattle.core_commits.proofs.Zeroing.{free_sectors_are_zeros}

-- ---- what is cached

slot_is : (dirt : Option Dirt) (block v : Block) (slot : Slot) → IsSlotOf dirt block slot → IsCopy slot v → block ≡ v
slot_is None block v slot t c = subst (λ x. IsCopy x v) t c
slot_is (Some dirt) block v slot t c = subst (λ x. IsCopy x v) t.1 c

page_is : (dirt : Option Dirt) (block v : Block) (page : Page) → IsPageOf dirt block page → IsCopyPage page v → block ≡ v
page_is None block v page t c = subst (λ x. IsCopyPage x v) t c
page_is (Some dirt) block v page t c = subst (λ x. IsCopyPage x v) t.1 c

pub all_stood : AllIsStood
all_stood servers w t g zeros a s kept e = go (has_version w s) refl (is_free w.first (settled w.history) s) refl (subst (λ o. IsCachedAs (has_version w s) (cover w s) o (w.slot a s) (w.page a s)) e (t a s))
  where
    go : (v : Bool) → has_version w s ≡ v → (free : Bool) → is_free w.first (settled w.history) s ≡ free → IsCachedAs v (cover w s) (Some kept) (w.slot a s) (w.page a s) →
        kept.block ≡ shown_at v free (now_of w s) (w.truth s)
    go true i free j c = slot_is kept.dirt kept.block (now_of w s) (w.slot a s) c.1 (g.logged.copies a s)
    go false i true j c = free_sectors_are_zeros servers w t zeros a s kept e i j
    go false i false j c = page_is kept.dirt kept.block (w.truth s) (w.page a s) c.2 (g.bytes.copies a s)

-- a block of 512 bytes is whole
pub stays_whole : (block : Block) → length block ≡ 512 → whole_block block ≡ block
stays_whole block long = ap (λ (b : Bool). if b then block else zero_block) (eq-eqb (length block) 512 long)

pub whole_stood : WholeIsStood
whole_stood servers w stood_all a s kept e long =
    stood_all a s kept e ∙ sym (stays_whole (stood w s) (ap length (sym (stood_all a s kept e)) ∙ long))

whole_long : (block : Block) → length (whole_block block) ≡ 512
whole_long block = by_test (λ x. length x ≡ 512) block zero_block (length block == 512) (λ t. eqb-true (length block) 512 t) (λ t. length_zeros 512)

-- ---- the tree

-- a sector that has a version from the start has one
stays_logged : (first : ℕ → Bool) (h : List Item) (s : ℕ) → first s ≡ true → is_logged first h s ≡ true
stays_logged first [] s e = e
stays_logged first (Done c ∷ h) s e = go (c.claims s) (stays_logged first h s e)
  where
    go : (b : Bool) → is_logged first h s ≡ true → (if b then true else is_logged first h s) ≡ true
    go true e = refl
    go false e = e
stays_logged first (Doubt m ∷ h) s e = stays_logged first h s e

module _ (segments : ℕ) (when : ℕ → ℕ) (first_tree : FileTree) (numbers : List ℕ) (w : World) (l : IsOfLines segments when first_tree numbers w) (g : Good w) where
  abbrev h : List Item
  h = settled w.history

  abbrev disk : Sectors
  disk = now_of w

  abbrev other : Sectors
  other = whole_disk w

  stand : Stand FileTree (StandsForShape segments) (performed when) first_tree w
  stand = worlds_of_one_tree segments when first_tree numbers w l.times l.stands l.legal l.distinct g

  follows : Follows segments w.opening w.home w.logged w.first h
  follows = (all_follow_in_worlds segments when first_tree numbers w l.times l.stands l.legal l.distinct g l.follows).0

  abbrev tree : FileTree
  tree = tree_now when first_tree w

  abbrev below : StandsBelow disk (shape_of tree)
  below = stand.now.below

  abbrev naming : Naming
  naming = below.stands.naming

  abbrev count : ℕ
  count = below.stands.param.segments

  -- the same numbers of segments
  counts : count ≡ segments
  counts = sym below.stands.segments ∙ stand.now.as_many

  few : segments ≤ 64
  few = subst (λ k. k ≤ 64) stand.now.as_many (blank_of disk tree (record { well_formed = stand.now.well_formed; as_many = refl; below = stand.now.below; zeros = stand.now.zeros })).few

  -- ---- sectors with versions

  same : (s : ℕ) → has_version w s ≡ true → other s ≡ disk s
  same s e =
      ap (λ v. whole_block (shown_at v (is_free w.first h s) (disk s) (w.truth s))) e
      ∙ stays_whole (disk s) (below.whole s)

  segment_same : (k : ℕ) → k < count → other (sector_of (region.Segment k)) ≡ disk (sector_of (region.Segment k))
  segment_same k l =
      same (sector_of (region.Segment k))
      (follows.kinds (sector_of (region.Segment k)) (SegmentAt k) (ap sector_in (region_found segments (region.Segment k) few (in_segment segments k (subst (λ n. k < n) counts l)))))

  inode_same : (i : ℕ) → i < 64 * count → other (sector_of (region.Inode i)) ≡ disk (sector_of (region.Inode i))
  inode_same i l =
      same (sector_of (region.Inode i))
      (follows.kinds (sector_of (region.Inode i)) (InodeAt i) (ap sector_in (region_found segments (region.Inode i) few (in_inode segments i (subst (λ n. i < 64 * n) counts l)))))

  abbrev here : Store
  here = store_of count disk

  abbrev there : Store
  there = store_of count other

  small_here : (k p : ℕ) → k < 1024 * count → p < 8 → sector_at segments (sector_of (region.Small k p)) ≡ Some (DirectoryAt k p)
  small_here k p l lp = ap sector_in (region_found segments (region.Small k p) few (in_small segments k p (subst (λ n. k < 1024 * n) counts l) lp))

  small_same : (k p : ℕ) → k < 1024 * count → p < 8 → IsMetadata (here.use_of k) → other (sector_of (region.Small k p)) ≡ disk (sector_of (region.Small k p))
  small_same k p l lp d =
      same (sector_of (region.Small k p))
      (follows.kinds (sector_of (region.Small k p)) (DirectoryAt k p) (small_here k p l lp)
      ∙ is_metadata ((store_of segments disk).use_of k) (subst (λ n. IsMetadata ((store_of n disk).use_of k)) counts d))

  -- ---- what the other disk says

  in_segments : SegmentsSay count other here.bit here.use_of here.large_bit
  in_segments = segments_kept count disk other here.bit here.use_of here.large_bit segment_same
      (record { grammar = below.stands.grammar.bitmaps; bits = λ i. refl; uses = λ k. refl; large_bits = λ g. refl })

  in_inodes : InodesSay count other here.inode
  in_inodes = inodes_kept count disk other here.inode inode_same (record { grammar = below.stands.grammar.inodes; inodes = λ i. refl })

  in_places : PlacesSay count here.use_of other here.place
  in_places = places_kept count here.use_of disk other here.place small_same (record { grammar = below.stands.grammar.directories; places = λ k q l lq d. refl })

  past_fresh : (k : ℕ) → 1024 * count ≤ k → here.use_of k ≡ Fresh
  past_fresh k l = ap (λ (t : Bool). if t then use_in (segment_at disk (k / 1024)) (k % 1024) else Fresh) (le-ltb k (1024 * count) l)

  says : SaysTheSame (with_bytes here there.byte there.large_byte) there
  says = record {
    inode = in_inodes.inodes;
    bit = in_segments.bits;
    uses = in_segments.uses;
    large_bits = in_segments.large_bits;
    places = λ k q lq d. ⊎_elim (λ l. in_places.places k q l lq d) (λ l. absurd (subst IsMetadata (past_fresh k l) d)) (cases_lt k (1024 * count));
    bytes = λ k j l d. refl;
    large_bytes = λ g j l d. refl;
  }

  -- ---- the picture: the shape allows any bytes

  of_here : IsOfTree here (shape_of tree) naming
  of_here = subst (λ n. IsOfTree (store_of n disk) (shape_of tree) naming) below.stands.segments (of_tree disk (shape_of tree) below)

  with_others : IsOfTree (with_bytes here there.byte there.large_byte) (shape_of tree) naming
  with_others = subst (λ t. IsOfTree (with_bytes here there.byte there.large_byte) t naming) (again tree) ((shapes_stand here (shape_of tree) naming of_here).others there.byte there.large_byte)

  fits : FilesFit (node_at (shape_of tree))
  fits = files_fit_now disk tree (record { well_formed = stand.now.well_formed; as_many = refl; below = below; zeros = stand.now.zeros })

  picture : Pictures there (node_at (shape_of tree)) naming
  picture = pictures_go_by_what_counts (with_bytes here there.byte there.large_byte) there (node_at (shape_of tree)) naming with_others.pictures fits says

  -- ---- the disk

  grammar : IsInGrammar count other
  grammar = record {
    bitmaps = in_segments.grammar;
    inodes = in_inodes.grammar;
    directories = λ k p l lp u. in_places.grammar k p l lp (subst IsMetadata (in_segments.uses k) u);
  }

  versions : (most : ℕ) → HasVersionsUpTo most count disk → HasVersionsUpTo most count other
  versions most v = record {
    bitmaps = λ k l. subst (λ b. version_of b ≤ most) (sym (segment_same k l)) (v.bitmaps k l);
    inodes = λ i l. subst (λ b. version_of b ≤ most) (sym (inode_same i l)) (v.inodes i l);
    directories = λ k p l lp u. let d : IsMetadata (here.use_of k) = subst IsMetadata (in_segments.uses k) u in
        subst (λ b. version_of b ≤ most) (sym (small_same k p l lp d)) (v.directories k p l lp d);
  }

  abbrev other_stands : StandsFor other (shape_of tree)
  other_stands = record {
    param = below.stands.param;
    parameters = ap param_in (same 0 (stays_logged w.logged h 0 l.parameters)) ∙ below.stands.parameters;
    segments = below.stands.segments;
    grammar = grammar;
    versions = versions _ below.stands.versions;
    well_formed = below.stands.well_formed;
    reached = below.stands.reached;
    naming = naming;
    picture = picture;
    root = below.stands.root;
    births = below.stands.births;
  }

  abbrev other_below : StandsBelow other (shape_of tree)
  other_below = record {
    stands = other_stands;
    most = below.most;
    below = below.below;
    versions = versions below.most below.versions;
    whole = λ s. whole_long (stood w s);
  }

  -- ---- over sectors without bytes

  blank_now : IsOfTree (store_on segments disk) (shape_of tree) naming
  blank_now = subst (λ n. IsOfTree (store_on n disk) (shape_of tree) naming) stand.now.as_many
      (blank_of disk tree (record { well_formed = stand.now.well_formed; as_many = refl; below = below; zeros = stand.now.zeros }))

  blank_other : IsOfTree (store_on segments other) (shape_of tree) naming
  blank_other = subst (λ n. IsOfTree (store_on n other) (shape_of tree) naming) stand.now.as_many
      (subst (λ t. IsOfTree (store_on tree.segments other) t naming) (again tree) (shapes_stand (store_of tree.segments other) (shape_of tree) naming (of_tree other (shape_of tree) other_below)).blank)

  clear_now : IsClear segments disk
  clear_now k p l lp fresh = subst (λ n. HasZeros n disk) stand.now.as_many stand.now.zeros k p l lp (ap is_directory_use fresh)

  clear_other : IsClear segments other
  clear_other k p l lp fresh =
      let at : sector_at segments (sector_of (region.Small k p)) ≡ Some (DirectoryAt k p) = ap sector_in (region_found segments (region.Small k p) few (in_small segments k p l lp)) in
      let use_same : (store_of segments other).use_of k ≡ (store_of segments disk).use_of k = subst (λ n. (store_of n other).use_of k ≡ (store_of n disk).use_of k) counts (in_segments.uses k) in
      let unused : (store_of segments disk).use_of k ≡ Fresh = sym use_same ∙ fresh in
      ap (λ v. whole_block (shown_at v (is_free w.first h (sector_of (region.Small k p))) (disk (sector_of (region.Small k p))) (w.truth (sector_of (region.Small k p)))))
      (follows.kinds (sector_of (region.Small k p)) (DirectoryAt k p) at ∙ ap is_directory_use unused)
      ∙ ap (λ v. whole_block (shown_at false v (disk (sector_of (region.Small k p))) (w.truth (sector_of (region.Small k p))))) (follows.free (sector_of (region.Small k p)) (DirectoryAt k p) at unused)
      ∙ stays_whole zero_block (length_zeros 512)

  pub disk_stands : StandsWhole segments w tree
  disk_stands = record {
    now = below;
    below = other_below;
    alike = refl;
    count = stand.now.as_many;
    logical = record { of = blank_now; count = stand.now.as_many; clear = clear_now };
    whole = record {
      of = record { of = blank_other; count = stand.now.as_many; clear = clear_other };
      grammar = subst (λ n. IsInGrammar n other) counts grammar;
      whole = λ s. whole_long (stood w s);
    };
    same = same;
    nodes = λ i. subst (λ n. (store_of n other).inode i ≡ (store_of n disk).inode i) counts (in_inodes.inodes i);
    uses = λ k. subst (λ n. (store_of n other).use_of k ≡ (store_of n disk).use_of k) counts (in_segments.uses k);
    follows = follows;
  }

pub the_disk_stands : TheDiskStands
the_disk_stands segments when first_tree numbers w l g = disk_stands segments when first_tree numbers w l g
