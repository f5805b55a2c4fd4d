-- The sectors with versions of an opening, zeros elsewhere, stand for the shape of its tree, with versions left.
use Rattle.std.proofs.Common.{ℕ, ◌≡◌, ◌≤◌, ◌<◌, ◌+◌, ◌-◌, ◌*◌, ◌/◌, ◌%◌, ⊎_elim, Bool, true, false, if◌then◌else◌, max, Some, List, length, refl, sym, ◌∙◌, ap, subst, arith}
use Rattle.std.proofs.lemmas.Bool.{cases_lt, le-ltb}
use Rattle.std.proofs.lemmas.Bool.Decides.{nat_tests}
use Rattle.frang_base.specs.declared.limits.TheConstants.{RUN_VERSIONS_MAX}
use Rattle.tree_definitions.specs.History.{Opening}
use Rattle.tree_definitions.specs.Touched.{shape_of}
use Rattle.tree_definitions.specs.Tree.{FileTree, node_at}
use Rattle.tree_laws.proofs.ShapeNodes.{found}
use Rattle.tree_laws.proofs.ShapeKeeping.{well_shape}
use Rattle.sector_bytes.specs.Blocks.{version_of, zero_block}
use Rattle.sector_bytes.specs.Sectors.{Sectors}
use Rattle.disk_definitions.specs.declared.param.Param.{Param}
use Rattle.disk_definitions.specs.declared.region.Region.{Region}
use Rattle.disk_definitions.specs.declared.region.Region.TheVariants as region
use Rattle.disk_definitions.specs.Ask.{DirectoryAt, InodeAt, SegmentAt, Sector}
use Rattle.disk_definitions.specs.ChangeLaws.{SaysTheSame}
use Rattle.disk_definitions.specs.Meets.{IsOfTree, is_directory_use}
use Rattle.disk_definitions.specs.Naming.{Naming, cell_in, file_byte}
use Rattle.disk_definitions.specs.Numbered.{sector_in}
use Rattle.disk_definitions.specs.OnDisk.{StandsBelow}
use Rattle.disk_definitions.specs.Params.{param_fits, param_in}
use Rattle.disk_definitions.specs.Regions.{is_in_range, sector_of}
use Rattle.disk_definitions.specs.Standing.{HasVersionsUpTo, IsMetadata, StandsFor}
use Rattle.disk_definitions.specs.Store.{Store, Use, segment_at, store_of, use_in}
use Rattle.disk_definitions.specs.Store.Use.{Bytes, Empty, Entries, Fresh}
use Rattle.disk_definitions.proofs.Counts.{pictures_go_by_what_counts}
use Rattle.disk_definitions.proofs.NodeLaws.{any_cell}
use Rattle.disk_definitions.proofs.ParamLaws.{few_segments, param_read}
use Rattle.disk_definitions.proofs.RegionLaws.{region_found}
use Rattle.disk_definitions.proofs.WrittenFields.{length_zeros}
use Rattle.plan_fit.specs.Says.{InodesSay, PlacesSay, SegmentsSay}
use Rattle.plan_fit.proofs.Kept.{in_inode, in_segment, in_small, inodes_kept, places_kept, segments_kept}
use Rattle.line_laws.specs.Stores.{blank}
use Rattle.line_laws.proofs.OfDisk.{of_tree}
use Rattle.line_laws.proofs.Shaping.{disks_stand_below, shapes_stand}
use Rattle.line_histories.specs.LinePlans.{store_on}
use Rattle.line_histories.specs.Standing.{HasZeros, StandsForShape, StandsNumbered}
use Rattle.line_histories.proofs.Disks.{blank_of, files_fit_now}
use Rattle.byte_trees.specs.Standing.{HasItsBytes, HaveTheSameVersioned}
use Rattle.byte_trees.proofs.Whole.{stands_with_its_bytes}
use Rattle.stop_laws.specs.FreshDisks.{is_versioned_at}
use Rattle.headline_definitions.specs.Beginning.{IsOpening, versions_before}
use Rattle.opening_laws.specs.FirstDisks.{opened_logged}

-- ---- numbers of runs and of versions

-- versions of earlier runs leave those of a run
pub most_below : (run more : ℕ) → 1 ≤ run → 1 + more < 131072 → max 1 (131072 * (run - 1)) + more < 131072 * run
most_below run more some few = grind (arith, nat_tests)

fits_some : (p : Param) → param_fits p ≡ true → 1 ≤ p.run
fits_some p h = grind (arith, nat_tests)

pub some_run : (block : List ℕ) (p : Param) → param_in block ≡ Some p → 1 ≤ p.run
some_run block p e = fits_some p (param_read block p e).1

same_param : (p q : Param) → Some p ≡ Some q → p ≡ q
same_param p q e = cc

-- ---- uses

is_directory : (u : Use) → IsMetadata u → is_directory_use u ≡ true
is_directory Fresh m = absurd m
is_directory Bytes m = absurd m
is_directory Empty m = refl
is_directory Entries m = refl

module _ (opening : Opening) (disk : Sectors) (is : IsOpening opening disk) where
  abbrev pub tree : FileTree
  tree = opening.tree

  abbrev pub segments : ℕ
  segments = opening.tree.segments

  abbrev pub naming : Naming
  naming = is.stands.naming

  abbrev pub logged : ℕ → Bool
  logged = opened_logged segments disk

  -- the sectors with versions
  abbrev pub masked : Sectors
  masked s = if logged s then disk s else zero_block

  abbrev pub store : Store
  store = store_of segments disk

  pub few : segments ≤ 64
  few = subst (λ n. n ≤ 64) (sym is.stands.segments) (few_segments (disk 0) is.stands.param is.stands.parameters)

  -- ---- which sectors these are
  pub sector_here : (place : Region) → is_in_range segments place ≡ true → (sector : Sector) → sector_in (Some place) ≡ Some sector →
      logged (sector_of place) ≡ is_versioned_at (store_on segments disk) (Some sector)
  sector_here place inside sector e = ap (λ o. is_versioned_at (store_on segments disk) (sector_in o)) (region_found segments place few inside) ∙ ap (is_versioned_at (store_on segments disk)) e

  kept_at : (s : ℕ) → logged s ≡ true → masked s ≡ disk s
  kept_at s e = ap (λ (t : Bool). if t then disk s else zero_block) e

  pub zero_at : (s : ℕ) → logged s ≡ false → masked s ≡ zero_block
  zero_at s e = ap (λ (t : Bool). if t then disk s else zero_block) e

  pub segment_kept : (k : ℕ) → k < segments → masked (sector_of (region.Segment k)) ≡ disk (sector_of (region.Segment k))
  segment_kept k l = kept_at (sector_of (region.Segment k)) (sector_here (region.Segment k) (in_segment segments k l) (SegmentAt k) refl)

  pub same : HaveTheSameVersioned segments disk masked
  same = record {
    parameters = refl;
    bitmaps = segment_kept;
    inodes = λ i l. kept_at (sector_of (region.Inode i)) (sector_here (region.Inode i) (in_inode segments i l) (InodeAt i) refl);
    directories = λ k p l lp u. kept_at (sector_of (region.Small k p))
        (sector_here (region.Small k p) (in_small segments k p l lp) (DirectoryAt k p) refl ∙ is_directory (store.use_of k) u);
  }

  pub in_segments : SegmentsSay segments masked store.bit store.use_of store.large_bit
  in_segments = segments_kept segments disk masked store.bit store.use_of store.large_bit segment_kept
      (record { grammar = λ k l. is.stands.grammar.bitmaps k (subst (λ n. k < n) is.stands.segments l); bits = λ i. refl; uses = λ k. refl; large_bits = λ g. refl })

  -- ---- they stand for the shape
  abbrev pub most : ℕ
  most = versions_before opening.run

  pub run_some : 1 ≤ opening.run
  run_some = subst (λ n. 1 ≤ n) is.run (some_run (disk 0) is.stands.param is.stands.parameters)

  abbrev pub below : StandsBelow disk tree
  below = record {
    stands = is.stands;
    most = most;
    below = subst (λ n. most < 131072 * n) (sym is.run) (let m : most + 0 < 131072 * opening.run = most_below opening.run 0 run_some (omega arith) in omega arith);
    versions = subst (λ n. HasVersionsUpTo most n disk) is.stands.segments is.versions;
    whole = is.whole;
  }

  twice : StandsBelow disk (shape_of (shape_of tree))
  twice = disks_stand_below disk (shape_of tree) (disks_stand_below disk tree below)

  twice_segments : segments ≡ twice.stands.param.segments
  twice_segments = twice.stands.segments

  any_bytes : (s : Store) (n : Naming) → HasItsBytes s (shape_of tree) n
  any_bytes s n b j c e = any_cell (node_at tree b) j c (file_byte s n b j) (ap (λ o. cell_in o j) (sym (found tree b)) ∙ e)

  pub shape_stands : StandsFor masked (shape_of tree)
  shape_stands = stands_with_its_bytes disk masked (shape_of tree) twice (well_shape tree is.stands.well_formed)
      (subst (λ n. HaveTheSameVersioned n disk masked) twice_segments same) (any_bytes (store_of twice.stands.param.segments masked) twice.stands.naming)

  param_is : is.stands.param ≡ shape_stands.param
  param_is = same_param is.stands.param shape_stands.param (sym is.stands.parameters ∙ shape_stands.parameters)

  run_is : opening.run ≡ shape_stands.param.run
  run_is = sym is.run ∙ ap (λ (p : Param). p.run) param_is

  pub versions : HasVersionsUpTo most segments masked
  versions = record {
    bitmaps = λ k l. subst (λ b. version_of b ≤ most) (sym (same.bitmaps k l)) (is.versions.bitmaps k l);
    inodes = λ i l. subst (λ b. version_of b ≤ most) (sym (same.inodes i l)) (is.versions.inodes i l);
    directories = λ k p l lp u. let d : IsMetadata (store.use_of k) = subst IsMetadata (in_segments.uses k) u in
        subst (λ b. version_of b ≤ most) (sym (same.directories k p l lp d)) (is.versions.directories k p l lp d);
  }

  pub whole : (s : ℕ) → length (masked s) ≡ 512
  whole s = go (logged s)
    where
      go : (t : Bool) → length (if t then disk s else zero_block) ≡ 512
      go true = is.whole s
      go false = length_zeros 512

  pub shape_below : StandsBelow masked (shape_of tree)
  shape_below = record {
    stands = shape_stands;
    most = most;
    below = subst (λ n. most < 131072 * n) run_is (let m : most + 0 < 131072 * opening.run = most_below opening.run 0 run_some (omega arith) in omega arith);
    versions = subst (λ n. HasVersionsUpTo most n masked) shape_stands.segments versions;
    whole = whole;
  }

  pub zeros : HasZeros segments masked
  zeros k p l lp none =
      let none_there : is_directory_use (store.use_of k) ≡ false = ap is_directory_use (sym (in_segments.uses k)) ∙ none in
      zero_at (sector_of (region.Small k p)) (sector_here (region.Small k p) (in_small segments k p l lp) (DirectoryAt k p) refl ∙ none_there)

  abbrev pub stands_for_shape : StandsForShape segments masked tree
  stands_for_shape = record { well_formed = is.stands.well_formed; as_many = refl; below = shape_below; zeros = zeros }

  pub stands_numbered : (numbers : List ℕ) → 1 + length numbers < RUN_VERSIONS_MAX → StandsNumbered segments masked (record { tree = tree; numbers = numbers })
  unfolding shape_below
  stands_numbered numbers enough = record {
    stands = stands_for_shape;
    enough = subst (λ n. most + length numbers < 131072 * n) run_is (most_below opening.run (length numbers) run_some enough);
  }

  -- ---- under the naming of the opening
  in_inodes : InodesSay segments masked store.inode
  in_inodes = inodes_kept segments disk masked store.inode same.inodes
      (record { grammar = λ i l. is.stands.grammar.inodes i (subst (λ n. i < 64 * n) is.stands.segments l); inodes = λ i. refl })

  in_places : PlacesSay segments store.use_of masked store.place
  in_places = places_kept segments store.use_of disk masked store.place same.directories
      (record {
        grammar = λ k p l lp u. is.stands.grammar.directories k p (subst (λ n. k < 1024 * n) is.stands.segments l) lp
            (subst (λ n. IsMetadata ((store_of n disk).use_of k)) is.stands.segments u);
        places = λ k q l lq u. refl;
      })

  past_fresh : (k : ℕ) → 1024 * segments ≤ k → store.use_of k ≡ Fresh
  past_fresh k l = ap (λ (t : Bool). if t then use_in (segment_at disk (k / 1024)) (k % 1024) else Fresh) (le-ltb k (1024 * segments) l)

  says : SaysTheSame (blank store) (store_on segments masked)
  says = record {
    inode = in_inodes.inodes;
    bit = in_segments.bits;
    uses = in_segments.uses;
    large_bits = in_segments.large_bits;
    places = λ k q lq u. ⊎_elim (λ l. in_places.places k q l lq u) (λ l. absurd (subst IsMetadata (past_fresh k l) u)) (cases_lt k (1024 * segments));
    bytes = λ k j l u. refl;
    large_bytes = λ g j l u. refl;
  }

  abbrev shaped_blank : IsOfTree (blank store) (shape_of tree) naming
  shaped_blank = (shapes_stand store tree naming (of_tree disk tree below)).blank

  abbrev masked_blank : IsOfTree (store_on segments masked) (shape_of tree) stands_for_shape.below.stands.naming
  masked_blank = blank_of masked tree stands_for_shape

  pub named : IsOfTree (store_on segments masked) (shape_of tree) naming
  named = record {
    well_formed = masked_blank.well_formed;
    few = masked_blank.few;
    pictures = pictures_go_by_what_counts (blank store) (store_on segments masked) (node_at (shape_of tree)) naming shaped_blank.pictures (files_fit_now masked tree stands_for_shape) says;
    root = shaped_blank.root;
    births = shaped_blank.births;
    inodes = masked_blank.inodes;
    blocks = masked_blank.blocks;
    larges = masked_blank.larges;
  }
