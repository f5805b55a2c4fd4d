-- A disk with the sectors with versions of one that stands for a shape, and with the bytes of the tree's files, stands for the tree.
use Rattle.std.proofs.Common.{ℕ, ◌≡◌, ◌≤◌, ◌*◌, ◌/◌, ◌%◌, ⊎_elim, Bool, if◌then◌else◌, is_some, refl, sym, ◌∙◌, ap, subst}
use Rattle.std.proofs.Math.Path.{fun_ext}
use Rattle.std.proofs.lemmas.Bool.{cases_lt, le-ltb}
use Rattle.tree_definitions.specs.Touched.{shape_of, shaped}
use Rattle.tree_definitions.specs.Tree.{FileTree, node_at}
use Rattle.tree_definitions.specs.WellFormed.{IsWellFormed}
use Rattle.tree_laws.proofs.ShapeNodes.{found}
use Rattle.sector_bytes.specs.Blocks.{version_of}
use Rattle.sector_bytes.specs.Sectors.{Sectors}
use Rattle.disk_definitions.specs.Params.{param_in}
use Rattle.disk_definitions.specs.Store.{Store, segment_at, store_of, use_in}
use Rattle.disk_definitions.specs.Store.Use.{Fresh}
use Rattle.disk_definitions.specs.Naming.{Naming, Nodes, Pictures}
use Rattle.disk_definitions.specs.Standing.{IsInGrammar, IsMetadata, IsReached, HasVersionsUpTo, StandsFor}
use Rattle.disk_definitions.specs.ChangeLaws.{FilesFit, SaysTheSame}
use Rattle.disk_definitions.proofs.Counts.{files_fit, pictures_go_by_what_counts}
use Rattle.disk_definitions.specs.FitPlans.{IsFitStore}
use Rattle.disk_definitions.specs.OnDisk.{StandsBelow}
use Rattle.plan_fit.proofs.DecodedEntries.{disks_fit}
use Rattle.plan_fit.proofs.FileNodes.{fit_file}
use Rattle.plan_fit.specs.Says.{SegmentsSay, InodesSay, PlacesSay}
use Rattle.plan_fit.proofs.Kept.{segments_kept, inodes_kept, places_kept}
use Rattle.byte_trees.specs.Standing.{HasItsBytes, HaveTheSameVersioned, ADiskStandsWithItsBytes}
use Rattle.byte_trees.proofs.Filling.{filled, reached_too, there_too, any_bytes}

module _ (disk other : Sectors) (tree : FileTree) (below : StandsBelow disk (shape_of tree)) (well : IsWellFormed tree) (same : HaveTheSameVersioned below.stands.param.segments disk other)
    (bytes : HasItsBytes (store_of below.stands.param.segments other) tree below.stands.naming) where
  abbrev stands : StandsFor disk (shape_of tree)
  stands = below.stands

  abbrev segments : ℕ
  segments = below.stands.param.segments

  abbrev here : Store
  here = store_of segments disk

  abbrev there : Store
  there = store_of segments other

  abbrev naming : Naming
  naming = below.stands.naming

  -- ---- what the sectors of the other disk say

  in_segments : SegmentsSay segments other here.bit here.use_of here.large_bit
  in_segments = segments_kept segments disk other here.bit here.use_of here.large_bit same.bitmaps
      (record { grammar = below.stands.grammar.bitmaps; bits = λ i. refl; uses = λ k. refl; large_bits = λ g. refl })

  in_inodes : InodesSay segments other here.inode
  in_inodes = inodes_kept segments disk other here.inode same.inodes (record { grammar = below.stands.grammar.inodes; inodes = λ i. refl })

  in_places : PlacesSay segments here.use_of other here.place
  in_places = places_kept segments here.use_of disk other here.place same.directories (record { grammar = below.stands.grammar.directories; places = λ k q l lq d. refl })

  past_fresh : (k : ℕ) → 1024 * segments ≤ k → here.use_of k ≡ Fresh
  past_fresh k l = ap (λ (t : Bool). if t then use_in (segment_at disk (k / 1024)) (k % 1024) else Fresh) (le-ltb k (1024 * segments) l)

  says : SaysTheSame (record here { byte = there.byte; large_byte = there.large_byte }) there
  says = record {
    inode = in_inodes.inodes;
    bit = in_segments.bits;
    uses = in_segments.uses;
    large_bits = in_segments.large_bits;
    places = λ k q lq d. ⊎_elim (λ l. in_places.places k q l lq d) (λ l. absurd (subst IsMetadata (past_fresh k l) d)) (cases_lt k (1024 * segments));
    bytes = λ k j l d. refl;
    large_bytes = λ g j l d. refl;
  }

  -- ---- the picture

  abbrev nodes : Nodes
  nodes = node_at tree

  same_nodes : node_at (shape_of tree) ≡ (λ b. shaped (nodes b))
  same_nodes = fun_ext (found tree)

  fit_store : IsFitStore segments here
  fit_store = disks_fit disk segments below.stands.grammar below.whole

  shape_fits : FilesFit (node_at (shape_of tree))
  shape_fits = files_fit here (node_at (shape_of tree)) naming below.stands.picture (λ i x e k. (fit_file x (fit_store.nodes i x e).1 k).size)

  -- the shape allows any bytes, so those of the other disk too
  with_others : Pictures (record here { byte = there.byte; large_byte = there.large_byte }) (node_at (shape_of tree)) naming
  with_others = subst (λ at. Pictures (record here { byte = there.byte; large_byte = there.large_byte }) at naming) (sym same_nodes)
      (any_bytes here nodes naming (subst (λ at. Pictures here at naming) same_nodes below.stands.picture) there.byte there.large_byte)

  shape_there : Pictures there (node_at (shape_of tree)) naming
  shape_there = pictures_go_by_what_counts (record here { byte = there.byte; large_byte = there.large_byte }) there (node_at (shape_of tree)) naming with_others shape_fits says

  picture : Pictures there nodes naming
  picture = filled there nodes naming (subst (λ at. Pictures there at naming) same_nodes shape_there) bytes

  -- ---- the disk

  grammar : IsInGrammar segments other
  grammar = record {
    bitmaps = in_segments.grammar;
    inodes = in_inodes.grammar;
    directories = λ k p l lp u. in_places.grammar k p l lp (subst IsMetadata (in_segments.uses k) u);
  }

  versions : HasVersionsUpTo (131072 * below.stands.param.run) segments other
  versions = record {
    bitmaps = λ k l. subst (λ b. version_of b ≤ 131072 * below.stands.param.run) (sym (same.bitmaps k l)) (below.stands.versions.bitmaps k l);
    inodes = λ i l. subst (λ b. version_of b ≤ 131072 * below.stands.param.run) (sym (same.inodes i l)) (below.stands.versions.inodes i l);
    directories = λ k p l lp u. let d : IsMetadata (here.use_of k) = subst IsMetadata (in_segments.uses k) u in
        subst (λ b. version_of b ≤ 131072 * below.stands.param.run) (sym (same.directories k p l lp d)) (below.stands.versions.directories k p l lp d);
  }

  pub whole_stands : StandsFor other tree
  whole_stands = record {
    param = below.stands.param;
    parameters = ap param_in same.parameters ∙ below.stands.parameters;
    segments = below.stands.segments;
    grammar = grammar;
    versions = versions;
    well_formed = well;
    reached = reached_too nodes naming (subst IsReached same_nodes below.stands.reached);
    naming = naming;
    picture = picture;
    root = below.stands.root;
    births = λ b some late. below.stands.births b (ap is_some (found tree b) ∙ there_too nodes naming b some) late;
  }

pub stands_with_its_bytes : ADiskStandsWithItsBytes
stands_with_its_bytes disk other tree below well same bytes = whole_stands disk other tree below well same bytes
