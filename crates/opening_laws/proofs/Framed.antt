-- A disk with the segments, inodes and blocks of one that stands for a tree stands for it.
use Rattle.std.proofs.Common.{ℕ, ◌≡◌, ◌≤◌, ◌*◌, ◌/◌, ◌%◌, ⊎_elim, Bool, nat_lt, if◌then◌else◌, Some, refl, sym, ◌∙◌, ap, subst, arith}
use Rattle.std.specs.Prelude.{length}
use Rattle.std.proofs.lemmas.Bool.{cases_lt, le-ltb, ltb-true}
use Rattle.tree_definitions.specs.Tree.{FileTree, node_at}
use Rattle.sector_bytes.specs.Blocks.{version_of}
use Rattle.sector_bytes.specs.Sectors.{Sectors}
use Rattle.disk_definitions.specs.declared.param.Param.{Param}
use Rattle.disk_definitions.specs.declared.region.Region.TheVariants as region
use Rattle.disk_definitions.specs.ChangeLaws.{FilesFit, SaysTheSame}
use Rattle.disk_definitions.specs.FitPlans.{IsFitStore}
use Rattle.disk_definitions.specs.Naming.{Naming, Pictures}
use Rattle.disk_definitions.specs.Params.{param_in}
use Rattle.disk_definitions.specs.Standing.{HasVersionsUpTo, IsInGrammar, IsMetadata, StandsFor}
use Rattle.disk_definitions.specs.Store.{Store, large_in, segment_at, store_of, use_in}
use Rattle.disk_definitions.specs.Store.Use.{Bytes, Fresh}
use Rattle.disk_definitions.proofs.Counts.{files_fit, pictures_go_by_what_counts}
use Rattle.disk_definitions.proofs.Readings.{and_l}
use Rattle.plan_fit.specs.Says.{BytesSay, InodesSay, LargeBytesSay, PlacesSay, SegmentsSay}
use Rattle.plan_fit.proofs.DecodedEntries.{disks_fit}
use Rattle.plan_fit.proofs.FileNodes.{fit_file}
use Rattle.plan_fit.proofs.Kept.{bytes_kept, in_inode, in_large, in_segment, in_small, inodes_kept, large_kept, places_kept, segments_kept}
use Rattle.opening_laws.specs.Regions.{HasTheTreeOf, MayFollow, RegionsStand}

module _ (segments : ℕ) (disk other : Sectors) (same : HasTheTreeOf segments disk other) (grammar : IsInGrammar segments disk) where
  abbrev pub here : Store
  here = store_of segments disk

  abbrev pub there : Store
  there = store_of segments other

  -- ---- what the sectors of the other disk say
  in_segments : SegmentsSay segments other here.bit here.use_of here.large_bit
  in_segments = segments_kept segments disk other here.bit here.use_of here.large_bit (λ k l. same (region.Segment k) (in_segment segments k l) refl)
      (record { grammar = grammar.bitmaps; bits = λ i. refl; uses = λ k. refl; large_bits = λ g. refl })

  in_inodes : InodesSay segments other here.inode
  in_inodes = inodes_kept segments disk other here.inode (λ i l. same (region.Inode i) (in_inode segments i l) refl) (record { grammar = grammar.inodes; inodes = λ i. refl })

  in_places : PlacesSay segments here.use_of other here.place
  in_places = places_kept segments here.use_of disk other here.place (λ k p l lp u. same (region.Small k p) (in_small segments k p l lp) refl)
      (record { grammar = grammar.directories; places = λ k q l lq d. refl })

  in_bytes : BytesSay segments here.use_of other here.byte
  in_bytes = bytes_kept segments here.use_of disk other here.byte (λ k p l lp u. same (region.Small k p) (in_small segments k p l lp) refl) (λ k j l lj u. refl)

  in_larges : LargeBytesSay segments here.large_bit other here.large_byte
  in_larges = large_kept segments here.large_bit disk other here.large_byte (λ g p l lp u. same (region.Large g p) (in_large segments g p l lp) refl) (λ g j l lj u. refl)

  past_fresh : (k : ℕ) → 1024 * segments ≤ k → here.use_of k ≡ Fresh
  past_fresh k l = ap (λ (t : Bool). if t then use_in (segment_at disk (k / 1024)) (k % 1024) else Fresh) (le-ltb k (1024 * segments) l)

  not_past : (k : ℕ) → 1024 * segments ≤ k → here.use_of k ≡ Bytes → ⊥
  not_past k l u = let z : Fresh ≡ Bytes = sym (past_fresh k l) ∙ u in cc

  pub says : SaysTheSame here there
  says = record {
    inode = in_inodes.inodes;
    bit = in_segments.bits;
    uses = in_segments.uses;
    large_bits = in_segments.large_bits;
    places = λ k q lq d. ⊎_elim (λ l. in_places.places k q l lq d) (λ l. absurd (subst IsMetadata (past_fresh k l) d)) (cases_lt k (1024 * segments));
    bytes = λ k j l u. ⊎_elim (λ inside. in_bytes k j inside l u) (λ past. absurd (not_past k past u)) (cases_lt k (1024 * segments));
    large_bytes = λ g j l u. in_larges g j (ltb-true g segments (and_l (nat_lt g segments) (large_in (segment_at disk g)) u)) l u;
  }

  pub grammar_there : IsInGrammar segments other
  grammar_there = record {
    bitmaps = in_segments.grammar;
    inodes = in_inodes.grammar;
    directories = λ k p l lp u. in_places.grammar k p l lp (subst IsMetadata (in_segments.uses k) u);
  }

  pub versions_there : (most : ℕ) → HasVersionsUpTo most segments disk → HasVersionsUpTo most segments other
  versions_there most versions = record {
    bitmaps = λ k l. subst (λ b. version_of b ≤ most) (sym (same (region.Segment k) (in_segment segments k l) refl)) (versions.bitmaps k l);
    inodes = λ i l. subst (λ b. version_of b ≤ most) (sym (same (region.Inode i) (in_inode segments i l) refl)) (versions.inodes i l);
    directories = λ k p l lp u. subst (λ b. version_of b ≤ most) (sym (same (region.Small k p) (in_small segments k p l lp) refl))
        (versions.directories k p l lp (subst IsMetadata (in_segments.uses k) u));
  }

  -- ---- the picture
  module _ (whole : (sector : ℕ) → length (other sector) ≡ 512) (tree : FileTree) (naming : Naming) (picture : Pictures here (node_at tree) naming) where
    fit_store : IsFitStore segments there
    fit_store = disks_fit other segments grammar_there whole

    fits : FilesFit (node_at tree)
    fits = files_fit here (node_at tree) naming picture (λ i x e k. (fit_file x (fit_store.nodes i x (in_inodes.inodes i ∙ e)).1 k).size)

    pub picture_there : Pictures there (node_at tree) naming
    picture_there = pictures_go_by_what_counts here there (node_at tree) naming picture fits says

-- later versions
pub more_versions : (least most segments : ℕ) (disk : Sectors) → least ≤ most → HasVersionsUpTo least segments disk → HasVersionsUpTo most segments disk
more_versions least most segments disk more versions = record {
  bitmaps = λ k l. let v = versions.bitmaps k l in omega arith;
  inodes = λ i l. let v = versions.inodes i l in omega arith;
  directories = λ k p l lp u. let v = versions.directories k p l lp u in omega arith;
}

module _ (disk other : Sectors) (tree : FileTree) (param : Param) (stands : StandsFor disk tree) (whole : (sector : ℕ) → length (other sector) ≡ 512)
    (same : HasTheTreeOf tree.segments disk other) (parameters : param_in (other 0) ≡ Some param) (follows : MayFollow tree.segments stands.param.run param) where
  segments_are : stands.param.segments ≡ param.segments
  segments_are = sym stands.segments ∙ sym follows.segments

  grammar : IsInGrammar param.segments disk
  grammar = subst (λ n. IsInGrammar n disk) segments_are stands.grammar

  alike : HasTheTreeOf param.segments disk other
  alike = subst (λ n. HasTheTreeOf n disk other) (sym follows.segments) same

  picture : Pictures (store_of param.segments disk) (node_at tree) stands.naming
  picture = subst (λ n. Pictures (store_of n disk) (node_at tree) stands.naming) segments_are stands.picture

  later : 131072 * stands.param.run ≤ 131072 * param.run
  later = let r = follows.run in omega arith

  pub stands_there : StandsFor other tree
  stands_there = record {
    param = param;
    parameters = parameters;
    segments = sym follows.segments;
    grammar = grammar_there param.segments disk other alike grammar;
    versions = versions_there param.segments disk other alike grammar (131072 * param.run)
        (more_versions (131072 * stands.param.run) (131072 * param.run) param.segments disk later
        (subst (λ n. HasVersionsUpTo (131072 * stands.param.run) n disk) segments_are stands.versions));
    well_formed = stands.well_formed;
    reached = stands.reached;
    naming = stands.naming;
    picture = picture_there param.segments disk other alike grammar whole tree stands.naming picture;
    root = stands.root;
    births = stands.births;
  }

pub regions_stand : RegionsStand
regions_stand disk other tree param stands whole same parameters follows = stands_there disk other tree param stands whole same parameters follows
