-- The sectors with the changes of a finished line stand for the shape of the tree after it.
use Rattle.std.proofs.Common.{ℕ, ◌≡◌, ◌+◌, ◌*◌, ◌/◌, ◌%◌, ◌^◌, ◌<◌, ◌≤◌, ⊎_elim, Bool, true, false, List, [], ◌∷◌, is_some, if◌then◌else◌, refl, sym, ◌∙◌, ap, subst, arith}
use Rattle.std.proofs.Math.Path.{fun_ext}
use Rattle.std.proofs.lemmas.Bool.{cases_lt, le-ltb}
use Rattle.frang_base.specs.declared.op.Op.{Op}
use Rattle.tree_definitions.specs.Tree.{FileTree, node_at}
use Rattle.tree_definitions.specs.Touched.{shape_of, shaped}
use Rattle.tree_definitions.specs.Apply.{Applied}
use Rattle.tree_definitions.specs.Perform.{Step, Goes, Stops, perform, perform_step, resolved}
use Rattle.tree_definitions.specs.WellFormed.{IsNew, IsWellFormed}
use Rattle.tree_laws.proofs.OrderLaws.{segments_perform}
use Rattle.standing_laws.proofs.Applied.{apply_keeps_reached}
use Rattle.sector_bytes.specs.Blocks.{version_of}
use Rattle.sector_bytes.specs.Sectors.{Sectors}
use Rattle.disk_definitions.specs.declared.region.Region.{Region}
use Rattle.disk_definitions.specs.declared.region.Region.TheVariants as region
use Rattle.disk_definitions.specs.Params.{param_in}
use Rattle.disk_definitions.specs.Regions.{sector_of, is_in_range}
use Rattle.disk_definitions.specs.Store.{Store, Use, store_of, segment_at, use_in}
use Rattle.disk_definitions.specs.Store.Use.{Fresh, Bytes, Empty, Entries}
use Rattle.disk_definitions.specs.Naming.{Pictures}
use Rattle.disk_definitions.specs.Standing.{IsMetadata, IsInGrammar, HasVersionsUpTo, IsReached, version_at}
use Rattle.tree_laws.proofs.ShapeNodes.{found}
use Rattle.disk_definitions.specs.Edits.{Edit, edited, edited_all}
use Rattle.disk_definitions.specs.Edits.Edit.{SetInode, SetBit, SetUse, SetPlace, SetLarge, SetBytes, SetLargeBytes}
use Rattle.disk_definitions.specs.Edits.{put_part}
use Rattle.disk_definitions.specs.ChangeLaws.{FilesFit, SaysTheSame}
use Rattle.disk_definitions.proofs.Counts.{pictures_go_by_what_counts}
use Rattle.disk_definitions.specs.Allowed.{IsAllowed}
use Rattle.disk_definitions.specs.Ask.{run}
use Rattle.disk_definitions.specs.FitEdits.{AreFit}
use Rattle.disk_definitions.specs.FitPlans.{IsFitFinish}
use Rattle.disk_definitions.specs.Meets.{IsOfTree, IsHandOf, FinishMeets, is_directory_use, directory_blocks_in}
use Rattle.plan_laws.specs.Keeping.{FinishKeeps, PlanKeeps}
use Rattle.disk_definitions.specs.OnDisk.{StandsBelow}
use Rattle.disk_definitions.specs.Plans.{Hand, Finish}
use Rattle.disk_definitions.specs.Plans.Plan.{Finishes}
use Rattle.disk_definitions.specs.Ready.{IsWritten, disk_after}
use Rattle.plan_laws.proofs.Fitting.{files_stay_fit}
use Rattle.plan_fit.specs.Says.{SegmentsSay, InodesSay, PlacesSay}
use Rattle.plan_fit.proofs.DiskLaws.{written}
use Rattle.plan_fit.proofs.Kept.{in_segment, in_inode, in_small, segments_kept, inodes_kept, places_kept}
use Rattle.plan_fit.proofs.RecordLaws.{NotTo, misses, no_bytes_segment, no_bytes_inode, no_bytes_directory}
use Rattle.line_laws.proofs.OfDisk.{few}
use Rattle.line_laws.specs.Stores.{with_bytes}
use Rattle.line_laws.proofs.Shaping.{shapes_stand, files_stay, all_reached}
use Rattle.disk_definitions.specs.Lines.{plan_of_line}
use Rattle.line_laws.proofs.Planned.{lines_planned}
use Rattle.line_laws.proofs.Laws.{line_directories_stay}
use Rattle.line_laws.specs.Ready.{IsClearOn, MayBeMade}
use Rattle.line_laws.proofs.Readiness.{lines_may_be_made}
use Rattle.line_histories.specs.LinePlans.{store_on}
use Rattle.line_histories.specs.Standing.{HasZeros, StandsForShape}
use Rattle.line_histories.proofs.Disks.{blank_of, files, files_fit_now, ever}
use Rattle.line_histories.proofs.Laid.{with_changes, changed_same, unchanged, changed_long}

-- ---- edits over other bytes

-- edits over a store with other bytes make what they make of the store, with other bytes
record EndsAside (s t : Store) : Type 0 where
  byte : ℕ → ℕ → ℕ
  large_byte : ℕ → ℕ → ℕ
  is : t ≡ with_bytes s byte large_byte

edited_aside : (s : Store) (byte large_byte : ℕ → ℕ → ℕ) (es : List Edit) → EndsAside (edited_all s es) (edited_all (with_bytes s byte large_byte) es)
edited_aside s byte large_byte [] = record { byte = byte; large_byte = large_byte; is = refl }
edited_aside s byte large_byte (SetInode i x dated ∷ es) = edited_aside (edited s (SetInode i x dated)) byte large_byte es
edited_aside s byte large_byte (SetBit i b ∷ es) = edited_aside (edited s (SetBit i b)) byte large_byte es
edited_aside s byte large_byte (SetUse k u ∷ es) = edited_aside (edited s (SetUse k u)) byte large_byte es
edited_aside s byte large_byte (SetPlace k p e ∷ es) = edited_aside (edited s (SetPlace k p e)) byte large_byte es
edited_aside s byte large_byte (SetLarge g b ∷ es) = edited_aside (edited s (SetLarge g b)) byte large_byte es
edited_aside s byte large_byte (SetBytes k part bytes ∷ es) = edited_aside (edited s (SetBytes k part bytes)) (put_part byte k part bytes) large_byte es
edited_aside s byte large_byte (SetLargeBytes g part bytes ∷ es) = edited_aside (edited s (SetLargeBytes g part bytes)) byte (put_part large_byte g part bytes) es

-- ---- where no metadata is written

not_param : (end : Store) (e : Edit) → NotTo true region.Param end e
not_param end (SetInode i x dated) f u q = cc
not_param end (SetBit i b) f u q = cc
not_param end (SetUse k x) f u q = cc
not_param end (SetPlace k p o) f u q = cc
not_param end (SetLarge g b) f u q = cc
not_param end (SetBytes k part bytes) f u q = cc
not_param end (SetLargeBytes g part bytes) f u q = cc

no_directory : (u : Use) → is_directory_use u ≡ false → IsMetadata u → ⊥
no_directory Fresh e m = m
no_directory Bytes e m = m
no_directory Empty e m = cc
no_directory Entries e m = cc

not_elsewhere : (end : Store) (k p : ℕ) → is_directory_use (end.use_of k) ≡ false → (e : Edit) → NotTo true (region.Small k p) end e
not_elsewhere end k p d (SetInode i x dated) f u q = cc
not_elsewhere end k p d (SetBit i b) f u q = cc
not_elsewhere end k p d (SetUse i x) f u q = cc
not_elsewhere end k p d (SetPlace i r o) f u q = let same : i ≡ k = cc in no_directory (end.use_of i) (ap (λ z. is_directory_use (end.use_of z)) same ∙ d) u
not_elsewhere end k p d (SetLarge g b) f u q = cc
not_elsewhere end k p d (SetBytes i part bytes) f u q = absurd cc
not_elsewhere end k p d (SetLargeBytes g part bytes) f u q = cc

-- ---- what an operation keeps of a tree

step_reached : (t : FileTree) (s : Step) (birth when m : ℕ) → IsWellFormed t → IsReached (node_at t) → IsNew t birth → IsReached (node_at (perform_step t s birth when m).tree)
step_reached t (Goes o) birth when m well reached new = apply_keeps_reached t o birth when m well reached new
step_reached t (Stops r) birth when m well reached new = reached

step_fit : (t : FileTree) (s : Step) (birth when m : ℕ) → IsWellFormed t → FilesFit (node_at t) → FilesFit (node_at (perform_step t s birth when m).tree)
step_fit t (Goes o) birth when m well fit = files_stay_fit t o birth when m well fit
step_fit t (Stops r) birth when m well fit = fit

-- from sectors that stand for a tree to others that stand for the next, by the same parameters and with versions up to one more
pub record IsNextBelow (disk : Sectors) (tree : FileTree) (below : StandsBelow disk tree) (next : Sectors) (to : FileTree) : Type 0 where
  pub after : StandsBelow next to
  pub most : after.most ≡ below.most + 1
  pub param : after.stands.param ≡ below.stands.param

module _ (disk : Sectors) (tree : FileTree) (stands : StandsForShape tree.segments disk tree) (h : Hand) (at : IsHandOf h (store_on tree.segments disk) tree.segments)
    (clear : IsClearOn disk h) (birth when : ℕ) (o : Op) (may : IsAllowed o) (new : IsNew tree birth) (small_birth : birth < 2 ^ 64) (small_time : when < 2 ^ 64)
    (f : Finish) (is : run (plan_of_line h birth when o) (store_on tree.segments disk) ≡ Finishes f) where
  abbrev segments : ℕ
  segments = tree.segments

  abbrev shape : FileTree
  shape = shape_of tree

  abbrev most : ℕ
  most = stands.below.most

  new_shape : IsNew shape birth
  new_shape = found tree birth ∙ ap shaped new

  abbrev m : ℕ
  m = ever disk tree stands

  abbrev applied : Applied
  applied = perform shape o birth when m

  -- ---- the plan over the store without bytes

  pub meets : FinishMeets (store_on segments disk) applied f
  meets = keeps.meets
    where
      keeps : FinishKeeps (store_on segments disk) shape stands.below.stands.naming applied f
      keeps = subst (PlanKeeps h (store_on segments disk) shape stands.below.stands.naming applied) is (lines_planned o h (store_on segments disk) shape stands.below.stands.naming birth when m (blank_of disk tree stands) at new_shape (files disk tree stands))

  may_be : MayBeMade disk shape stands.below h (λ block index. 0) (λ large index. 0) f
  may_be = lines_may_be_made o h disk shape (λ block index. 0) (λ large index. 0) birth when f may stands.below at clear small_birth small_time is

  -- ---- the edits over the store with bytes

  abbrev end : Store
  end = edited_all (store_of segments disk) f.edits

  aside : EndsAside end (edited_all (store_on segments disk) f.edits)
  aside = edited_aside (store_of segments disk) (λ block index. 0) (λ large index. 0) f.edits

  use_is : (k : ℕ) → (edited_all (store_on segments disk) f.edits).use_of k ≡ end.use_of k
  use_is k = ap (λ (s : Store). s.use_of k) aside.is

  fit : AreFit segments end f.edits
  fit = may_be.ready.fit

  -- ---- the sectors with the changes

  abbrev laid : Sectors
  laid = disk_after disk f.edits

  abbrev next : Sectors
  next = with_changes disk f.edits

  after : IsWritten most segments disk f.edits
  after = written most segments disk f.edits may_be.ready

  misses_bytes : (r : Region) → is_in_range segments r ≡ true → ((e : Edit) → NotTo false r end e) → next (sector_of r) ≡ laid (sector_of r)
  misses_bytes r inside apart = changed_same disk f.edits (sector_of r) (stands.below.whole (sector_of r)) (misses segments end false r f.edits (few disk shape stands.below) inside fit apart)

  segment_same : (k : ℕ) → k < segments → next (sector_of (region.Segment k)) ≡ laid (sector_of (region.Segment k))
  segment_same k l = misses_bytes (region.Segment k) (in_segment segments k l) (no_bytes_segment end k)

  inode_same : (i : ℕ) → i < 64 * segments → next (sector_of (region.Inode i)) ≡ laid (sector_of (region.Inode i))
  inode_same i l = misses_bytes (region.Inode i) (in_inode segments i l) (no_bytes_inode end i)

  directory_same : (k p : ℕ) → k < 1024 * segments → p < 8 → IsMetadata (end.use_of k) → next (sector_of (region.Small k p)) ≡ laid (sector_of (region.Small k p))
  directory_same k p l lp d = misses_bytes (region.Small k p) (in_small segments k p l lp) (no_bytes_directory end k p d)

  param_stays : next 0 ≡ disk 0
  param_stays = unchanged disk f.edits 0 (misses segments end true region.Param f.edits (few disk shape stands.below) refl fit (not_param end))

  in_segments : SegmentsSay segments next end.bit end.use_of end.large_bit
  in_segments = segments_kept segments laid next end.bit end.use_of end.large_bit segment_same
      (record { grammar = after.grammar.bitmaps; bits = after.says.bit; uses = after.says.uses; large_bits = after.says.large_bits })

  in_inodes : InodesSay segments next end.inode
  in_inodes = inodes_kept segments laid next end.inode inode_same (record { grammar = after.grammar.inodes; inodes = after.says.inode })

  in_places : PlacesSay segments end.use_of next end.place
  in_places = places_kept segments end.use_of laid next end.place directory_same (record {
    grammar = λ k p l lp d. after.grammar.directories k p l lp (subst IsMetadata (sym (after.says.uses k)) d);
    places = λ k q l lq d. after.says.places k q lq d;
  })

  -- ---- what the edits say of them

  pub inodes_next : (i : ℕ) → (store_on segments next).inode i ≡ (edited_all (store_on segments disk) f.edits).inode i
  inodes_next i = in_inodes.inodes i ∙ sym (ap (λ (s : Store). s.inode i) aside.is)

  pub bits_next : (i : ℕ) → (store_on segments next).bit i ≡ (edited_all (store_on segments disk) f.edits).bit i
  bits_next i = in_segments.bits i ∙ sym (ap (λ (s : Store). s.bit i) aside.is)

  pub uses_next : (k : ℕ) → (store_on segments next).use_of k ≡ (edited_all (store_on segments disk) f.edits).use_of k
  uses_next k = in_segments.uses k ∙ sym (use_is k)

  pub larges_next : (g : ℕ) → (store_on segments next).large_bit g ≡ (edited_all (store_on segments disk) f.edits).large_bit g
  larges_next g = in_segments.large_bits g ∙ sym (ap (λ (s : Store). s.large_bit g) aside.is)

  pub fit_next : IsFitFinish h segments (store_on segments disk) f
  fit_next = may_be.fit

  -- ---- the picture

  abbrev there : Store
  there = store_of segments next

  past_fresh : (k : ℕ) → 1024 * segments ≤ k → end.use_of k ≡ Fresh
  past_fresh k l = sym (in_segments.uses k) ∙ ap (λ (t : Bool). if t then use_in (segment_at next (k / 1024)) (k % 1024) else Fresh) (le-ltb k (1024 * segments) l)

  says : SaysTheSame (with_bytes end there.byte there.large_byte) there
  says = record {
    inode = in_inodes.inodes;
    bit = in_segments.bits;
    uses = in_segments.uses;
    large_bits = in_segments.large_bits;
    places = λ k q lq d. ⊎_elim (λ l. in_places.places k q l lq d) (λ l. absurd (subst IsMetadata (past_fresh k l) d)) (cases_lt k (1024 * segments));
    bytes = λ k j l d. refl;
    large_bytes = λ g j l d. refl;
  }

  shape_end : IsOfTree (with_bytes end there.byte there.large_byte) (shape_of applied.tree) meets.naming
  shape_end = subst (λ (s : Store). IsOfTree (with_bytes s there.byte there.large_byte) (shape_of applied.tree) meets.naming) aside.is
      ((shapes_stand (edited_all (store_on segments disk) f.edits) applied.tree meets.naming meets.tree).others there.byte there.large_byte)

  fit_after : FilesFit (node_at (shape_of applied.tree))
  fit_after = (files_stay (store_of segments disk) applied.tree (directory_blocks_in (store_of segments disk) applied.tree.segments)
      (record { fit = step_fit shape (resolved shape o).step birth when m stands.below.stands.well_formed (files_fit_now disk tree stands); directories = refl })).fit

  picture : Pictures there (node_at (shape_of applied.tree)) meets.naming
  picture = pictures_go_by_what_counts (with_bytes end there.byte there.large_byte) there (node_at (shape_of applied.tree)) meets.naming shape_end.pictures fit_after says

  -- ---- the disk

  grammar_next : IsInGrammar segments next
  grammar_next = record {
    bitmaps = in_segments.grammar;
    inodes = in_inodes.grammar;
    directories = λ k p l lp u. in_places.grammar k p l lp (subst IsMetadata (in_segments.uses k) u);
  }

  versions_next : HasVersionsUpTo (most + 1) segments next
  versions_next = record {
    bitmaps = λ k l. subst (λ b. version_of b ≤ most + 1) (sym (segment_same k l)) (after.versions.bitmaps k l);
    inodes = λ i l. subst (λ b. version_of b ≤ most + 1) (sym (inode_same i l)) (after.versions.inodes i l);
    directories = λ k p l lp u. let d : IsMetadata (end.use_of k) = subst IsMetadata (in_segments.uses k) u in
        subst (λ b. version_of b ≤ most + 1) (sym (directory_same k p l lp d)) (after.versions.directories k p l lp (subst IsMetadata (sym (after.says.uses k)) d));
  }

  reached_next : IsReached (node_at (shape_of applied.tree))
  reached_next = subst IsReached (sym (fun_ext (found applied.tree))) (all_reached (node_at applied.tree) (step_reached shape (resolved shape o).step birth when m stands.below.stands.well_formed stands.below.stands.reached new_shape))

  segments_next : applied.tree.segments ≡ stands.below.stands.param.segments
  segments_next = segments_perform shape o birth when m stands.below.stands.well_formed.births ∙ stands.below.stands.segments

  -- of whatever tree that is the shape of the tree after the operation
  module _ (to : FileTree) (shape_is : shape_of applied.tree ≡ to) (room : most + 1 < 131072 * stands.below.stands.param.run) where
    bounded : (v : ℕ) → v ≤ most + 1 → v ≤ 131072 * stands.below.stands.param.run
    bounded v l = omega arith

    pub stands_next : IsNextBelow disk shape stands.below next to
    stands_next = record {
      after = record {
        stands = record {
          param = stands.below.stands.param;
          parameters = ap param_in param_stays ∙ stands.below.stands.parameters;
          segments = ap (λ (t : FileTree). t.segments) (sym shape_is) ∙ segments_next;
          grammar = subst (λ k. IsInGrammar k next) stands.below.stands.segments grammar_next;
          versions = subst (λ k. HasVersionsUpTo (131072 * stands.below.stands.param.run) k next) stands.below.stands.segments (record {
            bitmaps = λ k l. bounded (version_at next (sector_of (region.Segment k))) (versions_next.bitmaps k l);
            inodes = λ i l. bounded (version_at next (sector_of (region.Inode i))) (versions_next.inodes i l);
            directories = λ k p l lp u. bounded (version_at next (sector_of (region.Small k p))) (versions_next.directories k p l lp u);
          });
          well_formed = subst IsWellFormed shape_is shape_end.well_formed;
          reached = subst (λ t. IsReached (node_at t)) shape_is reached_next;
          naming = meets.naming;
          picture = subst (λ t. Pictures (store_of stands.below.stands.param.segments next) (node_at t) meets.naming) shape_is
              (subst (λ k. Pictures (store_of k next) (node_at (shape_of applied.tree)) meets.naming) stands.below.stands.segments picture);
          root = shape_end.root;
          births = subst (λ (t : FileTree). (b : ℕ) → is_some (node_at t b) ≡ true → 4294967296 ≤ b → meets.naming.stamp b ≡ b) shape_is shape_end.births;
        };
        most = most + 1;
        below = room;
        versions = subst (λ k. HasVersionsUpTo (most + 1) k next) stands.below.stands.segments versions_next;
        whole = λ s. changed_long disk f.edits s (stands.below.whole s);
      };
      most = refl;
      param = refl;
    }

  -- ---- the zeros

  was_none : (k : ℕ) → is_directory_use (end.use_of k) ≡ false → is_directory_use ((store_of segments disk).use_of k) ≡ false
  was_none k none = go (is_directory_use ((store_of segments disk).use_of k)) refl
    where
      go : (b : Bool) → is_directory_use ((store_of segments disk).use_of k) ≡ b → b ≡ false
      go true e = let t : is_directory_use (end.use_of k) ≡ true = ap is_directory_use (sym (use_is k)) ∙ line_directories_stay o h (store_on segments disk) shape stands.below.stands.naming birth when f (blank_of disk tree stands) at is k e in absurd cc
      go false e = refl

  pub zeros_next : HasZeros segments next
  zeros_next k p l lp none =
      let d : is_directory_use (end.use_of k) ≡ false = sym (ap is_directory_use (in_segments.uses k)) ∙ none in
      unchanged disk f.edits (sector_of (region.Small k p)) (misses segments end true (region.Small k p) f.edits (few disk shape stands.below) (in_small segments k p l lp) fit (not_elsewhere end k p d))
      ∙ stands.zeros k p l lp (was_none k d)
