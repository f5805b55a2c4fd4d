-- The sectors after a finished line say what the edited store does, by the naming to which the line's plan leads.
use Rattle.std.proofs.Common.{ℕ, ◌≡◌, ◌≤◌, ◌<◌, ◌^◌, ◌*◌, ◌/◌, ◌%◌, ⊎_elim, Bool, false, if◌then◌else◌, Option, List, [], ◌∷◌, refl, sym, ◌∙◌, ap, subst}
use Rattle.std.proofs.lemmas.Bool.{cases_lt, le-ltb}
use Rattle.frang_base.specs.declared.op.Op.{Op}
use Rattle.frang_base.specs.Functions.{put, put2}
use Rattle.tree_definitions.specs.Apply.{Applied}
use Rattle.tree_definitions.specs.Perform.{perform}
use Rattle.tree_definitions.specs.Touched.{shape_of, shaped}
use Rattle.tree_definitions.specs.Tree.{FileTree, node_at}
use Rattle.tree_definitions.specs.WellFormed.{IsNew}
use Rattle.tree_laws.proofs.ShapeNodes.{found}
use Rattle.sector_bytes.specs.Sectors.{Sectors}
use Rattle.disk_definitions.specs.declared.region.Region.TheVariants as region
use Rattle.disk_definitions.specs.Regions.{sector_of}
use Rattle.disk_definitions.specs.Naming.{Naming, Pictures}
use Rattle.disk_definitions.specs.Standing.{IsMetadata}
use Rattle.disk_definitions.specs.Store.{Store, StoredEntry, Use, segment_at, store_of, use_in}
use Rattle.disk_definitions.specs.Store.Use.{Fresh}
use Rattle.disk_definitions.specs.Edits.{Edit, edited, edited_all}
use Rattle.disk_definitions.specs.Edits.Edit.{SetInode, SetBit, SetUse, SetPlace, SetLarge, SetBytes, SetLargeBytes}
use Rattle.disk_definitions.specs.ChangeLaws.{FilesFit, SaysTheSame}
use Rattle.disk_definitions.proofs.Counts.{pictures_go_by_what_counts}
use Rattle.disk_definitions.specs.Allowed.{IsAllowed}
use Rattle.disk_definitions.specs.Ask.{run}
use Rattle.disk_definitions.specs.FitEdits.{AreFit}
use Rattle.disk_definitions.specs.Meets.{IsOfTree, IsHandOf, FinishMeets}
use Rattle.disk_definitions.specs.Plans.{Hand, Finish}
use Rattle.disk_definitions.specs.Plans.Plan.{Finishes}
use Rattle.disk_definitions.specs.Ready.{IsWritten, disk_after}
use Rattle.plan_fit.specs.Says.{PlacesSay}
use Rattle.plan_fit.proofs.DiskLaws.{written}
use Rattle.plan_fit.proofs.Kept.{in_small, places_kept}
use Rattle.plan_fit.proofs.RecordLaws.{misses, no_bytes_directory}
use Rattle.line_laws.proofs.OfDisk.{few}
use Rattle.line_laws.specs.Stores.{with_bytes}
use Rattle.line_laws.proofs.Shaping.{shapes_stand}
use Rattle.disk_definitions.specs.Lines.{plan_of_line}
use Rattle.line_laws.specs.Ready.{IsClearOn, MayBeMade}
use Rattle.line_laws.proofs.Readiness.{lines_may_be_made}
use Rattle.line_histories.specs.LinePlans.{store_on}
use Rattle.line_histories.specs.Standing.{StandsForShape}
use Rattle.line_histories.proofs.Disks.{blank_of, ever, files}
use Rattle.line_histories.proofs.Laid.{with_changes, changed_same}
use Rattle.line_histories.proofs.Leading.{inodes_next, bits_next, uses_next, larges_next}
use Rattle.line_histories.proofs.Leading as leading
use Rattle.line_histories.specs.Parts.{IsFinished}

-- edits make the same places and uses, whatever bytes there are
same_place : (es : List Edit) (s t : Store) → t.place ≡ s.place → (edited_all t es).place ≡ (edited_all s es).place
same_place [] s t e = e
same_place (SetInode i x dated ∷ es) s t e = same_place es (edited s (SetInode i x dated)) (edited t (SetInode i x dated)) e
same_place (SetBit i b ∷ es) s t e = same_place es (edited s (SetBit i b)) (edited t (SetBit i b)) e
same_place (SetUse k u ∷ es) s t e = same_place es (edited s (SetUse k u)) (edited t (SetUse k u)) e
same_place (SetPlace k p x ∷ es) s t e = same_place es (edited s (SetPlace k p x)) (edited t (SetPlace k p x)) (ap (λ z. put2 z k p x) e)
same_place (SetLarge g b ∷ es) s t e = same_place es (edited s (SetLarge g b)) (edited t (SetLarge g b)) e
same_place (SetBytes k part bytes ∷ es) s t e = same_place es (edited s (SetBytes k part bytes)) (edited t (SetBytes k part bytes)) e
same_place (SetLargeBytes g part bytes ∷ es) s t e = same_place es (edited s (SetLargeBytes g part bytes)) (edited t (SetLargeBytes g part bytes)) e

module _ (disk : Sectors) (tree : FileTree) (stands : StandsForShape tree.segments disk tree) (h : Hand) (at : IsHandOf h (store_on tree.segments disk) tree.segments)
    (clear : IsClearOn disk h) (birth when : ℕ) (o : Op) (may : IsAllowed o) (new : IsNew tree birth) (small_birth : birth < 2 ^ 64) (small_time : when < 2 ^ 64)
    (f : Finish) (is : run (plan_of_line h birth when o) (store_on tree.segments disk) ≡ Finishes f) where
  abbrev segments : ℕ
  segments = tree.segments

  abbrev shape : FileTree
  shape = shape_of tree

  abbrev pub ever_directories : ℕ
  ever_directories = ever disk tree stands

  abbrev pub applied : Applied
  applied = perform shape o birth when ever_directories

  pub meets : FinishMeets (store_on segments disk) applied f
  meets = leading.meets disk tree stands h at clear birth when o may new small_birth small_time f is

  abbrev pub naming_then : Naming
  naming_then = meets.naming

  abbrev edited_on : Store
  edited_on = edited_all (store_on segments disk) f.edits

  abbrev end : Store
  end = edited_all (store_of segments disk) f.edits

  abbrev next : Sectors
  next = with_changes disk f.edits

  -- ---- a line that is finished

  pub finished : IsFinished o h (store_on segments disk) shape stands.below.stands.naming naming_then birth when ever_directories f
  finished = record {
    of = blank_of disk tree stands;
    reached = stands.below.stands.reached;
    at_hand = at;
    new = found tree birth ∙ ap shaped new;
    files = files disk tree stands;
    comes = is;
    leads = meets.tree;
  }

  -- ---- the places of directories

  may_be : MayBeMade disk shape stands.below h (λ block index. 0) (λ large index. 0) f
  may_be = lines_may_be_made o h disk shape (λ block index. 0) (λ large index. 0) birth when f may stands.below at clear small_birth small_time is

  fit : AreFit segments end f.edits
  fit = may_be.ready.fit

  laid : IsWritten stands.below.most segments disk f.edits
  laid = written stands.below.most segments disk f.edits may_be.ready

  directory_same : (k p : ℕ) → k < 1024 * segments → p < 8 → IsMetadata (end.use_of k) → next (sector_of (region.Small k p)) ≡ disk_after disk f.edits (sector_of (region.Small k p))
  directory_same k p l lp d =
      changed_same disk f.edits (sector_of (region.Small k p)) (stands.below.whole (sector_of (region.Small k p)))
      (misses segments end false (region.Small k p) f.edits (few disk shape stands.below) (in_small segments k p l lp) fit (no_bytes_directory end k p d))

  in_places : PlacesSay segments end.use_of next end.place
  in_places = places_kept segments end.use_of (disk_after disk f.edits) next end.place directory_same (record {
    grammar = λ k p l lp d. laid.grammar.directories k p l lp (subst IsMetadata (sym (laid.says.uses k)) d);
    places = λ k q l lq d. laid.says.places k q lq d;
  })

  uses_is : (k : ℕ) → (store_on segments next).use_of k ≡ edited_on.use_of k
  uses_is = uses_next disk tree stands h at clear birth when o may new small_birth small_time f is

  -- the use of a block doesn't go by bytes
  use_aside : (es : List Edit) (s t : Store) → t.use_of ≡ s.use_of → (edited_all t es).use_of ≡ (edited_all s es).use_of
  use_aside [] s t e = e
  use_aside (SetInode i x dated ∷ es) s t e = use_aside es (edited s (SetInode i x dated)) (edited t (SetInode i x dated)) e
  use_aside (SetBit i b ∷ es) s t e = use_aside es (edited s (SetBit i b)) (edited t (SetBit i b)) e
  use_aside (SetUse k u ∷ es) s t e = use_aside es (edited s (SetUse k u)) (edited t (SetUse k u)) (ap (λ z. put z k u) e)
  use_aside (SetPlace k p x ∷ es) s t e = use_aside es (edited s (SetPlace k p x)) (edited t (SetPlace k p x)) e
  use_aside (SetLarge g b ∷ es) s t e = use_aside es (edited s (SetLarge g b)) (edited t (SetLarge g b)) e
  use_aside (SetBytes k part bytes ∷ es) s t e = use_aside es (edited s (SetBytes k part bytes)) (edited t (SetBytes k part bytes)) e
  use_aside (SetLargeBytes g part bytes ∷ es) s t e = use_aside es (edited s (SetLargeBytes g part bytes)) (edited t (SetLargeBytes g part bytes)) e

  use_end : (k : ℕ) → edited_on.use_of k ≡ end.use_of k
  use_end k = ap (λ (g : ℕ → Use). g k) (use_aside f.edits (store_of segments disk) (store_on segments disk) refl)

  past_fresh : (k : ℕ) → 1024 * segments ≤ k → edited_on.use_of k ≡ Fresh
  past_fresh k l = sym (uses_is k) ∙ ap (λ (t : Bool). if t then use_in (segment_at next (k / 1024)) (k % 1024) else Fresh) (le-ltb k (1024 * segments) l)

  places_next : (k q : ℕ) → q < 56 → IsMetadata (edited_on.use_of k) → (store_on segments next).place k q ≡ edited_on.place k q
  places_next k q lq d =
      ⊎_elim
      (λ l. in_places.places k q l lq (subst IsMetadata (use_end k) d) ∙ sym (ap (λ (g : ℕ → ℕ → Option StoredEntry). g k q) (same_place f.edits (store_of segments disk) (store_on segments disk) refl)))
      (λ l. absurd (subst IsMetadata (past_fresh k l) d)) (cases_lt k (1024 * segments))

  -- ---- the picture

  abbrev none : ℕ → ℕ → ℕ
  none k j = 0

  says : SaysTheSame (with_bytes edited_on none none) (store_on segments next)
  says = record {
    inode = inodes_next disk tree stands h at clear birth when o may new small_birth small_time f is;
    bit = bits_next disk tree stands h at clear birth when o may new small_birth small_time f is;
    uses = uses_is;
    large_bits = larges_next disk tree stands h at clear birth when o may new small_birth small_time f is;
    places = places_next;
    bytes = λ k j l d. refl;
    large_bytes = λ g j l d. refl;
  }

  shape_end : IsOfTree (with_bytes edited_on none none) (shape_of applied.tree) naming_then
  shape_end = (shapes_stand edited_on applied.tree naming_then meets.tree).others none none

  module _ (fit_after : FilesFit (node_at (shape_of applied.tree))) where
    picture : Pictures (store_on segments next) (node_at (shape_of applied.tree)) naming_then
    picture = pictures_go_by_what_counts (with_bytes edited_on none none) (store_on segments next) (node_at (shape_of applied.tree)) naming_then shape_end.pictures fit_after says

    pub next_of : IsOfTree (store_on segments next) (shape_of applied.tree) naming_then
    next_of = record {
      well_formed = shape_end.well_formed;
      few = shape_end.few;
      pictures = picture;
      root = shape_end.root;
      births = shape_end.births;
      inodes = λ i e. shape_end.inodes i (sym (says.bit i) ∙ e);
      blocks = λ k l. uses_is k ∙ shape_end.blocks k l;
      larges = λ g e. shape_end.larges g (sym (says.large_bits g) ∙ e);
    }
