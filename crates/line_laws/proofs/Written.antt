-- The edits of a finished plan may be made on the disk, and the disk with them stands for the tree after the operation.
use Rattle.std.proofs.Common.{◌≡◌, ℕ, ◌+◌, ◌*◌, ◌^◌, ◌<◌, ◌≤◌, ◌&&◌, inl, inr, ⊎_elim, Bool, true, false, cond, nat_lt, Some, None, List, [], ◌∷◌, is_some, length, refl, sym, ◌∙◌, ap, subst, arith, ltb-true, lit<}
use Rattle.std.proofs.lemmas.Bool.{and_parts}
use Rattle.frang_base.specs.declared.op.Op.{Op}
use Rattle.frang_base.specs.declared.change.Change.{Change}
use Rattle.disk_definitions.proofs.Readings.{and_l, and_r}
use Rattle.disk_definitions.proofs.WrittenFields.{zero_version}
use Rattle.disk_definitions.specs.Records.{record_fits}
use Rattle.disk_definitions.specs.declared.param.Param.{Param}
use Rattle.disk_definitions.specs.declared.region.Region.TheVariants as region
use Rattle.sector_bytes.specs.Bytes.{number_at}
use Rattle.std.specs.Str.{bytes_eq}
use Rattle.disk_definitions.specs.Directories.{directory_in}
use Rattle.disk_definitions.specs.Params.{param_in, param_fits, param_fields, param_bytes}
use Rattle.disk_definitions.specs.Regions.{sector_of}
use Rattle.tree_definitions.specs.Tree.{FileTree, node_at}
use Rattle.tree_definitions.specs.Apply.{Applied, apply}
use Rattle.tree_definitions.specs.WellFormed.{IsNew}
use Rattle.tree_laws.proofs.OrderLaws.{segments_apply}
use Rattle.standing_laws.proofs.Applied.{apply_keeps_reached}
use Rattle.sector_bytes.specs.Sectors.{Sectors}
use Rattle.disk_definitions.specs.Store.{Store, store_of, directory_at}
use Rattle.disk_definitions.specs.Naming.{Pictures}
use Rattle.disk_definitions.specs.Standing.{IsMetadata, IsInGrammar, HasVersionsUpTo, StandsFor, version_at}
use Rattle.disk_definitions.specs.Edits.{Edit, edited_all}
use Rattle.disk_definitions.specs.Edits.Edit.{SetInode, SetBit, SetUse, SetPlace, SetLarge, SetBytes, SetLargeBytes}
use Rattle.disk_definitions.specs.ChangeLaws.{FilesFit}
use Rattle.disk_definitions.proofs.Counts.{files_fit, pictures_go_by_what_counts}
use Rattle.disk_definitions.specs.Held.{Segments}
use Rattle.disk_definitions.specs.Plans.{Finish}
use Rattle.disk_definitions.specs.Meets.{FinishMeets}
use Rattle.disk_definitions.specs.Written.{hand_of, Cached, changes_of, byte_writes, laid_over, sectors_at_hand}
use Rattle.plan_laws.proofs.Fitting.{files_stay_fit}
use Rattle.disk_definitions.specs.Ready.{IsReady, IsWritten, disk_after}
use Rattle.plan_fit.proofs.DiskLaws.{written}
use Rattle.plan_fit.proofs.RecordFits.{records_fit}
use Rattle.plan_fit.proofs.RecordLaws.{NotTo, misses, bytes_laid}
use Rattle.plan_fit.proofs.LaidOver.{all_else}
use Rattle.plan_fit.proofs.DecodedEntries.{disks_fit}
use Rattle.plan_fit.proofs.FileNodes.{fit_file}
use Rattle.disk_definitions.specs.FitPlans.{IsFitStore, IsFitFinish}
use Rattle.disk_definitions.specs.SmallRecords.{IsSmall}
use Rattle.disk_definitions.specs.OnDisk.{AreOfDisk, StandsBelow, MakeARecord, FinishStands}
use Rattle.line_laws.proofs.OfDisk.{few}
use Rattle.line_laws.proofs.Zeroed.{zero_is_some, zero_sector}

-- a run is below 2 ^ 32
small_run : (block : List ℕ) (p : Param) → param_in block ≡ Some p → p.run < 2 ^ 32
small_run block p e = go (param_fits (param_fields block) && bytes_eq (param_bytes (param_fields block)) block) refl e
  where
    small : (p : Param) → param_fits p ≡ true → p.run < 2 ^ 32
    small p h = let f : nat_lt p.run (2 ^ 32) ≡ true = search (and_l, and_r) depth 8 in ltb-true p.run (2 ^ 32) f

    go : (b : Bool) → (param_fits (param_fields block) && bytes_eq (param_bytes (param_fields block)) block) ≡ b → cond b (Some (param_fields block)) None ≡ Some p → p.run < 2 ^ 32
    go true h e = let s : param_fields block ≡ p = cc in small p (subst (λ q. param_fits q ≡ true) s (and_parts (param_fits (param_fields block)) (bytes_eq (param_bytes (param_fields block)) block) h).0)
    go false h e = absurd (cc)

-- no edit writes the parameter sector
pub not_param : (kind : Bool) (end : Store) (e : Edit) → NotTo kind region.Param end e
not_param kind end (SetInode i x dated) f u q = cc
not_param kind end (SetBit i b) f u q = cc
not_param kind end (SetUse k x) f u q = cc
not_param kind end (SetPlace k p o) f u q = cc
not_param kind end (SetLarge g b) f u q = cc
not_param kind end (SetBytes k part bytes) f u q = cc
not_param kind end (SetLargeBytes g part bytes) f u q = cc

-- none, or a record's
recorded : (sectors : Sectors) (edits : List Edit) (most segments : ℕ) → IsReady most segments sectors edits → IsSmall sectors edits → (changes : List Change) → changes_of sectors edits ≡ changes → MakeARecord changes
recorded sectors edits most segments ready small [] e = inl refl
recorded sectors edits most segments ready small (c ∷ changes) e =
    let some : 1 ≤ length (changes_of sectors edits) = subst (λ l. 1 ≤ length l) (sym e) (omega arith) in
    inr (subst (λ l. record_fits l ≡ true) e (records_fit most segments sectors edits ready some small.few small.short))

module _ (cached : Cached) (held : Segments) (all : Bool) (sectors : Sectors) (tree : FileTree) (of : AreOfDisk cached held all tree.segments sectors) (below : StandsBelow sectors tree) where
  abbrev segments : ℕ
  segments = tree.segments

  abbrev s : Store
  s = store_of segments sectors

  abbrev stands : StandsFor sectors tree
  stands = below.stands

  grammar : IsInGrammar segments sectors
  grammar = subst (λ k. IsInGrammar k sectors) (sym stands.segments) stands.grammar

  versions : HasVersionsUpTo below.most segments sectors
  versions = subst (λ k. HasVersionsUpTo below.most k sectors) (sym stands.segments) below.versions

  pub fit_store : IsFitStore segments s
  fit_store = disks_fit sectors segments grammar below.whole

  last : below.most + 1 < 2 ^ 64
  last =
      let a : below.most < 131072 * stands.param.run = below.below in
      let b : stands.param.run < 2 ^ 32 = small_run (sectors 0) stands.param stands.parameters in
      let c : 131072 * 2 ^ 32 < 2 ^ 64 = lit< tt in
      omega arith

  pub files_fit_now : FilesFit (node_at tree)
  files_fit_now = files_fit s (node_at tree) stands.naming (subst (λ k. Pictures (store_of k sectors) (node_at tree) stands.naming) (sym stands.segments) stands.picture) (λ i x e k. (fit_file x (fit_store.nodes i x e).1 k).size)

  module _ (f : Finish) (fit : IsFitFinish (hand_of cached held all) segments s f) where
    abbrev end : Store
    end = edited_all s f.edits

    clear_directory : (k p : ℕ) → k < 1024 * segments → p < 8 → IsMetadata (end.use_of k) → is_some (directory_at sectors k p) ≡ true
    clear_directory k p lk lp m = ⊎_elim (λ was. grammar.directories k p lk lp was)
        (λ zero. ap (λ block. is_some (directory_in block)) (zero_sector cached sectors of.as_cached k p zero lp) ∙ zero_is_some) (fit.clear k m)

    clear_version : (k p : ℕ) → k < 1024 * segments → p < 8 → IsMetadata (end.use_of k) → version_at sectors (sector_of (region.Small k p)) ≤ below.most
    clear_version k p lk lp m = ⊎_elim (λ was. versions.directories k p lk lp was)
        (λ zero. let v : version_at sectors (sector_of (region.Small k p)) ≡ 0 = ap (number_at 8 0) (zero_sector cached sectors of.as_cached k p zero lp) ∙ zero_version in omega arith) (fit.clear k m)

    pub ready : IsReady below.most segments sectors f.edits
    ready = record {
      few = few sectors tree below;
      whole = below.whole;
      grammar = grammar;
      last = last;
      versions = versions;
      fit = fit.edits;
      directories = clear_directory;
      directory_versions = clear_version;
    }

    param_stays : disk_after sectors f.edits 0 ≡ sectors 0
    param_stays =
        let m = misses segments end true region.Param f.edits (few sectors tree below) refl fit.edits (not_param true end) in
        let n = misses segments end false region.Param f.edits (few sectors tree below) refl fit.edits (not_param false end) in
        bytes_laid sectors f.edits 0 m ∙ all_else sectors f.edits 0 m n

    module _ (o : Op) (birth when m : ℕ) (new : IsNew tree birth) (meets : FinishMeets s (apply tree o birth when m) f) where
      abbrev a : Applied
      a = apply tree o birth when m

      abbrev is : IsWritten below.most segments sectors f.edits
      is = written below.most segments sectors f.edits ready

      picture : Pictures (store_of segments (disk_after sectors f.edits)) (node_at a.tree) meets.naming
      picture = pictures_go_by_what_counts end (store_of segments (disk_after sectors f.edits)) (node_at a.tree) meets.naming meets.tree.pictures (files_stay_fit tree o birth when m stands.well_formed files_fit_now) is.says

      bound : (v : ℕ) → v ≤ below.most + 1 → v ≤ 131072 * stands.param.run
      bound v l = let b : below.most < 131072 * stands.param.run = below.below in omega arith

      pub after_stands : StandsFor (disk_after sectors f.edits) a.tree
      after_stands = record {
        param = stands.param;
        parameters = ap param_in param_stays ∙ stands.parameters;
        segments = segments_apply tree o birth when m stands.well_formed.births ∙ stands.segments;
        grammar = subst (λ k. IsInGrammar k (disk_after sectors f.edits)) stands.segments is.grammar;
        versions = subst (λ k. HasVersionsUpTo (131072 * stands.param.run) k (disk_after sectors f.edits)) stands.segments (record {
          bitmaps = λ k l. bound (version_at (disk_after sectors f.edits) (sector_of (region.Segment k))) (is.versions.bitmaps k l);
          inodes = λ i l. bound (version_at (disk_after sectors f.edits) (sector_of (region.Inode i))) (is.versions.inodes i l);
          directories = λ k p lk lp u. bound (version_at (disk_after sectors f.edits) (sector_of (region.Small k p))) (is.versions.directories k p lk lp u);
        });
        well_formed = meets.tree.well_formed;
        reached = apply_keeps_reached tree o birth when m stands.well_formed stands.reached new;
        naming = meets.naming;
        picture = subst (λ k. Pictures (store_of k (disk_after sectors f.edits)) (node_at a.tree) meets.naming) stands.segments picture;
        root = meets.tree.root;
        births = meets.tree.births;
      }

      pub finish_stands : (IsReady below.most segments sectors f.edits → IsSmall sectors f.edits) → changes_of (sectors_at_hand cached held) f.edits ≡ changes_of sectors f.edits → FinishStands cached held sectors a f
      finish_stands small same = record {
        answer = meets.answer;
        recorded = subst MakeARecord (sym same) (recorded sectors f.edits below.most segments ready (small ready) (changes_of sectors f.edits) refl);
        stands = subst (λ changes. StandsFor (laid_over sectors changes (byte_writes f.edits)) a.tree) (sym same) after_stands;
      }
