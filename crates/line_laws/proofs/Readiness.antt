-- The edits of a finished line may be made on the disk: they go by uses, which the bytes of files don't change.
use Rattle.std.proofs.Common.{◌≡◌, ◌<◌, ◌≤◌, ◌+◌, ◌*◌, ◌^◌, ◌⊎◌, ⊎_elim, ℕ, true, List, [], ◌∷◌, is_some, refl, sym, ◌∙◌, ap, subst, arith, lit<}
use Rattle.std.proofs.lemmas.Bool.Decides.{nat_tests}
use Rattle.frang_base.specs.Functions.{put}
use Rattle.frang_base.specs.declared.limits.TheConstants.{RUN_VERSIONS_MAX, SEGMENT_BLOCKS, SMALL_BLOCK_SECTORS}
use Rattle.tree_definitions.specs.Tree.{FileTree}
use Rattle.tree_definitions.specs.Touched.{shape_of}
use Rattle.sector_bytes.specs.Bytes.{number_at}
use Rattle.sector_bytes.specs.Sectors.{Sectors}
use Rattle.disk_definitions.specs.declared.param.Param.{Param}
use Rattle.disk_definitions.specs.declared.region.Region.TheVariants as region
use Rattle.disk_definitions.specs.Directories.{directory_in}
use Rattle.disk_definitions.specs.Params.{param_fits}
use Rattle.disk_definitions.specs.Regions.{sector_of}
use Rattle.disk_definitions.proofs.ParamLaws.{param_read}
use Rattle.disk_definitions.proofs.WrittenFields.{zero_version}
use Rattle.disk_definitions.specs.Store.{Store, store_of, directory_at}
use Rattle.disk_definitions.specs.Store.Use.{Bytes}
use Rattle.disk_definitions.specs.Standing.{IsMetadata, IsInGrammar, HasVersionsUpTo, version_at}
use Rattle.disk_definitions.specs.Edits.{Edit, edited, edited_all}
use Rattle.disk_definitions.specs.Edits.Edit.{SetInode, SetBit, SetUse, SetPlace, SetLarge, SetBytes, SetLargeBytes}
use Rattle.disk_definitions.specs.FitEdits.{MeetsUse, AreFit}
use Rattle.disk_definitions.specs.FitPlans.{IsFitStore, IsFitFinish}
use Rattle.disk_definitions.specs.OnDisk.{StandsBelow}
use Rattle.disk_definitions.specs.Plans.{Hand, Finish}
use Rattle.disk_definitions.specs.Ready.{IsReady}
use Rattle.plan_fit.proofs.DecodedEntries.{disks_fit}
use Rattle.line_laws.proofs.OfDisk.{few, of_tree}
use Rattle.line_laws.proofs.Zeroed.{zero_is_some}
use Rattle.line_laws.specs.Stores.{with_bytes}
use Rattle.line_laws.proofs.Shaping.{shapes_stand}
use Rattle.line_laws.specs.Ready.{IsClearOn, LinesMayBeMade}
use Rattle.line_laws.proofs.Fitting.{line_fits}

-- ---- two stores that use their blocks alike

record IsUsedAlike (s t : Store) : Type 0 where
  uses : s.use_of ≡ t.use_of
  larges : s.large_bit ≡ t.large_bit

edited_alike : (e : Edit) (s t : Store) → IsUsedAlike s t → IsUsedAlike (edited s e) (edited t e)
edited_alike (SetInode i x dated) s t a = record { uses = a.uses; larges = a.larges }
edited_alike (SetBit i b) s t a = record { uses = a.uses; larges = a.larges }
edited_alike (SetUse k u) s t a = record { uses = ap (λ f. put f k u) a.uses; larges = a.larges }
edited_alike (SetPlace k p x) s t a = record { uses = a.uses; larges = a.larges }
edited_alike (SetLarge g b) s t a = record { uses = a.uses; larges = ap (λ f. put f g b) a.larges }
edited_alike (SetBytes k part bytes) s t a = record { uses = a.uses; larges = a.larges }
edited_alike (SetLargeBytes g part bytes) s t a = record { uses = a.uses; larges = a.larges }

all_alike : (edits : List Edit) (s t : Store) → IsUsedAlike s t → IsUsedAlike (edited_all s edits) (edited_all t edits)
all_alike [] s t a = a
all_alike (e ∷ edits) s t a = all_alike edits (edited s e) (edited t e) (edited_alike e s t a)

module _ (a b : Store) (alike : IsUsedAlike a b) where
  meets_alike : (e : Edit) → MeetsUse a e → MeetsUse b e
  meets_alike (SetPlace k p x) m = subst (λ f. IsMetadata (f k)) alike.uses m
  meets_alike (SetBytes k part bytes) m = subst (λ f. f k ≡ Bytes) alike.uses m
  meets_alike (SetLargeBytes g part bytes) m = subst (λ f. f g ≡ true) alike.larges m
  meets_alike (SetInode i x dated) m = tt
  meets_alike (SetBit i b) m = tt
  meets_alike (SetUse k u) m = tt
  meets_alike (SetLarge g b) m = tt

  fit_alike : (segments : ℕ) (edits : List Edit) → AreFit segments a edits → AreFit segments b edits
  fit_alike segments [] fit = tt
  fit_alike segments (e ∷ edits) fit = ((fit.0.0, meets_alike e fit.0.1), fit_alike segments edits fit.1)

-- ---- the disk

small_run : (p : Param) → param_fits p ≡ true → p.run < 2 ^ 32
small_run p e = grind (arith, nat_tests)

module _ (sectors : Sectors) (tree : FileTree) (below : StandsBelow sectors tree) where
  abbrev segments : ℕ
  segments = tree.segments

  abbrev s : Store
  s = store_of segments sectors

  grammar : IsInGrammar segments sectors
  grammar = subst (λ k. IsInGrammar k sectors) (sym below.stands.segments) below.stands.grammar

  versions : HasVersionsUpTo below.most segments sectors
  versions = subst (λ k. HasVersionsUpTo below.most k sectors) (sym below.stands.segments) below.versions

  fit_store : IsFitStore segments s
  fit_store = disks_fit sectors segments grammar below.whole

  last : below.most + 1 < 2 ^ 64
  last =
      let a : below.most < RUN_VERSIONS_MAX * below.stands.param.run = below.below in
      let b : below.stands.param.run < 2 ^ 32 = small_run below.stands.param (param_read (sectors 0) below.stands.param below.stands.parameters).1 in
      let c : RUN_VERSIONS_MAX * 2 ^ 32 < 2 ^ 64 = lit< tt in
      omega arith

  module _ (h : Hand) (clear : IsClearOn sectors h) (byte large_byte : ℕ → ℕ → ℕ) (f : Finish) (fit : IsFitFinish h segments (with_bytes s byte large_byte) f) where
    abbrev end : Store
    end = edited_all s f.edits

    abbrev other : Store
    other = edited_all (with_bytes s byte large_byte) f.edits

    alike : IsUsedAlike other end
    alike = all_alike f.edits (with_bytes s byte large_byte) s (record { uses = refl; larges = refl })

    was_clear : (k : ℕ) → IsMetadata (end.use_of k) → IsMetadata (s.use_of k) ⊎ (h.zeroed k ≡ true)
    was_clear k m = fit.clear k (subst (λ uses. IsMetadata (uses k)) (sym alike.uses) m)

    clear_directory : (k p : ℕ) → k < SEGMENT_BLOCKS * segments → p < SMALL_BLOCK_SECTORS → IsMetadata (end.use_of k) → is_some (directory_at sectors k p) ≡ true
    clear_directory k p lk lp m = ⊎_elim (λ was. grammar.directories k p lk lp was) (λ zero. ap (λ block. is_some (directory_in block)) (clear k p zero lp) ∙ zero_is_some) (was_clear k m)

    clear_version : (k p : ℕ) → k < SEGMENT_BLOCKS * segments → p < SMALL_BLOCK_SECTORS → IsMetadata (end.use_of k) → version_at sectors (sector_of (region.Small k p)) ≤ below.most
    clear_version k p lk lp m = ⊎_elim (λ was. versions.directories k p lk lp was)
        (λ zero. let v : version_at sectors (sector_of (region.Small k p)) ≡ 0 = ap (number_at 8 0) (clear k p zero lp) ∙ zero_version in omega arith) (was_clear k m)

    made_ready : IsReady below.most segments sectors f.edits
    made_ready = record {
      few = few sectors tree below;
      whole = below.whole;
      grammar = grammar;
      last = last;
      versions = versions;
      fit = fit_alike other end alike segments f.edits fit.edits;
      directories = clear_directory;
      directory_versions = clear_version;
    }

-- a store with other bytes is one of the shape of the tree
pub lines_may_be_made : LinesMayBeMade
lines_may_be_made o h sectors tree byte large_byte birth when f allowed below at clear small timely is =
    let s = store_of tree.segments sectors in
    let n = below.stands.naming in
    let of = (shapes_stand s tree n (of_tree sectors tree below)).others byte large_byte in
    let was = fit_store sectors tree below in
    let fit = line_fits h (with_bytes s byte large_byte) (shape_of tree) n birth when of at (record { nodes = was.nodes; entries = was.entries }) small timely o f allowed is in
    record { fit = fit; ready = made_ready sectors tree below h clear byte large_byte f fit }
