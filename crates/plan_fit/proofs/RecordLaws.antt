-- The changes and bytes of edits, laid over the disk, say what the edited store does.
use Rattle.std.proofs.Common.{◌≡◌, ℕ, ◌+◌, ◌*◌, ◌<◌, ◌≤◌, Bool, true, false, List, [], ◌∷◌, length, refl, sym, ap, ◌∙◌, inl, inr, arith}
use Rattle.std.specs.Prelude.{fold}
use Rattle.std.specs.List.{filter_map}
use Rattle.std.specs.List.Sorted.{IsStrictlySortedBy}
use Rattle.std.proofs.lemmas.Bool.{cases_eq}
use Rattle.frang_base.proofs.Basics.{by_some}
use Rattle.sector_bytes.specs.SectorMaps.{value_at, Ascend}
use Rattle.disk_definitions.specs.declared.region.Region.{Region}
use Rattle.disk_definitions.specs.declared.region.Region.TheVariants as region
use Rattle.disk_definitions.specs.Regions.{sector_of, is_in_range}
use Rattle.sector_bytes.specs.Patches.{patches_with}
use Rattle.disk_definitions.proofs.InodeLaws.{length_inode_bytes}
use Rattle.sector_bytes.proofs.PatchLaws.{no_forced_patches}
use Rattle.disk_definitions.proofs.RegionLaws.{region_once}
use Rattle.sector_bytes.specs.Sectors.{Sectors}
use Rattle.disk_definitions.specs.Store.{Store}
use Rattle.disk_definitions.specs.Store.Use.{Bytes}
use Rattle.disk_definitions.specs.Standing.{IsMetadata, version_at}
use Rattle.disk_definitions.specs.Edits.{Edit, edited}
use Rattle.disk_definitions.specs.Edits.Edit.{SetInode, SetBit, SetUse, SetPlace, SetLarge, SetBytes, SetLargeBytes}
use Rattle.disk_definitions.specs.Written.{inode_with, edited_sectors, all_edited, is_metadata, change_by, forced_in, change_of, changes_of, metadata_sector, with_change}
use Rattle.disk_definitions.specs.FitEdits.{IsFitEdit, MeetsUse, AreFit}
use Rattle.plan_fit.specs.Says.{Says}
use Rattle.disk_definitions.specs.Ready.{disk_after}
use Rattle.plan_fit.proofs.Kept.{edit_region, edit_sector_is, edit_in_range, edited_here, edited_apart, in_inode}
use Rattle.plan_fit.proofs.InodeEdits.{written_range}
use Rattle.plan_fit.proofs.EditLaws.{not_both, inode_small, fit_inode, each}
use Rattle.plan_fit.proofs.LaidOver.{Misses, missed_undated, none_forced, all_else, bytes_else, bytes_same, named, named_ascend, unnamed, not_named, made, laid_else, laid_here}

-- ---- which sectors edits miss

-- what holds where an edit of the kind writes to this region
abbrev pub NotTo : Bool → Region → Store → Edit → Type 0
NotTo kind r end e = is_metadata e ≡ kind → MeetsUse end e → edit_region e ≡ r → ⊥

pub misses : (segments : ℕ) (end : Store) (kind : Bool) (r : Region) (es : List Edit) → segments ≤ 64 → is_in_range segments r ≡ true → AreFit segments end es → ((e : Edit) → NotTo kind r end e) → Misses kind (sector_of r) es
misses segments end kind r [] few inside fit apart = tt
misses segments end kind r (e ∷ es) few inside fit apart = (λ i q. apart e i fit.0.1 (region_once segments (edit_region e) r few (edit_in_range segments e fit.0.0) inside (sym (edit_sector_is e) ∙ sym q)), misses segments end kind r es few inside fit.1 apart)

-- bytes are written to no segment and no inode, and to no block of a directory
pub no_bytes_segment : (end : Store) (k : ℕ) (e : Edit) → NotTo false (region.Segment k) end e
no_bytes_segment end k (SetInode i x dated) f u q = cc
no_bytes_segment end k (SetBit i b) f u q = cc
no_bytes_segment end k (SetUse i x) f u q = cc
no_bytes_segment end k (SetPlace i p o) f u q = cc
no_bytes_segment end k (SetLarge g b) f u q = cc
no_bytes_segment end k (SetBytes i part bytes) f u q = cc
no_bytes_segment end k (SetLargeBytes g part bytes) f u q = cc

pub no_bytes_inode : (end : Store) (k : ℕ) (e : Edit) → NotTo false (region.Inode k) end e
no_bytes_inode end k (SetInode i x dated) f u q = cc
no_bytes_inode end k (SetBit i b) f u q = cc
no_bytes_inode end k (SetUse i x) f u q = cc
no_bytes_inode end k (SetPlace i p o) f u q = cc
no_bytes_inode end k (SetLarge g b) f u q = cc
no_bytes_inode end k (SetBytes i part bytes) f u q = cc
no_bytes_inode end k (SetLargeBytes g part bytes) f u q = cc

pub no_bytes_directory : (end : Store) (k p : ℕ) → IsMetadata (end.use_of k) → (e : Edit) → NotTo false (region.Small k p) end e
no_bytes_directory end k p d (SetInode i x dated) f u q = cc
no_bytes_directory end k p d (SetBit i b) f u q = cc
no_bytes_directory end k p d (SetUse i x) f u q = cc
no_bytes_directory end k p d (SetPlace i r o) f u q = absurd cc
no_bytes_directory end k p d (SetLarge g b) f u q = cc
no_bytes_directory end k p d (SetBytes i part bytes) f u q = let same : i ≡ k = cc in not_both (end.use_of k) d (sym (ap end.use_of same) ∙ u)
no_bytes_directory end k p d (SetLargeBytes g part bytes) f u q = cc

-- metadata is written to no block of bytes
pub no_metadata_bytes : (end : Store) (k p : ℕ) → end.use_of k ≡ Bytes → (e : Edit) → NotTo true (region.Small k p) end e
no_metadata_bytes end k p d (SetInode i x dated) f u q = cc
no_metadata_bytes end k p d (SetBit i b) f u q = cc
no_metadata_bytes end k p d (SetUse i x) f u q = cc
no_metadata_bytes end k p d (SetPlace i r o) f u q = let same : i ≡ k = cc in not_both (end.use_of i) u (ap end.use_of same ∙ d)
no_metadata_bytes end k p d (SetLarge g b) f u q = cc
no_metadata_bytes end k p d (SetBytes i part bytes) f u q = absurd cc
no_metadata_bytes end k p d (SetLargeBytes g part bytes) f u q = cc

pub no_metadata_large : (end : Store) (k p : ℕ) (e : Edit) → NotTo true (region.Large k p) end e
no_metadata_large end k p (SetInode i x dated) f u q = cc
no_metadata_large end k p (SetBit i b) f u q = cc
no_metadata_large end k p (SetUse i x) f u q = cc
no_metadata_large end k p (SetPlace i r o) f u q = cc
no_metadata_large end k p (SetLarge g b) f u q = cc
no_metadata_large end k p (SetBytes i part bytes) f u q = cc
no_metadata_large end k p (SetLargeBytes g part bytes) f u q = absurd cc

-- ---- inodes keep their length

long_inode : (segments : ℕ) (end s : Store) (sectors : Sectors) (e : Edit) → segments ≤ 64 → Says segments end sectors s → IsFitEdit segments e → ((i : ℕ) → i < 64 * segments → length (sectors (sector_of (region.Inode i))) ≡ 512)
    → (i : ℕ) → i < 64 * segments → length (edited_sectors sectors e (sector_of (region.Inode i))) ≡ 512
long_inode segments end s sectors (SetInode j x dated) few h fit long i l = elim (cases_eq i j) [
  | inl q ↦ let f = fit_inode segments j x dated fit in
      let v : ℕ = version_at sectors (sector_of (region.Inode j)) in
      ap (λ (z : ℕ). length (edited_sectors sectors (SetInode j x dated) (sector_of (region.Inode z)))) q ∙ ap length (edited_here sectors (SetInode j x dated))
      ∙ length_inode_bytes (inode_with v x) (written_range v x (inode_small segments end sectors s few h (SetInode j x dated) fit j f.0) f.1)
  | inr d ↦ ap length (edited_apart segments sectors (SetInode j x dated) (region.Inode i) few fit (in_inode segments i l) (λ q. d cc)) ∙ long i l
]
long_inode segments end s sectors (SetBit j b) few h fit long i l = ap length (edited_apart segments sectors (SetBit j b) (region.Inode i) few fit (in_inode segments i l) (λ q. cc)) ∙ long i l
long_inode segments end s sectors (SetUse k u) few h fit long i l = ap length (edited_apart segments sectors (SetUse k u) (region.Inode i) few fit (in_inode segments i l) (λ q. cc)) ∙ long i l
long_inode segments end s sectors (SetPlace k p o) few h fit long i l = ap length (edited_apart segments sectors (SetPlace k p o) (region.Inode i) few fit (in_inode segments i l) (λ q. cc)) ∙ long i l
long_inode segments end s sectors (SetLarge g b) few h fit long i l = ap length (edited_apart segments sectors (SetLarge g b) (region.Inode i) few fit (in_inode segments i l) (λ q. cc)) ∙ long i l
long_inode segments end s sectors (SetBytes k p b) few h fit long i l = ap length (edited_apart segments sectors (SetBytes k p b) (region.Inode i) few fit (in_inode segments i l) (λ q. cc)) ∙ long i l
long_inode segments end s sectors (SetLargeBytes k p b) few h fit long i l = ap length (edited_apart segments sectors (SetLargeBytes k p b) (region.Inode i) few fit (in_inode segments i l) (λ q. cc)) ∙ long i l

pub long_inodes : (segments : ℕ) (end s : Store) (sectors : Sectors) (es : List Edit) → segments ≤ 64 → Says segments end sectors s → AreFit segments end es → ((i : ℕ) → i < 64 * segments → length (sectors (sector_of (region.Inode i))) ≡ 512)
    → (i : ℕ) → i < 64 * segments → length (all_edited sectors es (sector_of (region.Inode i))) ≡ 512
long_inodes segments end s sectors [] few h fit long = long
long_inodes segments end s sectors (e ∷ es) few h fit long =
    long_inodes segments end (edited s e) (edited_sectors sectors e) es few (each segments end s sectors e few h fit.0.0 fit.0.1) fit.1 (long_inode segments end s sectors e few h fit.0.0 long)

-- ---- one sector of the disk that was written

-- where no bytes are written, it has the change that its new block makes
pub metadata_laid : (sectors : Sectors) (edits : List Edit) (s : ℕ) → length (sectors s) ≡ 512 → Misses false s edits
    → disk_after sectors edits s ≡ made (sectors s) (change_of edits sectors (all_edited sectors edits) s)
unfolding IsStrictlySortedBy
metadata_laid sectors edits s long n =
    let new : Sectors = all_edited sectors edits in
    let sorted : List (ℕ × ℕ) = named [] edits in
    let none : Ascend (named [] []) = tt in
    bytes_else (fold with_change sectors (changes_of sectors edits)) edits s n
    ∙ by_some (λ o. value_at sorted s ≡ o → fold with_change sectors (changes_of sectors edits) s ≡ made (sectors s) (change_of edits sectors new s)) (value_at sorted s)
    (λ e f. let missed = (not_named [] edits s f).1 in
    let same : new s ≡ sectors s = all_else sectors edits s missed n in
    laid_else edits sectors new sectors sorted s f ∙ sym (ap (λ ps. made (sectors s) (change_by s (version_at sectors s + 1) ps)) (ap (patches_with (forced_in edits s) (sectors s)) same ∙ (no_forced_patches (forced_in edits s) (sectors s) (sectors s) (omega arith) refl).1 (refl, λ k g i. none_forced edits s k (missed_undated edits s missed)))))
    (λ v e f. laid_here edits sectors new sectors sorted s v (named_ascend [] (filter_map metadata_sector edits) none) f) refl

-- where no change is written, it has the bytes
pub bytes_laid : (sectors : Sectors) (edits : List Edit) (s : ℕ) → Misses true s edits → disk_after sectors edits s ≡ all_edited sectors edits s
bytes_laid sectors edits s m =
    bytes_same sectors (fold with_change sectors (changes_of sectors edits)) edits s m (laid_else edits sectors (all_edited sectors edits) sectors (named [] edits) s (unnamed [] edits s m))
