-- Edits that say something else in an inode or in a place, or date a file, have an edit of a sector with a version, and a change.
use Rattle.std.proofs.Common.{ℕ, ◌≡◌, ◌<◌, ◌+◌, ◌*◌, ◌/◌, ◌%◌, ◌||◌, ◌⊎◌, inl, inr, Bool, true, false, Some, None, List, [], ◌∷◌, ◌++◌, if◌then◌else◌, length, nat_lt, refl, sym, ◌∙◌, ap, subst, arith, ltb-true}
use Rattle.std.specs.List.{list_any}
use Rattle.std.specs.Prelude.{fold, filter}
use Rattle.std.proofs.lemmas.Bool.{eq-eqb}
use Rattle.frang_base.specs.declared.limits.TheConstants.{BLOCK_ENTRIES, SECTOR_BYTES, SECTOR_ENTRIES, SEGMENT_BLOCKS, SEGMENT_INODES}
use Rattle.frang_base.specs.declared.change.Patch.{Patch}
use Rattle.frang_base.specs.declared.change.Change.{Change}
use Rattle.disk_definitions.specs.declared.region.Region.TheVariants as region
use Rattle.disk_definitions.specs.Regions.{sector_of}
use Rattle.disk_definitions.specs.Inodes.{inode_in}
use Rattle.disk_definitions.specs.Directories.{directory_in}
use Rattle.sector_bytes.specs.Blocks.{version_of}
use Rattle.sector_bytes.specs.Patches.{patches_with}
use Rattle.sector_bytes.specs.Sectors.{Sectors}
use Rattle.sector_bytes.proofs.ChangeLaws.{version-changed}
use Rattle.sector_bytes.proofs.PatchLaws.{no_forced_patches}
use Rattle.disk_definitions.specs.Store.{Store, StoredNode, store_of, stored_node, entry_in}
use Rattle.disk_definitions.specs.Standing.{IsMetadata, version_at}
use Rattle.disk_definitions.specs.Edits.{Edit, SetInode, SetBit, SetUse, SetPlace, SetLarge, SetBytes, SetLargeBytes, edited, edited_all}
use Rattle.disk_definitions.specs.Written.{is_metadata, dates, forced_in, all_edited, change_by, changes_of, byte_writes, with_change, with_bytes}
use Rattle.disk_definitions.specs.FitEdits.{AreFit}
use Rattle.disk_definitions.specs.Ready.{IsReady, store_after, disk_after}
use Rattle.plan_fit.specs.Says.{Says}
use Rattle.plan_fit.proofs.Kept.{in_inode, in_small}
use Rattle.plan_fit.proofs.LaidOver.{Misses, bytes_else, made}
use Rattle.plan_fit.proofs.RecordLaws.{misses, no_bytes_inode, no_bytes_directory, long_inodes, metadata_laid}
use Rattle.plan_fit.proofs.DiskLaws.{written}
use Rattle.line_laws.proofs.Telling.{Apart, Dates}

-- ---- an edit of a sector with a version
-- bytes of files change no inode and no place
record SaysAlike (s t : Store) : Type 0 where
  inode : t.inode ≡ s.inode
  place : t.place ≡ s.place

bytes_alike : (s : Store) (edits : List Edit) → filter is_metadata edits ≡ [] → SaysAlike s (edited_all s edits)
bytes_alike s [] none = record { inode = refl; place = refl }
bytes_alike s (SetBytes k part bytes ∷ edits) none = let r = bytes_alike (edited s (SetBytes k part bytes)) edits none in record { inode = r.inode; place = r.place }
bytes_alike s (SetLargeBytes g part bytes ∷ edits) none = let r = bytes_alike (edited s (SetLargeBytes g part bytes)) edits none in record { inode = r.inode; place = r.place }
bytes_alike s (SetInode i x dated ∷ edits) none = absurd (cc)
bytes_alike s (SetBit i b ∷ edits) none = absurd (cc)
bytes_alike s (SetUse k u ∷ edits) none = absurd (cc)
bytes_alike s (SetPlace k p o ∷ edits) none = absurd (cc)
bytes_alike s (SetLarge g b ∷ edits) none = absurd (cc)

apart_edits : (s : Store) (edits : List Edit) → filter is_metadata edits ≡ [] → Apart s (edited_all s edits) → ⊥
apart_edits s edits none (inl other) = other.differs (ap (λ f. f other.number) (bytes_alike s edits none).inode)
apart_edits s edits none (inr other) = other.differs (ap (λ f. f other.block other.slot) (bytes_alike s edits none).place)

dated_among : (before : List Edit) (i : ℕ) (x : StoredNode) (after : List Edit) → filter is_metadata (before ++ SetInode i (Some x) true ∷ after) ≡ [] → ⊥
dated_among [] i x after none = cc
dated_among (e ∷ before) i x after none = go (is_metadata e) none (dated_among before i x after)
  where
    rest : List Edit
    rest = filter is_metadata (before ++ SetInode i (Some x) true ∷ after)

    go : (b : Bool) → (if b then e ∷ rest else rest) ≡ [] → (rest ≡ [] → ⊥) → ⊥
    go true none later = cc
    go false none later = later none

pub metadata_there : (s : Store) (edits : List Edit) → filter is_metadata edits ≡ [] → Apart s (edited_all s edits) ⊎ Dates edits → ⊥
metadata_there s edits none (inl apart) = apart_edits s edits none apart
metadata_there s edits none (inr d) = dated_among d.before d.inode d.node d.after (sym (ap (filter is_metadata) d.splits) ∙ none)

-- ---- a change
fit_after : (segments : ℕ) (end : Store) (before after : List Edit) → AreFit segments end (before ++ after) → AreFit segments end after
fit_after segments end [] after fit = fit
fit_after segments end (e ∷ before) after fit = fit_after segments end before after fit.1

date_found : (x : ℕ) (before after : List Edit) (e : Edit) → dates x e ≡ true → list_any (dates x) (before ++ e ∷ after) ≡ true
date_found x [] after e d = ap (λ b. b || list_any (dates x) after) d
date_found x (c ∷ before) after e d = go (dates x c) (date_found x before after e d)
  where
    go : (b : Bool) → list_any (dates x) (before ++ e ∷ after) ≡ true → b || list_any (dates x) (before ++ e ∷ after) ≡ true
    go true later = refl
    go false later = later

-- the disk says of itself what it says, where the edits are ready for it
says_itself : (most segments : ℕ) (sectors : Sectors) (edits : List Edit) → IsReady most segments sectors edits → Says segments (store_after segments sectors edits) sectors (store_of segments sectors)
says_itself most segments sectors edits ready = record {
  in_segments = record { grammar = ready.grammar.bitmaps; bits = λ i. refl; uses = λ k. refl; large_bits = λ g. refl };
  in_inodes = record { grammar = ready.grammar.inodes; inodes = λ i. refl };
  in_places = record { grammar = ready.directories; places = λ k p l m d. refl };
  in_bytes = λ k j l m u. refl;
  in_large = λ g j l m u. refl;
}

module _ (most segments : ℕ) (sectors : Sectors) (edits : List Edit) (ready : IsReady most segments sectors edits) (none : changes_of sectors edits ≡ []) where
  abbrev s : Store
  s = store_of segments sectors

  abbrev end : Store
  end = store_after segments sectors edits

  abbrev disk : Sectors
  disk = disk_after sectors edits

  -- a sector without bytes stays
  sector_stays : (x : ℕ) → Misses false x edits → disk x ≡ sectors x
  sector_stays x miss = ap (λ changes. fold with_bytes (fold with_change sectors changes) (byte_writes edits) x) none ∙ bytes_else sectors edits x miss

  inode_misses : (i : ℕ) → i < SEGMENT_INODES * segments → Misses false (sector_of (region.Inode i)) edits
  inode_misses i l = misses segments end false (region.Inode i) edits ready.few (in_inode segments i l) ready.fit (no_bytes_inode end i)

  same_inode : (i : ℕ) → (store_of segments disk).inode i ≡ s.inode i
  same_inode i = go (nat_lt i (SEGMENT_INODES * segments)) refl
    where
      go : (b : Bool) → nat_lt i (SEGMENT_INODES * segments) ≡ b → (if b then stored_node (inode_in (disk (sector_of (region.Inode i)))) else None) ≡ (if b then stored_node (inode_in (sectors (sector_of (region.Inode i)))) else None)
      go true l = ap (λ block. stored_node (inode_in block)) (sector_stays (sector_of (region.Inode i)) (inode_misses i (ltb-true i (SEGMENT_INODES * segments) l)))
      go false l = refl

  same_place : (k p : ℕ) → p < BLOCK_ENTRIES → IsMetadata (end.use_of k) → (store_of segments disk).place k p ≡ s.place k p
  same_place k p inside m = go (nat_lt k (SEGMENT_BLOCKS * segments)) refl
    where
      sector : ℕ
      sector = sector_of (region.Small k (p / SECTOR_ENTRIES))

      go : (b : Bool) → nat_lt k (SEGMENT_BLOCKS * segments) ≡ b → (if b then entry_in (directory_in (disk sector)) (p % SECTOR_ENTRIES) else None) ≡ (if b then entry_in (directory_in (sectors sector)) (p % SECTOR_ENTRIES) else None)
      go true l = ap (λ block. entry_in (directory_in block) (p % SECTOR_ENTRIES))
          (sector_stays sector (misses segments end false (region.Small k (p / SECTOR_ENTRIES)) edits ready.few (in_small segments k (p / SECTOR_ENTRIES) (ltb-true k (SEGMENT_BLOCKS * segments) l) (omega arith)) ready.fit (no_bytes_directory end k (p / SECTOR_ENTRIES) m)))
      go false l = refl

  not_apart : Apart s end → ⊥
  not_apart (inl other) = other.differs (sym ((written most segments sectors edits ready).says.inode other.number) ∙ same_inode other.number)
  not_apart (inr other) = other.differs (sym ((written most segments sectors edits ready).says.places other.block other.slot other.inside other.metadata) ∙ same_place other.block other.slot other.inside other.metadata)

  -- a dated inode's sector has a change, which would have raised its version; its time stands at place 100
  module _ (i : ℕ) (l : i < SEGMENT_INODES * segments) (dated : list_any (dates (sector_of (region.Inode i))) edits ≡ true) where
    abbrev x : ℕ
    x = sector_of (region.Inode i)

    abbrev new : List ℕ
    new = all_edited sectors edits x

    long : length new ≡ SECTOR_BYTES
    long = long_inodes segments end s sectors edits ready.few (says_itself most segments sectors edits ready) ready.fit (λ j m. ready.whole (sector_of (region.Inode j))) i l

    laid : sectors x ≡ made (sectors x) (change_by x (version_at sectors x + 1) (patches_with (forced_in edits x) (sectors x) new))
    laid = sym (sector_stays x (inode_misses i l)) ∙ metadata_laid sectors edits x (ready.whole x) (inode_misses i l)

    by_patches : (ps : List Patch) → patches_with (forced_in edits x) (sectors x) new ≡ ps → sectors x ≡ made (sectors x) (change_by x (version_at sectors x + 1) ps) → ⊥
    by_patches [] none h =
        let whole : length (sectors x) ≡ SECTOR_BYTES = ready.whole x in
        let unforced : forced_in edits x 100 ≡ false = ((no_forced_patches (forced_in edits x) (sectors x) new (omega arith) (whole ∙ sym long)).0 none).1 100 (omega arith) (omega arith) in
        let z : true ≡ false = sym dated ∙ unforced in cc
    by_patches (p ∷ ps) some h =
        let c : Change = record { sector = record { 0 = x }; version = version_at sectors x + 1; patches = p ∷ ps } in
        let v : version_at sectors x ≡ version_at sectors x + 1 = ap version_of h ∙ version-changed (sectors x) c in omega arith

    not_dated : ⊥
    not_dated = by_patches (patches_with (forced_in edits x) (sectors x) new) refl laid

  none_dates : Dates edits → ⊥
  none_dates d =
      let e : Edit = SetInode d.inode (Some d.node) true in
      let fit = fit_after segments end d.before (e ∷ d.after) (subst (AreFit segments end) d.splits ready.fit) in
      let x = sector_of (region.Inode d.inode) in
      not_dated d.inode fit.0.0.0 (ap (list_any (dates x)) d.splits ∙ date_found x d.before d.after e (eq-eqb x x refl))

  pub change_there : Apart s end ⊎ Dates edits → ⊥
  change_there (inl apart) = not_apart apart
  change_there (inr d) = none_dates d
