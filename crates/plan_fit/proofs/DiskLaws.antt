-- The disk with the changes and the bytes of edits says what the edited store does, is in its grammar, and its versions rise by one at most.
use Rattle.std.proofs.Common.{◌≡◌, ℕ, ◌+◌, ◌*◌, ◌/◌, ◌%◌, ◌^◌, ◌<◌, ◌≤◌, Bool, true, false, ◌&&◌, if◌then◌else◌, ⊎_elim, List, length, drop, refl, sym, ap, ◌∙◌, subst, arith}
use Rattle.std.proofs.lemmas.Bool.{cases_lt, le-ltb}
use Rattle.frang_base.proofs.Tests.{some_there}
use Rattle.disk_definitions.specs.declared.region.Region.TheVariants as region
use Rattle.disk_definitions.specs.Regions.{sector_of}
use Rattle.sector_bytes.specs.Bytes.{number_at}
use Rattle.disk_definitions.specs.Bitmaps.{bitmap_in}
use Rattle.disk_definitions.specs.Directories.{directory_in}
use Rattle.disk_definitions.specs.Inodes.{inode_in}
use Rattle.sector_bytes.specs.Sectors.{Sectors}
use Rattle.disk_definitions.specs.Store.{Store, store_of, segment_at, directory_at, use_in, large_in}
use Rattle.disk_definitions.specs.Store.Use.{Fresh}
use Rattle.disk_definitions.specs.Standing.{IsMetadata, IsInGrammar, HasVersionsUpTo, version_at}
use Rattle.disk_definitions.specs.Edits.{Edit}
use Rattle.disk_definitions.specs.ChangeLaws.{SaysTheSame}
use Rattle.disk_definitions.specs.Written.{all_edited, forced_in}
use Rattle.plan_fit.specs.Says.{Says}
use Rattle.disk_definitions.specs.Ready.{store_after, disk_after, IsReady, RisesByOne}
use Rattle.plan_fit.specs.Laws.{RecordsAreWritten}
use Rattle.plan_fit.proofs.Grammar.{versioned, version_back, inode_versioned, bitmap_versioned, directory_versioned}
use Rattle.plan_fit.proofs.Kept.{in_segment, in_inode, in_small, in_large, bytes_kept, large_kept}
use Rattle.plan_fit.proofs.EditLaws.{all}
use Rattle.plan_fit.proofs.LaidOver.{Misses}
use Rattle.plan_fit.proofs.Versioned.{IsNext, made_is, bitmap_begins, inode_begins, directory_begins, length_bitmap, length_directory}
use Rattle.plan_fit.proofs.NearBy.{NearSegments, NearInodes, NearDirectories, segments_near, inodes_near, places_near}
use Rattle.plan_fit.proofs.RecordLaws.{misses, no_bytes_segment, no_bytes_inode, no_bytes_directory, no_metadata_bytes, no_metadata_large, long_inodes, metadata_laid, bytes_laid}

next_version : (v : ℕ) (block new : List ℕ) (n : IsNext v block new) (most : ℕ) → v ≤ most → most + 1 < 2 ^ 64 → number_at 8 0 block ≤ most + 1
next_version v block new n most low fits =
    let le : n.version ≤ v + 1 = n.most in
    let is : number_at 8 0 block ≡ n.version = ap (number_at 8 0) n.is ∙ version_back n.version (drop 8 new) (omega arith) in
    omega arith

next_between : (v : ℕ) (block new : List ℕ) (n : IsNext v block new) (most : ℕ) → v ≤ most → most + 1 < 2 ^ 64 → (v ≤ number_at 8 0 block) × (number_at 8 0 block ≤ v + 1)
next_between v block new n most low fits =
    let le : n.version ≤ v + 1 = n.most in
    let ge : v ≤ n.version = n.rises in
    let is : number_at 8 0 block ≡ n.version = ap (number_at 8 0) n.is ∙ version_back n.version (drop 8 new) (omega arith) in
    (omega arith, omega arith)

module _ (most segments : ℕ) (sectors : Sectors) (edits : List Edit) (h : IsReady most segments sectors edits) where
  abbrev end : Store
  end = store_after segments sectors edits

  abbrev new : Sectors
  new = all_edited sectors edits

  abbrev disk : Sectors
  disk = disk_after sectors edits

  start : Says segments end sectors (store_of segments sectors)
  start = record {
    in_segments = record { grammar = h.grammar.bitmaps; bits = λ i. refl; uses = λ k. refl; large_bits = λ g. refl };
    in_inodes = record { grammar = h.grammar.inodes; inodes = λ i. refl };
    in_places = record { grammar = h.directories; places = λ k p l m d. refl };
    in_bytes = λ k j l m u. refl;
    in_large = λ g j l m u. refl;
  }

  done : Says segments end new end
  done = all segments end (store_of segments sectors) sectors edits h.few start h.fit

  next : (s : ℕ) → length (new s) ≡ 512 → sectors s ≡ versioned (version_at sectors s) (sectors s) → version_at sectors s ≤ most → Misses false s edits → IsNext (version_at sectors s) (disk s) (new s)
  next s long same low n =
      let last : most + 1 < 2 ^ 64 = h.last in
      subst (λ (b : List ℕ). IsNext (version_at sectors s) b (new s)) (sym (metadata_laid sectors edits s (h.whole s) n)) (made_is (forced_in edits s) (sectors s) (new s) s (version_at sectors s) (h.whole s) long (omega arith) same)

  segment_next : (k : ℕ) → k < segments → IsNext (version_at sectors (sector_of (region.Segment k))) (disk (sector_of (region.Segment k))) (new (sector_of (region.Segment k)))
  segment_next k l =
      let s : ℕ = sector_of (region.Segment k) in
      let x = some_there (segment_at sectors k) (h.grammar.bitmaps k l) in
      let y = some_there (segment_at new k) (done.in_segments.grammar k l) in
      next s (length_bitmap (new s) y.0 y.1) (bitmap_begins (sectors s) x.0 x.1) (h.versions.bitmaps k l) (misses segments end false (region.Segment k) edits h.few (in_segment segments k l) h.fit (no_bytes_segment end k))

  inode_next : (i : ℕ) → i < 64 * segments → IsNext (version_at sectors (sector_of (region.Inode i))) (disk (sector_of (region.Inode i))) (new (sector_of (region.Inode i)))
  inode_next i l =
      let s : ℕ = sector_of (region.Inode i) in
      let x = some_there (inode_in (sectors s)) (h.grammar.inodes i l) in
      next s (long_inodes segments end (store_of segments sectors) sectors edits h.few start h.fit (λ j m. h.whole (sector_of (region.Inode j))) i l) (inode_begins (sectors s) x.0 x.1) (h.versions.inodes i l)
      (misses segments end false (region.Inode i) edits h.few (in_inode segments i l) h.fit (no_bytes_inode end i))

  directory_next : (k p : ℕ) → k < 1024 * segments → p < 8 → IsMetadata (end.use_of k) → IsNext (version_at sectors (sector_of (region.Small k p))) (disk (sector_of (region.Small k p))) (new (sector_of (region.Small k p)))
  directory_next k p l m d =
      let s : ℕ = sector_of (region.Small k p) in
      let x = some_there (directory_at sectors k p) (h.directories k p l m d) in
      let y = some_there (directory_at new k p) (done.in_places.grammar k p l m d) in
      next s (length_directory (new s) y.0 y.1) (directory_begins (sectors s) x.0 x.1) (h.directory_versions k p l m d) (misses segments end false (region.Small k p) edits h.few (in_small segments k p l m) h.fit (no_bytes_directory end k p d))

  segment_near : (k : ℕ) → k < segments → NearSegments (segment_at new k) (segment_at disk k)
  segment_near k l =
      let s : ℕ = sector_of (region.Segment k) in
      let y = some_there (segment_at new k) (done.in_segments.grammar k l) in
      let n = segment_next k l in
      let le : n.version ≤ version_at sectors s + 1 = n.most in
      let low : version_at sectors s ≤ most = h.versions.bitmaps k l in
      let last : most + 1 < 2 ^ 64 = h.last in
      record { was = y.0; version = n.version; there = y.1; is = ap bitmap_in n.is ∙ bitmap_versioned (new s) y.0 n.version y.1 (omega arith) }

  inode_near : (i : ℕ) → i < 64 * segments → NearInodes (inode_in (new (sector_of (region.Inode i)))) (inode_in (disk (sector_of (region.Inode i))))
  inode_near i l =
      let s : ℕ = sector_of (region.Inode i) in
      let y = some_there (inode_in (new s)) (done.in_inodes.grammar i l) in
      let n = inode_next i l in
      let le : n.version ≤ version_at sectors s + 1 = n.most in
      let low : version_at sectors s ≤ most = h.versions.inodes i l in
      let last : most + 1 < 2 ^ 64 = h.last in
      record { was = y.0; version = n.version; there = y.1; is = ap inode_in n.is ∙ inode_versioned (new s) y.0 n.version y.1 (omega arith) }

  directory_near : (k p : ℕ) → k < 1024 * segments → p < 8 → IsMetadata (end.use_of k) → NearDirectories (directory_at new k p) (directory_at disk k p)
  directory_near k p l m d =
      let s : ℕ = sector_of (region.Small k p) in
      let y = some_there (directory_at new k p) (done.in_places.grammar k p l m d) in
      let n = directory_next k p l m d in
      let le : n.version ≤ version_at sectors s + 1 = n.most in
      let low : version_at sectors s ≤ most = h.directory_versions k p l m d in
      let last : most + 1 < 2 ^ 64 = h.last in
      record { was = y.0; version = n.version; there = y.1; is = ap directory_in n.is ∙ directory_versioned (new s) y.0 n.version y.1 (omega arith) }

  laid : Says segments end disk end
  laid = record {
    in_segments = segments_near segments new disk end.bit end.use_of end.large_bit segment_near done.in_segments;
    in_inodes = inodes_near segments new disk end.inode inode_near done.in_inodes;
    in_places = places_near segments end.use_of new disk end.place directory_near done.in_places;
    in_bytes = bytes_kept segments end.use_of new disk end.byte (λ k p l m u. bytes_laid sectors edits (sector_of (region.Small k p)) (misses segments end true (region.Small k p) edits h.few (in_small segments k p l m) h.fit (no_metadata_bytes end k p u))) done.in_bytes;
    in_large = large_kept segments end.large_bit new disk end.large_byte (λ g p l m u. bytes_laid sectors edits (sector_of (region.Large g p)) (misses segments end true (region.Large g p) edits h.few (in_large segments g p l m) h.fit (no_metadata_large end g p))) done.in_large;
  }

  past_fresh : (k : ℕ) → 1024 * segments ≤ k → end.use_of k ≡ Fresh
  past_fresh k l = sym (laid.in_segments.uses k) ∙ ap (λ (t : Bool). if t then use_in (segment_at disk (k / 1024)) (k % 1024) else Fresh) (le-ltb k (1024 * segments) l)

  past_large : (g : ℕ) → segments ≤ g → end.large_bit g ≡ false
  past_large g l = sym (laid.in_segments.large_bits g) ∙ ap (λ (t : Bool). t && large_in (segment_at disk g)) (le-ltb g segments l)

  same : SaysTheSame end (store_of segments disk)
  same = record {
    inode = laid.in_inodes.inodes;
    bit = laid.in_segments.bits;
    uses = laid.in_segments.uses;
    large_bits = laid.in_segments.large_bits;
    places = λ k p m d. ⊎_elim (λ l. laid.in_places.places k p l m d) (λ l. absurd (subst IsMetadata (past_fresh k l) d)) (cases_lt k (1024 * segments));
    bytes = λ k j m u. ⊎_elim (λ l. laid.in_bytes k j l m u) (λ l. let f = past_fresh k l in absurd cc) (cases_lt k (1024 * segments));
    large_bytes = λ g j m u. ⊎_elim (λ l. laid.in_large g j l m u) (λ l. let f = past_large g l in absurd cc) (cases_lt g segments);
  }

  grammar : IsInGrammar segments disk
  grammar = record {
    bitmaps = laid.in_segments.grammar;
    inodes = laid.in_inodes.grammar;
    directories = λ k p l m d. laid.in_places.grammar k p l m (subst IsMetadata (laid.in_segments.uses k) d);
  }

  versions : HasVersionsUpTo (most + 1) segments disk
  versions = record {
    bitmaps = λ k l. next_version (version_at sectors (sector_of (region.Segment k))) (disk (sector_of (region.Segment k))) (new (sector_of (region.Segment k))) (segment_next k l) most (h.versions.bitmaps k l) h.last;
    inodes = λ i l. next_version (version_at sectors (sector_of (region.Inode i))) (disk (sector_of (region.Inode i))) (new (sector_of (region.Inode i))) (inode_next i l) most (h.versions.inodes i l) h.last;
    directories = λ k p l m d. let u = subst IsMetadata (laid.in_segments.uses k) d in
        next_version (version_at sectors (sector_of (region.Small k p))) (disk (sector_of (region.Small k p))) (new (sector_of (region.Small k p))) (directory_next k p l m u) most (h.directory_versions k p l m u) h.last;
  }

  rise : RisesByOne segments end sectors disk
  rise = record {
    bitmaps = λ k l. next_between (version_at sectors (sector_of (region.Segment k))) (disk (sector_of (region.Segment k))) (new (sector_of (region.Segment k))) (segment_next k l) most (h.versions.bitmaps k l) h.last;
    inodes = λ i l. next_between (version_at sectors (sector_of (region.Inode i))) (disk (sector_of (region.Inode i))) (new (sector_of (region.Inode i))) (inode_next i l) most (h.versions.inodes i l) h.last;
    directories = λ k p l m d. next_between (version_at sectors (sector_of (region.Small k p))) (disk (sector_of (region.Small k p))) (new (sector_of (region.Small k p))) (directory_next k p l m d) most (h.directory_versions k p l m d) h.last;
  }

pub written : RecordsAreWritten
written most segments sectors edits h = record { says = same most segments sectors edits h; grammar = grammar most segments sectors edits h; versions = versions most segments sectors edits h; rise = rise most segments sectors edits h }
