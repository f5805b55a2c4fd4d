-- Where an edit writes, and that each part of what the sectors say goes by its own sectors.
use Rattle.std.proofs.Common.{◌≡◌, ◌≢◌, ℕ, ◌*◌, ◌/◌, ◌%◌, ◌<◌, ◌≤◌, Bool, true, false, ◌&&◌, nat_lt, if◌then◌else◌, Option, Some, None, is_some, List, refl, ap, ◌∙◌, arith}
use Rattle.std.proofs.lemmas.Bool.{and_from, ltb-true, ne_eqb, eq-eqb, lt-ltb}
use Rattle.std.specs.Prelude.{slice_index}
use Rattle.disk_definitions.specs.declared.region.Region.{Region}
use Rattle.disk_definitions.specs.declared.region.Region.TheVariants as region
use Rattle.disk_definitions.specs.Regions.{sector_of, is_in_range}
use Rattle.disk_definitions.specs.Inodes.{inode_in}
use Rattle.disk_definitions.specs.Directories.{directory_in}
use Rattle.disk_definitions.specs.Bitmaps.{bitmap_in}
use Rattle.disk_definitions.proofs.RegionLaws.{region_once}
use Rattle.sector_bytes.specs.Sectors.{Sectors}
use Rattle.disk_definitions.specs.Store.{StoredNode, StoredEntry, Use, segment_at, directory_at, stored_node, entry_in, bit_in, use_in, large_in}
use Rattle.disk_definitions.specs.Store.Use.{Fresh, Bytes}
use Rattle.disk_definitions.specs.Standing.{IsMetadata, version_at}
use Rattle.disk_definitions.specs.Edits.{Edit}
use Rattle.disk_definitions.specs.Edits.Edit.{SetInode, SetBit, SetUse, SetPlace, SetLarge, SetBytes, SetLargeBytes}
use Rattle.disk_definitions.specs.Written.{edit_sector, edited_block, edited_sectors}
use Rattle.disk_definitions.specs.FitEdits.{IsFitEdit}
use Rattle.plan_fit.specs.Says.{SegmentsSay, InodesSay, PlacesSay, BytesSay, LargeBytesSay}

-- ---- tests

pub if_same : {X : Type 0} (t : Bool) (x y z : X) → (t ≡ true → x ≡ y) → (if t then x else z) ≡ (if t then y else z)
if_same true x y z e = e refl
if_same false x y z e = refl

pub and_same : (t x y : Bool) → (t ≡ true → x ≡ y) → (t && x) ≡ (t && y)
and_same true x y e = e refl
and_same false x y e = refl

-- ---- where an edit writes

abbrev pub edit_region : Edit → Region
edit_region (SetInode i x dated) = region.Inode i
edit_region (SetBit i b) = region.Segment (i / 64)
edit_region (SetUse k u) = region.Segment (k / 1024)
edit_region (SetPlace k p e) = region.Small k (p / 7)
edit_region (SetLarge g b) = region.Segment g
edit_region (SetBytes k part bytes) = region.Small k part
edit_region (SetLargeBytes g part bytes) = region.Large g part

pub edit_sector_is : (e : Edit) → edit_sector e ≡ sector_of (edit_region e)
edit_sector_is (SetInode i x dated) = refl
edit_sector_is (SetBit i b) = refl
edit_sector_is (SetUse k u) = refl
edit_sector_is (SetPlace k p e) = refl
edit_sector_is (SetLarge g b) = refl
edit_sector_is (SetBytes k part bytes) = refl
edit_sector_is (SetLargeBytes g part bytes) = refl

pub in_segment : (segments k : ℕ) → k < segments → is_in_range segments (region.Segment k) ≡ true
in_segment segments k l = lt-ltb k segments l

pub in_inode : (segments i : ℕ) → i < 64 * segments → is_in_range segments (region.Inode i) ≡ true
in_inode segments i l = lt-ltb i (64 * segments) l

pub in_small : (segments k part : ℕ) → k < 1024 * segments → part < 8 → is_in_range segments (region.Small k part) ≡ true
in_small segments k part l m = and_from (nat_lt k (1024 * segments)) (nat_lt part 8) (lt-ltb k (1024 * segments) l) (lt-ltb part 8 m)

pub in_large : (segments g part : ℕ) → g < segments → part < 2048 → is_in_range segments (region.Large g part) ≡ true
in_large segments g part l m = and_from (nat_lt g segments) (nat_lt part 2048) (lt-ltb g segments l) (lt-ltb part 2048 m)

pub edit_in_range : (segments : ℕ) (e : Edit) → IsFitEdit segments e → is_in_range segments (edit_region e) ≡ true
edit_in_range segments (SetInode i None dated) h = in_inode segments i h
edit_in_range segments (SetInode i (Some x) dated) h = in_inode segments i h.0
edit_in_range segments (SetBit i b) h = in_segment segments (i / 64) (omega arith)
edit_in_range segments (SetUse k u) h = in_segment segments (k / 1024) (omega arith)
edit_in_range segments (SetPlace k p None) h = let m : p < 56 = h.1 in in_small segments k (p / 7) h.0 (omega arith)
edit_in_range segments (SetPlace k p (Some e)) h = let m : p < 56 = h.1 in in_small segments k (p / 7) h.0 (omega arith)
edit_in_range segments (SetLarge g b) h = in_segment segments g h
edit_in_range segments (SetBytes k part bytes) h = in_small segments k part h.0 h.1
edit_in_range segments (SetLargeBytes g part bytes) h = in_large segments g part h.0 h.1

-- the block at its sector, and those of other sectors
pub edited_here : (sectors : Sectors) (e : Edit) → edited_sectors sectors e (edit_sector e) ≡ edited_block (sectors (edit_sector e)) (version_at sectors (edit_sector e)) e
edited_here sectors e = ap (λ (t : Bool). if t then edited_block (sectors (edit_sector e)) (version_at sectors (edit_sector e)) e else sectors (edit_sector e)) (eq-eqb (edit_sector e) (edit_sector e) refl)

pub edited_else : (sectors : Sectors) (e : Edit) (s : ℕ) → s ≢ edit_sector e → edited_sectors sectors e s ≡ sectors s
edited_else sectors e s d = ap (λ (t : Bool). if t then edited_block (sectors s) (version_at sectors s) e else sectors s) (ne_eqb s (edit_sector e) d)

pub edited_apart : (segments : ℕ) (sectors : Sectors) (e : Edit) (r : Region) → segments ≤ 64 → IsFitEdit segments e → is_in_range segments r ≡ true → r ≢ edit_region e → edited_sectors sectors e (sector_of r) ≡ sectors (sector_of r)
edited_apart segments sectors e r few fit there d = edited_else sectors e (sector_of r) (λ q. d (region_once segments r (edit_region e) few there (edit_in_range segments e fit) (q ∙ edit_sector_is e)))

-- ---- each part goes by its own sectors

pub segments_kept : (segments : ℕ) (a b : Sectors) (bit : ℕ → Bool) (use_of : ℕ → Use) (large_bit : ℕ → Bool)
    → ((k : ℕ) → k < segments → b (sector_of (region.Segment k)) ≡ a (sector_of (region.Segment k))) → SegmentsSay segments a bit use_of large_bit → SegmentsSay segments b bit use_of large_bit
segments_kept segments a b bit use_of large_bit same h = record {
  grammar = λ k l. ap (λ (x : List ℕ). is_some (bitmap_in x)) (same k l) ∙ h.grammar k l;
  bits = λ i. and_same (nat_lt i (64 * segments)) (bit_in (segment_at b (i / 64)) (i % 64)) (bit_in (segment_at a (i / 64)) (i % 64))
      (λ t. let l = ltb-true i (64 * segments) t in ap (λ (x : List ℕ). bit_in (bitmap_in x) (i % 64)) (same (i / 64) (omega arith))) ∙ h.bits i;
  uses = λ k. if_same (nat_lt k (1024 * segments)) (use_in (segment_at b (k / 1024)) (k % 1024)) (use_in (segment_at a (k / 1024)) (k % 1024)) Fresh
      (λ t. let l = ltb-true k (1024 * segments) t in ap (λ (x : List ℕ). use_in (bitmap_in x) (k % 1024)) (same (k / 1024) (omega arith))) ∙ h.uses k;
  large_bits = λ g. and_same (nat_lt g segments) (large_in (segment_at b g)) (large_in (segment_at a g)) (λ t. ap (λ (x : List ℕ). large_in (bitmap_in x)) (same g (ltb-true g segments t))) ∙ h.large_bits g;
}

pub inodes_kept : (segments : ℕ) (a b : Sectors) (inode : ℕ → Option StoredNode)
    → ((i : ℕ) → i < 64 * segments → b (sector_of (region.Inode i)) ≡ a (sector_of (region.Inode i))) → InodesSay segments a inode → InodesSay segments b inode
inodes_kept segments a b inode same h = record {
  grammar = λ i l. ap (λ (x : List ℕ). is_some (inode_in x)) (same i l) ∙ h.grammar i l;
  inodes = λ i. if_same (nat_lt i (64 * segments)) (stored_node (inode_in (b (sector_of (region.Inode i))))) (stored_node (inode_in (a (sector_of (region.Inode i))))) None
      (λ t. ap (λ (x : List ℕ). stored_node (inode_in x)) (same i (ltb-true i (64 * segments) t))) ∙ h.inodes i;
}

pub places_kept : (segments : ℕ) (use_of : ℕ → Use) (a b : Sectors) (place : ℕ → ℕ → Option StoredEntry)
    → ((k p : ℕ) → k < 1024 * segments → p < 8 → IsMetadata (use_of k) → b (sector_of (region.Small k p)) ≡ a (sector_of (region.Small k p))) → PlacesSay segments use_of a place → PlacesSay segments use_of b place
places_kept segments use_of a b place same h = record {
  grammar = λ k p l m d. ap (λ (x : List ℕ). is_some (directory_in x)) (same k p l m d) ∙ h.grammar k p l m d;
  places = λ k p l m d. if_same (nat_lt k (1024 * segments)) (entry_in (directory_at b k (p / 7)) (p % 7)) (entry_in (directory_at a k (p / 7)) (p % 7)) None
      (λ t. ap (λ (x : List ℕ). entry_in (directory_in x) (p % 7)) (same k (p / 7) l (omega arith) d)) ∙ h.places k p l m d;
}

pub bytes_kept : (segments : ℕ) (use_of : ℕ → Use) (a b : Sectors) (byte : ℕ → ℕ → ℕ)
    → ((k p : ℕ) → k < 1024 * segments → p < 8 → use_of k ≡ Bytes → b (sector_of (region.Small k p)) ≡ a (sector_of (region.Small k p))) → BytesSay segments use_of a byte → BytesSay segments use_of b byte
bytes_kept segments use_of a b byte same h k j l m d = ap (λ (x : List ℕ). slice_index x (j % 512)) (same k (j / 512) l (omega arith) d) ∙ h k j l m d

pub large_kept : (segments : ℕ) (large_bit : ℕ → Bool) (a b : Sectors) (byte : ℕ → ℕ → ℕ)
    → ((g p : ℕ) → g < segments → p < 2048 → large_bit g ≡ true → b (sector_of (region.Large g p)) ≡ a (sector_of (region.Large g p))) → LargeBytesSay segments large_bit a byte → LargeBytesSay segments large_bit b byte
large_kept segments large_bit a b byte same h g j l m d = ap (λ (x : List ℕ). slice_index x (j % 512)) (same g (j / 512) l (omega arith) d) ∙ h g j l m d
