-- The sectors after an edit, and after several, say what the edited store does.
use Rattle.std.proofs.Common.{◌≡◌, ℕ, ◌*◌, ◌/◌, ◌%◌, ◌^◌, ◌<◌, ◌≤◌, Bool, true, Option, Some, None, List, [], ◌∷◌, length, refl, sym, ap, ◌∙◌, subst, arith}
use Rattle.frang_base.specs.declared.bitmap.Bitmap.{Bitmap}
use Rattle.frang_base.proofs.Tests.{some_there}
use Rattle.disk_definitions.specs.declared.region.Region.{Region}
use Rattle.disk_definitions.specs.declared.region.Region.TheVariants as region
use Rattle.disk_definitions.specs.Regions.{sector_of, is_in_range}
use Rattle.sector_bytes.specs.Bytes.{number_at}
use Rattle.disk_definitions.specs.Directories.{directory_in}
use Rattle.disk_definitions.specs.Bitmaps.{bitmap_bytes, bitmap_fields, bitmap_in}
use Rattle.disk_definitions.specs.Inodes.{inode_in}
use Rattle.disk_definitions.proofs.InodeLaws.{inode_read}
use Rattle.sector_bytes.specs.Sectors.{Sectors}
use Rattle.disk_definitions.specs.Store.{Store, StoredNode, StoredEntry, Use, segment_at, directory_at}
use Rattle.disk_definitions.specs.Store.Use.{Fresh, Bytes, Empty, Entries}
use Rattle.disk_definitions.specs.Standing.{IsMetadata, version_at}
use Rattle.disk_definitions.specs.Taken.{with_inode, with_state, with_large}
use Rattle.disk_definitions.specs.Edits.{Edit, edited}
use Rattle.disk_definitions.specs.Edits.Edit.{SetInode, SetBit, SetUse, SetPlace, SetLarge, SetBytes, SetLargeBytes}
use Rattle.disk_definitions.specs.Written.{state_of, edited_sectors}
use Rattle.disk_definitions.specs.FitEdits.{IsFitEdit}
use Rattle.plan_fit.specs.Says.{SegmentsSay, InodesSay, PlacesSay, BytesSay, LargeBytesSay, Says}
use Rattle.plan_fit.specs.Laws.{EachEditIsWritten, EditsAreWritten}
use Rattle.plan_fit.proofs.Grammar.{IsStorableBitmap, bitmap_storable, directory_storable, inode_version, version_back}
use Rattle.plan_fit.proofs.Kept.{edit_region, edited_here, edited_apart, in_segment, in_inode, in_small, in_large, segments_kept, inodes_kept, places_kept, bytes_kept, large_kept}
use Rattle.plan_fit.proofs.SegmentEdits.{changed_back, inode_stored, state_stored, large_stored, OneChanged, bit_set, use_set, large_set}
use Rattle.plan_fit.proofs.InodeEdits.{MayStand, inode_set}
use Rattle.plan_fit.proofs.PlaceEdits.{MayEnter, placed_back, place_set}
use Rattle.plan_fit.proofs.ByteEdits.{bytes_set}

-- a block isn't both a directory's and for bytes
pub not_both : (u : Use) → IsMetadata u → u ≡ Bytes → ⊥
not_both Fresh d e = d
not_both Bytes d e = d
not_both Empty d e = absurd cc
not_both Entries d e = absurd cc

module _ (segments : ℕ) (end : Store) (sectors : Sectors) (s : Store) (few : segments ≤ 64) (h : Says segments end sectors s) (e : Edit) (fit : IsFitEdit segments e) where
  abbrev after : Sectors
  after = edited_sectors sectors e

  -- the sectors of another region stay, so what they say does
  apart : (r : Region) → is_in_range segments r ≡ true → (r ≡ edit_region e → ⊥) → after (sector_of r) ≡ sectors (sector_of r)
  apart r inside d = edited_apart segments sectors e r few fit inside d

  same_segments : ((k : ℕ) → region.Segment k ≡ edit_region e → ⊥) → SegmentsSay segments after s.bit s.use_of s.large_bit
  same_segments d = segments_kept segments sectors after s.bit s.use_of s.large_bit (λ k l. apart (region.Segment k) (in_segment segments k l) (d k)) h.in_segments

  same_inodes : ((i : ℕ) → region.Inode i ≡ edit_region e → ⊥) → InodesSay segments after s.inode
  same_inodes d = inodes_kept segments sectors after s.inode (λ i l. apart (region.Inode i) (in_inode segments i l) (d i)) h.in_inodes

  same_places : ((k p : ℕ) → IsMetadata (end.use_of k) → region.Small k p ≡ edit_region e → ⊥) → PlacesSay segments end.use_of after s.place
  same_places d = places_kept segments end.use_of sectors after s.place (λ k p l m u. apart (region.Small k p) (in_small segments k p l m) (d k p u)) h.in_places

  same_bytes : ((k p : ℕ) → end.use_of k ≡ Bytes → region.Small k p ≡ edit_region e → ⊥) → BytesSay segments end.use_of after s.byte
  same_bytes d = bytes_kept segments end.use_of sectors after s.byte (λ k p l m u. apart (region.Small k p) (in_small segments k p l m) (d k p u)) h.in_bytes

  same_large : ((g p : ℕ) → region.Large g p ≡ edit_region e → ⊥) → LargeBytesSay segments end.large_bit after s.large_byte
  same_large d = large_kept segments end.large_bit sectors after s.large_byte (λ g p l m u. apart (region.Large g p) (in_large segments g p l m) (d g p)) h.in_large

  -- a segment whose bitmap was changed
  segment_changed : (q : ℕ) (f : Bitmap → Bitmap) → q < segments → edit_region e ≡ region.Segment q → after (sector_of (region.Segment q)) ≡ bitmap_bytes (f (bitmap_fields (sectors (sector_of (region.Segment q)))))
      → ((y : Bitmap) → IsStorableBitmap y → IsStorableBitmap (f y)) → (x : Bitmap) × OneChanged segments sectors after q x (f x) × IsStorableBitmap x
  segment_changed q f l at is keeps =
      let x = some_there (segment_at sectors q) (h.in_segments.grammar q l) in (
        x.0,
        record {
          within = l;
          was = x.1;
          is = ap bitmap_in is ∙ changed_back (sectors (sector_of (region.Segment q))) x.0 f x.1 keeps;
          others = λ k m d. apart (region.Segment k) (in_segment segments k m) (λ g. let same : region.Segment k ≡ region.Segment q = g ∙ at in d (cc same));
        },
        bitmap_storable (sectors (sector_of (region.Segment q))) x.0 x.1,
      )

  -- the version of an inode fits its field
  pub inode_small : (i : ℕ) → i < 64 * segments → version_at sectors (sector_of (region.Inode i)) < 2 ^ 64
  inode_small i l =
      let x = some_there (inode_in (sectors (sector_of (region.Inode i)))) (h.in_inodes.grammar i l) in
      let small : x.0.version < 2 ^ 64 = inode_version (sectors (sector_of (region.Inode i))) x.0 x.1 in
      subst (λ (n : ℕ). n < 2 ^ 64) (sym (ap (number_at 8 0) (inode_read (sectors (sector_of (region.Inode i))) x.0 x.1).0 ∙ version_back x.0.version [] small)) small

pub fit_inode : (segments i : ℕ) (x : Option StoredNode) (dated : Bool) → IsFitEdit segments (SetInode i x dated) → (i < 64 * segments) × MayStand x
fit_inode segments i None dated h = (h, tt)
fit_inode segments i (Some x) dated h = h

pub fit_place : (segments k p : ℕ) (o : Option StoredEntry) → IsFitEdit segments (SetPlace k p o) → (k < 1024 * segments) × (p < 56) × MayEnter o
fit_place segments k p None h = (h.0, h.1, tt)
fit_place segments k p (Some e) h = h

module _ (segments : ℕ) (end s : Store) (sectors : Sectors) (few : segments ≤ 64) (h : Says segments end sectors s) where
  inode_written : (i : ℕ) (x : Option StoredNode) (dated : Bool) → IsFitEdit segments (SetInode i x dated) → Says segments end (edited_sectors sectors (SetInode i x dated)) (edited s (SetInode i x dated))
  inode_written i x dated fit =
      let e : Edit = SetInode i x dated in
      let f = fit_inode segments i x dated fit in
      record {
        in_segments = same_segments segments end sectors s few h e fit (λ k g. cc);
        in_inodes = inode_set segments sectors (edited_sectors sectors e) i (version_at sectors (sector_of (region.Inode i))) x s.inode f.0 (inode_small segments end sectors s few h e fit i f.0) f.1 (edited_here sectors e)
            (λ j l d. apart segments end sectors s few h e fit (region.Inode j) (in_inode segments j l) (λ g. d (cc))) h.in_inodes;
        in_places = same_places segments end sectors s few h e fit (λ k p u g. cc);
        in_bytes = same_bytes segments end sectors s few h e fit (λ k p u g. cc);
        in_large = same_large segments end sectors s few h e fit (λ k p g. cc);
      }

  segment_written : (e : Edit) (fit : IsFitEdit segments e) (q : ℕ) → edit_region e ≡ region.Segment q → (t : Store) → t.inode ≡ s.inode → t.place ≡ s.place → t.byte ≡ s.byte → t.large_byte ≡ s.large_byte
      → SegmentsSay segments (edited_sectors sectors e) t.bit t.use_of t.large_bit → Says segments end (edited_sectors sectors e) t
  segment_written e fit q at t inode place byte large_byte say = record {
    in_segments = say;
    in_inodes = subst (λ f. InodesSay segments (edited_sectors sectors e) f) (sym inode) (same_inodes segments end sectors s few h e fit (λ i g. let n : region.Inode i ≡ region.Segment q = g ∙ at in cc n));
    in_places = subst (λ f. PlacesSay segments end.use_of (edited_sectors sectors e) f) (sym place) (same_places segments end sectors s few h e fit (λ k p u g. let n : region.Small k p ≡ region.Segment q = g ∙ at in cc n));
    in_bytes = subst (λ f. BytesSay segments end.use_of (edited_sectors sectors e) f) (sym byte) (same_bytes segments end sectors s few h e fit (λ k p u g. let n : region.Small k p ≡ region.Segment q = g ∙ at in cc n));
    in_large = subst (λ f. LargeBytesSay segments end.large_bit (edited_sectors sectors e) f) (sym large_byte) (same_large segments end sectors s few h e fit (λ k p g. let n : region.Large k p ≡ region.Segment q = g ∙ at in cc n));
  }

  bit_written : (i : ℕ) (b : Bool) → i < 64 * segments → Says segments end (edited_sectors sectors (SetBit i b)) (edited s (SetBit i b))
  bit_written i b fit =
      let e : Edit = SetBit i b in
      let c = segment_changed segments end sectors s few h e fit (i / 64) (λ y. with_inode y (i % 64) b) (omega arith) refl (edited_here sectors e) (inode_stored (i % 64) b (omega arith)) in
      segment_written e fit (i / 64) refl (edited s e) refl refl refl refl (bit_set segments sectors (edited_sectors sectors e) i b c.0 s.bit s.use_of s.large_bit c.1 h.in_segments)

  use_written : (k : ℕ) (u : Use) → k < 1024 * segments → Says segments end (edited_sectors sectors (SetUse k u)) (edited s (SetUse k u))
  use_written k u fit =
      let e : Edit = SetUse k u in
      let c = segment_changed segments end sectors s few h e fit (k / 1024) (λ y. with_state y (k % 1024) (state_of u)) (omega arith) refl (edited_here sectors e) (state_stored (k % 1024) (state_of u)) in
      let long : length c.0.states ≡ 256 = c.2.states in
      segment_written e fit (k / 1024) refl (edited s e) refl refl refl refl (use_set segments sectors (edited_sectors sectors e) k u c.0 s.bit s.use_of s.large_bit c.1 long h.in_segments)

  large_written : (g : ℕ) (b : Bool) → g < segments → Says segments end (edited_sectors sectors (SetLarge g b)) (edited s (SetLarge g b))
  large_written g b fit =
      let e : Edit = SetLarge g b in
      let c = segment_changed segments end sectors s few h e fit g (λ y. with_large y b) fit refl (edited_here sectors e) (large_stored b) in
      segment_written e fit g refl (edited s e) refl refl refl refl (large_set segments sectors (edited_sectors sectors e) g b c.0 s.bit s.use_of s.large_bit c.1 h.in_segments)

  place_written : (k p : ℕ) (o : Option StoredEntry) → IsFitEdit segments (SetPlace k p o) → IsMetadata (end.use_of k) → Says segments end (edited_sectors sectors (SetPlace k p o)) (edited s (SetPlace k p o))
  place_written k p o fit meets =
      let e : Edit = SetPlace k p o in
      let f = fit_place segments k p o fit in
      let lp : p < 56 = f.1 in
      let x = some_there (directory_at sectors k (p / 7)) (h.in_places.grammar k (p / 7) f.0 (omega arith) meets) in
      let block : List ℕ = sectors (sector_of (region.Small k (p / 7))) in
      record {
        in_segments = same_segments segments end sectors s few h e fit (λ k g. cc);
        in_inodes = same_inodes segments end sectors s few h e fit (λ k g. cc);
        in_places = place_set segments end.use_of sectors (edited_sectors sectors e) k p o x.0 s.place f.0 lp f.2 x.1 (directory_storable block x.0 x.1).seven (ap directory_in (edited_here sectors e) ∙ placed_back block x.0 (p % 7) o x.1 f.2)
            (λ l q m n d. apart segments end sectors s few h e fit (region.Small l q) (in_small segments l q m n) (λ g. d (cc) (cc))) h.in_places;
        in_bytes = same_bytes segments end sectors s few h e fit (λ l q u g. let same : l ≡ k = cc in not_both (end.use_of k) meets (ap end.use_of (sym same) ∙ u));
        in_large = same_large segments end sectors s few h e fit (λ k p g. cc);
      }

  bytes_written : (k part : ℕ) (bytes : ℕ → ℕ) → (k < 1024 * segments) × (part < 8) → end.use_of k ≡ Bytes → Says segments end (edited_sectors sectors (SetBytes k part bytes)) (edited s (SetBytes k part bytes))
  bytes_written k part bytes fit meets =
      let e : Edit = SetBytes k part bytes in
      record {
        in_segments = same_segments segments end sectors s few h e fit (λ k g. cc);
        in_inodes = same_inodes segments end sectors s few h e fit (λ k g. cc);
        in_places = same_places segments end sectors s few h e fit (λ l q u g. let same : l ≡ k = cc in not_both (end.use_of l) u (ap end.use_of same ∙ meets));
        in_bytes = λ l j m n u. bytes_set (λ k p. sector_of (region.Small k p)) sectors (edited_sectors sectors e) k part bytes s.byte l j (edited_here sectors e)
            (λ d. apart segments end sectors s few h e fit (region.Small l (j / 512)) (in_small segments l (j / 512) m (omega arith)) (λ g. d (cc) (cc))) (h.in_bytes l j m n u);
        in_large = same_large segments end sectors s few h e fit (λ k p g. cc);
      }

  large_bytes_written : (k part : ℕ) (bytes : ℕ → ℕ) → (k < segments) × (part < 2048) → Says segments end (edited_sectors sectors (SetLargeBytes k part bytes)) (edited s (SetLargeBytes k part bytes))
  large_bytes_written k part bytes fit =
      let e : Edit = SetLargeBytes k part bytes in
      record {
        in_segments = same_segments segments end sectors s few h e fit (λ k g. cc);
        in_inodes = same_inodes segments end sectors s few h e fit (λ k g. cc);
        in_places = same_places segments end sectors s few h e fit (λ k p u g. cc);
        in_bytes = same_bytes segments end sectors s few h e fit (λ k p u g. cc);
        in_large = λ l j m n u. bytes_set (λ k p. sector_of (region.Large k p)) sectors (edited_sectors sectors e) k part bytes s.large_byte l j (edited_here sectors e)
            (λ d. apart segments end sectors s few h e fit (region.Large l (j / 512)) (in_large segments l (j / 512) m (omega arith)) (λ g. d (cc) (cc))) (h.in_large l j m n u);
      }

pub each : EachEditIsWritten
each segments end s sectors (SetInode i x dated) few h fit meets = inode_written segments end s sectors few h i x dated fit
each segments end s sectors (SetBit i b) few h fit meets = bit_written segments end s sectors few h i b fit
each segments end s sectors (SetUse k u) few h fit meets = use_written segments end s sectors few h k u fit
each segments end s sectors (SetPlace k p e) few h fit meets = place_written segments end s sectors few h k p e fit meets
each segments end s sectors (SetLarge g b) few h fit meets = large_written segments end s sectors few h g b fit
each segments end s sectors (SetBytes k part bytes) few h fit meets = bytes_written segments end s sectors few h k part bytes fit meets
each segments end s sectors (SetLargeBytes g part bytes) few h fit meets = large_bytes_written segments end s sectors few h g part bytes fit

pub all : EditsAreWritten
all segments end s sectors [] few h fit = h
all segments end s sectors (e ∷ es) few h fit = all segments end (edited s e) (edited_sectors sectors e) es few (each segments end s sectors e few h fit.0.0 fit.0.1) fit.1
