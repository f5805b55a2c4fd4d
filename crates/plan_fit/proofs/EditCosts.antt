-- How many bytes of its sector an edit changes that writes a part of it: a segment's bit or use, or a place of a directory.
use Rattle.std.proofs.Common.{◌≡◌, ℕ, zero, suc, ◌/◌, ◌%◌, ◌<◌, ◌≤◌, Bool, true, false, Some, Option, List, [], ◌∷◌, ◌++◌, length, set, slice_index, refl, sym, ap, ◌∙◌, subst, arith}
use Rattle.std.specs.List.{flat_map}
use Rattle.std.proofs.Math.ListN.{length-set}
use Rattle.byteorder.specs.Endian.{little_bytes}
use Rattle.frang_base.specs.declared.bitmap.Bitmap.{Bitmap}
use Rattle.frang_base.proofs.Tests.{some_there}
use Rattle.disk_definitions.specs.declared.directory.DirEntry.{DirEntry}
use Rattle.disk_definitions.specs.declared.directory.DirSector.{DirSector}
use Rattle.disk_definitions.specs.declared.region.Region.TheVariants as region
use Rattle.disk_definitions.specs.Regions.{sector_of}
use Rattle.sector_bytes.specs.Bytes.{zeros}
use Rattle.disk_definitions.specs.Bitmaps.{large_byte, bitmap_bytes, bitmap_fields, bitmap_in, with_digit}
use Rattle.disk_definitions.specs.Directories.{entry_bytes, directory_bytes, directory_fields, directory_in}
use Rattle.disk_definitions.proofs.BitmapLaws.{bitmap_read}
use Rattle.disk_definitions.proofs.DirectoryLaws.{AreStorable, directory_read, length_of_entry}
use Rattle.disk_definitions.specs.Taken.{with_inode, with_state, with_large}
use Rattle.sector_bytes.specs.Sectors.{Sectors}
use Rattle.disk_definitions.specs.Store.{Store, StoredEntry, segment_at, directory_at}
use Rattle.disk_definitions.specs.Standing.{version_at}
use Rattle.disk_definitions.specs.Edits.{Edit}
use Rattle.disk_definitions.specs.Edits.Edit.{SetInode, SetBit, SetUse, SetPlace, SetLarge, SetBytes, SetLargeBytes}
use Rattle.disk_definitions.specs.Written.{state_of, place_with, with_place, edit_sector, edited_block}
use Rattle.disk_definitions.specs.FitEdits.{IsFitEdit, MeetsUse}
use Rattle.plan_fit.specs.Says.{Says}
use Rattle.plan_fit.proofs.Grammar.{bitmap_is, directory_is, directory_storable}
use Rattle.plan_fit.proofs.PlaceEdits.{MayEnter, placed_back}
use Rattle.plan_fit.proofs.EditLaws.{fit_place}
use Rattle.plan_fit.proofs.Differing.{differing, same_bytes, at_most, pieces, behind, one_set}
use Rattle.plan_fit.proofs.PatchCosts.{length_little}

-- it writes a part of its sector
abbrev pub is_partial : Edit → Bool
is_partial (SetInode i x dated) = false
is_partial (SetBit i b) = true
is_partial (SetUse k u) = true
is_partial (SetPlace k p e) = true
is_partial (SetLarge g b) = true
is_partial (SetBytes k part bytes) = false
is_partial (SetLargeBytes g part bytes) = false

-- so many bytes at most
abbrev pub most_in : Edit → ℕ
most_in (SetInode i x dated) = 0
most_in (SetBit i b) = 8
most_in (SetUse k u) = 1
most_in (SetPlace k p e) = 72
most_in (SetLarge g b) = 1
most_in (SetBytes k part bytes) = 0
most_in (SetLargeBytes g part bytes) = 0

-- ---- segments

bit_differs : (x : Bitmap) (j : ℕ) (used : Bool) → differing (bitmap_bytes x) (bitmap_bytes (with_inode x j used)) ≤ 8
bit_differs x j used =
    let old : List ℕ = little_bytes 8 x.inodes in
    let new : List ℕ = little_bytes 8 (with_inode x j used).inodes in
    let tail : List ℕ = x.states ++ large_byte x.large ∷ zeros 239 in
    let a = behind (little_bytes 8 x.version) (old ++ tail) (new ++ tail) in
    let b = pieces old tail new tail (length_little 8 x.inodes ∙ sym (length_little 8 (with_inode x j used).inodes)) in
    let c = at_most 8 old new (omega (arith, length_little 8 x.inodes)) (omega (arith, length_little 8 (with_inode x j used).inodes)) in
    let d = same_bytes tail in
    omega arith

states_differ : (version inodes states new tail : List ℕ) → length states ≡ length new → differing states new ≤ 1 → differing (version ++ (inodes ++ (states ++ tail))) (version ++ (inodes ++ (new ++ tail))) ≤ 1
states_differ version inodes states new tail long l =
    let a = behind version (inodes ++ (states ++ tail)) (inodes ++ (new ++ tail)) in
    let b = behind inodes (states ++ tail) (new ++ tail) in
    let c = pieces states tail new tail long in
    let e = same_bytes tail in
    omega arith

use_differs : (x : Bitmap) (j state : ℕ) → differing (bitmap_bytes x) (bitmap_bytes (with_state x j state)) ≤ 1
use_differs x j state =
    let v : ℕ = with_digit (j % 4) (slice_index x.states (j / 4)) state in
    states_differ (little_bytes 8 x.version) (little_bytes 8 x.inodes) x.states (set x.states (j / 4) v) (large_byte x.large ∷ zeros 239) (sym (simp length-set refl)) (one_set x.states (j / 4) v)

large_differs : (x : Bitmap) (used : Bool) → differing (bitmap_bytes x) (bitmap_bytes (with_large x used)) ≤ 1
large_differs x used =
    let old : List ℕ = large_byte x.large ∷ zeros 239 in
    let new : List ℕ = large_byte used ∷ zeros 239 in
    let a = behind (little_bytes 8 x.version) (little_bytes 8 x.inodes ++ (x.states ++ old)) (little_bytes 8 x.inodes ++ (x.states ++ new)) in
    let b = behind (little_bytes 8 x.inodes) (x.states ++ old) (x.states ++ new) in
    let c = behind x.states old new in
    let d : differing old new ≤ 1 = one_set old 0 (large_byte used) in
    omega arith

-- a block that is a segment's, and what it becomes
segment_differs : (block : List ℕ) (x : Bitmap) (f : Bitmap → Bitmap) (n : ℕ) → bitmap_in block ≡ Some x → differing (bitmap_bytes x) (bitmap_bytes (f x)) ≤ n → differing block (bitmap_bytes (f (bitmap_fields block))) ≤ n
segment_differs block x f n h l =
    let read : block ≡ bitmap_bytes x = bitmap_read block x h in
    let is : bitmap_fields block ≡ x = ap bitmap_fields read ∙ bitmap_is block x h in
    subst (λ (z : Bitmap). differing block (bitmap_bytes (f z)) ≤ n) (sym is) (subst (λ (z : List ℕ). differing z (bitmap_bytes (f x)) ≤ n) (sym read) l)

-- ---- directories

entries_differ : (es : List DirEntry) (p : ℕ) (d : DirEntry) → AreStorable es → AreStorable (set es p d) → differing (flat_map entry_bytes es) (flat_map entry_bytes (set es p d)) ≤ 72
entries_differ [] p d h g = omega arith
entries_differ (e ∷ es) zero d h g =
    let rest : List ℕ = flat_map entry_bytes es in
    let old = length_of_entry e h.0 in
    let new = length_of_entry d g.0 in
    let a = pieces (entry_bytes e) rest (entry_bytes d) rest (old ∙ sym new) in
    let b = at_most 72 (entry_bytes e) (entry_bytes d) (omega arith) (omega arith) in
    let c = same_bytes rest in
    omega arith
entries_differ (e ∷ es) (suc p) d h g =
    let a = behind (entry_bytes e) (flat_map entry_bytes es) (flat_map entry_bytes (set es p d)) in
    let b = entries_differ es p d h.1 g.1 in
    omega arith

place_differs : (block : List ℕ) (x : DirSector) (p : ℕ) (o : Option StoredEntry) → directory_in block ≡ Some x → MayEnter o → differing block (directory_bytes (with_place (directory_fields block) p o)) ≤ 72
place_differs block x p o h may =
    let read : block ≡ directory_bytes x = (directory_read block x h).0 in
    let is : directory_fields block ≡ x = ap directory_fields read ∙ directory_is block x h in
    let new : List ℕ = directory_bytes (with_place (directory_fields block) p o) in
    let a = entries_differ x.entries p (place_with o) (directory_storable block x h).entries (directory_storable new (with_place x p o) (placed_back block x p o h may)).entries in
    let b = behind (little_bytes 8 x.version) (flat_map entry_bytes x.entries) (flat_map entry_bytes (set x.entries p (place_with o))) in
    let l : differing (directory_bytes x) (directory_bytes (with_place x p o)) ≤ 72 = omega arith in
    subst (λ (z : DirSector). differing block (directory_bytes (with_place z p o)) ≤ 72) (sym is) (subst (λ (z : List ℕ). differing z (directory_bytes (with_place x p o)) ≤ 72) (sym read) l)

-- ---- each edit

module _ (segments : ℕ) (end s : Store) (sectors : Sectors) (h : Says segments end sectors s) where
  in_segment : (k : ℕ) (f : Bitmap → Bitmap) (n : ℕ) → k < segments → ((x : Bitmap) → differing (bitmap_bytes x) (bitmap_bytes (f x)) ≤ n)
      → differing (sectors (sector_of (region.Segment k))) (bitmap_bytes (f (bitmap_fields (sectors (sector_of (region.Segment k)))))) ≤ n
  in_segment k f n l each = let x = some_there (segment_at sectors k) (h.in_segments.grammar k l) in segment_differs (sectors (sector_of (region.Segment k))) x.0 f n x.1 (each x.0)

  pub part_differs : (e : Edit) → IsFitEdit segments e → MeetsUse end e → is_partial e ≡ true → differing (sectors (edit_sector e)) (edited_block (sectors (edit_sector e)) (version_at sectors (edit_sector e)) e) ≤ most_in e
  part_differs (SetInode i x dated) fit meets t = absurd cc
  part_differs (SetBit i b) fit meets t = in_segment (i / 64) (λ x. with_inode x (i % 64) b) 8 (omega arith) (λ x. bit_differs x (i % 64) b)
  part_differs (SetUse k u) fit meets t = in_segment (k / 1024) (λ x. with_state x (k % 1024) (state_of u)) 1 (omega arith) (λ x. use_differs x (k % 1024) (state_of u))
  part_differs (SetPlace k p o) fit meets t =
      let f = fit_place segments k p o fit in
      let lp : p < 56 = f.1 in
      let x = some_there (directory_at sectors k (p / 7)) (h.in_places.grammar k (p / 7) f.0 (omega arith) meets) in
      place_differs (sectors (sector_of (region.Small k (p / 7)))) x.0 (p % 7) o x.1 f.2
  part_differs (SetLarge g b) fit meets t = in_segment g (λ x. with_large x b) 1 fit (λ x. large_differs x b)
  part_differs (SetBytes k part bytes) fit meets t = absurd cc
  part_differs (SetLargeBytes g part bytes) fit meets t = absurd cc
