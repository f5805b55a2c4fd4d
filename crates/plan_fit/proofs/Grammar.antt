-- Sectors in their grammar fill their fields, so that they can be written again, and stay in it under another version.
use Rattle.std.proofs.Common.{◌≡◌, ℕ, zero, suc, ◌/◌, ◌%◌, ◌^◌, ◌<◌, Bool, true, ◌&&◌, Option, Some, None, List, [], ◌∷◌, ◌++◌, length, drop, refl, sym, ap, ◌∙◌, arith, length-append, min}
use Rattle.std.specs.List.{flat_map}
use Rattle.std.proofs.lemmas.List.{drop_at, length-take}
use Rattle.byteorder.specs.Endian.{little_number, little_bytes}
use Rattle.byteorder.specs.Numbers.{little_from-bytes}
use Rattle.frang_base.specs.declared.bitmap.Bitmap.{Bitmap}
use Rattle.frang_base.proofs.Basics.{by_test}
use Rattle.disk_definitions.specs.declared.inode.Inode.{Inode}
use Rattle.disk_definitions.specs.declared.directory.DirEntry.{DirEntry}
use Rattle.disk_definitions.specs.declared.directory.DirSector.{DirSector}
use Rattle.sector_bytes.specs.Bytes.{number_at, zeros}
use Rattle.std.specs.Str.{bytes_eq}
use Rattle.disk_definitions.specs.Bitmaps.{large_byte, bitmap_bytes, bitmap_fields, bitmap_in}
use Rattle.disk_definitions.specs.Directories.{entry_bytes, entry_fields, entries_in, directory_bytes, directory_fits, directory_fields, directory_in}
use Rattle.disk_definitions.specs.Inodes.{inode_bytes, inode_fits, inode_fields, inode_in}
use Rattle.disk_definitions.proofs.Readings.{read_as, read_back}
use Rattle.disk_definitions.proofs.WrittenFields.{length_zeros}
use Rattle.disk_definitions.proofs.BitmapLaws.{bitmap_read, bitmap_back}
use Rattle.disk_definitions.proofs.DirectoryLaws.{IsStorableEntry, AreStorable, IsStorableSector, directory_read, directory_back}
use Rattle.disk_definitions.proofs.InodeLaws.{inode_read, same_fields}

-- a number that was written reads back but for what doesn't fit
pub number_back : (n x : ℕ) (rest : List ℕ) → little_number n (little_bytes n x ++ rest) ≡ x % 256 ^ n
number_back n x rest = let one : x / 256 ^ 0 ≡ x = omega arith in little_from-bytes n 0 x rest ∙ ap (λ (y : ℕ). y % 256 ^ n) one

-- so a number that reads back fits
pub fits_back : (n x : ℕ) (rest : List ℕ) → 0 < 256 ^ n → little_number n (little_bytes n x ++ rest) ≡ x → x < 256 ^ n
fits_back n x rest some e = let f : x % 256 ^ n ≡ x = sym (number_back n x rest) ∙ e in below x (256 ^ n) some f
  where
    below : (x m : ℕ) → 0 < m → x % m ≡ x → x < m
    below x m some f = omega arith

pub fits_eight : (x : ℕ) (rest : List ℕ) → little_number 8 (little_bytes 8 x ++ rest) ≡ x → x < 2 ^ 64
fits_eight x rest e = let h = fits_back 8 x rest (omega arith) e in omega arith

-- what is read are the fields
pub fields_read : {X : Type 0} (bytes : X → List ℕ) (fits : X → Bool) (block : List ℕ) (y x : X) → read_as bytes fits block y ≡ Some x → y ≡ x
fields_read {X} bytes fits block y x = by_test (λ (o : Option X). o ≡ Some x → y ≡ x) (Some y) None (fits y && bytes_eq (bytes y) block) (λ t e. cc) (λ t e. cc)

-- ---- segments

pub record IsStorableBitmap (x : Bitmap) : Type 0 where
  pub version : x.version < 2 ^ 64
  pub inodes : x.inodes < 2 ^ 64
  pub states : length x.states ≡ 256

pub bitmap_is : (block : List ℕ) (x : Bitmap) → bitmap_in block ≡ Some x → bitmap_fields (bitmap_bytes x) ≡ x
bitmap_is block x h = ap bitmap_fields (sym (bitmap_read block x h)) ∙ fields_read bitmap_bytes (λ y. true) block (bitmap_fields block) x h

pub bitmap_storable : (block : List ℕ) (x : Bitmap) → bitmap_in block ≡ Some x → IsStorableBitmap x
bitmap_storable block x h =
    let is = bitmap_is block x h in
    let tail : List ℕ = large_byte x.large ∷ zeros 239 in
    let long : length tail ≡ 240 = ap suc (length_zeros 239) in
    let most : min 256 (length (x.states ++ tail)) ≡ length x.states = sym (length-take 256 (x.states ++ tail)) ∙ ap (λ (y : Bitmap). length y.states) is in
    record {
      version = fits_eight x.version (little_bytes 8 x.inodes ++ (x.states ++ tail)) (ap (λ (y : Bitmap). y.version) is);
      inodes = fits_eight x.inodes (x.states ++ tail) (ap (λ (y : Bitmap). y.inodes) is);
      states = omega (arith, length-append x.states tail);
    }

-- ---- directories

length_entries : (n : ℕ) (bytes : List ℕ) → length (entries_in n bytes) ≡ n
length_entries zero bytes = refl
length_entries (suc n) bytes = ap suc (length_entries n (drop 72 bytes))

length_entry : (e : DirEntry) → length e.name ≡ 64 → length (entry_bytes e) ≡ 72
length_entry e h = omega (arith, length-append e.name (0 ∷ 0 ∷ []))

entry_storable : (e : DirEntry) (rest : List ℕ) → entry_fields (entry_bytes e ++ rest) ≡ e → IsStorableEntry e
entry_storable e rest is =
    let name : min 64 (length ((e.name ++ 0 ∷ 0 ∷ []) ++ rest)) ≡ length e.name = sym (length-take 64 ((e.name ++ 0 ∷ 0 ∷ []) ++ rest)) ∙ ap (λ (y : DirEntry). length y.name) is in
    record {
      inode = fits_back 4 e.inode (e.len ∷ e.kind ∷ ((e.name ++ 0 ∷ 0 ∷ []) ++ rest)) (omega arith) (ap (λ (y : DirEntry). y.inode) is);
      name = omega (arith, length-append (e.name ++ 0 ∷ 0 ∷ []) rest, length-append e.name (0 ∷ 0 ∷ []));
    }

pub entries_storable : (es : List DirEntry) → entries_in (length es) (flat_map entry_bytes es) ≡ es → AreStorable es
entries_storable [] h = tt
entries_storable (e ∷ es) h =
    let rest : List ℕ = flat_map entry_bytes es in
    let first : entry_fields (entry_bytes e ++ rest) ≡ e = cc in
    let others : entries_in (length es) (drop 72 (entry_bytes e ++ rest)) ≡ es = cc in
    let one = entry_storable e rest first in
    (one, entries_storable es (sym (ap (entries_in (length es)) (drop_at (entry_bytes e) rest 72 (length_entry e one.name))) ∙ others))

pub directory_is : (block : List ℕ) (x : DirSector) → directory_in block ≡ Some x → directory_fields (directory_bytes x) ≡ x
directory_is block x h = ap directory_fields (sym (directory_read block x h).0) ∙ fields_read directory_bytes directory_fits block (directory_fields block) x h

pub directory_storable : (block : List ℕ) (x : DirSector) → directory_in block ≡ Some x → IsStorableSector x
directory_storable block x h =
    let is = directory_is block x h in
    let entries : entries_in 7 (flat_map entry_bytes x.entries) ≡ x.entries = ap (λ (y : DirSector). y.entries) is in
    let seven : length x.entries ≡ 7 = sym (ap length entries) ∙ length_entries 7 (flat_map entry_bytes x.entries) in
    record {
      version = let v = fits_eight x.version (flat_map entry_bytes x.entries) (ap (λ (y : DirSector). y.version) is) in omega arith;
      seven = seven;
      entries = entries_storable x.entries (ap (λ (n : ℕ). entries_in n (flat_map entry_bytes x.entries)) seven ∙ entries);
    }

-- ---- inodes

pub inode_is : (block : List ℕ) (x : Inode) → inode_in block ≡ Some x → inode_fields (inode_bytes x) ≡ x
inode_is block x h = ap inode_fields (sym (inode_read block x h).0) ∙ fields_read inode_bytes inode_fits block (inode_fields block) x h

pub inode_version : (block : List ℕ) (x : Inode) → inode_in block ≡ Some x → x.version < 2 ^ 64
inode_version block x h = fits_eight x.version [] (ap (λ (y : Inode). y.version) (inode_is block x h))

-- ---- another version

pub version_back : (v : ℕ) (rest : List ℕ) → v < 2 ^ 64 → number_at 8 0 (little_bytes 8 v ++ rest) ≡ v
version_back v rest h = number_back 8 v rest ∙ small v h
  where
    small : (v : ℕ) → v < 2 ^ 64 → v % 256 ^ 8 ≡ v
    small v h = omega arith

-- the block with another version
abbrev pub versioned : ℕ → List ℕ → List ℕ
versioned v block = little_bytes 8 v ++ drop 8 block

pub inode_versioned : (block : List ℕ) (x : Inode) (v : ℕ) → inode_in block ≡ Some x → v < 2 ^ 64 → inode_in (versioned v block) ≡ Some (record x { version = v })
inode_versioned block x v h fits =
    let read = inode_read block x h in
    let is = inode_is block x h in
    let y : Inode = record x { version = v } in
    let same : inode_fields (inode_bytes y) ≡ y = same_fields (inode_fields (inode_bytes y)) y
    (version_back v [] fits)
    (ap (λ (z : Inode). z.kind) is) (ap (λ (z : Inode). z.links) is) (ap (λ (z : Inode). z.blocks) is) (ap (λ (z : Inode). z.size) is)
    (ap (λ (z : Inode). z.birth) is) (ap (λ (z : Inode). z.small) is) (ap (λ (z : Inode). z.large) is) (ap (λ (z : Inode). z.when) is)
    (ap (λ (z : Inode). z.target) is) in
    ap (λ (b : List ℕ). inode_in (versioned v b)) read.0 ∙ read_back inode_bytes inode_fits (inode_fields (inode_bytes y)) y same read.1

pub bitmap_versioned : (block : List ℕ) (x : Bitmap) (v : ℕ) → bitmap_in block ≡ Some x → v < 2 ^ 64 → bitmap_in (versioned v block) ≡ Some (record x { version = v })
bitmap_versioned block x v h fits =
    let s = bitmap_storable block x h in
    ap (λ (b : List ℕ). bitmap_in (versioned v b)) (bitmap_read block x h) ∙ bitmap_back (record x { version = v }) fits s.inodes s.states

pub directory_versioned : (block : List ℕ) (x : DirSector) (v : ℕ) → directory_in block ≡ Some x → v < 2 ^ 64 → directory_in (versioned v block) ≡ Some (record x { version = v })
directory_versioned block x v h fits =
    let s = directory_storable block x h in
    let read = directory_read block x h in
    ap (λ (b : List ℕ). directory_in (versioned v b)) read.0 ∙ directory_back (record x { version = v }) (record { version = omega arith; seven = s.seven; entries = s.entries }) read.1
