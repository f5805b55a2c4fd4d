-- Bitmap segments: what was written reads back, and a block is the sector of at most one segment.
use Rattle.std.proofs.Common.{◌≡◌, ℕ, ◌^◌, ◌<◌, Bool, true, false, ◌==◌, Some, List, ◌∷◌, ◌++◌, length, refl, sym, ap, ◌∙◌}
use Rattle.std.proofs.lemmas.List.{take_at, get_or_at}
use Rattle.byteorder.specs.Endian.{little_bytes}
use Rattle.byteorder.specs.Numbers.{little_number-reads_back}
use Rattle.frang_base.specs.declared.bitmap.Bitmap.{Bitmap}
use Rattle.sector_bytes.specs.Bytes.{zeros}
use Rattle.disk_definitions.specs.Bitmaps.{large_byte, bitmap_bytes, bitmap_fields, bitmap_in, IsBitmapSector}
use Rattle.disk_definitions.proofs.Readings.{read_back, read_is}

-- the mark of the large block
mark_back : (large : Bool) → (large_byte large == 1) ≡ large
mark_back true = refl
mark_back false = refl

-- segments with the same fields are one
same_segment : {v i : ℕ} {s : List ℕ} {l : Bool} (x : Bitmap) → v ≡ x.version → i ≡ x.inodes → s ≡ x.states → l ≡ x.large
    → record { version = v; inodes = i; states = s; large = l } ≡ x
same_segment x version inodes states large = rw (version, inodes, states, large) refl

-- the fields of its bytes
pub fields_of_bitmap_bytes : (x : Bitmap) → x.version < 2 ^ 64 → x.inodes < 2 ^ 64 → length x.states ≡ 256 → bitmap_fields (bitmap_bytes x) ≡ x
fields_of_bitmap_bytes x version inodes states =
    let tail = large_byte x.large ∷ zeros 239 in
    same_segment x
    (little_number-reads_back 8 x.version (little_bytes 8 x.inodes ++ (x.states ++ tail)) version)
    (little_number-reads_back 8 x.inodes (x.states ++ tail) inodes)
    (take_at x.states tail 256 states)
    (ap (λ (n : ℕ). n == 1) (get_or_at x.states (large_byte x.large) (zeros 239) 0 256 states) ∙ mark_back x.large)

-- what was written reads back
pub bitmap_back : (x : Bitmap) → x.version < 2 ^ 64 → x.inodes < 2 ^ 64 → length x.states ≡ 256 → bitmap_in (bitmap_bytes x) ≡ Some x
bitmap_back x version inodes states =
    read_back bitmap_bytes (λ y. true) (bitmap_fields (bitmap_bytes x)) x (fields_of_bitmap_bytes x version inodes states) refl

-- what a block is read as, it is the sector of
pub bitmap_read : (block : List ℕ) (x : Bitmap) → bitmap_in block ≡ Some x → IsBitmapSector block x
bitmap_read block x h = (read_is bitmap_bytes (λ y. true) block (bitmap_fields block) x h).0

-- what a block is the sector of, it is read as
pub bitmap_found : (block : List ℕ) (x : Bitmap) → x.version < 2 ^ 64 → x.inodes < 2 ^ 64 → length x.states ≡ 256
    → IsBitmapSector block x → bitmap_in block ≡ Some x
bitmap_found block x version inodes states h = ap bitmap_in h ∙ bitmap_back x version inodes states

-- a block is the sector of at most one segment
pub bitmap_once : (block : List ℕ) (x y : Bitmap)
    → x.version < 2 ^ 64 → x.inodes < 2 ^ 64 → length x.states ≡ 256
    → y.version < 2 ^ 64 → y.inodes < 2 ^ 64 → length y.states ≡ 256
    → IsBitmapSector block x → IsBitmapSector block y → x ≡ y
bitmap_once block x y v i s w j t h g =
    let e : Some x ≡ Some y = sym (bitmap_found block x v i s h) ∙ bitmap_found block y w j t g in cc
