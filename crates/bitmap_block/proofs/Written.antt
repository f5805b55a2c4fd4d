-- What the encoder writes, field after field, is the bytes of the segment.
use Rattle.std.proofs.Common.{◌≡◌, ℕ, Bool, true, false, List, ◌++◌, length, drop, refl, ap, slice_set, replicate}
use Rattle.std.proofs.lemmas.List.{set_at}
use borrow.Rule.Slice.PartMut.{put_mid, mid_of}
use mir.Val.{bool_byte}
use Rattle.byteorder.specs.Endian.{little_bytes}
use Rattle.frang_base.specs.declared.bitmap.Bitmap.{Bitmap}
use Rattle.sector_bytes.specs.Bytes.{zeros}
use Rattle.disk_definitions.specs.Bitmaps.{bitmap_bytes, large_byte}

-- a mark is written as 1 or 0
mark_written : (large : Bool) → bool_byte large ≡ large_byte large
mark_written true = refl
mark_written false = refl

-- what stands after each of the four writes
pub fields_written : (x : Bitmap) (a b s : List ℕ) (l : ℕ)
    → a ≡ little_bytes 8 x.version
    → b ≡ little_bytes 8 x.inodes ++ drop 8 (mid_of 8 8 (a ++ drop 8 (replicate 512 0)))
    → s ≡ x.states → length x.states ≡ 256
    → l ≡ bool_byte x.large
    → slice_set (put_mid 16 256 (put_mid 8 8 (a ++ drop 8 (replicate 512 0)) b) s) 272 l ≡ bitmap_bytes x
unfolding zeros
fields_written x a b s l version inodes states n large =
    let e : b ≡ little_bytes 8 x.inodes = rw version at inodes in
    rw (version, e, states, large, mark_written) (ap (λ (t : List ℕ). little_bytes 8 x.version ++ (little_bytes 8 x.inodes ++ t)) (set_at x.states 0 (replicate 239 0) (large_byte x.large) 256 n))
