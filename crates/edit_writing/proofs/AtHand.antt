-- The sectors of held segments by their numbers.
use Rattle.std.proofs.Common.{◌≡◌, ◌<◌, ◌≤◌, ◌+◌, ◌-◌, ℕ, Bool, true, false, if◌then◌else◌, Option, Some, None, [], ◌∷◌, refl, ap, ◌∙◌, arith}
use Rattle.std.proofs.lemmas.Bool.Decides.{nat_tests}
use Rattle.std.specs.BTreeMap.{is_at}
use Rattle.std.specs.Option.{option_map}
use Rattle.std.specs.Ordering.{nat_cmp}
use Rattle.frang_base.specs.declared.bitmap.Bitmap.{Bitmap}
use Rattle.disk_definitions.specs.Bitmaps.{bitmap_bytes}
use Rattle.disk_definitions.specs.Regions.{bitmaps_from}
use Rattle.sector_bytes.specs.SectorMaps.{value_at}
use Rattle.disk_definitions.specs.Held.{Segments, AreSegments, bitmap_of}
use Rattle.disk_definitions.specs.Written.{segment_sectors}

-- whether a key is the one that is looked for, moved by as much
is_moved : (from a b : ℕ) → from ≤ a → is_at (nat_cmp a) (from + b) ≡ is_at (nat_cmp (a - from)) b
is_moved from a b l = grind (arith, nat_tests)

is_before : (from a b : ℕ) → a < from → is_at (nat_cmp a) (from + b) ≡ false
is_before from a b l = grind (arith, nat_tests)

pub before_segments : (held : Segments) (s : ℕ) → s < bitmaps_from → value_at (segment_sectors held) s ≡ None
before_segments [] s l = refl
before_segments (h ∷ held) s l =
    ap (λ (t : Bool). if t then Some (bitmap_bytes h.1) else value_at (segment_sectors held) s) (is_before bitmaps_from s h.0 l) ∙ before_segments held s l

pub segment_sector : (held : Segments) (s : ℕ) → bitmaps_from ≤ s → value_at (segment_sectors held) s ≡ option_map bitmap_bytes (bitmap_of held (s - bitmaps_from))
segment_sector [] s l = refl
segment_sector (h ∷ held) s l =
    ap (λ (t : Bool). if t then Some (bitmap_bytes h.1) else value_at (segment_sectors held) s) (is_moved bitmaps_from s h.0 l)
    ∙ go (is_at (nat_cmp (s - bitmaps_from)) h.0) (segment_sector held s l)
  where
    go : (t : Bool) → value_at (segment_sectors held) s ≡ option_map bitmap_bytes (bitmap_of held (s - bitmaps_from)) → (if t then Some (bitmap_bytes h.1) else value_at (segment_sectors held) s) ≡ option_map bitmap_bytes (if t then Some h.1 else bitmap_of held (s - bitmaps_from))
    go true rest = refl
    go false rest = rest

not_held : (o : Option Bitmap) (k : ℕ) → ((x : Bitmap) → o ≡ Some x → k < 64) → 64 ≤ k → o ≡ None
not_held None k all l = refl
not_held (Some x) k all l = let h : k < 64 = all x refl in absurd (omega arith)

pub past_segments : (held : Segments) (s : ℕ) → AreSegments held → bitmaps_from ≤ s → 64 ≤ s - bitmaps_from → value_at (segment_sectors held) s ≡ None
past_segments held s all l m = segment_sector held s l ∙ ap (option_map bitmap_bytes) (not_held (bitmap_of held (s - bitmaps_from)) (s - bitmaps_from) (all (s - bitmaps_from)) m)
