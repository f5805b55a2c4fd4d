-- Held bitmaps with one more, and with those of some segments.
use Rattle.std.specs.Prelude.{ℕ, Option, Some, None, List, fold}
use Rattle.std.specs.BTreeMap.{insert_entry}
use Rattle.std.specs.Ordering.{nat_cmp}
use Rattle.frang_base.specs.declared.bitmap.Bitmap.{Bitmap}
use Rattle.disk_definitions.specs.Held.{Segments}
use Rattle.disk_definitions.specs.Written.{Cached}
use Rattle.core_definitions.specs.Plans.{bitmap_at}

abbrev pub with_bitmap : Segments → Option (ℕ × Bitmap) → Segments
with_bitmap held None = held
with_bitmap held (Some one) = insert_entry nat_cmp held one.0 one.1

-- those of these segments, one after another
abbrev pub with_bitmaps : Cached → Segments → List ℕ → Segments
with_bitmaps cached held segments = fold (λ held segment. with_bitmap held (bitmap_at cached segment)) held segments
