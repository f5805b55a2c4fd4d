-- The bitmaps of a set's segments are of segments that a disk may have, where the set's are.
use Rattle.std.proofs.Common.{◌≡◌, ◌<◌, ℕ, Bool, true, false, ◌&&◌, if◌then◌else◌, Option, Some, None, List, [], ◌∷◌, refl, sym, ap, ◌∙◌, subst, ltb-true}
use Rattle.std.specs.BTreeMap.{is_at}
use Rattle.std.specs.List.{AllByRecursion, cons_option, filter_map, list_all}
use Rattle.std.specs.Map.{keys_of}
use Rattle.std.specs.Option.{option_and_then, option_map}
use Rattle.std.specs.Ordering.{nat_cmp}
use Rattle.sector_bytes.specs.SectorMaps.{value_at}
use Rattle.frang_base.specs.declared.bitmap.Bitmap.{Bitmap}
use Rattle.frang_base.specs.declared.limits.TheConstants.{SEGMENTS_MAX}
use Rattle.frang_base.specs.declared.lock.LockId.{LockId}
use Rattle.frang_base.specs.declared.lock.LockId.TheVariants.{Log, Segment, Node}
use Rattle.frang_base.proofs.Tests.{at_only}
use Rattle.disk_definitions.specs.Bitmaps.{bitmap_in}
use Rattle.disk_definitions.specs.Held.{AreSegments, Segments, bitmap_of}
use Rattle.disk_definitions.specs.Written.{Cached}
use Rattle.set_definitions.specs.Sets.{LockSet, segment_of, segments_in}
use Rattle.core_definitions.specs.Lines.{bitmap_sector}
use Rattle.core_definitions.specs.Plans.{bitmap_at}
use Rattle.plan_keeping.specs.Segments.{is_of_disk}

abbrev AreLow : Segments → Type 0
AreLow held = AllByRecursion (λ k. k < SEGMENTS_MAX) (keys_of held)

found_low : (held : Segments) → AreLow held → AreSegments held
found_low [] low k bitmap e = absurd (cc)
found_low (one ∷ held) low k bitmap e = go (is_at (nat_cmp k) one.0) refl e (found_low held low.1 k bitmap)
  where
    go : (t : Bool) → is_at (nat_cmp k) one.0 ≡ t → (if t then Some one.1 else bitmap_of held k) ≡ Some bitmap → (bitmap_of held k ≡ Some bitmap → k < SEGMENTS_MAX) → k < SEGMENTS_MAX
    go true is e rest = subst (λ n. n < SEGMENTS_MAX) (sym (at_only k one.0 is)) low.0
    go false is e rest = rest e

module _ (cached : Cached) where
  bitmap_low : (k : ℕ) (o : Option Bitmap) (segments : List ℕ) → k < SEGMENTS_MAX → AreLow (filter_map (bitmap_at cached) segments)
      → AreLow (cons_option (option_map (λ bitmap. (k, bitmap)) o) (filter_map (bitmap_at cached) segments))
  bitmap_low k None segments small low = low
  bitmap_low k (Some bitmap) segments small low = (small, low)

  bitmaps_low : (segments : List ℕ) → AllByRecursion (λ k. k < SEGMENTS_MAX) segments → AreLow (filter_map (bitmap_at cached) segments)
  bitmaps_low [] low = tt
  bitmaps_low (k ∷ segments) low = bitmap_low k (option_and_then bitmap_in (value_at cached (bitmap_sector k))) segments low.0 (bitmaps_low segments low.1)

both : (a b : Bool) → (a && b) ≡ true → (a ≡ true) × (b ≡ true)
both true b e = (refl, e)
both false b e = absurd (cc)

segments_low : (locks : List LockId) → list_all is_of_disk locks ≡ true → AllByRecursion (λ k. k < SEGMENTS_MAX) (filter_map segment_of locks)
segments_low [] e = tt
segments_low (Log n ∷ locks) e = segments_low locks e
segments_low (Node n ∷ locks) e = segments_low locks e
segments_low (Segment n ∷ locks) e =
    let p = both (is_of_disk (Segment n)) (list_all is_of_disk locks) e in
    (ltb-true n SEGMENTS_MAX p.0, segments_low locks p.1)

keys_of_disk : (set : LockSet) → list_all (λ need. is_of_disk need.0) set ≡ list_all is_of_disk (keys_of set)
keys_of_disk [] = refl
keys_of_disk (need ∷ set) = ap (λ rest. is_of_disk need.0 && rest) (keys_of_disk set)

pub segments_fit : (cached : Cached) (set : LockSet) → list_all (λ need. is_of_disk need.0) set ≡ true → AreSegments (filter_map (bitmap_at cached) (segments_in set))
segments_fit cached set e = found_low (filter_map (bitmap_at cached) (segments_in set)) (bitmaps_low cached (segments_in set) (segments_low (keys_of set) (sym (keys_of_disk set) ∙ e)))
