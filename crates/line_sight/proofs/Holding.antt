-- The bitmaps of the segments of a set, taken one after another, are those of its segments in order.
use Rattle.std.proofs.Common.{◌≡◌, ℕ, List, [], ◌∷◌, ◌++◌, Option, Some, None, refl, sym, ap, ◌∙◌, append_assoc, append-nil}
use Rattle.std.proofs.lemmas.Cmp.{nat_cmp_total}
use Rattle.std.specs.BTreeMap.{insert_entry}
use Rattle.std.specs.List.{AllByRecursion, cons_option, filter_map}
use Rattle.std.specs.List.Sorted.{IsStrictlySortedBy}
use Rattle.std.specs.Map.{keys_of}
use Rattle.std.specs.Option.{option_and_then, option_map}
use Rattle.std.specs.Ordering.{match_ordering, nat_cmp, ordering_reverse}
use Rattle.std.specs.declared.cmp.Ordering.TheVariants.{Less, Greater}
use Rattle.frang_base.specs.declared.bitmap.Bitmap.{Bitmap}
use Rattle.frang_base.specs.declared.lock.LockId.{LockId}
use Rattle.frang_base.specs.declared.lock.LockId.TheVariants.{Log, Segment, Node}
use Rattle.lock_definitions.specs.Order.{lock_cmp}
use Rattle.disk_definitions.specs.Bitmaps.{bitmap_in}
use Rattle.disk_definitions.specs.Held.{Segments}
use Rattle.disk_definitions.specs.Written.{Cached}
use Rattle.sector_bytes.specs.SectorMaps.{value_at}
use Rattle.core_definitions.specs.Lines.{bitmap_sector}
use Rattle.core_definitions.specs.Plans.{bitmap_at}
use Rattle.set_definitions.specs.Sets.{LockSet, segment_of, segments_in}
use Rattle.line_sight.specs.Adding.{with_bitmap, with_bitmaps}

-- ---- the segments of a set ascend

above : (segment : ℕ) (locks : List LockId) → AllByRecursion (λ lock. lock_cmp (Segment segment) lock ≡ Less) locks →
    AllByRecursion (λ k. nat_cmp segment k ≡ Less) (filter_map segment_of locks)
above segment [] all = tt
above segment (Log n ∷ locks) all = above segment locks all.1
above segment (Segment n ∷ locks) all = (all.0, above segment locks all.1)
above segment (Node n ∷ locks) all = above segment locks all.1

segments_sorted : (locks : List LockId) → IsStrictlySortedBy lock_cmp locks → IsStrictlySortedBy nat_cmp (filter_map segment_of locks)
unfolding IsStrictlySortedBy
segments_sorted [] s = tt
segments_sorted (Log n ∷ locks) s = segments_sorted locks s.1
segments_sorted (Segment n ∷ locks) s = (above n locks s.0, segments_sorted locks s.1)
segments_sorted (Node n ∷ locks) s = segments_sorted locks s.1

-- ---- a segment above all that are held comes last

abbrev AllBelow : ℕ → Segments → Type 0
AllBelow segment held = AllByRecursion (λ k. nat_cmp segment k ≡ Greater) (keys_of held)

put_last : (held : Segments) (segment : ℕ) (bitmap : Bitmap) → AllBelow segment held → insert_entry nat_cmp held segment bitmap ≡ held ++ (segment, bitmap) ∷ []
put_last [] segment bitmap low = refl
put_last (one ∷ held) segment bitmap low =
    ap (λ o. match_ordering o ((segment, bitmap) ∷ one ∷ held) ((one.0, bitmap) ∷ held) (one ∷ insert_entry nat_cmp held segment bitmap)) low.0
    ∙ ap (λ rest. one ∷ rest) (put_last held segment bitmap low.1)

below_more : (held : Segments) (segment next : ℕ) (bitmap : Bitmap) → nat_cmp next segment ≡ Greater → AllBelow next held → AllBelow next (held ++ (segment, bitmap) ∷ [])
below_more [] segment next bitmap is low = (is, tt)
below_more (one ∷ held) segment next bitmap is low = (low.0, below_more held segment next bitmap is low.1)

all_below_more : (held : Segments) (segment : ℕ) (bitmap : Bitmap) (segments : List ℕ) → AllByRecursion (λ k. nat_cmp segment k ≡ Less) segments →
    AllByRecursion (λ k. AllBelow k held) segments → AllByRecursion (λ k. AllBelow k (held ++ (segment, bitmap) ∷ [])) segments
all_below_more held segment bitmap [] s low = tt
all_below_more held segment bitmap (next ∷ segments) s low =
    (below_more held segment next bitmap (nat_cmp_total.antisymm next segment ∙ ap ordering_reverse s.0) low.0, all_below_more held segment bitmap segments s.1 low.1)

module _ (cached : Cached) where
  with_all : (segments : List ℕ) (held : Segments) → IsStrictlySortedBy nat_cmp segments → AllByRecursion (λ k. AllBelow k held) segments →
      with_bitmaps cached held segments ≡ held ++ filter_map (bitmap_at cached) segments
  unfolding IsStrictlySortedBy
  with_all [] held s low = sym (append-nil held)
  with_all (segment ∷ segments) held s low = go (option_and_then bitmap_in (value_at cached (bitmap_sector segment))) (λ more. with_all segments more s.1)
    where
      go : (found : Option Bitmap) → ((more : Segments) → AllByRecursion (λ k. AllBelow k more) segments → with_bitmaps cached more segments ≡ more ++ filter_map (bitmap_at cached) segments) →
          with_bitmaps cached (with_bitmap held (option_map (λ bitmap. (segment, bitmap)) found)) segments
          ≡ held ++ cons_option (option_map (λ bitmap. (segment, bitmap)) found) (filter_map (bitmap_at cached) segments)
      go None rest = rest held low.1
      go (Some bitmap) rest =
          ap (λ more. with_bitmaps cached more segments) (put_last held segment bitmap low.0)
          ∙ rest (held ++ (segment, bitmap) ∷ []) (all_below_more held segment bitmap segments s.0 low.1)
          ∙ append_assoc held ((segment, bitmap) ∷ []) (filter_map (bitmap_at cached) segments)

none_held : (segments : List ℕ) → AllByRecursion (λ k. AllBelow k []) segments
none_held [] = tt
none_held (segment ∷ segments) = (tt, none_held segments)

pub bitmaps_of_set : (cached : Cached) (set : LockSet) → IsStrictlySortedBy lock_cmp (keys_of set) → with_bitmaps cached [] (segments_in set) ≡ filter_map (bitmap_at cached) (segments_in set)
bitmaps_of_set cached set sorted = with_all cached (segments_in set) [] (segments_sorted (keys_of set) sorted) (none_held (segments_in set))
