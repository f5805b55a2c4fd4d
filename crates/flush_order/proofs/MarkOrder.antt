-- The first mark in order is the least, and where it isn't reached none is.
use Rattle.std.proofs.Common.{◌≡◌, ℕ, ◌<◌, ◌≤◌, true, false, Bool, nat_le, if◌then◌else◌, List, [], ◌∷◌, Option, Some, None, find, refl, sym, ap, ◌∙◌, rules, arith}
use Rattle.std.proofs.lemmas.Bool.Decides.{nat_tests}
use Rattle.std.specs.Cmp.{IsTotalOrder}
use Rattle.std.specs.Cmp.Rules.{comparing}
use Rattle.std.specs.List.{AllByRecursion}
use Rattle.std.specs.List.Sorted.{IsStrictlySortedBy}
use Rattle.std.specs.Map.{keys_of}
use Rattle.std.specs.BTreeMap.{insert_entry, is_at}
use Rattle.std.specs.Option.{option_map}
use Rattle.std.specs.Ordering.{match_ordering}
use Rattle.std.specs.declared.cmp.Ordering.{Ordering}
use Rattle.std.specs.declared.cmp.Ordering.TheVariants.{Less, Equal, Greater}
use Rattle.frang_base.specs.declared.sector.Sector.{Sector}
use Rattle.flush_order.specs.declared.Mark.{Mark}
use Rattle.sorted_entries.specs.Places.{IsKeyOrder}
use Rattle.sorted_entries.proofs.Sorted.{sorted-insert_entry}
use Rattle.flush_order.specs.Marks.{is_reached, first_reached, mark_cmp, by_mark, in_order, first_mark, lesser, least, sector_reached, next_reached}

pub mark_total : IsTotalOrder mark_cmp
mark_total = search (comparing, rules)

same_number : (a b : Mark) → is_at (mark_cmp a) b ≡ true → b.mark ≡ a.mark
same_number a b e = grind (arith, nat_tests)

same_sector : (a b : Mark) → is_at (mark_cmp a) b ≡ true → b.sector.0 ≡ a.sector.0
same_sector a b e = grind (arith, nat_tests)

-- a mark found is the mark that was looked for
pub found_mark : (a b : Mark) → is_at (mark_cmp a) b ≡ true → b ≡ a
found_mark a b e = λ i. record { sector = record { 0 = same_sector a b e i }; mark = same_number a b e i }

-- marks are keys
pub marks : IsKeyOrder mark_cmp
marks = record { total = mark_total; exact = found_mark }

-- ---- the first in order is the least

first-inserted : (entries : List (Mark × Unit {0})) (mark : Mark) → first_mark (insert_entry mark_cmp entries mark tt) ≡ Some (lesser mark (first_mark entries))
first-inserted [] mark = refl
first-inserted (entry ∷ entries) mark = go (mark_cmp mark entry.0)
  where
    go : (o : Ordering) → first_mark (match_ordering o ((mark, tt) ∷ entry ∷ entries) ((entry.0, tt) ∷ entries) (entry ∷ insert_entry mark_cmp entries mark tt)) ≡ Some (match_ordering o mark entry.0 entry.0)
    go Less = refl
    go Equal = refl
    go Greater = refl

pub first_is_least : (dirty : List Mark) → first_mark (by_mark dirty) ≡ least dirty
first_is_least [] = refl
first_is_least (mark ∷ dirty) = first-inserted (by_mark dirty) mark ∙ ap (λ o. Some (lesser mark o)) (first_is_least dirty)

pub marks_sorted : (dirty : List Mark) → IsStrictlySortedBy mark_cmp (keys_of (by_mark dirty))
unfolding IsStrictlySortedBy
marks_sorted [] = tt
marks_sorted (mark ∷ dirty) = sorted-insert_entry mark_total mark tt (by_mark dirty) (marks_sorted dirty)

-- ---- where the least isn't reached, none is

not_later : (a b : Mark) (reached : ℕ) → mark_cmp a b ≡ Less → is_reached reached a ≡ false → is_reached reached b ≡ false
not_later a b reached is e = grind (arith, nat_tests)

none_after : (low : Mark) (reached : ℕ) (dirty : List Mark) → AllByRecursion (λ mark. mark_cmp low mark ≡ Less) dirty → is_reached reached low ≡ false → find (is_reached reached) dirty ≡ None
none_after low reached [] all e = refl
none_after low reached (mark ∷ dirty) all e =
    ap (λ t. if t then Some mark else find (is_reached reached) dirty) (not_later low mark reached all.0 e) ∙ none_after low reached dirty all.1 e

first_sorted : (reached : ℕ) (entries : List (Mark × Unit {0})) → IsStrictlySortedBy mark_cmp (keys_of entries) → first_reached (keys_of entries) reached ≡ sector_reached reached (first_mark entries)
unfolding IsStrictlySortedBy
first_sorted reached [] sorted = refl
first_sorted reached (entry ∷ entries) sorted = go (is_reached reached entry.0) refl
  where
    go : (t : Bool) → is_reached reached entry.0 ≡ t → option_map (λ mark. mark.sector) (if t then Some entry.0 else find (is_reached reached) (keys_of entries)) ≡ (if t then Some entry.0.sector else None)
    go true is = refl
    go false is = ap (option_map (λ mark. mark.sector)) (none_after entry.0 reached (keys_of entries) sorted.0 is)

pub first_in_order : (dirty : List Mark) (reached : ℕ) → first_reached (in_order dirty) reached ≡ next_reached dirty reached
first_in_order dirty reached = first_sorted reached (by_mark dirty) (marks_sorted dirty) ∙ ap (sector_reached reached) (first_is_least dirty)
