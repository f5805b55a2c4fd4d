-- Marks: up to which number the log must stand on the disk before a dirty sector may be written.
use Rattle.std.specs.Prelude.{ℕ, Bool, nat_le, Option, Some, None, List, [], ◌∷◌, find, if◌then◌else◌}
use Rattle.std.specs.Option.{option_map}
use Rattle.std.specs.Map.{keys_of}
use Rattle.std.specs.BTreeMap.{insert_entry}
use Rattle.std.specs.Ordering.{nat_cmp, on, then_cmp, match_ordering}
use Rattle.std.specs.declared.cmp.Ordering.{Ordering}
use Rattle.frang_base.specs.declared.sector.Sector.{Sector}
use Rattle.flush_order.specs.declared.Mark.{Mark}

-- the log has reached the mark
abbrev pub is_reached : ℕ → Mark → Bool
is_reached reached mark = nat_le mark.mark reached

-- the first sector whose mark is reached
abbrev pub first_reached : List Mark → ℕ → Option Sector
first_reached dirty reached = option_map (λ mark. mark.sector) (find (is_reached reached) dirty)

-- marks by their numbers, and those of one number by their sectors
abbrev pub mark_cmp : Mark → Mark → Ordering
mark_cmp = then_cmp (on (λ mark. mark.mark) nat_cmp) (on (λ mark. mark.sector.0) nat_cmp)

-- the marks as the keys of a map to nothing, ascending
abbrev pub by_mark : List Mark → List (Mark × Unit {0})
by_mark [] = []
by_mark (mark ∷ marks) = insert_entry mark_cmp (by_mark marks) mark tt

-- the marks, ascending
abbrev pub in_order : List Mark → List Mark
in_order marks = keys_of (by_mark marks)

-- the first of marks that are kept so
abbrev pub first_mark : List (Mark × Unit {0}) → Option Mark
first_mark [] = None
first_mark (entry ∷ entries) = Some entry.0

-- the lesser of a mark and another, where there is one
abbrev pub lesser : Mark → Option Mark → Mark
lesser mark None = mark
lesser mark (Some other) = match_ordering (mark_cmp mark other) mark other other

-- the least mark
abbrev pub least : List Mark → Option Mark
least [] = None
least (mark ∷ marks) = Some (lesser mark (least marks))

-- the sector of a mark, where it is reached
abbrev pub sector_reached : ℕ → Option Mark → Option Sector
sector_reached reached None = None
sector_reached reached (Some mark) = if is_reached reached mark then Some mark.sector else None

-- the sector with the least mark, where that mark is reached
abbrev pub next_reached : List Mark → ℕ → Option Sector
next_reached dirty reached = sector_reached reached (least dirty)
