-- Sectors are keys in order of their numbers; the room that a value takes; and that no sectors ascend.
use Rattle.std.proofs.Common.{◌≡◌, ℕ, List, [], is_some, if◌then◌else◌, ap}
use Rattle.std.proofs.lemmas.Cmp.{nat_cmp_total}
use Rattle.std.specs.List.Sorted.{IsStrictlySortedBy}
use Rattle.std.specs.Ordering.{nat_cmp}
use Rattle.sorted_entries.specs.Places.{IsKeyOrder}
use Rattle.sorted_entries.proofs.Places.{IsPlace}
use Rattle.sector_bytes.specs.SectorMaps.{room_for, Ascend}
use Rattle.sector_bytes.proofs.MapLaws.{found}

pub sectors : IsKeyOrder nat_cmp
sectors = record { total = nat_cmp_total; exact = found }

module _ {V : Type 0} (sector : ℕ) where
  -- there is room for a sector that is there
  pub room_there : (entries : List (ℕ × V)) (at : ℕ) (d : ℕ × V) → IsPlace sectors sector entries at → room_for entries sector ≡ 0
  room_there entries at d place = ap (λ o. if is_some o then 0 else 1) (place.value d)

pub ascend_none : (V : Type 0) → Ascend {V = V} []
unfolding IsStrictlySortedBy
ascend_none V = tt
