-- Which of some dirty sectors may be written, computed.
use Rattle.std.proofs.Common.{◌≡◌, ℕ, Some, None, List, [], ◌∷◌, refl}
use Rattle.frang_base.specs.declared.sector.Sector.{Sector}
use Rattle.flush_order.specs.declared.Mark.{Mark}
use Rattle.flush_order.specs.Marks.{first_reached, next_reached}

abbrev sector : ℕ → Sector
sector s = record { 0 = s }

abbrev dirty : List Mark
dirty = record { sector = sector 4; mark = 260 } ∷ record { sector = sector 6; mark = 258 } ∷ record { sector = sector 9; mark = 257 } ∷ []

nothing_reached : first_reached dirty 256 ≡ None
nothing_reached = refl

last_is_reached : first_reached dirty 257 ≡ Some (sector 9)
last_is_reached = refl

-- the first in the list, though another has a lesser mark
first_of_two : first_reached dirty 258 ≡ Some (sector 6)
first_of_two = refl

above_the_mark : first_reached dirty 259 ≡ Some (sector 6)
above_the_mark = refl

first_is_reached : first_reached dirty 260 ≡ Some (sector 4)
first_is_reached = refl

nothing_dirty : first_reached [] 300 ≡ None
nothing_dirty = refl

-- of the same marks, the least first
least_is_reached : next_reached dirty 257 ≡ Some (sector 9)
least_is_reached = refl

least_of_two : next_reached dirty 258 ≡ Some (sector 9)
least_of_two = refl

none_is_reached : next_reached dirty 256 ≡ None
none_is_reached = refl

-- of one number the lesser sector
first_of_one_number : next_reached (record { sector = sector 7; mark = 258 } ∷ record { sector = sector 6; mark = 258 } ∷ []) 258 ≡ Some (sector 6)
first_of_one_number = refl
