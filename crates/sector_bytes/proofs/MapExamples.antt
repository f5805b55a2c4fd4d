-- Maps from sectors, computed.
use Rattle.std.proofs.Common.{◌≡◌, ◌+◌, ℕ, Some, None, List, [], ◌∷◌, refl}
use Rattle.sector_bytes.specs.SectorMaps.{value_at, with_value, without, adjusted, room_for}

abbrev entries : List (ℕ × ℕ)
entries = (3, 30) ∷ (7, 70) ∷ []

found_there : value_at entries 7 ≡ Some 70
found_there = refl

not_found : value_at entries 5 ≡ None
not_found = refl

set_between : with_value entries 5 50 ≡ (3, 30) ∷ (5, 50) ∷ (7, 70) ∷ []
set_between = refl

set_first : with_value entries 0 1 ≡ (0, 1) ∷ (3, 30) ∷ (7, 70) ∷ []
set_first = refl

set_last : with_value entries 9 90 ≡ (3, 30) ∷ (7, 70) ∷ (9, 90) ∷ []
set_last = refl

set_again : with_value entries 7 71 ≡ (3, 30) ∷ (7, 71) ∷ []
set_again = refl

removed : without entries 3 ≡ (7, 70) ∷ []
removed = refl

nothing_removed : without entries 4 ≡ entries
nothing_removed = refl

made_another : adjusted (λ n. n + 1) entries 3 ≡ (3, 31) ∷ (7, 70) ∷ []
made_another = refl

nothing_made : adjusted (λ n. n + 1) entries 4 ≡ entries
nothing_made = refl

takes_room : room_for entries 4 ≡ 1
takes_room = refl

takes_no_room : room_for entries 3 ≡ 0
takes_no_room = refl
