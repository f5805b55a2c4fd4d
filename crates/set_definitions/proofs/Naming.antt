-- Along the seen sectors one is named exactly where the comparison ends with one that has moved.
use Rattle.std.proofs.Common.{◌≡◌, ℕ, ◌==◌, ◌↔◌, Bool, true, false, if◌then◌else◌, Option, Some, None, IsSome, [], ◌∷◌, refl}
use Rattle.sector_bytes.specs.Blocks.{Block, version_of}
use Rattle.sector_bytes.specs.SectorMaps.{value_at}
use Rattle.disk_definitions.specs.Written.{Cached}
use Rattle.set_definitions.specs.declared.moved.Moved.{Moved}
use Rattle.set_definitions.specs.Seen.{Comparison, HasMoved, SeenSectors, compared, compared_at, first_moved, moved_at}

-- where the comparison ends, or is that of the others
by_test : (b : Bool) (name : Moved) (rest : Option Moved) (others : Comparison) → IsSome rest ↔ (others ≡ HasMoved) → IsSome (if b then rest else Some name) ↔ ((if b then others else HasMoved) ≡ HasMoved)
by_test true name rest others below = below
by_test false name rest others below = (λ e. refl, λ e. refl)

by_block : (one : ℕ × ℕ) (o : Option Block) (rest : Option Moved) (others : Comparison) → IsSome rest ↔ (others ≡ HasMoved) → IsSome (moved_at one o rest) ↔ (compared_at one.1 o others ≡ HasMoved)
by_block one None rest others below = (λ e. cc, λ e. cc)
by_block one (Some block) rest others below =
    by_test (version_of block == one.1) (record { sector = record { 0 = one.0 }; saw = one.1; found = version_of block }) rest others below

pub named : (seen : SeenSectors) (cached : Cached) → IsSome (first_moved seen cached) ↔ (compared seen cached ≡ HasMoved)
named [] cached = (λ e. cc, λ e. cc)
named (one ∷ others) cached = by_block one (value_at cached one.0) (first_moved others cached) (compared others cached) (named others cached)
