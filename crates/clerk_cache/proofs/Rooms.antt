-- A cache has room for a sector where both its maps have.
use Rattle.std.proofs.Common.{◌≡◌, ℕ, if◌then◌else◌, List, IsSome, is_some, refl, sym, ap, ◌∙◌}
use Rattle.frang_base.proofs.Tests.{is_some-option_map}
use Rattle.sector_bytes.specs.SectorMaps.{value_at, room_for}
use Rattle.clerk_cache.specs.Kept.{joined, AreAlike}
use Rattle.clerk_cache.proofs.Joining.{Blocks, States, block_at-joined, state_at-joined}

pub block_room : (blocks : Blocks) (states : States) (sector : ℕ) → AreAlike blocks states → room_for blocks sector ≡ room_for (joined blocks states) sector
block_room blocks states sector alike = ap (λ b. if b then 0 else 1) (ap is_some (block_at-joined blocks states sector alike) ∙ is_some-option_map _ (value_at (joined blocks states) sector))

pub state_room : (blocks : Blocks) (states : States) (sector : ℕ) → AreAlike blocks states → room_for states sector ≡ room_for (joined blocks states) sector
state_room blocks states sector alike =
    ap (λ b. if b then 0 else 1)
    (sym (is_some-option_map (λ state. state.cover) (value_at states sector))
    ∙ ap is_some (state_at-joined (λ state. state.cover) (λ cached. cached.cover) (λ block state. refl) blocks states sector alike)
    ∙ is_some-option_map (λ cached. cached.cover) (value_at (joined blocks states) sector))

-- a sector that is there takes no room
pub room_there : {V : Type 0} (entries : List (ℕ × V)) (sector : ℕ) → IsSome (value_at entries sector) → room_for entries sector ≡ 0
room_there entries sector some = ap (λ b. if b then 0 else 1) some
