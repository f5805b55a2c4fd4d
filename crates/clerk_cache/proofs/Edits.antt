-- What is kept beside a block, made another, is what the definitions say.
use Rattle.std.proofs.Common.{◌≡◌, ℕ, true, false, if◌then◌else◌, Option, Some, None, refl, sym, ap, ◌∙◌}
use Rattle.std.specs.Option.{option_and_then, option_map, option_map_or, unwrap_or}
use Rattle.frang_base.specs.declared.lock.LockId.{LockId}
use Rattle.frang_base.specs.declared.change.Change.{Change}
use Rattle.sector_bytes.specs.Blocks.{Block}
use Rattle.std.specs.Str.{bytes_eq}
use Rattle.sector_bytes.specs.Changes.{changed}
use Rattle.sector_bytes.specs.SectorMaps.{adjusted}
use Rattle.sector_bytes.proofs.MapLaws.{adjusted-adjusted}
use Rattle.cache_definitions.specs.Caches.{Cache, CachedSector, cleaned, dirty, is_dirty_bytes, still_has, with_change, with_written}
use Rattle.meta_version.specs.Updates.{with_change as block_change}
use Rattle.clerk_cache.specs.Kept.{joined, AreAlike}
use Rattle.cache_definitions.specs.declared.dirt.Dirt.{Dirt}
use Rattle.clerk_cache.proofs.Joining.{Blocks, States, joined-blocks}

-- written as it still is
pub written_clean : (contents : Cache) (sector : ℕ) (block : Block) → still_has contents sector block ≡ true → cleaned contents sector ≡ with_written contents sector block
written_clean contents sector block e = ap (λ b. if b then cleaned contents sector else contents) (sym e)

-- changed since it was written
pub written_dirty : (contents : Cache) (sector : ℕ) (block : Block) → still_has contents sector block ≡ false → contents ≡ with_written contents sector block
written_dirty contents sector block e = ap (λ b. if b then cleaned contents sector else contents) (sym e)

-- the block tells whether it is still had
pub had_still : (cached : Option CachedSector) (block : Block)
    → option_map_or (λ held. bytes_eq held block) (option_map (λ cached. cached.block) cached) false ≡ unwrap_or (option_map (λ cached. bytes_eq cached.block block) cached) false
had_still (Some cached) block = refl
had_still None block = refl

-- ---- the dirt of a sector

pub dirt_found : {X : Type 0} (f : X → Option Dirt) (found : Option X) → option_and_then f found ≡ option_and_then (λ dirt. dirt) (option_map f found)
dirt_found f (Some x) = refl
dirt_found f None = refl

pub mark_found : (cached : Option CachedSector) → option_map (λ dirt. dirt.mark) (option_and_then (λ cached. cached.dirt) cached) ≡ option_and_then (λ cached. option_map (λ dirt. dirt.mark) cached.dirt) cached
mark_found (Some cached) = refl
mark_found None = refl

pub bytes_found : (cached : Option CachedSector) → unwrap_or (option_map (λ dirt. dirt.is_bytes) (option_and_then (λ cached. cached.dirt) cached)) false ≡ unwrap_or (option_map is_dirty_bytes cached) false
bytes_found (Some cached) = refl
bytes_found None = refl

-- ---- a change

module _ (change : Change) (blocks new_blocks : Blocks) (states : States) (alike : AreAlike blocks states) (is : new_blocks ≡ block_change blocks change) where
  -- the contents once the block is changed
  changed_first : joined new_blocks states ≡ adjusted (λ cached. record cached { block = changed cached.block change }) (joined blocks states) change.sector.0
  changed_first = ap (λ bs. joined bs states) is ∙ joined-blocks (λ block. changed block change) blocks states change.sector.0 alike

  pub then_marked : (mark : ℕ) (cover : LockId) → adjusted (λ cached. dirty cached.block cover mark false) (joined new_blocks states) change.sector.0 ≡ with_change (joined blocks states) change mark cover
  then_marked mark cover =
      ap (λ contents. adjusted (λ cached. dirty cached.block cover mark false) contents change.sector.0) changed_first
      ∙ adjusted-adjusted (λ cached. record cached { block = changed cached.block change }) (λ cached. dirty cached.block cover mark false) (joined blocks states) change.sector.0
