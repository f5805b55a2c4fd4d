-- When a lock's cover may be dropped, and what is then left.
use Rattle.std.specs.Prelude.{◌≡◌, ℕ, false, List, Some, Result, Ok, Err, map}
use Rattle.frang_base.specs.declared.lock.LockId.{LockId}
use Rattle.frang_base.specs.declared.sector.Sector.{Sector}
use Rattle.cache_definitions.specs.Caches.{Cache, any_cached, dropped, first_cached, is_dirty_under}
use Rattle.clerk_cache.specs.declared.cache.Dirty.{Dirty}

-- the numbers of these sectors
abbrev pub numbers_of : List Sector → List ℕ
numbers_of sectors = map (λ sector. sector.0) sectors

-- the cover is dropped where no sector under it is dirty; else the first such is named, and nothing has changed
abbrev pub DropOutcome : LockId → Cache → Cache → Result (Unit {0}) Dirty → Type 0
DropOutcome lock old new (Ok done) = (any_cached (is_dirty_under lock) old ≡ false) × (new ≡ dropped old lock)
DropOutcome lock old new (Err dirty) = (first_cached (is_dirty_under lock) old ≡ Some dirty.sector.0) × (new ≡ old)
