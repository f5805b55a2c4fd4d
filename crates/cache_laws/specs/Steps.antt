-- Changes of a cache made sector by sector, and what they make of each cached sector.
use Rattle.std.specs.Prelude.{◌≡◌, ℕ, Bool, true, false, ◌&&◌, not, nat_eq, if◌then◌else◌, Option, Some, None, List, [], ◌∷◌, fold}
use Rattle.std.specs.List.{list_any}
use Rattle.frang_base.specs.declared.change.Change.{Change}
use Rattle.frang_base.specs.declared.lock.LockId.{LockId}
use Rattle.sector_bytes.specs.Changes.{changed}
use Rattle.sector_bytes.specs.Replays.{change_at}
use Rattle.sector_bytes.specs.SectorMaps.{Ascend, adjusted}
use Rattle.cache_definitions.specs.Caches.{Cache, CachedSector, dirty, each_cached, with_cover}

-- ---- covers

-- sector after sector comes under a lock
abbrev pub with_covers : Cache → List (ℕ × LockId) → Cache
with_covers cache moves = fold (λ c move. with_cover c move.0 move.1) cache moves

-- the lock under which a sector comes last, or the one under which it stays
abbrev pub cover_after : List (ℕ × LockId) → ℕ → LockId → LockId
cover_after [] sector cover = cover
cover_after (move ∷ moves) sector cover = cover_after moves sector (if nat_eq move.0 sector then move.1 else cover)

abbrev pub CoversMoveSectorBySector : Type 0
CoversMoveSectorBySector = (cache : Cache) (moves : List (ℕ × LockId)) → Ascend cache
    → with_covers cache moves ≡ each_cached (λ sector cached. record cached { cover = cover_after moves sector cached.cover }) cache

-- ---- changes

-- a change laid over its sector, under the lock that covers it
abbrev pub with_own : ℕ → Cache → Change → Cache
with_own mark cache change = adjusted (λ cached. dirty (changed cached.block change) cached.cover mark false) cache change.sector.0

abbrev pub with_changes : ℕ → Cache → List Change → Cache
with_changes mark cache changes = fold (with_own mark) cache changes

-- no two are of one sector
abbrev pub names : List Change → ℕ → Bool
names changes sector = list_any (λ change. nat_eq change.sector.0 sector) changes

abbrev pub are_apart : List Change → Bool
are_apart [] = true
are_apart (change ∷ changes) = not (names changes change.sector.0) && are_apart changes

-- a cached sector after its change, where it has one
abbrev pub with_its_change : ℕ → Option Change → CachedSector → CachedSector
with_its_change mark None cached = cached
with_its_change mark (Some change) cached = dirty (changed cached.block change) cached.cover mark false

abbrev pub ChangesLieSectorBySector : Type 0
ChangesLieSectorBySector = (mark : ℕ) (cache : Cache) (changes : List Change) → Ascend cache → are_apart changes ≡ true
    → with_changes mark cache changes ≡ each_cached (λ sector cached. with_its_change mark (change_at changes sector) cached) cache
