-- What a line may use of what a server has cached.
use Rattle.std.specs.Prelude.{if◌then◌else◌, Some, None}
use Rattle.std.specs.List.{filter_map}
use Rattle.cache_definitions.specs.Caches.{Cache}
use Rattle.disk_definitions.specs.Written.{Cached}
use Rattle.set_definitions.specs.Sets.{LockSet, has_lock}

-- the cached sectors whose cover is in the set
abbrev pub usable : LockSet → Cache → Cached
usable set cache = filter_map (λ entry. if has_lock set entry.1.cover then Some (entry.0, entry.1.block) else None) cache
