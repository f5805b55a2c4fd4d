-- Some cached sector passes where there is a first that does.
use Rattle.std.proofs.Common.{◌≡◌, Bool, true, false, if◌then◌else◌, ◌||◌, is_some, [], ◌∷◌, find, Some, refl}
use Rattle.std.specs.Option.{option_map}
use Rattle.cache_definitions.specs.Caches.{Cache, CachedSector, any_cached, first_cached}

pub any_first : (passes : CachedSector → Bool) (cache : Cache) → any_cached passes cache ≡ is_some (first_cached passes cache)
any_first passes [] = refl
any_first passes (entry ∷ cache) = go (passes entry.1) (any_first passes cache)
  where
    go : (b : Bool) → any_cached passes cache ≡ is_some (first_cached passes cache)
        → b || any_cached passes cache ≡ is_some (option_map (λ entry. entry.0) (if b then Some entry else find (λ entry. passes entry.1) cache))
    go true rest = refl
    go false rest = rest
