-- What is left once all are dropped stays the same, and only clean ones are dropped.
use Rattle.std.proofs.Common.{◌≡◌, ◌≤◌, false, length}
use Rattle.cache_definitions.specs.Caches.{any_cached, dropped, is_dirty_under}
use Rattle.cache_definitions.specs.Flags.{among_cached}
use Rattle.clerk_cache.proofs.cache.Cache.drop_all.Given as goal

abbrev pub invariant-loop-sector : goal.invariant-loop-sector
invariant-loop-sector l = record {
  left : dropped l.self.entries l.lock ≡ dropped l.initial.self.entries l.lock;
  clean : any_cached (is_dirty_under l.lock) l.self.entries ≡ false;
  staying : l.self.staying ≡ l.initial.self.staying;
  flying : among_cached (dropped l.self.entries l.lock) l.self.flying ≡ among_cached (dropped l.initial.self.entries l.lock) l.initial.self.flying;
  spare : l.initial.self.spare ≤ l.self.spare;
}

abbrev pub decreases-loop-sector : goal.decreases-loop-sector
decreases-loop-sector l = length l.self.entries
