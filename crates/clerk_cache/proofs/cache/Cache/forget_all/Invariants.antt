-- What is left once the others are forgotten stays the same.
use Rattle.std.proofs.Common.{◌≡◌, ◌≤◌, drop}
use Rattle.cache_definitions.specs.Caches.{forgotten}
use Rattle.cache_definitions.specs.Flags.{but_all}
use Rattle.clerk_cache.specs.Dropping.{numbers_of}
use Rattle.clerk_cache.proofs.cache.Cache.forget_all.Given as goal

abbrev pub invariant-loop-sector : goal.invariant-loop-sector
invariant-loop-sector l = record {
  left : forgotten l.self.entries (numbers_of (drop l.sector-index l.sectors)) ≡ forgotten l.initial.self.entries (numbers_of l.sectors);
  staying : but_all (numbers_of (drop l.sector-index l.sectors)) l.self.staying ≡ but_all (numbers_of l.sectors) l.initial.self.staying;
  flying : but_all (numbers_of (drop l.sector-index l.sectors)) l.self.flying ≡ but_all (numbers_of l.sectors) l.initial.self.flying;
  spare : l.initial.self.spare ≤ l.self.spare;
}
