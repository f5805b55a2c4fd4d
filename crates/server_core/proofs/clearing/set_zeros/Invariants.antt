-- What the sectors that are left make of the cache stays the same.
use Rattle.std.proofs.Common.{◌≡◌, ◌≤◌, ◌+◌, drop, fold}
use Rattle.clerk_cache.specs.Dropping.{numbers_of}
use Rattle.core_definitions.specs.LineEffects.{zeroed}
use Rattle.server_core.proofs.clearing.set_zeros.Given as goal

abbrev pub invariant-loop-sector : goal.invariant-loop-sector
invariant-loop-sector l = record {
  left : fold (zeroed l.mark l.segment) l.cache.entries (numbers_of (drop l.sector-index l.sectors)) ≡ fold (zeroed l.mark l.segment) l.fn.cache.entries (numbers_of l.sectors);
  staying : l.cache.staying ≡ l.fn.cache.staying;
  flying : l.cache.flying ≡ l.fn.cache.flying;
  spare : l.fn.cache.spare ≤ l.cache.spare + l.sector-index;
}
