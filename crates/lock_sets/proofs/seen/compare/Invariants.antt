-- The sectors that are left compare as all do, and name the same one.
use Rattle.std.proofs.Common.{◌≡◌, drop}
use Rattle.set_definitions.specs.Seen.{compared, first_moved}
use Rattle.lock_sets.specs.Seen.{seen_as}
use Rattle.lock_sets.proofs.seen.compare.Given as goal

abbrev pub invariant-loop-one : goal.invariant-loop-one
invariant-loop-one g l = record {
  is : compared (seen_as (drop l.one-index l.seen)) (g.C.CachedBlocks.cached l.sectors) ≡ compared (seen_as l.seen) (g.C.CachedBlocks.cached l.sectors);
  moved : first_moved (seen_as (drop l.one-index l.seen)) (g.C.CachedBlocks.cached l.sectors) ≡ first_moved (seen_as l.seen) (g.C.CachedBlocks.cached l.sectors);
}
