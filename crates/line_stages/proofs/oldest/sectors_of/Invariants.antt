-- The sectors so far, and those that are left, are all.
use Rattle.std.proofs.Common.{◌≡◌, ◌++◌, drop, map}
use Rattle.clerk_cache.specs.Dropping.{numbers_of}
use Rattle.line_stages.proofs.oldest.sectors_of.Given as goal

abbrev pub invariant-loop-entry : goal.invariant-loop-entry
invariant-loop-entry l = numbers_of l.sectors.items ++ map (λ entry. entry.0.0) (drop l.entry-index l.list) ≡ map (λ entry. entry.0.0) l.list
