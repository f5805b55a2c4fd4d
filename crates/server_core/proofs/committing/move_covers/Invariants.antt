-- What the moves that are left make of the cache stays the same.
use Rattle.std.proofs.Common.{◌≡◌, drop}
use Rattle.cache_laws.specs.Steps.{with_covers}
use Rattle.server_core.specs.Outcomes.{moves_of}
use Rattle.server_core.proofs.committing.move_covers.Given as goal

abbrev pub invariant-loop-entry : goal.invariant-loop-entry
invariant-loop-entry l = record {
  left : with_covers l.cache.entries (moves_of (drop l.entry-index l.moves)) ≡ with_covers l.fn.cache.entries (moves_of l.moves);
  staying : l.cache.staying ≡ l.fn.cache.staying;
  flying : l.cache.flying ≡ l.fn.cache.flying;
  spare : l.cache.spare ≡ l.fn.cache.spare;
}
