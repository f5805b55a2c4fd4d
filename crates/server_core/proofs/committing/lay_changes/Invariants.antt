-- What the changes that are left make of the cache stays the same, and they may be laid.
use Rattle.std.proofs.Common.{◌≡◌, drop}
use Rattle.cache_laws.specs.Steps.{with_changes}
use Rattle.server_core.specs.Outcomes.{MayLay}
use Rattle.server_core.proofs.committing.lay_changes.Given as goal

abbrev pub invariant-loop-change : goal.invariant-loop-change
invariant-loop-change l = record {
  left : with_changes l.mark l.cache.entries (drop l.change-index l.changes) ≡ with_changes l.mark l.fn.cache.entries l.changes;
  may : MayLay l.cache.entries (drop l.change-index l.changes);
  staying : l.cache.staying ≡ l.fn.cache.staying;
  flying : l.cache.flying ≡ l.fn.cache.flying;
  spare : l.cache.spare ≡ l.fn.cache.spare;
}
