-- What the file bytes that are left make of the cache stays the same.
use Rattle.std.proofs.Common.{◌≡◌, ◌≤◌, ◌+◌, drop, fold, map}
use Rattle.core_definitions.specs.LineEffects.{with_bytes}
use Rattle.server_core.specs.Outcomes.{bytes_of}
use Rattle.server_core.proofs.committing.set_bytes.Given as goal

abbrev pub invariant-loop-set : goal.invariant-loop-set
invariant-loop-set l = record {
  left : fold (with_bytes l.mark) l.cache.entries (map bytes_of (drop l.set-index l.bytes)) ≡ fold (with_bytes l.mark) l.fn.cache.entries (map bytes_of l.bytes);
  staying : l.cache.staying ≡ l.fn.cache.staying;
  flying : l.cache.flying ≡ l.fn.cache.flying;
  spare : l.fn.cache.spare ≤ l.cache.spare + l.set-index;
}
