-- What the sectors that are left make of those that are pending stays the same.
use Rattle.std.proofs.Common.{◌≡◌, ◌≤◌, ◌+◌, drop}
use Rattle.clerk_cache.specs.Dropping.{numbers_of}
use Rattle.server_core.proofs.PendingSectors.{all_put}
use Rattle.server_core.proofs.pending.put_in.Given as goal

abbrev pub invariant-loop-sector : goal.invariant-loop-sector
invariant-loop-sector l = record {
  left : all_put l.pending.entries (numbers_of (drop l.sector-index l.sectors)) ≡ all_put l.fn.pending.entries (numbers_of l.sectors);
  spare : l.fn.pending.spare ≤ l.pending.spare + l.sector-index;
}
