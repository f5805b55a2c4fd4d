use Rattle.std.proofs.Common.{◌≡◌, ◌≤◌, ◌+◌, Some, length}
use Rattle.disk_definitions.specs.Store.{entry_in}
use Rattle.host_tree.specs.Listing.{placed}
use Rattle.host_tree.proofs.directory.add_places.Given as goal

-- the places so far
abbrev pub invariant-loop-place : goal.invariant-loop-place
invariant-loop-place l = record {
  are : l.entries ≡ placed l.fn.entries (entry_in (Some l.sector)) l.place;
  few : length l.entries ≤ length l.fn.entries + l.place;
}
