-- The first free place is the first of those that are left.
use Rattle.std.proofs.Common.{◌≡◌, ◌-◌}
use Rattle.disk_definitions.specs.Least.{least, least_from}
use Rattle.disk_definitions.specs.Walks.{is_vacant}
use Rattle.dir_lookup.specs.Stored.{entries_at}
use Rattle.dir_lookup.proofs.search.vacant_place.Given as goal

abbrev pub invariant-loop-place : goal.invariant-loop-place
invariant-loop-place l = least_from (λ r. is_vacant (entries_at l.sector r)) l.place (7 - l.place) ≡ least (λ r. is_vacant (entries_at l.sector r)) 7
