-- Whether all are is whether those left are.
use Rattle.std.proofs.Common.{◌≡◌, drop}
use Rattle.std.specs.List.{list_all}
use Rattle.core_definitions.specs.Guards.{is_stale}
use Rattle.host_tree.specs.Reading.{HostReading}
use Rattle.world_list.specs.Listing.{events_of}
use Rattle.world_list.specs.Over.{core_over}
use Rattle.world_list.proofs.clock.are_stale.Given as goal

abbrev pub invariant-loop-event : goal.invariant-loop-event
invariant-loop-event l =
    (tree : HostReading) → list_all (is_stale (core_over l.world tree)) (events_of (drop l.event-index l.events)) ≡ list_all (is_stale (core_over l.world tree)) (events_of l.events)
