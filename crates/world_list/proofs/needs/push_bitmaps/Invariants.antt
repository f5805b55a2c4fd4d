-- What is listed, and then those left.
use Rattle.std.proofs.Common.{◌≡◌, ◌++◌, drop, map}
use Rattle.std.specs.Map.{keys_of}
use Rattle.core_definitions.specs.Events.{Fetch}
use Rattle.core_definitions.specs.Lines.{missing_bitmaps}
use Rattle.world_list.specs.Listing.{events_of}
use Rattle.world_list.proofs.needs.push_bitmaps.Given as goal

abbrev pub invariant-loop-need : goal.invariant-loop-need
invariant-loop-need l =
    events_of l.list.items ++ map (Fetch l.a.0) (keys_of (missing_bitmaps (drop l.need-index l.locks) l.cache.entries)) ≡ events_of l.fn.list.items ++ map (Fetch l.a.0) (keys_of (missing_bitmaps l.locks l.cache.entries))
