-- What is listed, and then those left.
use Rattle.std.proofs.Common.{◌≡◌, ◌++◌, drop, map}
use Rattle.std.specs.Map.{keys_of}
use Rattle.core_definitions.specs.Events.{Read}
use Rattle.world_list.specs.Listing.{events_of}
use Rattle.world_list.proofs.reads.push_reads_of.Given as goal

abbrev pub invariant-loop-number : goal.invariant-loop-number
invariant-loop-number l = events_of l.list.items ++ map Read (keys_of (drop l.number-index l.piece)) ≡ events_of l.fn.list.items ++ map Read (keys_of l.piece)
