-- What is listed, and then those left.
use Rattle.std.proofs.Common.{◌≡◌, ◌++◌, drop, map}
use Rattle.std.specs.Map.{keys_of}
use Rattle.core_definitions.specs.Events.{Read}
use Rattle.ordered_map.specs.Chunks.{joined}
use Rattle.world_list.specs.Listing.{events_of}
use Rattle.world_list.proofs.reads.push_all_reads.Given as goal

abbrev pub invariant-loop-piece : goal.invariant-loop-piece
invariant-loop-piece l = events_of l.list.items ++ map Read (keys_of (joined (drop l.piece-index l.pieces))) ≡ events_of l.fn.list.items ++ map Read (keys_of (joined l.pieces))
