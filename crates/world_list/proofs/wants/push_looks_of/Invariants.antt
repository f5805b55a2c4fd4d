-- What is listed, and then those left.
use Rattle.std.proofs.Common.{◌≡◌, ◌++◌, drop}
use Rattle.std.specs.List.{flat_map}
use Rattle.world_list.specs.Listing.{events_of}
use Rattle.world_list.specs.Wanting.{look_of}
use Rattle.world_list.proofs.wants.push_looks_of.Given as goal

abbrev pub invariant-loop-next : goal.invariant-loop-next
invariant-loop-next l = events_of l.list.items ++ flat_map (look_of l.by.0) (drop l.next-index l.wants) ≡ events_of l.fn.list.items ++ flat_map (look_of l.by.0) l.wants
