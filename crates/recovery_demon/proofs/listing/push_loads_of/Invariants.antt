use Rattle.std.proofs.Common.{◌≡◌, ◌++◌, drop, map}
use Rattle.std.specs.Map.{keys_of}
use Rattle.recovery_demon.specs.Recovering.{load}
use Rattle.recovery_demon.proofs.listing.push_loads_of.Given as goal

-- what is listed, and then those left
abbrev pub invariant-loop-slot : goal.invariant-loop-slot
invariant-loop-slot l = l.list.items ++ map load (keys_of (drop l.slot-index l.piece)) ≡ l.fn.list.items ++ map load (keys_of l.piece)
