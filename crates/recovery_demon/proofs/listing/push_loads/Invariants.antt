use Rattle.std.proofs.Common.{◌≡◌, ◌++◌, drop, map}
use Rattle.std.specs.Map.{keys_of}
use Rattle.ordered_map.specs.Chunks.{joined}
use Rattle.recovery_demon.specs.Recovering.{load}
use Rattle.recovery_demon.proofs.listing.push_loads.Given as goal

-- what is listed, and then those left
abbrev pub invariant-loop-piece : goal.invariant-loop-piece
invariant-loop-piece l = l.list.items ++ map load (keys_of (joined (drop l.piece-index l.pieces))) ≡ l.fn.list.items ++ map load (keys_of (joined l.pieces))
