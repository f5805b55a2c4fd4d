use Rattle.std.proofs.Common.{◌≡◌, ◌++◌, drop, map}
use Rattle.std.specs.Map.{keys_of}
use Rattle.recovery_demon.specs.Recovering.{look}
use Rattle.recovery_demon.proofs.listing.push_looks_of.Given as goal

-- what is listed, and then those left
abbrev pub invariant-loop-sector : goal.invariant-loop-sector
invariant-loop-sector l = l.list.items ++ map look (keys_of (drop l.sector-index l.piece)) ≡ l.fn.list.items ++ map look (keys_of l.piece)
