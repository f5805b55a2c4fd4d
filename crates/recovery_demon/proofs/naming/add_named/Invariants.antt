use Rattle.std.proofs.Common.{map, take}
use Rattle.recovery_demon.specs.Naming.{AreAdded}
use Rattle.recovery_demon.proofs.naming.add_named.Given as goal

-- the sectors of the changes so far
abbrev pub invariant-loop-change : goal.invariant-loop-change
invariant-loop-change l = AreAdded l.segments (map (λ change. change.sector.0) (take l.change-index l.changes)) l.fn.sectors.entries l.sectors.entries
