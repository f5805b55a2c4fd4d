use Rattle.std.proofs.Common.{[], take}
use Rattle.recovery_demon.specs.Naming.{AreAdded}
use Rattle.recovery_demon.proofs.NamedSectors.{names}
use Rattle.recovery_demon.proofs.naming.named.Given as goal

-- the sectors of the records so far
abbrev pub invariant-loop-record : goal.invariant-loop-record
invariant-loop-record l = AreAdded l.segments (names (take l.record-index l.records)) [] l.sectors.entries
