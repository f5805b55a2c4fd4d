use Rattle.std.proofs.Common.{drop}
use Rattle.sector_bytes.specs.Sectors.{sectors_of, SameSectors}
use Rattle.disk_replay.specs.Laid.{with_changes}
use Rattle.disk_replay.proofs.apply.apply_changes.Given as goal

-- what is left, laid over the disk as it is, makes what all of them make
abbrev pub invariant-loop-change : goal.invariant-loop-change
invariant-loop-change l = SameSectors (with_changes l.segments (sectors_of l.disk) (drop l.change-index l.changes)) (with_changes l.segments (sectors_of l.fn.disk) l.changes)
