use Rattle.std.proofs.Common.{drop}
use Rattle.sector_bytes.specs.Sectors.{sectors_of, SameSectors}
use Rattle.disk_replay.specs.Laid.{changes_in, with_changes}
use Rattle.disk_replay.proofs.apply.apply_records.Given as goal

-- what is left, laid over the disk as it is, makes what all of them make
abbrev pub invariant-loop-record : goal.invariant-loop-record
invariant-loop-record l = SameSectors (with_changes l.segments (sectors_of l.disk) (changes_in (drop l.record-index l.records))) (with_changes l.segments (sectors_of l.fn.disk) (changes_in l.records))
