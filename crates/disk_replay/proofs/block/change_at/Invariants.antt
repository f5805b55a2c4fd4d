use Rattle.std.proofs.Common.{◌≡◌, drop}
use Rattle.sector_bytes.specs.Replays.{change_at}
use Rattle.disk_replay.proofs.block.change_at.Given as goal

-- the change is among those that are left, if it is one of all
abbrev pub invariant-loop-change : goal.invariant-loop-change
invariant-loop-change l = change_at (drop l.change-index l.changes) l.sector.0 ≡ change_at l.changes l.sector.0
