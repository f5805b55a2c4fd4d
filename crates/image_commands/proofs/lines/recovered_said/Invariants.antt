use Rattle.std.proofs.Common.{◌≡◌}
use Rattle.sector_bytes.specs.Sectors.{Sectors}
use Rattle.disk_replay.specs.Laid.{AreGreatest}
use Rattle.image_commands.specs.Lines.{recovered_below}
use Rattle.image_commands.proofs.lines.recovered_said.Given as goal

abbrev pub invariant-loop-server : goal.invariant-loop-server
invariant-loop-server l = (sectors : Sectors) → AreGreatest 256 sectors l.greatest → l.lines.items ≡ recovered_below sectors l.server
