use Rattle.std.proofs.Common.{◌≡◌, ◌++◌, take, drop}
use Rattle.disk_definitions.specs.Frames.{frame_most}
use Rattle.disk_definitions.specs.Logs.{bytes_on}
use Rattle.log_reading.proofs.frames.push_bytes_on.Given as goal

abbrev pub invariant-loop-sector : goal.invariant-loop-sector
invariant-loop-sector l = l.bytes.items ++ take l.left (bytes_on (drop l.sector-index l.sectors)) ≡ l.fn.bytes.items ++ take frame_most (bytes_on l.sectors)
