use Rattle.std.proofs.Common.{◌≡◌, ◌++◌}
use Rattle.disk_definitions.specs.Frames.{frames_among}
use Rattle.log_reading.proofs.frames.push_framed.Given as goal

abbrev pub invariant-loop-left : goal.invariant-loop-left
invariant-loop-left l = l.records.items ++ frames_among l.left l.left l.bytes ≡ l.fn.records.items ++ frames_among l.fn.left l.fn.left l.fn.bytes

abbrev pub decreases-loop-left : goal.decreases-loop-left
decreases-loop-left l = l.left
