use Rattle.standing_laws.specs.Below.{lists}
use Rattle.disk_reading.specs.Marks.{flag_at}
use Rattle.disk_reading.specs.Reach.{AreFlaggedOn}
use Rattle.disk_reading.specs.Seen.{store_in}
use Rattle.report_rules.specs.Directories.{directory_row}
use Rattle.report_rules.proofs.directories.directories.Given as goal

abbrev pub invariant-loop-t : goal.invariant-loop-t
invariant-loop-t l = AreFlaggedOn (lists (directory_row (store_in l.segments l.disk) (flag_at l.reached)) l.t) l.initial.directories l.directories
