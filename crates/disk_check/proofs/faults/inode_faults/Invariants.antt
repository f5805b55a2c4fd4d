use Rattle.std.proofs.Common.{◌≡◌, ◌+◌, ◌*◌}
use Rattle.disk_reading.specs.Marks.{flag_at}
use Rattle.disk_reading.specs.Seen.{store_in}
use Rattle.report_definitions.specs.Sums.{gathered}
use Rattle.report_definitions.specs.Report as report
use Rattle.report_rules.specs.Seen.{stored}
use Rattle.disk_check.specs.Told.{faults_told}
use Rattle.disk_check.proofs.faults.inode_faults.Given as goal

abbrev pub invariant-loop-j : goal.invariant-loop-j
invariant-loop-j l = faults_told l.faults.items ≡ gathered l.j (λ j. report.inode_faults (stored l.segments (store_in l.segments l.disk)) (flag_at l.tables.reached) (64 * l.k + j))
