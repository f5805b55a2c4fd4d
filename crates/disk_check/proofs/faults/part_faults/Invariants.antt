use Rattle.std.proofs.Common.{◌≡◌, ◌+◌, ◌*◌}
use Rattle.disk_reading.specs.Marks.{flag_at}
use Rattle.report_definitions.specs.Sums.{gathered}
use Rattle.report_definitions.specs.Report.{part_faults}
use Rattle.report_rules.specs.Seen.{view_in}
use Rattle.disk_check.specs.Told.{faults_told}
use Rattle.disk_check.proofs.faults.part_faults.Given as goal

abbrev pub invariant-loop-j : goal.invariant-loop-j
invariant-loop-j l = faults_told l.faults.items ≡ gathered l.j (λ j. gathered 8 (part_faults (view_in l.most l.segments l.disk) (flag_at l.tables.reached) (1024 * l.k + j)))
