use Rattle.std.proofs.Common.{◌≡◌, ◌++◌}
use Rattle.disk_reading.specs.Marks.{flag_at}
use Rattle.report_definitions.specs.Sums.{gathered}
use Rattle.report_definitions.specs.Report.{part_faults}
use Rattle.report_rules.specs.Seen.{view_in}
use Rattle.disk_check.specs.Told.{faults_told}
use Rattle.disk_check.proofs.faults.push_parts.Given as goal

abbrev pub invariant-loop-part : goal.invariant-loop-part
invariant-loop-part l = faults_told l.faults.items ≡ faults_told l.initial.faults.items ++ gathered l.part (part_faults (view_in l.most l.segments l.disk) (flag_at l.tables.reached) l.block)
