-- By what is reached.
use Rattle.report_definitions.proofs.OneReport.{one_report}
use Rattle.report_definitions.proofs.a_disk_has_one_report.Goals as goal

pub returns : goal.returns
returns c = record { one = one_report }
