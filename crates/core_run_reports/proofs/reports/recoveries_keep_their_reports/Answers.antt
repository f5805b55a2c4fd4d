-- By the law of marks.
use Rattle.core_run_reports.proofs.Accounted.{reports_kept}
use Rattle.core_run_reports.proofs.reports.recoveries_keep_their_reports.Goals as goal

pub returns : goal.returns
returns c = record {
  kept = reports_kept c.recoveries_keep_what_they_report.ensures;
}
