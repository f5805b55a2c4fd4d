-- Field by field.
use Rattle.core_run_reports.proofs.Starting.{further_stands}
use Rattle.core_run_reports.proofs.starts.what_stands_further_begins.Goals as goal

pub returns : goal.returns
returns c = record {
  further =
      further_stands
      (record {
        openings = c.each_start_is_an_opening.ensures.starts;
        logs = c.logs_stand_along_runs.ensures.opening;
        accounts = c.accounts_begin.ensures;
        reports = c.reports_are_of_journals.ensures.begin;
        versions = c.logs_name_versions.ensures.begin;
      });
}
