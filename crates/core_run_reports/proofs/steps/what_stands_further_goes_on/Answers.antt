-- Field by field.
use Rattle.core_run_reports.proofs.Further.{further_stays}
use Rattle.core_run_reports.proofs.steps.what_stands_further_goes_on.Goals as goal

pub returns : goal.returns
returns c = record {
  further =
      further_stays
      (record {
        under_way = c.lines_under_way_are_numbered.ensures.numbered;
        fits = c.records_of_lines_fit.ensures.fit;
        names = c.steps_name_these_journals.ensures.commits;
        logs = c.logs_go_on.ensures.step;
        within = c.stale_writes_are_late.ensures.within;
        reports = c.reports_are_of_journals.ensures.stay;
        versions = c.logs_name_versions.ensures.stay;
        starts = c.worlds_keep_what_they_began_with.ensures.runs;
        untouched = c.logs_of_servers_that_are_off_go_on.ensures.untouched;
        mounts = c.mounts_are_accounted_for.ensures;
        commits = c.commits_are_accounted_for.ensures.commit;
        stay = c.accounts_stay.ensures;
        durable = c.standing_is_durable.ensures;
      });
}
