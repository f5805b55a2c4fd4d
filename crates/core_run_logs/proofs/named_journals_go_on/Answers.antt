-- By what each step is to each server.
use Rattle.core_run_reports.proofs.Further.{journals_on}
use Rattle.core_run_logs.proofs.named_journals_go_on.Goals as goal

pub returns : goal.returns
returns c = record {
  go_on = λ first s v w journal when first_tree numbers step kept x.
      journals_on
      (record {
        under_way = c.lines_under_way_are_numbered.ensures.numbered;
        fits = c.records_of_lines_fit.ensures.fit;
        names = c.steps_name_these_journals.ensures.commits;
        logs = c.logs_go_on.ensures.step;
        within = c.stale_writes_are_late.ensures.within;
        reports = c.reports_are_of_journals.ensures.stay;
        versions = c.logs_name_versions.ensures.stay;
        starts = c.worlds_keep_what_they_began_with.ensures.runs;
        untouched = c.logs_of_servers_that_are_off_go_on.ensures.untouched;
        mounts = c.mounts_are_accounted_for.ensures;
        commits = c.commits_are_accounted_for.ensures.commit;
        stay = c.accounts_stay.ensures;
        durable = c.standing_is_durable.ensures;
      })
      first s v w journal when first_tree numbers step kept x.leads x.story x.all.beside;
}
