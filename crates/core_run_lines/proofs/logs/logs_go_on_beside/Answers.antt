-- By the laws of logs, with the journals named.
use Rattle.core_run_lines.proofs.Going.{logs_on}
use Rattle.core_run_lines.proofs.logs.logs_go_on_beside.Goals as goal

pub returns : goal.returns
returns c = record {
  part = logs_on
      (record {
        step = c.logs_go_on.ensures.step;
        opened = c.logs_go_on.ensures.opened;
        seals = c.seals_go_on.ensures;
        enough = c.logs_have_room.ensures.enough;
        commits = c.steps_name_these_journals.ensures.commits;
        fit = c.records_of_lines_fit.ensures.fit;
        under_way = c.lines_under_way_are_numbered.ensures.numbered;
      });
}
