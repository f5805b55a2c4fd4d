-- By the law of the events of lines.
use Rattle.core_run_lines.proofs.Leading.{lines_lead}
use Rattle.core_run_lines.proofs.lines.lines_lead_on.Goals as goal

pub returns : goal.returns
returns c = record {
  part = lines_lead (record {
    lines = c.lines_go_on.ensures.lines;
    reached = c.lasts_stay_settled.ensures.reached;
    sight = c.events_keep_sight.ensures.step;
    stands = c.the_one_disk_stands.ensures.stands;
  });
}
