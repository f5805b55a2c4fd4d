-- By the step law over runs and two more laws of its steps.
use Rattle.headline_law.proofs.runs_keep_the_headline.Goals as goal

pub returns : goal.returns
returns c = record {
  keeps = c.runs_keep_the_headline_by_steps.ensures.runs c.each_step_is_kept.ensures.kept c.named_journals_go_on.ensures.go_on c.off_records_go_on.ensures.go_on;
}
