-- By its five parts.
use Rattle.headline_law.proofs.each_step_is_kept.Goals as goal

pub returns : goal.returns
returns c = record {
  kept = λ first.
      c.steps_are_kept_by_parts.ensures.kept first (c.logs_go_on_beside.ensures.part first) (c.lines_lead_on.ensures.part first) (c.dirt_goes_on.ensures.part first)
      (c.what_stands_further_goes_on.ensures.further first) (c.recoveries_keep_their_reports.ensures.kept first);
}
