-- By last operations that stay settled.
use Rattle.core_run_lines.proofs.dirt.dirt_goes_on.Goals as goal

pub returns : goal.returns
returns c = record { part = λ first. c.dirt_goes_on_by_lasts.ensures.part first (c.lasts_go_on.ensures.lasts first) }
