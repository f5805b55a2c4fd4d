-- By the run.
use Rattle.stop_examples.proofs.Meets.{a_run_meets_all}
use Rattle.stop_examples.proofs.runs.a_run_meets_what_is_asked.Goals as goal

pub returns : goal.returns
returns c = record { run = a_run_meets_all }
