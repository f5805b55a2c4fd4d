-- From the first moment on, step by step.
use Rattle.core_runs.specs.Kept.{Related}
use Rattle.core_runs.proofs.Starting.{starts_kept}
use Rattle.core_runs.proofs.starts.runs_from_starts_are_kept.Goals as goal

pub returns : goal.returns
returns g c = record {
  runs = λ moment_of world_of journal_of.
      starts_kept (Related moment_of world_of journal_of) (c.first_moments_are_kept.ensures.first moment_of world_of journal_of) (c.runs_are_kept.ensures.runs moment_of world_of journal_of);
}
