-- By computation, and the laws.
use Rattle.std.specs.Prelude.{[]}
use Rattle.core_world.specs.Journals.{journal_at}
use Rattle.core_log_steps.proofs.Empty.{empty_runs_stand, fallen_stay}
use Rattle.core_log_steps.proofs.examples.an_empty_run_stands.Goals as goal

pub returns : goal.returns
returns c = record {
  run = empty_runs_stand c.a_root_is_read.ensures.read c.logs_stand_beside_worlds.ensures.first c.logs_stand_beside_worlds.ensures.along;
  fallen = fallen_stay (c.a_root_is_read.ensures.read (λ a. journal_at (λ slot. []))).good c.replayed_logs_stay_replayed.ensures;
}
