-- Step by step.
use Rattle.core_log_steps.proofs.BesideWorlds.{first_beside, lives_stand_beside, logs_stand_beside}
use Rattle.core_log_steps.specs.Worlds.{LogsStandBeside}
use Rattle.core_log_steps.proofs.worlds.logs_stand_beside_worlds.Goals as goal

pub returns : goal.returns
returns c =
    let along : LogsStandBeside = logs_stand_beside c.logs_go_on.ensures.step c.seals_go_on.ensures c.first_moments_are_worlds.ensures.stays in
    record {
      along = along;
      lives = lives_stand_beside c.steps_name_these_journals.ensures.lives along;
      first = first_beside c.logs_stand_along_runs.ensures.first c.seals_come_behind.ensures.begin;
    }
