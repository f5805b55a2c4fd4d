-- Step by step.
use Rattle.core_histories.proofs.Silence.{silent_steps_add_none, silent_steps_are_told}
use Rattle.core_histories.proofs.silent.silent_steps_are_told.Goals as goal

pub returns : goal.returns
returns c =
    let numbered = c.read_scripts_are_numbered.ensures.numbered in record { none = silent_steps_add_none numbered; told = silent_steps_are_told numbered }
