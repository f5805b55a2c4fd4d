-- Step by step.
use Rattle.headline_definitions.proofs.Meaning.{makes_disk, tells_lines}
use Rattle.headline_definitions.proofs.laws.what_is_witnessed_tells_the_run.Goals as goal

pub returns : goal.returns
returns c = record { lines = tells_lines; disk = makes_disk }
