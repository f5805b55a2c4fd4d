-- An outcome that is the core's whatever is cached is the one that a commit takes.
use Rattle.kept_plans.specs.Outcomes.{AnOutcomeIsCommitted}

pub committed_so : AnOutcomeIsCommitted
committed_so cache outcome of_core is = record { redo = is.redo; bytes = is.bytes; freed = is.freed; moved = λ sector cached at. is.moved sector cached.cover }
