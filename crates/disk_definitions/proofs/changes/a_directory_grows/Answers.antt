-- By the lemmas over plain variables.
use Rattle.disk_definitions.proofs.Grow.{directories_grow}
use Rattle.disk_definitions.proofs.changes.a_directory_grows.Goals as goal

pub returns : goal.returns
returns c = record { grows = directories_grow }
