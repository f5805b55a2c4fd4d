-- By the lemmas over plain variables.
use Rattle.disk_definitions.proofs.Puts.{edited_append}
use Rattle.disk_definitions.proofs.changes.edits_go_from_the_left.Goals as goal

pub returns : goal.returns
returns c = record { goes_on = edited_append }
