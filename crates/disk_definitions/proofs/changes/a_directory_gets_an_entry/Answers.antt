-- By the lemmas over plain variables.
use Rattle.disk_definitions.proofs.Entry.{entries_come}
use Rattle.disk_definitions.proofs.changes.a_directory_gets_an_entry.Goals as goal

pub returns : goal.returns
returns c = record { comes = entries_come }
