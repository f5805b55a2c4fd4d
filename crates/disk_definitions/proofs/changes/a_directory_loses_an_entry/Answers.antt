-- By the lemmas over plain variables.
use Rattle.disk_definitions.proofs.Entry.{entries_go}
use Rattle.disk_definitions.proofs.changes.a_directory_loses_an_entry.Goals as goal

pub returns : goal.returns
returns c = record { goes = entries_go }
