-- By the lemmas over plain variables.
use Rattle.disk_definitions.proofs.Replace.{entries_are_replaced}
use Rattle.disk_definitions.proofs.changes.an_entry_is_replaced.Goals as goal

pub returns : goal.returns
returns c = record { replaced = entries_are_replaced }
