-- By the lemmas over plain variables.
use Rattle.disk_definitions.proofs.Names.{names_come, names_go, names_move, names_are_taken}
use Rattle.disk_definitions.proofs.changes.entries_change_at_one_name.Goals as goal

pub returns-clause-comes : goal.returns-clause-comes
returns-clause-comes c = names_come

pub returns-clause-goes : goal.returns-clause-goes
returns-clause-goes c = names_go

pub returns-clause-moves : goal.returns-clause-moves
returns-clause-moves c = names_move

pub returns-clause-taken : goal.returns-clause-taken
returns-clause-taken c = names_are_taken
