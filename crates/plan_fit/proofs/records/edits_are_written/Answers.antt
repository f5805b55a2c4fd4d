-- By the lemmas over plain variables.
use Rattle.plan_fit.proofs.EditLaws.{each, all}
use Rattle.plan_fit.proofs.records.edits_are_written.Goals as goal

pub returns-clause-each : goal.returns-clause-each
returns-clause-each c = each

pub returns-clause-all : goal.returns-clause-all
returns-clause-all c = all
