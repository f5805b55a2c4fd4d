-- By the lemmas over plain variables.
use Rattle.plan_fit.proofs.RecordFits.{records_fit}
use Rattle.plan_fit.proofs.records.changes_make_a_record.Goals as goal

pub returns : goal.returns
returns c = record { fit = records_fit }
