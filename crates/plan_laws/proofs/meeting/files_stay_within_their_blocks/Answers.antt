-- Operation by operation.
use Rattle.plan_laws.proofs.Fitting.{files_stay_fit}
use Rattle.plan_laws.proofs.meeting.files_stay_within_their_blocks.Goals as goal

pub returns : goal.returns
returns c = record { fit = files_stay_fit }
