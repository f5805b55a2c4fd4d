-- The law.
use Rattle.kept_laws.proofs.Along.{histories_keep, moments_keep, stops_keep}
use Rattle.kept_laws.proofs.laws.recoveries_keep_what_is_known.Goals as goal

pub returns : goal.returns
returns c = record { histories = histories_keep; moments = moments_keep; stops = stops_keep }
